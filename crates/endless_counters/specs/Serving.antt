-- What a run has served, and what was seen of it.
use Rattle.std.specs.Prelude.{◌≡◌, ℕ, List, [], ◌∷◌, All, length, map}
use Rattle.histories.specs.Endings.{Ending}
use Rattle.ring_groups.specs.Groups.{AllBecameFrom}
use Rattle.squeue_arrivals.specs.Arriving.{IsServedIn}
use Rattle.squeue_arrivals.specs.Watching.{SawLast}
use Rattle.squeue_arrivals.specs.declared.served.KeyPart.{KeyPart}
use Rattle.squeue_arrivals.specs.declared.served.ServedSource.{ServedSource}
use Rattle.squeue_arrivals.specs.declared.watching.WatchedEnd.{WatchedEnd}
use Rattle.endless_counters.specs.declared.source.Amounts.{Amounts}
use Rattle.endless_counters.specs.declared.totals.Adding.{Adding}
use Rattle.endless_counters.specs.declared.totals.Total.{Total}
use Rattle.endless_counters.specs.Counting.{Adds, AreTotals, taken_at, zero}
use Rattle.endless_counters.specs.Rounds.{HasDone}
use Rattle.endless_counters.specs.Sources.{amounts_by, stint_of}

-- what a total begins with, and what an amount does to it
abbrev pub Begins : Adding → Total → Type 0
Begins w total = total ≡ zero

abbrev pub Step : Adding → Total → ℕ → Total → Type 0
Step w = Adds

-- It was looked so often. The last total that was seen is of the amounts that the part of each ring had taken by then, in a beginning of the
-- squeue's history
abbrev pub SawTotals : ℕ → WatchedEnd Total → Type 0
SawTotals looks e = SawLast Begins Step (record {}) (AreTotals taken_at) e.end.setting e.end.setting.rings looks e.end.history e.last

-- the total of the first of these parts
abbrev pub first_total : List (KeyPart Total) → Total
first_total [] = zero
first_total (p ∷ ps) = p.state

module _ {W : Type 0} where
  -- all that the source of a ring gave, with its key; the amounts alone; and what was made of them
  abbrev pub all_given : ServedSource (Amounts W) ℕ Total → List (ℕ × ℕ)
  all_given left = amounts_by left.source

  abbrev pub brought_by : ServedSource (Amounts W) ℕ Total → List ℕ
  brought_by left = map (λ e. e.1) (all_given left)

  abbrev pub total_by : ServedSource (Amounts W) ℕ Total → Total
  total_by left = first_total left.parts.items

  -- a source whose stint has so many rounds, which gave nothing yet; and so many of them
  pub record IsNew (least : ℕ) (s : Amounts W) : Type 0 where
    pub its_least : (stint_of s).rounds ≡ least
    pub none : amounts_by s ≡ []

  pub record AreNew (rings least : ℕ) (sources : List (Amounts W)) : Type 0 where
    pub many : length sources ≡ rings
    pub each : All (IsNew least) sources

  -- In the history of this squeue each ring has served its source from the first amount on, with one place
  pub record WereServed (least : ℕ) (end : Ending) (lefts : List (ServedSource (Amounts W) ℕ Total)) : Type 0 where
    pub firsts : List (Amounts W)
    pub new : All (IsNew least) firsts
    pub served : AllBecameFrom (IsServedIn Begins Step stint_of amounts_by (λ s. HasDone (stint_of s).rounds (amounts_by s)) (record {}) 1 end) 0 firsts lefts
