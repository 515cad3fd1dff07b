-- What the marks of a pass are, by what stood before each: which way feeds are entered, and how application threads and the worker leave.
use Rattle.std.specs.Prelude.{◌≡◌, ℕ, ◌+◌, ◌<◌, ◌≤◌, ◌==◌, ◌&&◌, ◌⊎◌, Bool, true, false, if◌then◌else◌, Contains, List, [], ◌∷◌, ◌++◌}
use Rattle.perimeter_core.specs.declared.entries.Entry.{Entry}
use Rattle.perimeter_core.specs.declared.marks.SynchAct.TheVariants as Done
use Rattle.perimeter_core.specs.declared.marks.Mark.{Mark}
use Rattle.perimeter_core.specs.declared.marks.Mark.TheVariants as On
use Rattle.perimeter_core.specs.Perimeter.{State, has_ask, is_empty, is_free, is_here}
use Rattle.perimeter_core.specs.History.{Element, Setting, pass_of, run}
use Rattle.perimeter_core.specs.Deeds.{entries_of, times_left}
use Rattle.perimeter_core.specs.Legal.{all_feeds}
use Rattle.squeue_drain.specs.Draining.{LeavesNothing}
use Rattle.histories.specs.declared.mode.Mode.{Mode}
use Rattle.histories.specs.declared.mode.Mode.TheVariants as Mode'
use Rattle.squeue_enter.specs.Ways.{way_of}

-- so is each mark of pass p among these elements, behind what stands before it
abbrev pub EachOwn : (List Element → Mark → Type 0) → ℕ → List Element → List Element → Type 0
EachOwn P p past [] = Unit {0}
EachOwn P p past (e ∷ rest) = (pass_of e.mark ≡ p → P past e.mark) × EachOwn P p (past ++ e ∷ []) rest

-- it leaves with a block that it takes out or puts in
abbrev pub moves_block : Mark → Bool
moves_block (On.Leave p rest (Done.Out c)) = true
moves_block (On.Leave p rest (Done.In c)) = true
moves_block _ = false

abbrev pub has_one : List Entry → Bool
has_one [] = false
has_one (e ∷ []) = true
has_one (e ∷ f ∷ es) = false

-- A mark that enters feeds goes by the table of ways, for the state that its turn found. It queues where the table has what it always has
-- with fill; it takes the perimeter with one feed where it has what process or nodrain have for one feed where nobody is and nothing is
-- queued; and with its feeds behind all that is queued where it has what process has there with a backlog
abbrev pub GoesByTable : Mode → State → Mark → Type 0
GoesByTable mode s (On.Fill p es) = way_of mode (is_free s.own) (is_empty s.chain) (has_one es) ≡ way_of Mode'.Fill true true true
GoesByTable mode s (On.Fast p e) =
    (way_of mode (is_free s.own) (is_empty s.chain) true ≡ way_of Mode'.Process true true true)
    ⊎ (way_of mode (is_free s.own) (is_empty s.chain) true ≡ way_of Mode'.NoDrain true true true)
GoesByTable mode s (On.Claim p es) =
    all_feeds es ≡ true → way_of mode (is_free s.own) (is_empty s.chain) (has_one es) ≡ way_of Mode'.Process true false true
GoesByTable mode s _ = Unit {0}

-- the number behind that of the last call that pass p made, 0 where it made none
abbrev pub behind_call : ℕ → Mark → ℕ
behind_call n (On.Leave p rest (Done.Call c j k)) = k + 1
behind_call n _ = n

abbrev pub next_call_from : ℕ → ℕ → List Element → ℕ
next_call_from p n [] = n
next_call_from p n (e ∷ H) = next_call_from p (if pass_of e.mark == p then behind_call n e.mark else n) H

abbrev pub next_call : ℕ → List Element → ℕ
next_call p H = next_call_from p 0 H

-- pass p asks by it
abbrev pub asks : ℕ → Mark → Bool
asks p m = (pass_of m == p) && has_ask p (entries_of m)

-- what stands behind the last Ask of pass p; where it never asked, all
abbrev pub since_ask_from : ℕ → List Element → List Element → List Element
since_ask_from p since [] = since
since_ask_from p since (e ∷ H) = since_ask_from p (if asks p e.mark then [] else since ++ e ∷ []) H

abbrev pub since_ask : ℕ → List Element → List Element
since_ask p H = since_ask_from p [] H

module _ (S : Setting) (j : ℕ) where
  -- Thread j has a call that it hasn't made, nor one behind it, on a connection whose block isn't here: it left since the thread asked
  pub record IsGone (past : List Element) : Type 0 where
    pub c : ℕ
    pub k : ℕ
    pub exists : Contains S.limits.calls (c, j, k)
    pub next : next_call (S.rings + j) past ≤ k
    pub away : is_here (run S past) c ≡ false
    pub left : 0 < times_left c (since_ask (S.rings + j) past)

  -- A mark of thread j behind this past: where it leaves, it makes a call behind those that it made, or the block is gone
  abbrev pub OfThread : List Element → Mark → Type 0
  OfThread past (On.Leave p rest (Done.Call c i k)) = next_call (S.rings + j) past ≤ k
  OfThread past (On.Leave p rest Done.Away) = IsGone past
  OfThread past (On.Leave p rest act) = ⊥
  OfThread past m = Unit {0}

-- A mark of the worker behind this past: where it leaves, it leaves nothing of its hand, in a turn that found nothing queued
abbrev pub OfWorker : Setting → List Element → Mark → Type 0
OfWorker S past m = LeavesNothing (run S past) m
