-- How far a pass is that owns the squeue, and whether one more mark keeps homes, mode and budget.
use Rattle.std.specs.Prelude.{◌≡◌, ◌≢◌, ℕ, ◌+◌, ◌-◌, ◌^◌, ◌<◌, ◌≤◌, ◌&&◌, ◌||◌, ◌==◌, not, min, nat_le, Bool, true, false}
use Rattle.std.specs.Prelude.{if◌then◌else◌, IfSome, IsTrue, ◌↔◌, Option, None, Some, option_map, List, [], ◌∷◌, ◌++◌}
use Rattle.perimeter_core.specs.declared.marks.Mark.{Mark}
use Rattle.perimeter_core.specs.declared.marks.Mark.TheVariants as On
use Rattle.perimeter_core.specs.declared.marks.Own.TheVariants.{Free, Out}
use Rattle.perimeter_core.specs.History.{Element, Setting, pass_of, run}
use Rattle.perimeter_core.specs.Deeds.{done, done_by}
use Rattle.perimeter_core.specs.Legal.{all_feeds, feed_count}
use Rattle.histories.specs.declared.mode.Mode.{Mode}
use Rattle.histories.specs.declared.mode.Mode.TheVariants as Mode'
use Rattle.histories.specs.Keeping.{Keeps, claims_feeds, fills, fills_one, gives_it_up, is_fast, leaves_it, taken}
use Rattle.ring_quotas.specs.declared.setup.Setup.{Setup}
use Rattle.squeue_replay.specs.declared.pace.Met.{Met}
use Rattle.squeue_replay.specs.declared.pace.PaceCheck.{PaceCheck}

-- what was told of the mark that comes next
pub record HasMet (S : Setting) (past : List Element) (e : Element) (met : Met) : Type 0 where
  pub taken : IsTrue met.taken ↔ ((run S past).own ≢ Free)
  pub queued : IsTrue met.queued ↔ ((run S past).chain ≢ [])
  pub processed : met.processed ≡ feed_count (done_by (run S past) e.mark)
  pub left : IsTrue met.left ↔ ((run S (past ++ e ∷ [])).chain ≢ [])

-- of a pass that has taken the squeue with feeds, how many feeds were processed since, as far as 64 bits count
abbrev pub processed_since : Setting → List Element → ℕ → Option ℕ
processed_since S past p = option_map (λ had. min (feed_count (done S past) - had) (2 ^ 64 - 1)) (taken S p past)

-- this is the owner's count; nobody else has taken the squeue with feeds
pub record CountStands (S : Setting) (past : List Element) (count : Option ℕ) : Type 0 where
  pub owner : (p : ℕ) → (run S past).own ≡ Out p → count ≡ processed_since S past p
  pub others : (p : ℕ) → (run S past).own ≢ Out p → taken S p past ≡ None
  pub before : (p : ℕ) → IfSome (taken S p past) (λ had. had ≤ feed_count (done S past))

abbrev pub PaceStands : Setting → List Element → PaceCheck → Type 0
PaceStands S past pace = CountStands S past pace.processed

-- the mark keeps homes, mode and budget, a Take too
pub record KeepsAt (setup : Setup) (q : ℕ) (S : Setting) (past : List Element) (e : Element) : Type 0 where
  pub keeps : pass_of e.mark < setup.rings → Keeps setup.squeues setup.spread setup.mode setup.budget q S (pass_of e.mark) past e
  pub takes : (r : ℕ) → r < setup.rings → e.mark ≡ On.Take r → IfSome (taken S r past) (λ had. feed_count (done S (past ++ e ∷ [])) ≤ had + setup.budget)

-- ---- how it is found

-- the count behind a mark, by what it is with the feeds of the mark
abbrev pub count_after : Mark → Option ℕ → Option ℕ
count_after (On.Fill p es) now = now
count_after (On.Fast p e) now = Some 0
count_after (On.Claim p es) now = if all_feeds es then Some 0 else None
count_after (On.Take p) now = now
count_after (On.Ask p) now = now
count_after (On.Close p) now = now
count_after _ now = None

-- the owner takes the queue
abbrev pub takes : Mark → Bool
takes (On.Take p) = true
takes _ = false

-- the owner goes on, or gives the squeue to another pass
abbrev pub takes_or_grants : Mark → Bool
takes_or_grants (On.Take p) = true
takes_or_grants (On.Grant p j rest) = true
takes_or_grants _ = false

-- where somebody has the squeue, where something is queued, and where the owner took it with feeds
abbrev pub fits_mode : Mode → Mark → Bool → Bool → Bool → Bool
fits_mode Mode'.Fill m busy queued by_feeds = not (is_fast m) && not (claims_feeds m)
fits_mode Mode'.Process m busy queued by_feeds = not (fills m) || busy
fits_mode Mode'.NoDrain m busy queued by_feeds = not (claims_feeds m) && ((not (fills_one m) || (busy || queued)) && not (takes_or_grants m && by_feeds))

abbrev pub is_process : Mode → Bool
is_process Mode'.Process = true
is_process _ = false

-- at most so many, and just so many, where they are counted
abbrev pub at_most : Option ℕ → ℕ → Bool
at_most None n = true
at_most (Some k) n = nat_le k n

abbrev pub just : Option ℕ → ℕ → Bool
just None n = true
just (Some k) n = k == n

abbrev pub fits_budget : Mode → ℕ → Mark → Option ℕ → Bool → Bool
fits_budget mode budget m now left =
    (not (takes m || gives_it_up m) || at_most now budget) && (not (is_process mode && (leaves_it m && left)) || just now budget)
