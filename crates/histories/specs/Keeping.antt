-- How a ring's marks keep the homes of its feeds, and the mode and the budget of its entries.
use Rattle.std.specs.Prelude.{◌≡◌, ◌≢◌, ℕ, ◌+◌, ◌≤◌, ◌==◌, ◌⊎◌, Bool, true, false, if◌then◌else◌, IfSome, Option, None, Some, List, [], ◌∷◌, ◌++◌}
use Rattle.perimeter_core.specs.declared.entries.Entry.{Entry}
use Rattle.perimeter_core.specs.declared.entries.Entry.TheVariants.{Feed, Ask}
use Rattle.perimeter_core.specs.declared.marks.Own.TheVariants.{Free}
use Rattle.perimeter_core.specs.declared.marks.Mark.{Mark}
use Rattle.perimeter_core.specs.declared.marks.Mark.TheVariants as On
use Rattle.perimeter_core.specs.History.{Element, Setting, pass_of, run}
use Rattle.perimeter_core.specs.Deeds.{done, entries_of}
use Rattle.perimeter_core.specs.Legal.{all_feeds, feed_count}
use Rattle.histories.specs.Homes.{home}
use Rattle.histories.specs.declared.mode.Mode.{Mode}
use Rattle.histories.specs.declared.mode.Mode.TheVariants as Mode'

-- it takes the perimeter with one feed at once; with its feeds behind all that is queued
abbrev pub is_fast : Mark → Bool
is_fast (On.Fast p e) = true
is_fast _ = false

abbrev pub claims_feeds : Mark → Bool
claims_feeds (On.Claim p es) = all_feeds es
claims_feeds _ = false

-- it queues feeds; it queues one
abbrev pub fills : Mark → Bool
fills (On.Fill p es) = true
fills _ = false

abbrev pub fills_one : Mark → Bool
fills_one (On.Fill p (e ∷ [])) = true
fills_one _ = false

-- it leaves the perimeter; it leaves or grants it
abbrev pub leaves_it : Mark → Bool
leaves_it (On.Leave p rest act) = true
leaves_it _ = false

abbrev pub gives_it_up : Mark → Bool
gives_it_up (On.Leave p rest act) = true
gives_it_up (On.Grant p j rest) = true
gives_it_up _ = false

-- each feed among these entries is at home at squeue q
abbrev pub AreHome : ℕ → ℕ → ℕ → List Entry → Type 0
AreHome squeues spread q [] = Unit {0}
AreHome squeues spread q (Feed c n ∷ es) = (home squeues spread c n ≡ q) × AreHome squeues spread q es
AreHome squeues spread q (Ask p ∷ es) = AreHome squeues spread q es

module _ (S : Setting) where
  -- a ring that has taken the perimeter with feeds: how many feeds had been processed when it did
  abbrev pub taken_after : List Element → Option ℕ → Mark → Option ℕ
  taken_after past o (On.Fast p e) = Some (feed_count (done S past))
  taken_after past o (On.Claim p es) = if all_feeds es then Some (feed_count (done S past)) else None
  taken_after past o (On.Take p) = o
  taken_after past o _ = None

  abbrev pub taken_from : ℕ → List Element → Option ℕ → List Element → Option ℕ
  taken_from r past o [] = o
  taken_from r past o (e ∷ H) = taken_from r (past ++ e ∷ []) (if pass_of e.mark == r then taken_after past o e.mark else o) H

  -- the same of ring r after a history, where it has the perimeter so
  abbrev pub taken : ℕ → List Element → Option ℕ
  taken r H = taken_from r [] None H

module _ (squeues spread : ℕ) (mode : Mode) (budget q : ℕ) (S : Setting) where
  -- What a mark of ring r at squeue q keeps, behind this past
  pub record Keeps (r : ℕ) (past : List Element) (e : Element) : Type 0 where
    pub home : AreHome squeues spread q (entries_of e.mark)
    -- with fill a ring never takes the perimeter with feeds; with nodrain never with all that is queued
    pub fill : mode ≡ Mode'.Fill → (is_fast e.mark ≡ false) × (claims_feeds e.mark ≡ false)
    pub no_claim : mode ≡ Mode'.NoDrain → claims_feeds e.mark ≡ false
    -- with process it queues only where somebody has the perimeter; with nodrain it queues one feed only there, or behind others
    pub busy : mode ≡ Mode'.Process → fills e.mark ≡ true → (run S past).own ≢ Free
    pub busy_or_behind : mode ≡ Mode'.NoDrain → fills_one e.mark ≡ true → ((run S past).own ≢ Free) ⊎ ((run S past).chain ≢ [])
    -- with nodrain its next mark after a Fast is Leave
    pub leaves_next : mode ≡ Mode'.NoDrain → taken S r past ≢ None → leaves_it e.mark ≡ true
    -- it processes at most `budget` feeds before it leaves or grants; with process it leaves something queued only after just as many
    pub few : gives_it_up e.mark ≡ true → IfSome (taken S r past) (λ n. feed_count (done S (past ++ e ∷ [])) ≤ n + budget)
    pub full : mode ≡ Mode'.Process → leaves_it e.mark ≡ true → (run S (past ++ e ∷ [])).chain ≢ []
        → IfSome (taken S r past) (λ n. feed_count (done S (past ++ e ∷ [])) ≡ n + budget)

  -- each mark of ring r among the rest, behind this past
  abbrev pub KeepsFrom : ℕ → List Element → List Element → Type 0
  KeepsFrom r past [] = Unit {0}
  KeepsFrom r past (e ∷ rest) = (pass_of e.mark ≡ r → Keeps r past e) × KeepsFrom r (past ++ e ∷ []) rest

  -- each mark of ring r in a history
  abbrev pub KeepsPace : ℕ → List Element → Type 0
  KeepsPace r H = KeepsFrom r [] H
