-- Which marks an owner and the worker may make.
use Rattle.std.proofs.Common.{◌≡◌, ◌≢◌, ℕ, ◌<◌, ◌≤◌, true, List, [], length, refl, arith}
use Rattle.perimeter_core.specs.declared.marks.Own.TheVariants.{Free, Out}
use Rattle.perimeter_core.specs.declared.marks.SynchAct.TheVariants as Done
use Rattle.perimeter_core.specs.declared.marks.Mark.TheVariants as On
use Rattle.perimeter_core.specs.Perimeter.{ends_with_ask, processed}
use Rattle.perimeter_core.specs.History.{Element, Setting, worker, passes, run}
use Rattle.perimeter_core.specs.Legal.{May, Legal, all_feeds, only_last_ask}
use Rattle.histories.proofs.OwnersFacts.{owner_below}
use Rattle.histories.proofs.Counts.{quota_kept}

pub may_leave : (S : Setting) (H : List Element) (p rest : ℕ) → Legal S H → (run S H).own ≡ Out p → rest ≤ length (run S H).hand
    → only_last_ask p (processed rest (run S H).hand) ≡ true → ((run S H).hand ≢ [] → rest < length (run S H).hand) → May S H record { mark = On.Leave p rest Done.None; note = [] }
may_leave S H p rest l own some asks progress =
    record {
      step = (own, some);
      range = (owner_below S H p l own, tt);
      worker_only = λ w. refl;
      idle = tt;
      kind = tt;
      enters = tt;
      quota = quota_kept S p H record { mark = On.Leave p rest Done.None; note = [] } l refl;
      asks_last = asks;
      at_its_ask = λ act. absurd (act refl);
      act = tt;
      progress = progress;
      note = refl;
    }

pub may_take : (S : Setting) (H : List Element) (p : ℕ) → Legal S H → (run S H).own ≡ Out p → (run S H).chain ≢ [] → all_feeds (run S H).hand ≡ true → (run S H).hand ≢ []
    → May S H record { mark = On.Take p; note = [] }
may_take S H p l own some feeds hand =
    record {
      step = (own, some);
      range = (owner_below S H p l own, tt);
      worker_only = tt;
      idle = tt;
      kind = tt;
      enters = tt;
      quota = quota_kept S p H record { mark = On.Take p; note = [] } l refl;
      asks_last = (feeds, hand);
      at_its_ask = tt;
      act = tt;
      progress = tt;
      note = refl;
    }

pub may_grant : (S : Setting) (H : List Element) (p j rest : ℕ) → Legal S H → (run S H).own ≡ Out p → rest ≤ length (run S H).hand
    → ends_with_ask j (processed rest (run S H).hand) ≡ true → only_last_ask j (processed rest (run S H).hand) ≡ true → j ≢ p → j < passes S
    → May S H record { mark = On.Grant p j rest; note = [] }
may_grant S H p j rest l own some ends asks other below =
    record {
      step = (own, some, ends, other);
      range = (owner_below S H p l own, below);
      worker_only = tt;
      idle = tt;
      kind = tt;
      enters = tt;
      quota = quota_kept S p H record { mark = On.Grant p j rest; note = [] } l refl;
      asks_last = asks;
      at_its_ask = tt;
      act = tt;
      progress = tt;
      note = refl;
    }

pub may_work : (S : Setting) (H : List Element) (p : ℕ) → Legal S H → (run S H).own ≡ Free → (run S H).wake ≡ true → p ≡ worker S → May S H record { mark = On.Work p; note = [] }
may_work S H p l own wake is =
    record {
      step = (own, wake, is);
      range = (omega (arith, is), tt);
      worker_only = is;
      idle = tt;
      kind = tt;
      enters = tt;
      quota = quota_kept S p H record { mark = On.Work p; note = [] } l refl;
      asks_last = tt;
      at_its_ask = tt;
      act = tt;
      progress = tt;
      note = refl;
    }
