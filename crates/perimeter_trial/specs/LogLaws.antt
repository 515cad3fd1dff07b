-- The laws of the resident of logs.
use Rattle.std.specs.Prelude.{◌≡◌, ℕ, ◌<◌, Option, Some, None, List, [], ◌∷◌, length, slice_get}
use Rattle.std.proofs.Common.{ap, sym, ◌∙◌, refl, suc, zero, subst, arith}
use Rattle.std.proofs.lemmas.List.{length-replicate}
use Rattle.perimeter_core.specs.declared.entries.Act.{Act}
use Rattle.perimeter_trial.specs.declared.logs.Log.{Log}
use Rattle.perimeter_trial.specs.declared.logs.Logs.{Logs}
use Rattle.perimeter_core.specs.Deeds.{feed_numbers}
use Rattle.perimeter_core.specs.Blocks.{Blocks}
use Rattle.perimeter_core.specs.Residing.{IsWithin, feeds_had, feeds_in}
use Rattle.perimeter_trial.specs.Logging.{IsLogOf, LogAt, Stands, limits_of}

pub log_same_feeds : (log : Log) (a b : List Act) → IsLogOf log a → IsLogOf log b → feed_numbers a ≡ feed_numbers b
log_same_feeds log a b h k = h.feeds ∙ sym k.feeds

same_at : (c : ℕ) (o : Option (Option Log)) (a b : Option (List Act)) → LogAt c o a → LogAt c o b → feeds_in a ≡ feeds_in b
same_at c (Some (Some log)) (Some x) (Some y) h k = ap Some (h.1.feeds ∙ sym k.1.feeds)
same_at c (Some (Some log)) (Some x) None h k = absurd k
same_at c (Some (Some log)) None b h k = absurd h
same_at c (Some None) (Some x) b h k = absurd h
same_at c (Some None) None (Some y) h k = absurd k
same_at c (Some None) None None h k = refl
same_at c None (Some x) b h k = absurd h
same_at c None None (Some y) h k = absurd k
same_at c None None None h k = refl

pub logs_same_feeds : (r : Logs) (a b : Blocks) (c : ℕ) → Stands r a → Stands r b → feeds_had a c ≡ feeds_had b c
logs_same_feeds r a b c h k = same_at c (slice_get r.logs.items c) (a c) (b c) (h c) (k c)

within : (logs : List (Option Log)) (c d : ℕ) (had : List Act) → LogAt d (slice_get logs c) (Some had) → c < length logs
within [] c d had h = absurd h
within (x ∷ logs) zero d had h = omega arith
within (x ∷ logs) (suc c) d had h = let r = within logs c d had h in omega (arith, r)

pub logs_in_range : (r : Logs) (blocks : Blocks) (c : ℕ) (had : List Act) → Stands r blocks → blocks c ≡ Some had → c < r.count
logs_in_range r blocks c had h e =
    let at = subst (λ (b : Option (List Act)). LogAt c (slice_get r.logs.items c) b) e (h c) in
    let lt = within r.logs.items c c had at in omega (arith, lt, r.places)

pub logs_within : (r : Logs) → IsWithin r.count (limits_of r)
logs_within r =
    record {
      feeds = omega (arith, r.places, length-replicate (length r.logs.items) r.feeds);
      leaves = omega (arith, r.places, length-replicate (length r.logs.items) r.leaves);
      calls = r.named;
    }
