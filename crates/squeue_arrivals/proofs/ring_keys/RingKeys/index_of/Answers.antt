use Rattle.std.proofs.Common.{◌≡◌, ℕ, ◌<◌, Option, None, Some, length, slice_get, sym}
use Rattle.std.specs.Prelude.{IfSome, nat_eq, position}
use Rattle.squeue_arrivals.specs.Placed.{keys_in}
use Rattle.squeue_arrivals.proofs.KeyLists.{found_at}
use Rattle.squeue_arrivals.proofs.ring_keys.RingKeys.index_of.Goals as goal

pub returns-clause-found : goal.returns-clause-found
returns-clause-found c = go c.get_index_of.result (sym c.get_index_of.ensures.index)
  where
    go : (r : Option ℕ) → position (nat_eq c.args.key) (keys_in c.args.self.now) ≡ r → IfSome r (λ i. (i < length (keys_in c.args.self.now)) × (slice_get (keys_in c.args.self.now) i ≡ Some c.args.key))
    go None is = tt
    go (Some i) is = found_at (keys_in c.args.self.now) c.args.key i is
