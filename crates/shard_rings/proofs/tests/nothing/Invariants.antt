use Rattle.std.proofs.Common.{◌≡◌, ◌≤◌, [], length, vec_capacity}
use Rattle.std.specs.Prelude.{All}
use Rattle.shards.specs.Writing.{IsWritten}
use Rattle.shard_rings.proofs.tests.nothing.Given as goal

abbrev pub invariant-squeues : goal.invariant-squeues
invariant-squeues l = record { made : All (IsWritten []) l.written.items; so_far : length l.written.items ≡ l._q; room : l.squeues ≤ vec_capacity l.written }
