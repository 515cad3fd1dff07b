-- What a look-up finds at a place.
use Rattle.std.proofs.Common.{◌≡◌, ℕ, zero, suc, cond, [], ◌∷◌, Some, ap, ◌∙◌}
use Rattle.std.specs.Map.{lookup}
use Rattle.std_collections.proofs.HashLookup.{IsFirst}
use Rattle.sq_base.specs.declared.kinds.Tuple.{Tuple}
use Rattle.live_server.specs.Table.{Conns, conn_at, place_of, tuple_eq}
use Rattle.live_server.proofs.TableLemmas.{first_at}

looked : (t : Tuple) (cs : Conns) (i : ℕ) → IsFirst (tuple_eq t) cs i → lookup (tuple_eq t) cs ≡ Some (conn_at i cs)
looked t [] i h = absurd h
looked t (c ∷ cs) zero h = ap (λ b. cond b (Some c.1) (lookup (tuple_eq t) cs)) h
looked t (c ∷ cs) (suc i) h = ap (λ b. cond b (Some c.1) (lookup (tuple_eq t) cs)) h.0 ∙ looked t cs i h.1

pub conn_looked : (t : Tuple) (cs : Conns) (i : ℕ) → place_of t cs ≡ Some i → lookup (tuple_eq t) cs ≡ Some (conn_at i cs)
conn_looked t cs i at = looked t cs i (first_at t cs i at)
