use Rattle.turn_gate.proofs.Keeps.{whole_of_free}
use Rattle.turn_gate.proofs.laws.a_free_gate_has_its_value.Goals as goal

pub returns : goal.returns
returns g c = λ first n s h free. whole_of_free (g.T.Storied.stands first) g.T.Storied.number n s h free
