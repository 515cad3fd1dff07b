use Rattle.std.proofs.Common.{sym}
use Rattle.std.proofs.lemmas.Bool.{eq-eqb}
use Rattle.ring_threads.proofs.Totals.{order, whole}
use Rattle.ring_threads.proofs.laws.a_rings_list_is_whole.Goals as goal

pub returns-clause-order : goal.returns-clause-order
returns-clause-order c = λ p rings r list plan is. order p plan rings r list is

pub returns-clause-whole : goal.returns-clause-whole
returns-clause-whole c = λ p rings r list d plan is lt on. whole p plan rings r list is d lt (eq-eqb _ r (sym on))
