use Rattle.std.proofs.Common.{◌≡◌, IfSome, Option, sym, subst}
use Rattle.datagram_services.specs.Items.{ServedOf}
use Rattle.datagram_services.proofs.served.MoreServed.answers.Goals as goal

pub returns : goal.returns
returns c = subst (λ (o : Option ServedOf). IfSome o (λ s. c.answers.result.now ≡ s.answers)) (sym c.block.ensures) c.answers.ensures
