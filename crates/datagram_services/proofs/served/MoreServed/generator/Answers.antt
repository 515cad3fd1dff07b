use Rattle.std.proofs.Common.{◌≡◌, IfSome, Option, sym, subst}
use Rattle.datagram_services.specs.Items.{ServedOf}
use Rattle.datagram_services.proofs.served.MoreServed.generator.Goals as goal

pub returns : goal.returns
returns c = subst (λ (o : Option ServedOf). IfSome o (λ s. c.generator.result.now ≡ s.generator)) (sym c.block.ensures) c.generator.ensures
