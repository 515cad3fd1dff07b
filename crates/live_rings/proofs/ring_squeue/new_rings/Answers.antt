use Rattle.std.proofs.Common.{sym, subst}
use Rattle.live_rings.specs.Tasks.{AreNewRings}
use Rattle.live_rings.proofs.ring_squeue.new_rings.Goals as goal

pub returns-clause-rings : goal.returns-clause-rings
returns-clause-rings g c =
    subst (λ parts. AreNewRings c.args.own parts c.args.ends.items c.in_ok-rings.rings.items) (sym c.of-chats.ensures)
    (c.in_ok-rings.ensures c.in_ok-producers.parts.items c.in_ok-places.ensures)
