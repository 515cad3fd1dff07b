use Rattle.std.proofs.Common.{◌≡◌, subst, sym}
use Rattle.live_server.specs.Acts.{emptied}
use Rattle.live_server.proofs.MeetLemmas.{emptied_twice}
use Rattle.live_server.proofs.rules.Rules.take_place.Goals as goal

pub insert-requires-clause-sent : goal.insert-requires-clause-sent
insert-requires-clause-sent g c = subst (λ x. emptied x ≡ x) (sym c.in_ok-send.ensures.conn) (emptied_twice _)
