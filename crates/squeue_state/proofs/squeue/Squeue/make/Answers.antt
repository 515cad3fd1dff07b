use Rattle.std.proofs.Common.{ap, arith}
use Rattle.std.proofs.lemmas.Result.{IfOk-weaker}
use Rattle.squeue_state.specs.Behind.{ever, room_of}
use Rattle.squeue_state.proofs.squeue.Squeue.make.Goals as goal

pub returns-clause-room : goal.returns-clause-room
returns-clause-room g c =
    IfOk-weaker c.make_in.result _ _
    (λ r m. omega (arith, m.its_room, ap room_of m.its_quotas, ap (λ ls. room_of (ever ls)) c.deref.ensures.value, ap room_of c.in_ok-lives.ensures, c.room_for-room.ensures.queue))
    c.make_in.ensures.given
