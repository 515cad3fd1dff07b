use Rattle.std.proofs.Common.{arith}
use Rattle.squeue_state.proofs.RoomMade.{all_flags}
use Rattle.squeue_state.proofs.room.here_flags.Goals as goal

pub returns-clause-here : goal.returns-clause-here
returns-clause-here g c =
    let end = c.loop-c-test.false in
    let conns = c.conns-conns.ensures in
    all_flags g.R.Resident.stands g.R.Resident.size g.met.R.Resident.in_range c.args.resident.now c.loop-c.flags.items c.loop-c.c c.loop-c.invariant.count (omega (arith, end, conns)) c.loop-c.invariant.here
