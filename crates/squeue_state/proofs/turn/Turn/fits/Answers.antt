use Rattle.std.proofs.Common.{◌+◌, ◌-◌, arith}
use Rattle.std.proofs.lemmas.Bool.{leb-true, leb-false}
use Rattle.perimeter_core.specs.Backlog.{queue}
use Rattle.perimeter_core.specs.History.{run}
use Rattle.squeue_state.specs.Naming.{setting_of}
use Rattle.squeue_state.proofs.Reading.{reads, backlog_is, pass_flags}
use Rattle.squeue_state.proofs.QueuedRoom.{feeds_few}
use Rattle.squeue_state.proofs.turn.Turn.fits.Goals as goal

pub overflow_sub-taken : goal.overflow_sub-taken
overflow_sub-taken g c =
    let b = reads g.R.Resident c.self.inside.of.value c.self.inside.held c.args.self.now c.get.result.now c.self.invariant c.self.view_is c.get.ensures in
    omega (arith, pass_flags g.R.Resident c.args.self.now.squeue.given c.get.result.now.inner c.args.self.now.found b, c.len-2.ensures, c.get.result.now.inner.closed.ok.0)

pub returns-then-taken-room-clause-fits : goal.returns-then-taken-room-clause-fits
returns-then-taken-room-clause-fits g c = λ is.
    let b = reads g.R.Resident c.self.inside.of.value c.self.inside.held c.args.self.now c.get.result.now c.self.invariant c.self.view_is c.get.ensures in
    let s = run (setting_of g.R.Resident.limits c.args.self.now.squeue.given) c.args.self.now.found in
    let taken = c.get.result.now.inner.in_hand + c.len.result + (c.len-2.result - 1) in
    let at = leb-true c.args.feeds (c.capacity-room.result - taken) is in
    omega (arith, at, c.if-taken-room.true, feeds_few (queue s), backlog_is g.R.Resident c.args.self.now.squeue.given c.get.result.now.inner c.args.self.now.found b, pass_flags g.R.Resident c.args.self.now.squeue.given c.get.result.now.inner c.args.self.now.found b, c.len.ensures, c.get.result.now.inner.chain.ok.0, c.len-2.ensures, c.get.result.now.inner.closed.ok.0, c.capacity-room.ensures, b.room)

pub returns-then-taken-room-clause-full : goal.returns-then-taken-room-clause-full
returns-then-taken-room-clause-full g c = λ is.
    let b = reads g.R.Resident c.self.inside.of.value c.self.inside.held c.args.self.now c.get.result.now c.self.invariant c.self.view_is c.get.ensures in
    let taken = c.get.result.now.inner.in_hand + c.len.result + (c.len-2.result - 1) in
    let at = leb-false c.args.feeds (c.capacity-room.result - taken) is in
    omega (arith, at, c.if-taken-room.true, backlog_is g.R.Resident c.args.self.now.squeue.given c.get.result.now.inner c.args.self.now.found b, pass_flags g.R.Resident c.args.self.now.squeue.given c.get.result.now.inner c.args.self.now.found b, c.len.ensures, c.get.result.now.inner.chain.ok.0, c.len-2.ensures, c.get.result.now.inner.closed.ok.0, c.capacity-room.ensures, b.room)

pub returns-else-taken-room-clause-full : goal.returns-else-taken-room-clause-full
returns-else-taken-room-clause-full g c = λ is.
    let b = reads g.R.Resident c.self.inside.of.value c.self.inside.held c.args.self.now c.get.result.now c.self.invariant c.self.view_is c.get.ensures in
    omega (arith, c.if-taken-room.false, backlog_is g.R.Resident c.args.self.now.squeue.given c.get.result.now.inner c.args.self.now.found b, pass_flags g.R.Resident c.args.self.now.squeue.given c.get.result.now.inner c.args.self.now.found b, c.len.ensures, c.get.result.now.inner.chain.ok.0, c.len-2.ensures, c.get.result.now.inner.closed.ok.0, c.capacity-room.ensures, b.room)
