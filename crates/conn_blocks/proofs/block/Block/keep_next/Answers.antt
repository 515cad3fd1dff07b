use Rattle.std.proofs.Common.{◌+◌, ◌*◌, ◌<◌, length, sym, subst}
use Rattle.conn_blocks.proofs.Counting.{has_room}
use Rattle.conn_blocks.proofs.Settled.{act_is_timely, received_few, offered_few, settled_more}
use Rattle.conn_blocks.proofs.block.Block.keep_next.Goals as goal

pub keep-requires-clause-room : goal.keep-requires-clause-room
keep-requires-clause-room c = has_room c.args.plan.now c.args.calls.now c.args.c c.args.self.now c.requires.settled c.args.act c.requires.next

pub keep-requires-clause-clock : goal.keep-requires-clause-clock
keep-requires-clause-clock c = act_is_timely c.args.plan.now c.args.calls.now c.args.c c.args.self.now c.requires.settled c.args.act c.requires.next

pub keep-requires-clause-received : goal.keep-requires-clause-received
keep-requires-clause-received c = received_few c.args.plan.now c.args.calls.now c.args.c c.args.self.now c.requires.settled

pub keep-requires-clause-offered : goal.keep-requires-clause-offered
keep-requires-clause-offered c = offered_few c.args.plan.now c.args.calls.now c.args.c c.args.self.now c.requires.settled

pub returns-clause-settled : goal.returns-clause-settled
returns-clause-settled c =
    let e = c.keep.ensures in
    let old = c.args.self.now in
    settled_more c.args.plan.now c.args.calls.now c.args.c old c.requires.settled c.args.act c.requires.next c.keep.new.self e.order e.same.4 e.same.0 e.same.2 e.same.3
    (λ j k lj lk. subst (λ l. 4 * k + j < length l) (sym e.same.1) (c.requires.settled.table j k lj lk)) e.done
