use Rattle.std.proofs.Common.{◌≡◌, ◌+◌, ◌-◌}
use Rattle.byte_queues.specs.ReceiveQueue.{next_of}
use Rattle.byte_queues.specs.SendQueue.{room_of}
use Rattle.tcb_machine.specs.BlockState.{offered}
use Rattle.page_service.specs.Pump.{most_turns, turns}
use Rattle.page_service.proofs.behind.Behind.take_turns.Given as goal

abbrev pub invariant-loop-turn : goal.invariant-loop-turn
invariant-loop-turn g l =
    let p = g.R.Answerer.protocol l.fn.self.answerer.now in
    record {
      rest : turns p (most_turns - l._turn) l.self.phase l.tcb ≡ turns p most_turns l.fn.self.phase l.fn.tcb;
      same : l.self.answerer ≡ l.fn.self.answerer;
      clock : l.tcb.clock ≡ l.fn.tcb.clock;
      next : next_of l.tcb.recv ≡ next_of l.fn.tcb.recv;
      offered : offered l.tcb + room_of l.tcb.out ≡ offered l.fn.tcb + room_of l.fn.tcb.out;
    }
