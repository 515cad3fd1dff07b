use Rattle.std.proofs.Common.{◌≡◌, ◌+◌, ◌-◌, ◌*◌, ◌≤◌, None}
use Rattle.tcb_machine.proofs.TimeLemmas.{is_set}
use Rattle.tcb_machine.specs.Timers.{tcp_time}
use Rattle.tcb_machine.proofs.tcb.Tcb.retransmissions_up_to.Given as goal
use Rattle.tcb_machine.specs.Limits.{most_retransmissions}

abbrev pub invariant-loop-at : goal.invariant-loop-at
invariant-loop-at l = record { clock : l.self.clock ≤ l.to; none : l.self.time_wait_at ≡ None; same : tcp_time l.to l.self ≡ tcp_time l.to l.fn.self }

abbrev pub decreases-loop-at : goal.decreases-loop-at
decreases-loop-at l = 2 * (most_retransmissions - l.self.retransmissions) + is_set l.self.retransmit_at
