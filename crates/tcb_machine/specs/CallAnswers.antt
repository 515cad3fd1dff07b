-- The calls of a program on a connection (RFC 9293, 3.10: STATUS, CLOSE), and what its service does (RFC 862, RFC 863).
use Rattle.std.specs.Prelude.{ℕ, true, length}
use Rattle.byte_queues.specs.ReceiveQueue.{empty_recv, next_of, with_cap}
use Rattle.tcb_machine.specs.BlockState.{Block, offered}
use Rattle.tcb_machine.specs.TcpStep.{Verdict, over, go}
use Rattle.tcb_machine.specs.declared.kinds.State.{State}
use Rattle.tcb_machine.specs.declared.kinds.State.TheVariants.{Listen, SynReceived, Established, FinWait1, FinWait2, CloseWait, Closing, LastAck, TimeWait}
use Rattle.tcb_machine.specs.declared.kinds.Call.{Call}
use Rattle.tcb_machine.specs.declared.kinds.Call.TheVariants as call
use Rattle.tcb_machine.specs.declared.kinds.Answer.{Answer}
use Rattle.tcb_machine.specs.declared.kinds.Answer.TheVariants as answer

pub record Called : Type 0 where
  pub answer : Answer
  pub verdict : Verdict

abbrev pub wants_fin : State → Block → Block
wants_fin state b = record b { fin_wanted = true; state = state }

-- in LISTEN there is nothing to keep, and the edge may fall
abbrev pub with_buffer : State → ℕ → Block → Block
with_buffer Listen n b = record b { want = n; recv = empty_recv n }
with_buffer SynReceived n b = record b { want = n; recv = with_cap n b.recv }
with_buffer Established n b = record b { want = n; recv = with_cap n b.recv }
with_buffer FinWait1 n b = record b { want = n; recv = with_cap n b.recv }
with_buffer FinWait2 n b = record b { want = n; recv = with_cap n b.recv }
with_buffer CloseWait n b = record b { want = n; recv = with_cap n b.recv }
with_buffer Closing n b = record b { want = n; recv = with_cap n b.recv }
with_buffer LastAck n b = record b { want = n; recv = with_cap n b.recv }
with_buffer TimeWait n b = record b { want = n; recv = with_cap n b.recv }

abbrev pub close_in : State → Block → Called
close_in Listen b = record { answer = answer.NotOpen; verdict = over b }
close_in SynReceived b = record { answer = answer.NotOpen; verdict = over b }
close_in Established b = record { answer = answer.Done; verdict = go (wants_fin FinWait1 b) }
close_in CloseWait b = record { answer = answer.Done; verdict = go (wants_fin LastAck b) }
close_in FinWait1 b = record { answer = answer.Already; verdict = over b }
close_in FinWait2 b = record { answer = answer.Already; verdict = over b }
close_in Closing b = record { answer = answer.Already; verdict = over b }
close_in LastAck b = record { answer = answer.Already; verdict = over b }
close_in TimeWait b = record { answer = answer.Already; verdict = over b }

unfoldable pub tcp_call : Call → Block → Called
tcp_call call.Status b = record { answer = answer.Status b.state (next_of b.recv) (offered b) (length b.out); verdict = over b }
tcp_call (call.Buffer n) b = record { answer = answer.Done; verdict = over (with_buffer b.state n b) }
tcp_call call.Close b = close_in b.state b
