-- The further exchanges, by evaluation of the definitions.
use Rattle.std.proofs.Common.{refl}
use Rattle.std.specs.List.{AllByRecursion}
use Rattle.byte_queues.specs.ReceiveQueue.{next_of, window_of, ready_of, is_ended, placed, next_bytes, without, with_cap, with_end}
use Rattle.tcb_machine.specs.BlockState.{new_block, to_listen, rcv_nxt, rcv_wnd, snd_end, snd_nxt, unsent, offered, seg_len, seg_wnd, sent_window, segment_of, syn_ack_of, rst_of}
use Rattle.tcb_machine.specs.TcpStep.{opened, listen, is_in_window, is_acceptable, refused, check_sequence, check_reset, check_syn, ack_kind, takes_window, takes_ack, is_fin_acked, in_time_wait, acknowledged, check_ack, repeated, ahead, closes, keeps_end, takes_fin, check_text, first_checks, arrives, tcp_segment}
use Rattle.tcb_machine.specs.Output.{sendable, sends_text, outputs_text, outputs_fin, outputs_ack, outputs_deadline, output}
use Rattle.tcb_machine.specs.Timers.{firings, sends_again, fires, tcp_time}
use Rattle.tcb_machine.specs.CallAnswers.{tcp_call}
use Rattle.echo_services.specs.Pump.{pump}
use Rattle.echo_services.specs.Exchanges.{IsAnswered, exchanges}

pub answered : AllByRecursion IsAnswered exchanges
unfolding next_of window_of ready_of is_ended placed next_bytes without with_cap with_end new_block to_listen rcv_nxt rcv_wnd snd_end snd_nxt unsent offered seg_len seg_wnd sent_window segment_of syn_ack_of rst_of opened listen is_in_window is_acceptable refused check_sequence check_reset check_syn ack_kind takes_window takes_ack is_fin_acked in_time_wait acknowledged check_ack repeated ahead closes keeps_end takes_fin check_text first_checks arrives tcp_segment sendable sends_text outputs_text outputs_fin outputs_ack outputs_deadline output firings sends_again fires tcp_time tcp_call pump
answered = (record { sent = refl; state = refl }, (record { sent = refl; state = refl }, (record { sent = refl; state = refl }, (record { sent = refl; state = refl }, (record { sent = refl; state = refl }, (record { sent = refl; state = refl }, (record { sent = refl; state = refl }, (record { sent = refl; state = refl }, (record { sent = refl; state = refl }, (record { sent = refl; state = refl }, (record { sent = refl; state = refl }, (record { sent = refl; state = refl }, (record { sent = refl; state = refl }, (record { sent = refl; state = refl }, (record { sent = refl; state = refl }, (record { sent = refl; state = refl }, (record { sent = refl; state = refl }, (record { sent = refl; state = refl }, (record { sent = refl; state = refl }, (record { sent = refl; state = refl }, (record { sent = refl; state = refl }, (record { sent = refl; state = refl }, (record { sent = refl; state = refl }, (record { sent = refl; state = refl }, (record { sent = refl; state = refl }, (record { sent = refl; state = refl }, (record { sent = refl; state = refl }, (record { sent = refl; state = refl }, (record { sent = refl; state = refl }, (record { sent = refl; state = refl }, (record { sent = refl; state = refl }, (record { sent = refl; state = refl }, (record { sent = refl; state = refl }, (record { sent = refl; state = refl }, tt))))))))))))))))))))))))))))))))))
