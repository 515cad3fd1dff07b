-- The report of the traced run, by evaluation of the definitions.
use Rattle.std.specs.Prelude.{◌≡◌}
use Rattle.std.specs.Fmt.{digits}
use Rattle.std.proofs.Common.{refl}
use Rattle.hex.specs.Hex.{encode_with}
use Rattle.segment_codec.specs.SegmentBytes.{ip_sum, segment_bytes, tcp_sum}
use Rattle.byte_queues.specs.ReceiveQueue.{next_of, window_of, ready_of, is_ended, placed, next_bytes, without, with_cap, with_end}
use Rattle.tcb_machine.specs.BlockState.{new_block, to_listen, rcv_nxt, rcv_wnd, snd_end, snd_nxt, unsent, offered, seg_len, seg_wnd, sent_window, segment_of, syn_ack_of, rst_of}
use Rattle.tcb_machine.specs.TcpStep.{opened, listen, is_in_window, is_acceptable, refused, check_sequence, check_reset, check_syn, ack_kind, takes_window, takes_ack, is_fin_acked, in_time_wait, acknowledged, check_ack, repeated, ahead, closes, keeps_end, takes_fin, check_text, first_checks, arrives, tcp_segment}
use Rattle.tcb_machine.specs.Output.{sendable, sends_text, outputs_text, outputs_fin, outputs_ack, outputs_deadline, output}
use Rattle.tcb_machine.specs.Timers.{firings, sends_again, fires, tcp_time}
use Rattle.tcb_machine.specs.CallAnswers.{tcp_call}
use Rattle.echo_services.specs.Pump.{pump, service_word}
use Rattle.histories.specs.ModeWords.{mode_word}
use Rattle.conn_blocks.specs.ServeOrder.{serve}
use Rattle.report_lines.specs.Names.{state_word}
use Rattle.report_lines.specs.ReportText.{answer_line, body_text, conn_line, conn_text, counts_line, datagram_line, end_field, end_line, order_line, reply_line}
use Rattle.report_lines.specs.TraceText.{setup_line, call_line, mark_line, squeue_line, trace_text}
use Rattle.squeue_run.specs.GeneratedCapture.{record_of}
use Rattle.squeue_run.specs.Output.{told_of}
use Rattle.worked_runs.specs.FiveSegments.{plan}
use Rattle.worked_runs.specs.TracedCall.{calls, served, text, wanted}

pub told : text ≡ told_of plan calls wanted served
unfolding digits encode_with ip_sum segment_bytes tcp_sum next_of window_of ready_of is_ended placed next_bytes without with_cap with_end new_block to_listen rcv_nxt rcv_wnd snd_end snd_nxt unsent offered seg_len seg_wnd sent_window segment_of syn_ack_of rst_of opened listen is_in_window is_acceptable refused check_sequence check_reset check_syn ack_kind takes_window takes_ack is_fin_acked in_time_wait acknowledged check_ack repeated ahead closes keeps_end takes_fin check_text first_checks arrives tcp_segment sendable sends_text outputs_text outputs_fin outputs_ack outputs_deadline output firings sends_again fires tcp_time tcp_call pump service_word mode_word serve state_word answer_line body_text conn_line conn_text counts_line datagram_line end_field end_line order_line reply_line setup_line call_line mark_line squeue_line trace_text record_of
told = refl
