-- The worked exchanges, by evaluation of the definitions.
use Rattle.std.proofs.Common.{refl}
use Rattle.byte_queues.specs.ReceiveQueue.{next_of, window_of, ready_of, is_ended, placed, next_bytes, without, with_cap, with_end}
use Rattle.tcb_machine.specs.BlockState.{new_block, to_listen, rcv_nxt, rcv_wnd, snd_end, snd_nxt, unsent, offered, seg_len, seg_wnd, sent_window, segment_of, syn_ack_of, rst_of}
use Rattle.tcb_machine.specs.TcpStep.{opened, listen, is_in_window, is_acceptable, refused, check_sequence, check_reset, check_syn, ack_kind, takes_window, takes_ack, is_fin_acked, in_time_wait, acknowledged, check_ack, repeated, ahead, closes, keeps_end, takes_fin, check_text, first_checks, arrives, tcp_segment}
use Rattle.tcb_machine.specs.Output.{sendable, sends_text, outputs_text, outputs_fin, outputs_ack, outputs_deadline, output}
use Rattle.tcb_machine.specs.Timers.{firings, sends_again, fires, tcp_time}
use Rattle.tcb_machine.specs.CallAnswers.{tcp_call}
use Rattle.echo_services.specs.Daytime.{daytime}
use Rattle.echo_services.specs.Pump.{pump}
use Rattle.echo_services.specs.Worked as row
use Rattle.echo_services.specs.Worked.{IsEchoed, IsServed}

pub five_segment_echo : IsEchoed row.five_segment_echo
unfolding next_of window_of ready_of is_ended placed next_bytes without with_cap with_end new_block to_listen rcv_nxt rcv_wnd snd_end snd_nxt unsent offered seg_len seg_wnd sent_window segment_of syn_ack_of rst_of opened listen is_in_window is_acceptable refused check_sequence check_reset check_syn ack_kind takes_window takes_ack is_fin_acked in_time_wait acknowledged check_ack repeated ahead closes keeps_end takes_fin check_text first_checks arrives tcp_segment sendable sends_text outputs_text outputs_fin outputs_ack outputs_deadline output firings sends_again fires tcp_time tcp_call pump
five_segment_echo = record { sent = refl; state = refl }

pub sequence_numbers_wrap : IsEchoed row.sequence_numbers_wrap
unfolding next_of window_of ready_of is_ended placed next_bytes without with_cap with_end new_block to_listen rcv_nxt rcv_wnd snd_end snd_nxt unsent offered seg_len seg_wnd sent_window segment_of syn_ack_of rst_of opened listen is_in_window is_acceptable refused check_sequence check_reset check_syn ack_kind takes_window takes_ack is_fin_acked in_time_wait acknowledged check_ack repeated ahead closes keeps_end takes_fin check_text first_checks arrives tcp_segment sendable sends_text outputs_text outputs_fin outputs_ack outputs_deadline output firings sends_again fires tcp_time tcp_call pump
sequence_numbers_wrap = record { sent = refl; state = refl }

pub text_out_of_order : IsEchoed row.text_out_of_order
unfolding next_of window_of ready_of is_ended placed next_bytes without with_cap with_end new_block to_listen rcv_nxt rcv_wnd snd_end snd_nxt unsent offered seg_len seg_wnd sent_window segment_of syn_ack_of rst_of opened listen is_in_window is_acceptable refused check_sequence check_reset check_syn ack_kind takes_window takes_ack is_fin_acked in_time_wait acknowledged check_ack repeated ahead closes keeps_end takes_fin check_text first_checks arrives tcp_segment sendable sends_text outputs_text outputs_fin outputs_ack outputs_deadline output firings sends_again fires tcp_time tcp_call pump
text_out_of_order = record { sent = refl; state = refl }

pub small_buffer : IsEchoed row.small_buffer
unfolding next_of window_of ready_of is_ended placed next_bytes without with_cap with_end new_block to_listen rcv_nxt rcv_wnd snd_end snd_nxt unsent offered seg_len seg_wnd sent_window segment_of syn_ack_of rst_of opened listen is_in_window is_acceptable refused check_sequence check_reset check_syn ack_kind takes_window takes_ack is_fin_acked in_time_wait acknowledged check_ack repeated ahead closes keeps_end takes_fin check_text first_checks arrives tcp_segment sendable sends_text outputs_text outputs_fin outputs_ack outputs_deadline output firings sends_again fires tcp_time tcp_call pump
small_buffer = record { sent = refl; state = refl }

pub zero_window_probe : IsEchoed row.zero_window_probe
unfolding next_of window_of ready_of is_ended placed next_bytes without with_cap with_end new_block to_listen rcv_nxt rcv_wnd snd_end snd_nxt unsent offered seg_len seg_wnd sent_window segment_of syn_ack_of rst_of opened listen is_in_window is_acceptable refused check_sequence check_reset check_syn ack_kind takes_window takes_ack is_fin_acked in_time_wait acknowledged check_ack repeated ahead closes keeps_end takes_fin check_text first_checks arrives tcp_segment sendable sends_text outputs_text outputs_fin outputs_ack outputs_deadline output firings sends_again fires tcp_time tcp_call pump
zero_window_probe = record { sent = refl; state = refl }

pub reset_at_next : IsEchoed row.reset_at_next
unfolding next_of window_of ready_of is_ended placed next_bytes without with_cap with_end new_block to_listen rcv_nxt rcv_wnd snd_end snd_nxt unsent offered seg_len seg_wnd sent_window segment_of syn_ack_of rst_of opened listen is_in_window is_acceptable refused check_sequence check_reset check_syn ack_kind takes_window takes_ack is_fin_acked in_time_wait acknowledged check_ack repeated ahead closes keeps_end takes_fin check_text first_checks arrives tcp_segment sendable sends_text outputs_text outputs_fin outputs_ack outputs_deadline output firings sends_again fires tcp_time tcp_call pump
reset_at_next = record { sent = refl; state = refl }

pub reset_in_window : IsEchoed row.reset_in_window
unfolding next_of window_of ready_of is_ended placed next_bytes without with_cap with_end new_block to_listen rcv_nxt rcv_wnd snd_end snd_nxt unsent offered seg_len seg_wnd sent_window segment_of syn_ack_of rst_of opened listen is_in_window is_acceptable refused check_sequence check_reset check_syn ack_kind takes_window takes_ack is_fin_acked in_time_wait acknowledged check_ack repeated ahead closes keeps_end takes_fin check_text first_checks arrives tcp_segment sendable sends_text outputs_text outputs_fin outputs_ack outputs_deadline output firings sends_again fires tcp_time tcp_call pump
reset_in_window = record { sent = refl; state = refl }

pub reset_before_window : IsEchoed row.reset_before_window
unfolding next_of window_of ready_of is_ended placed next_bytes without with_cap with_end new_block to_listen rcv_nxt rcv_wnd snd_end snd_nxt unsent offered seg_len seg_wnd sent_window segment_of syn_ack_of rst_of opened listen is_in_window is_acceptable refused check_sequence check_reset check_syn ack_kind takes_window takes_ack is_fin_acked in_time_wait acknowledged check_ack repeated ahead closes keeps_end takes_fin check_text first_checks arrives tcp_segment sendable sends_text outputs_text outputs_fin outputs_ack outputs_deadline output firings sends_again fires tcp_time tcp_call pump
reset_before_window = record { sent = refl; state = refl }

pub reset_behind_window : IsEchoed row.reset_behind_window
unfolding next_of window_of ready_of is_ended placed next_bytes without with_cap with_end new_block to_listen rcv_nxt rcv_wnd snd_end snd_nxt unsent offered seg_len seg_wnd sent_window segment_of syn_ack_of rst_of opened listen is_in_window is_acceptable refused check_sequence check_reset check_syn ack_kind takes_window takes_ack is_fin_acked in_time_wait acknowledged check_ack repeated ahead closes keeps_end takes_fin check_text first_checks arrives tcp_segment sendable sends_text outputs_text outputs_fin outputs_ack outputs_deadline output firings sends_again fires tcp_time tcp_call pump
reset_behind_window = record { sent = refl; state = refl }

pub handshake_retransmissions : IsEchoed row.handshake_retransmissions
unfolding next_of window_of ready_of is_ended placed next_bytes without with_cap with_end new_block to_listen rcv_nxt rcv_wnd snd_end snd_nxt unsent offered seg_len seg_wnd sent_window segment_of syn_ack_of rst_of opened listen is_in_window is_acceptable refused check_sequence check_reset check_syn ack_kind takes_window takes_ack is_fin_acked in_time_wait acknowledged check_ack repeated ahead closes keeps_end takes_fin check_text first_checks arrives tcp_segment sendable sends_text outputs_text outputs_fin outputs_ack outputs_deadline output firings sends_again fires tcp_time tcp_call pump
handshake_retransmissions = record { sent = refl; state = refl }

pub tuple_used_again : IsEchoed row.tuple_used_again
unfolding next_of window_of ready_of is_ended placed next_bytes without with_cap with_end new_block to_listen rcv_nxt rcv_wnd snd_end snd_nxt unsent offered seg_len seg_wnd sent_window segment_of syn_ack_of rst_of opened listen is_in_window is_acceptable refused check_sequence check_reset check_syn ack_kind takes_window takes_ack is_fin_acked in_time_wait acknowledged check_ack repeated ahead closes keeps_end takes_fin check_text first_checks arrives tcp_segment sendable sends_text outputs_text outputs_fin outputs_ack outputs_deadline output firings sends_again fires tcp_time tcp_call pump
tuple_used_again = record { sent = refl; state = refl }

pub repeated_syn : IsEchoed row.repeated_syn
unfolding next_of window_of ready_of is_ended placed next_bytes without with_cap with_end new_block to_listen rcv_nxt rcv_wnd snd_end snd_nxt unsent offered seg_len seg_wnd sent_window segment_of syn_ack_of rst_of opened listen is_in_window is_acceptable refused check_sequence check_reset check_syn ack_kind takes_window takes_ack is_fin_acked in_time_wait acknowledged check_ack repeated ahead closes keeps_end takes_fin check_text first_checks arrives tcp_segment sendable sends_text outputs_text outputs_fin outputs_ack outputs_deadline output firings sends_again fires tcp_time tcp_call pump
repeated_syn = record { sent = refl; state = refl }

pub closed_by_a_call : IsEchoed row.closed_by_a_call
unfolding next_of window_of ready_of is_ended placed next_bytes without with_cap with_end new_block to_listen rcv_nxt rcv_wnd snd_end snd_nxt unsent offered seg_len seg_wnd sent_window segment_of syn_ack_of rst_of opened listen is_in_window is_acceptable refused check_sequence check_reset check_syn ack_kind takes_window takes_ack is_fin_acked in_time_wait acknowledged check_ack repeated ahead closes keeps_end takes_fin check_text first_checks arrives tcp_segment sendable sends_text outputs_text outputs_fin outputs_ack outputs_deadline output firings sends_again fires tcp_time tcp_call pump
closed_by_a_call = record { sent = refl; state = refl }

pub scaled_five_segment_echo : IsEchoed row.scaled_five_segment_echo
unfolding next_of window_of ready_of is_ended placed next_bytes without with_cap with_end new_block to_listen rcv_nxt rcv_wnd snd_end snd_nxt unsent offered seg_len seg_wnd sent_window segment_of syn_ack_of rst_of opened listen is_in_window is_acceptable refused check_sequence check_reset check_syn ack_kind takes_window takes_ack is_fin_acked in_time_wait acknowledged check_ack repeated ahead closes keeps_end takes_fin check_text first_checks arrives tcp_segment sendable sends_text outputs_text outputs_fin outputs_ack outputs_deadline output firings sends_again fires tcp_time tcp_call pump
scaled_five_segment_echo = record { sent = refl; state = refl }

pub scaled_small_window : IsEchoed row.scaled_small_window
unfolding next_of window_of ready_of is_ended placed next_bytes without with_cap with_end new_block to_listen rcv_nxt rcv_wnd snd_end snd_nxt unsent offered seg_len seg_wnd sent_window segment_of syn_ack_of rst_of opened listen is_in_window is_acceptable refused check_sequence check_reset check_syn ack_kind takes_window takes_ack is_fin_acked in_time_wait acknowledged check_ack repeated ahead closes keeps_end takes_fin check_text first_checks arrives tcp_segment sendable sends_text outputs_text outputs_fin outputs_ack outputs_deadline output firings sends_again fires tcp_time tcp_call pump
scaled_small_window = record { sent = refl; state = refl }

pub scale_over_fourteen : IsEchoed row.scale_over_fourteen
unfolding next_of window_of ready_of is_ended placed next_bytes without with_cap with_end new_block to_listen rcv_nxt rcv_wnd snd_end snd_nxt unsent offered seg_len seg_wnd sent_window segment_of syn_ack_of rst_of opened listen is_in_window is_acceptable refused check_sequence check_reset check_syn ack_kind takes_window takes_ack is_fin_acked in_time_wait acknowledged check_ack repeated ahead closes keeps_end takes_fin check_text first_checks arrives tcp_segment sendable sends_text outputs_text outputs_fin outputs_ack outputs_deadline output firings sends_again fires tcp_time tcp_call pump
scale_over_fourteen = record { sent = refl; state = refl }

pub daytime_closes_first : IsServed (daytime row.day) row.daytime_closes_first
unfolding next_of window_of ready_of is_ended placed next_bytes without with_cap with_end new_block to_listen rcv_nxt rcv_wnd snd_end snd_nxt unsent offered seg_len seg_wnd sent_window segment_of syn_ack_of rst_of opened listen is_in_window is_acceptable refused check_sequence check_reset check_syn ack_kind takes_window takes_ack is_fin_acked in_time_wait acknowledged check_ack repeated ahead closes keeps_end takes_fin check_text first_checks arrives tcp_segment sendable sends_text outputs_text outputs_fin outputs_ack outputs_deadline output firings sends_again fires tcp_time tcp_call daytime
daytime_closes_first = record { sent = refl; state = refl }

pub daytime_small_window : IsServed (daytime row.day) row.daytime_small_window
unfolding next_of window_of ready_of is_ended placed next_bytes without with_cap with_end new_block to_listen rcv_nxt rcv_wnd snd_end snd_nxt unsent offered seg_len seg_wnd sent_window segment_of syn_ack_of rst_of opened listen is_in_window is_acceptable refused check_sequence check_reset check_syn ack_kind takes_window takes_ack is_fin_acked in_time_wait acknowledged check_ack repeated ahead closes keeps_end takes_fin check_text first_checks arrives tcp_segment sendable sends_text outputs_text outputs_fin outputs_ack outputs_deadline output firings sends_again fires tcp_time tcp_call daytime
daytime_small_window = record { sent = refl; state = refl }

pub daytime_behind_the_close : IsServed (daytime row.day) row.daytime_behind_the_close
unfolding next_of window_of ready_of is_ended placed next_bytes without with_cap with_end new_block to_listen rcv_nxt rcv_wnd snd_end snd_nxt unsent offered seg_len seg_wnd sent_window segment_of syn_ack_of rst_of opened listen is_in_window is_acceptable refused check_sequence check_reset check_syn ack_kind takes_window takes_ack is_fin_acked in_time_wait acknowledged check_ack repeated ahead closes keeps_end takes_fin check_text first_checks arrives tcp_segment sendable sends_text outputs_text outputs_fin outputs_ack outputs_deadline output firings sends_again fires tcp_time tcp_call daytime
daytime_behind_the_close = record { sent = refl; state = refl }
