-- A whole run of `sqmore` ends well, and squeues served what it writes of.
use Rattle.std.specs.Prelude.{◌≡◌, ℕ, ◌+◌, ◌%◌, Ok, Option, Some, List, [], ◌∷◌, ◌++◌, length, get_or, slice_get}
use Rattle.std.specs.List.{AllByRecursion, concat}
use Rattle.std.specs.Fmt.{digits}
use Rattle.std.specs.Io.KnownBytes.{Appends}
use Rattle.std.proofs.Common.{inr, refl, sym, subst, ap, arith}
use Rattle.std.proofs.lemmas.List.{append-nil}
use Rattle.hex.specs.Hex.{encode_with}
use Rattle.sq_base.specs.declared.kinds.Link.TheVariants.{RawIp}
use Rattle.sq_base.specs.declared.kinds.Status.TheVariants as status
use Rattle.segment_codec.specs.Places.{word, long}
use Rattle.segment_codec.specs.Packet.{segment_of, tcp_packet, datagram, ip_place, packet_in}
use Rattle.capture_reader.specs.CaptureFile.{IsSpelling, IsSplit}
use Rattle.capture_reader.specs.Form.{number}
use Rattle.capture_reader.specs.Header.{header_answer}
use Rattle.capture_reader.specs.Outcome.{IsCapture}
use Rattle.pcapng_reader.specs.Input.{IsInput}
use Rattle.pcapng_reader.specs.PcapngFile.{BeginsSection}
use Rattle.tcb_machine.specs.BlockState.{new_block}
use Rattle.perimeter_core.specs.History.{run}
use Rattle.perimeter_core.specs.Legal.{Legal}
use Rattle.perimeter_core.specs.Ending.{IsOver}
use Rattle.histories.specs.Endings.{Ending}
use Rattle.histories.specs.declared.mode.Mode.TheVariants as Mode'
use Rattle.histories.specs.Keeping.{KeepsPace}
use Rattle.histories.specs.ModeWords.{mode_word}
use Rattle.squeue_pool.specs.Keeping.{PassesKeep}
use Rattle.squeue_pool.specs.Runs.{IsHereOnce}
use Rattle.ring_quotas.specs.declared.setup.Setup.{Setup}
use Rattle.report_lines.specs.ReportText.{datagram_line, end_field}
use Rattle.udp_codec.specs.UdpBytes.{ip_sum, udp_bytes, udp_sum}
use Rattle.udp_codec.specs.UdpDatagram.{is_whole, part_of, udp_of}
use Rattle.stream_plan.specs.Streams.{MorePlanOf, StreamOf, item_count, more_plan_of, tuples_in}
use Rattle.datagram_services.specs.Fits.{Fits, HistoryFits}
use Rattle.datagram_services.specs.Items.{served as served_so}
use Rattle.datagram_services.specs.MoreRan.{HasMoreRan, MoreAccepts}
use Rattle.datagram_services.specs.MoreText.{answer_line, counts_line, items_line, more_text, plan_text, stream_line, stream_text}
use Rattle.datagram_services.specs.MoreWords.{more_setup}
use Rattle.datagram_services.specs.Served.{HasMoreServed}
use Rattle.shell.specs.Reading.{Reads, TakesFew}
use Rattle.shell.specs.Words.{uses_from}
use Rattle.squeue_run.specs.GeneratedCapture.{file_header, record_of}
use Rattle.worked_runs.specs.OneSqueue.{setup}
use Rattle.worked_runs.specs.FiveSegments.{form, err}
use Rattle.worked_runs.specs.OneDatagram.{records, file, stream, plan, setting, history, ending, served, text, source, out}
use Rattle.worked_runs.proofs.OneConnection.{is_zero, only}
use Rattle.worked_runs.proofs.Whole.{header_long, spelled_by}

-- The capture

header_is : header_answer file.bytes ≡ Ok (form, RawIp)
unfolding header_answer number file_header record_of
header_is = refl

size : length file.bytes ≡ 70
unfolding file_header record_of
size = refl

spelled : AllByRecursion (IsSpelling form) records
unfolding record_of number
spelled = (spelled_by _ 30 refl refl (omega arith), tt)

split : IsSplit file.bytes form RawIp records []
split = record {
  header = file_header;
  size = header_long;
  whole = ap (λ (l : List ℕ). file_header ++ l) (sym (append-nil (concat records)));
  says = header_is;
  spelled = spelled;
}

is_capture : IsCapture file
is_capture = record {
  small = omega (arith, size);
  captured = record { form = form; pieces = records; rest = []; split = split; ends = (refl, omega arith); named = refl };
}

no_section : BeginsSection file.bytes → ⊥
unfolding file_header
no_section begins = let same : 212 ≡ 10 = ap (λ (l : List ℕ). get_or l 0 0) begins in omega (arith, same)

is_input : IsInput file
is_input = inr (no_section, is_capture)

plan_is : more_plan_of file ≡ plan
unfolding more_plan_of tuples_in is_whole part_of udp_of packet_in ip_place datagram tcp_packet segment_of word long number file_header record_of
plan_is = refl

-- What was served

module _ (legal : Legal setting history) (over : IsOver setting (run setting history)) (keeps : KeepsPace 1 0 Mode'.Process 64 0 setting 0 history) (passes : PassesKeep Mode'.Process ending) where
  its_fit : HistoryFits plan setup 0 ending
  its_fit = record {
    number = refl;
    setting = refl;
    ended = record { legal = legal; over = over };
    keeps = λ r lt. subst (λ k. KeepsPace 1 0 Mode'.Process 64 0 setting k history) (sym (is_zero r lt)) keeps;
  }

  each : (q : ℕ) (e : Ending) → slice_get (ending ∷ []) q ≡ Some e → HistoryFits plan setup q e
  each q e at =
      let o = only ending e q at in
      subst (λ k. HistoryFits plan setup k e) (sym o.0) (subst (λ (f : Ending). HistoryFits plan setup 0 f) o.1 its_fit)

  once : IsHereOnce (ending ∷ []) 0 0 1
  once = record {
    end = ending;
    is_end = refl;
    here = refl;
    feeds = refl;
    nowhere_else = λ k e other at. absurd (other (only ending e k at).0);
  }

  here : (c : ℕ) (s : StreamOf) → slice_get (stream ∷ []) c ≡ Some s → IsHereOnce (ending ∷ []) c (c % 1) (item_count s)
  here c s at =
      let o = only stream s c at in
      subst (λ k. IsHereOnce (ending ∷ []) k (k % 1) (item_count s)) (sym o.0) (subst (λ (x : StreamOf). IsHereOnce (ending ∷ []) 0 0 (item_count x)) o.1 once)

  fits : Fits plan setup (ending ∷ [])
  fits = record { count = refl; each = each; here = here }

  pub has_served : HasMoreServed plan setup served
  unfolding served_so record_of
  has_served = record { fits = fits; keep = λ q e at. subst (PassesKeep Mode'.Process) (only ending e q at).1 passes; served = refl }

-- The run

asked_is : more_setup [] ≡ Some setup
unfolding more_setup uses_from mode_word
asked_is = refl

told : text ≡ plan_text plan
unfolding digits encode_with plan_text counts_line stream_line items_line stream_text answer_line datagram_line end_field served_so new_block udp_bytes ip_sum udp_sum record_of
told = refl

report_is : text ≡ more_text file
unfolding more_text
report_is = subst (λ (p : MorePlanOf). text ≡ plan_text p) (sym plan_is) told

same_bytes : file.bytes ≡ file.bytes ++ []
same_bytes = sym (append-nil file.bytes)

reads : Reads source file
reads = record { read = record { taken = same_bytes; ended = refl }; capture = is_input }

takes_few : TakesFew source
takes_few = record { bytes = file.bytes; taken = same_bytes; count = omega (arith, size) }

pub accepts : MoreAccepts (more_setup []) (Some file.bytes)
accepts = subst (λ (s : Option Setup). MoreAccepts s (Some file.bytes)) (sym asked_is) (file, refl, is_input)

pub has_ran : HasMoreRan (more_setup []) source out err status.Ok
has_ran =
    subst (λ (s : Option Setup). HasMoreRan s source out err status.Ok) (sym asked_is)
    ((refl, takes_few), (file, reads, (subst (Appends out.was out.is) report_is refl, refl), record { bytes = refl; faults = refl }))
