-- A whole run ends well: from the bytes of the capture to those of the report.
use Rattle.std.specs.Prelude.{◌≡◌, ℕ, zero, suc, ◌+◌, ◌≤◌, ◌==◌, true, false, List, [], ◌∷◌, ◌++◌, length, get_or, slice_get, Ok, Option, Some, None, if◌then◌else◌}
use Rattle.std.specs.List.{AllByRecursion, concat}
use Rattle.std.specs.Option.{option_map_or}
use Rattle.std.proofs.Common.{inr, refl, sym, subst, ap, arith}
use Rattle.std.proofs.lemmas.List.{append-nil}
use Rattle.sq_base.specs.declared.kinds.Link.TheVariants.{RawIp}
use Rattle.sq_base.specs.declared.kinds.Status.TheVariants as status
use Rattle.segment_codec.specs.Places.{word, long}
use Rattle.segment_codec.specs.Options.{options_in, options_read, mss_in, scale_in}
use Rattle.segment_codec.specs.Packet.{segment_of, tcp_packet, datagram, ip_place, packet_in}
use Rattle.capture_reader.specs.CaptureFile.{IsSpelling, IsSplit, named_length}
use Rattle.capture_reader.specs.Form.{number}
use Rattle.capture_reader.specs.Header.{header_answer}
use Rattle.capture_reader.specs.Limits.{most_bytes}
use Rattle.capture_reader.specs.Outcome.{IsCapture}
use Rattle.pcapng_reader.specs.Input.{IsInput}
use Rattle.pcapng_reader.specs.PcapngFile.{BeginsSection}
use Rattle.conn_classifier.specs.Connections.{conns}
use Rattle.conn_classifier.specs.Items.{conn_items, looked, of_conn}
use Rattle.conn_classifier.specs.Plan.{PlanOf, plan_by, plan_of}
use Rattle.conn_classifier.specs.Sorting.{order_of}
use Rattle.tcb_machine.specs.declared.kinds.Call.{Call}
use Rattle.perimeter_core.specs.History.{run}
use Rattle.perimeter_core.specs.Legal.{Legal}
use Rattle.perimeter_core.specs.Ending.{IsOver}
use Rattle.histories.specs.declared.mode.Mode.TheVariants as Mode'
use Rattle.histories.specs.Keeping.{KeepsPace}
use Rattle.histories.specs.ModeWords.{mode_word}
use Rattle.squeue_pool.specs.Keeping.{PassesKeep}
use Rattle.conn_blocks.specs.CallLists.{calls_of}
use Rattle.conn_blocks.specs.Orders.{IsWhole, numbers_from, settle}
use Rattle.ring_quotas.specs.Quotas.{setting_at}
use Rattle.ring_threads.specs.Served.{HasServed, orders_of}
use Rattle.squeue_run.specs.Asked.{Asked, asked}
use Rattle.squeue_run.specs.GeneratedCapture.{file_header, record_of}
use Rattle.squeue_run.specs.Output.{AreOrders, IsReport, items_alone, told_of}
use Rattle.squeue_run.specs.Ran.{Accepts, HasRan, IsServable}
use Rattle.shell.specs.Reading.{Reads, TakesFew}
use Rattle.shell.specs.Words.{uses_from}
use Rattle.worked_runs.specs.OneSqueue.{setup, block_of, no_trace}
use Rattle.worked_runs.specs.FiveSegments.{records, form, file, plan, no_calls, setting, history, ending, order, served, text, source, out, err}
use Rattle.worked_runs.proofs.Told.{told}
use Rattle.worked_runs.proofs.OneConnection.{is_zero}
use Rattle.worked_runs.proofs.Witness.{Goes, has_served}

-- The capture

header_is : header_answer file.bytes ≡ Ok (form, RawIp)
unfolding header_answer number file_header record_of
header_is = refl

pub header_long : length file_header ≡ 24
unfolding file_header
header_long = refl

size : length file.bytes ≡ 309
unfolding file_header record_of
size = refl

few : length file.bytes ≤ most_bytes
few = omega (arith, size)

pub spelled_by : (bytes : List ℕ) (n : ℕ) → length bytes ≡ 16 + n → named_length form bytes ≡ n → n ≤ 45 → IsSpelling form bytes
spelled_by bytes n long names most = record { header = omega (arith, long); most = omega (arith, names, most); whole = omega (arith, long, names) }

spelled : AllByRecursion (IsSpelling form) records
unfolding record_of number
spelled = (spelled_by _ 40 refl refl (omega arith), (spelled_by _ 40 refl refl (omega arith), (spelled_by _ 45 refl refl (omega arith), (spelled_by _ 40 refl refl (omega arith), (spelled_by _ 40 refl refl (omega arith), tt)))))

split : IsSplit file.bytes form RawIp records []
split = record {
  header = file_header;
  size = header_long;
  whole = ap (λ (l : List ℕ). file_header ++ l) (sym (append-nil (concat records)));
  says = header_is;
  spelled = spelled;
}

is_capture : IsCapture file
is_capture = record {
  small = few;
  captured = record { form = form; pieces = records; rest = []; split = split; ends = (refl, omega arith); named = refl };
}

no_section : BeginsSection file.bytes → ⊥
unfolding file_header
no_section begins = let same : 212 ≡ 10 = ap (λ (l : List ℕ). get_or l 0 0) begins in omega (arith, same)

pub is_input : IsInput file
is_input = inr (no_section, is_capture)

pub plan_is : plan_of file false ≡ plan
unfolding plan_by conns conn_items looked of_conn order_of packet_in ip_place datagram tcp_packet segment_of word long options_in options_read mss_in scale_in number record_of
plan_is = refl

-- What was served

none_of : (j : ℕ) → calls_of no_calls j ≡ []
none_of zero = refl
none_of (suc zero) = refl
none_of (suc (suc zero)) = refl
none_of (suc (suc (suc zero))) = refl
none_of (suc (suc (suc (suc j)))) = refl

whole : IsWhole plan no_calls 0 order
whole = record { feeds = refl; asked = λ j. sym (ap (numbers_from 0 0) (none_of j)) }

settles : order ≡ settle no_calls 0 order
unfolding settle
settles = refl

goes : Goes plan no_calls setting history order
goes = record {
  one = refl;
  stayed = record { starts = refl; one_stay = refl };
  here = refl;
  acts_are = refl;
  settles = settles;
  whole = whole;
  called = λ j k. sym (ap (λ (l : List (ℕ × Call)). option_map_or (λ (x : ℕ × Call). if x.0 == 0 then 1 else 0) (slice_get l k) 0) (none_of j));
}

-- The run

-- what is asked without words
abbrev no_words : Asked
no_words = record { setup = setup; verify = false; number = None; calls = [] }

asked_is : asked [] ≡ Some no_words
unfolding uses_from mode_word
asked_is = refl

differ : false ≡ true → ⊥
differ e = cc e

servable : IsServable file no_words
servable = record { there = tt; marks = λ traced. absurd (differ traced) }

pub same_bytes : file.bytes ≡ file.bytes ++ []
same_bytes = sym (append-nil file.bytes)

pub takes_few : TakesFew source
takes_few = record { bytes = file.bytes; taken = same_bytes; count = omega (arith, size) }

pub reads : Reads source file
reads = record { read = record { taken = same_bytes; ended = refl }; capture = is_input }

pub accepts : Accepts (asked []) (Some file.bytes)
accepts = subst (λ (a : Option Asked). Accepts a (Some file.bytes)) (sym asked_is) (record { file = file; bytes = refl; capture = is_input; servable = servable })

module _ (legal : Legal setting history) (over : IsOver setting (run setting history)) (keeps : KeepsPace 1 0 Mode'.Process 64 0 setting 0 history) (set : setting ≡ setting_at plan no_calls 1 1 0 0)
    (passes : PassesKeep Mode'.Process ending) where
  was_served : HasServed plan no_calls setup served
  was_served = has_served plan no_calls setting history order goes legal over keeps set passes false no_trace refl (block_of plan no_calls order) refl (record { whole = refl; served = refl })

  orders_whole : AreOrders plan no_calls (order ∷ [])
  orders_whole = record { count = refl; whole = λ c lt. subst (λ k. IsWhole plan no_calls k (get_or (order ∷ []) k [])) (sym (is_zero c lt)) whole }

  is_report : IsReport file no_words served text
  is_report = record {
    served = subst (λ (p : PlanOf). HasServed p no_calls setup served) (sym plan_is) was_served;
    whole = subst (λ (p : PlanOf). AreOrders p no_calls (order ∷ [])) (sym plan_is) orders_whole;
    alone = λ none. subst (λ (p : PlanOf). orders_of served ≡ items_alone p) (sym plan_is) refl;
    says = subst (λ (p : PlanOf). text ≡ told_of p no_calls no_words served) (sym plan_is) told;
  }

  pub has_ran : HasRan (asked []) source out err (Some served) status.Ok
  has_ran =
      subst (λ (a : Option Asked). HasRan a source out err (Some served) status.Ok) (sym asked_is)
      (record {
        ran = (
          (refl, takes_few),
          (file, reads, servable, record { served = served; handed = refl; text = text; output = is_report; written = refl; unfailing = refl }, record { bytes = refl; faults = refl }),
        );
        handed = tt;
      })
