-- What was served with its marks kept is reported by a text that replays, where the setup and the calls are such as lines can say, and the marks are within the limit.
use Rattle.std.proofs.Common.{◌≡◌, ◌∙◌, ℕ, suc, ◌+◌, ◌*◌, ◌^◌, ◌<◌, ◌≤◌, Some, List, [], ◌∷◌, ◌++◌, length, map, refl, subst, sym, arith}
use Rattle.std.specs.Prelude.{All, Bool, slice_get, slice_index}
use Rattle.std.proofs.lemmas.List.{length-map}
use Rattle.std.proofs.lemmas.List.Elements.{All-append, All-cons, All-contains, All-map, All-nil, All-weaker}
use Rattle.std.proofs.lemmas.List.FromFn.{get_or-map-range_with_len}
use Rattle.perimeter_core.specs.declared.marks.Mark.{Mark}
use Rattle.perimeter_core.specs.History.{Setting, all_quotas, passes}
use Rattle.perimeter_core.proofs.HistoryLength.{length_bounded}
use Rattle.histories.specs.Endings.{Ending}
use Rattle.capture_reader.specs.Outcome.{CaptureFile}
use Rattle.tcb_machine.specs.declared.kinds.Call.{Call}
use Rattle.conn_classifier.specs.Connections.{decoded}
use Rattle.conn_classifier.specs.Plan.{PlanOf, items_in, plan_by, plan_of}
use Rattle.conn_classifier.specs.Rules.{usual}
use Rattle.conn_classifier.specs.Rules.{usual_ports}
use Rattle.conn_classifier.proofs.PlanLaw.{few_conns}
use Rattle.conn_blocks.specs.Allowed.{all_calls, all_from, feed_limits, named_from}
use Rattle.conn_blocks.specs.CallLists.{CallLists, call_count}
use Rattle.ring_quotas.specs.declared.setup.Setup.{Setup}
use Rattle.ring_quotas.specs.Quotas.{marks_most, setting_at}
use Rattle.ring_quotas.specs.Fits.{HistoryFits}
use Rattle.ring_threads.specs.Served.{HasServed, ServedOf, orders_of}
use Rattle.squeue_replay.specs.Marks.{IsPrinted}
use Rattle.squeue_replay.proofs.SettingFacts.{conns_are, worker_is}
use Rattle.report_lines.specs.TraceText.{trace_text}
use Rattle.squeue_run.specs.Output.{histories_of}
use Rattle.squeue_run.specs.Limits.{most_marks}
use Rattle.trace_lines.specs.Printed.{ArePrintedCalls, IsPrintedSetup}
use Rattle.pcapng_reader.specs.Input.{IsInput}
use Rattle.trace_replay.specs.Replays.{Replays}
use Rattle.replay_law.proofs.FewItems.{few_items, few_marks}
use Rattle.replay_law.proofs.Served.{marks_in}
use Rattle.replay_law.proofs.SuchMarks.{IsSmallSetting, marks_said}

few_tuples : (file : CaptureFile) (verify : Bool) → length (plan_of file verify).tuples ≤ 4096
unfolding plan_by
few_tuples file verify = few_conns usual_ports (decoded file verify)

-- a call's thread and number are small
abbrev IsFew : ℕ × ℕ × ℕ → Type 0
IsFew call = (call.1 < 2 ^ 32) × (call.2 < 2 ^ 32)

named_few : (j k : ℕ) (l : List (ℕ × Call)) → j < 2 ^ 32 → k + length l ≤ 2 ^ 32 → All IsFew (named_from j k l)
named_few j k [] thread few = All-nil IsFew
named_few j k (x ∷ l) thread few = All-cons IsFew (x.0, j, k) (named_from j (suc k) l) (thread, omega (arith, few)) (named_few j (suc k) l thread (omega (arith, few)))

calls_few : (j : ℕ) (ls : CallLists) → j + length ls ≤ 2 ^ 32 → call_count ls ≤ 2 ^ 32 → All IsFew (all_from j ls)
calls_few j [] threads few = All-nil IsFew
calls_few j (l ∷ ls) threads few =
    All-append IsFew (named_from j 0 l) (all_from (suc j) ls) (named_few j 0 l (omega (arith, threads)) (omega (arith, few))) (calls_few (suc j) ls (omega (arith, threads)) (omega (arith, few)))

-- by number
each_of : {X : Type 0} (P : X → Type 0) (xs : List X) → ((q : ℕ) (x : X) → q < length xs → slice_get xs q ≡ Some x → P x) → All P xs
each_of P [] each = All-nil P
each_of P (x ∷ xs) each = All-cons P x xs (each 0 x (omega arith) refl) (each_of P xs (λ q y lt at. each (suc q) y (omega (arith, lt)) at))

-- such as the lines of one squeue can say
abbrev AreSaid : List Mark → Type 0
AreSaid ms = (length ms < 2 ^ 64) × All IsPrinted ms

module _ (p : PlanOf) (calls : CallLists) (s : Setup) (few : length p.tuples ≤ 4096) (setup : IsPrintedSetup s) (printed : ArePrintedCalls (length p.tuples) calls) (most : marks_most p calls s ≤ most_marks) where
  abbrev at : ℕ → Setting
  at q = setting_at p calls s.squeues s.rings s.spread q

  small : (q : ℕ) → q < s.squeues → IsSmallSetting (at q)
  small q lt =
      let marks = few_marks p calls s q lt in
      record {
        pass_count = omega (arith, worker_is p calls s.squeues s.rings s.spread q, setup.range.rings.1);
        conn_count = omega (arith, conns_are p calls s.squeues s.rings s.spread q, few);
        feed_limits = λ c in_range.
            let there : c < length p.tuples = omega (arith, in_range, conns_are p calls s.squeues s.rings s.spread q) in
            let same : slice_index (feed_limits p) c ≡ length (items_in p c) = get_or-map-range_with_len (λ d. length (items_in p d)) 0 (length p.tuples) c c 0 there (omega arith) in
            omega (arith, same, few_items p calls s c setup.range.squeues.0 setup.range.rings.0 there, most);
        call_numbers = λ c j k named. All-contains IsFew (all_calls calls) (c, j, k) (calls_few 0 calls (omega (arith, printed.threads)) (omega (arith, printed.few))) named;
        entry_count = omega (arith, marks, most);
      }

  history_said : (q : ℕ) (e : Ending) → q < s.squeues → HistoryFits p calls s q e → AreSaid (marks_in e)
  history_said q e lt fits =
      let legal = fits.ended.legal in
      let long = length_bounded e.setting e.history legal in
      let long_at : length e.history ≤ 8 * all_quotas (at q).quotas + 4 * passes (at q) = subst (λ (S : Setting). length e.history ≤ 8 * all_quotas S.quotas + 4 * passes S) fits.setting long in (
        omega (arith, length-map e.history (λ m. m.mark), long_at, few_marks p calls s q lt, most),
        marks_said e.setting (subst IsSmallSetting (sym fits.setting) (small q lt)) e.history legal,
      )

  pub histories_said : (v : ServedOf) → HasServed p calls s v → All AreSaid (map marks_in v.ended)
  histories_said v served =
      All-map AreSaid marks_in v.ended (each_of (λ e. AreSaid (marks_in e)) v.ended (λ q e lt is. history_said q e (omega (arith, lt, served.fits.count)) (served.fits.each q e is)))

-- its report replays
pub served_replays : (file : CaptureFile) (verify : Bool) (setup : Setup) (calls : CallLists) (v : ServedOf) → IsInput file → IsPrintedSetup setup → ArePrintedCalls (length (plan_of file verify).tuples) calls
    → marks_most (plan_of file verify) calls setup ≤ most_marks → HasServed (plan_of file verify) calls setup v
    → Replays (trace_text (plan_of file verify) calls setup (usual verify) (orders_of v) (histories_of v) ++ file.bytes)
served_replays file verify setup calls v input said printed most served =
    let all = histories_said (plan_of file verify) calls setup (few_tuples file verify) said printed most v served in
    record {
      file = file;
      capture = input;
      told = record { setup = setup; verify = verify; calls = calls; marks = histories_of v };
      in_range = record {
        setup = said;
        calls = printed;
        marks = record {
          count = length-map v.ended marks_in ∙ served.fits.count;
          few = All-weaker AreSaid (λ ms. length ms < 2 ^ 64) (λ ms h. h.0) (histories_of v) all;
          each = All-weaker AreSaid (All IsPrinted) (λ ms h. h.1) (histories_of v) all;
        };
      };
      histories = v.ended;
      marks = refl;
      orders = orders_of v;
      count = length-map v.blocks (λ b. b.order) ∙ served.served.count;
      fits = served.fits;
      joined = refl;
    }
