-- Each reason why an input doesn't replay rules out that it does; and what is right and gives the report's text replays.
use Rattle.std.proofs.Common.{◌≡◌, ℕ, ◌+◌, Bool, true, List, [], ◌∷◌, ◌++◌, length, take, drop, refl, ap, sym, ◌∙◌, subst, append_assoc, arith}
use Rattle.std.specs.Prelude.{codes}
use Rattle.std.specs.List.{enumerate_from, flat_map}
use Rattle.std.proofs.lemmas.List.{append_cancel_left, take-append-drop}
use Rattle.perimeter_core.specs.declared.entries.Act.{Act}
use Rattle.perimeter_core.specs.declared.marks.Mark.{Mark}
use Rattle.perimeter_core.specs.Legal.{Legal}
use Rattle.perimeter_core.proofs.OneMore.{legal_front}
use Rattle.capture_reader.specs.Outcome.{CaptureFile}
use Rattle.pcapng_reader.proofs.Inputs.{same_input}
use Rattle.histories.specs.Endings.{Ending}
use Rattle.conn_classifier.specs.Plan.{PlanOf, plan_of}
use Rattle.conn_blocks.specs.CallLists.{CallLists}
use Rattle.ring_quotas.specs.declared.setup.Setup.{Setup}
use Rattle.report_lines.specs.ReportText.{body_text, done_line, line}
use Rattle.report_lines.specs.TraceText.{calls_text, setup_line, squeue_text, trace_text}
use Rattle.trace_lines.specs.Printed.{Told, told_text}
use Rattle.histories.proofs.ListPlaces.{some_at}
use Rattle.trace_replay.specs.Lines.{HasFirstLine}
use Rattle.trace_replay.specs.declared.reason.Reason.{Reason}
use Rattle.trace_replay.specs.declared.reason.Reason.TheVariants as reason
use Rattle.trace_replay.specs.Reasons.{AreOrdered, AreRight, FailsAtLine, FailsAtMark, FailsAtOrder, HasForm, Holds, IsCut, MarksFail, Reading, Says, histories_in}
use Rattle.trace_replay.specs.Replays.{Replays}
use Rattle.trace_replay.proofs.Once.{few_conns, fit_front, orders_once}
use Rattle.trace_replay.proofs.FirstLines.{avoids_both, first_line, first_once}
use Rattle.trace_replay.proofs.FitsFromRight.{fits_from_right}
use Rattle.trace_replay.proofs.ReportLines.{head_avoids, head_text, no_d, no_s, told_avoids, told_front}
use Rattle.trace_replay.proofs.RightFromFits.{right_from_fits}
use Rattle.trace_replay.proofs.ToldOnce.{told_once}
use Rattle.conn_classifier.specs.Rules.{usual}

-- the text of a report with marks, in its parts
module _ (p : PlanOf) (calls : CallLists) (setup : Setup) (verify : Bool) (orders : List (List Act)) (marks : List (List Mark)) where
  abbrev told : Told
  told = record { setup = setup; verify = verify; calls = calls; marks = marks }

  abbrev whole : List ℕ
  whole = trace_text p calls setup (usual verify) orders marks

  abbrev pub head : List ℕ
  head = head_text p calls orders

  pub in_parts : whole ≡ head ++ told_text told
  unfolding trace_text
  in_parts = sym (append_assoc (line (codes "report" ∷ codes "2" ∷ [])) (body_text p calls orders) (told_text told))

  abbrev front : List ℕ
  front = head ++ told_front setup verify calls marks

  up_to_done : whole ≡ front ++ done_line
  up_to_done =
      in_parts
      ∙ (ap (λ (l : List ℕ). head ++ l)
      (ap (λ (l : List ℕ). setup_line setup (usual verify) ++ l) (sym (append_assoc (calls_text calls) (flat_map squeue_text (enumerate_from 0 marks)) done_line))
      ∙ sym (append_assoc (setup_line setup (usual verify)) (calls_text calls ++ flat_map squeue_text (enumerate_from 0 marks)) done_line))
      ∙ sym (append_assoc head (told_front setup verify calls marks) done_line))

  -- its first line `done` is its last one, whatever stands behind it
  pub first_done : (rest : List ℕ) → HasFirstLine done_line (whole ++ rest) front
  first_done rest =
      let at : HasFirstLine done_line (front ++ (done_line ++ rest)) front =
      first_line 100 (codes "one" ++ 10 ∷ []) front rest (avoids_both 100 true head (told_front setup verify calls marks) (head_avoids 100 no_d p calls orders) (told_avoids setup verify calls marks)) in
      subst (λ (text : List ℕ). HasFirstLine done_line text front) (sym (append_assoc front done_line rest) ∙ ap (λ (l : List ℕ). l ++ rest) (sym up_to_done)) at

  setup_begins : (after : List ℕ) × (setup_line setup (usual verify) ≡ codes "setup " ++ after)
  unfolding setup_line
  setup_begins = (_, refl)

  -- its first line that begins with `setup ` is the setup's
  pub first_setup : HasFirstLine (codes "setup ") whole head
  first_setup =
      let s = setup_begins in
      let rest : List ℕ = calls_text calls ++ (flat_map squeue_text (enumerate_from 0 marks) ++ done_line) in
      let at : HasFirstLine (codes "setup ") (head ++ (codes "setup " ++ (s.0 ++ rest))) head = first_line 115 (codes "etup ") head (s.0 ++ rest) (head_avoids 115 no_s p calls orders) in
      let is : told_text told ≡ codes "setup " ++ (s.0 ++ rest) = ap (λ (l : List ℕ). l ++ rest) s.1 ∙ append_assoc (codes "setup ") s.0 rest in
      subst (λ (text : List ℕ). HasFirstLine (codes "setup ") text head) (ap (λ (l : List ℕ). head ++ l) (sym is) ∙ sym in_parts) at

-- what was read of an input that replays is what it was made of
record SameReading (input report : List ℕ) (file : CaptureFile) (t : Told) (r : Replays input) : Type 0 where
  text : report ≡ trace_text (plan_of r.file r.told.verify) r.told.calls r.told.setup (usual r.told.verify) r.orders r.told.marks
  its_file : file ≡ r.file
  its_told : t ≡ r.told

module _ (input : List ℕ) (r : Replays input) where
  abbrev p : PlanOf
  p = plan_of r.file r.told.verify

  abbrev t : Told
  t = r.told

  abbrev text : List ℕ
  text = trace_text p t.calls t.setup (usual t.verify) r.orders t.marks

  cut_first : HasFirstLine done_line input (front p t.calls t.setup t.verify r.orders t.marks)
  cut_first = subst (λ (l : List ℕ). HasFirstLine done_line l (front p t.calls t.setup t.verify r.orders t.marks)) (sym r.joined) (first_done p t.calls t.setup t.verify r.orders t.marks r.file.bytes)

  same_cut : (report rest : List ℕ) → IsCut input report rest → (report ≡ text) × (rest ≡ r.file.bytes)
  same_cut report rest cut =
      let before = first_once done_line input cut.before (front p t.calls t.setup t.verify r.orders t.marks) cut.first cut_first in
      let is : report ≡ text = cut.report_is ∙ (ap (λ (l : List ℕ). l ++ done_line) before ∙ sym (up_to_done p t.calls t.setup t.verify r.orders t.marks)) in
      (is, append_cancel_left text rest r.file.bytes (ap (λ (l : List ℕ). l ++ rest) (sym is) ∙ (sym cut.joined ∙ r.joined)))

  same_reading : (report : List ℕ) (file : CaptureFile) (u : Told) → HasForm input report file u → SameReading input report file u r
  same_reading report file u form =
      let cut = same_cut report file.bytes form.read.cut in
      let says = form.says in
      let its_file = same_input r.file file cut.1 r.capture form.read.capture in
      let first = subst (λ (l : List ℕ). HasFirstLine (codes "setup ") l says.before) cut.0 says.first in
      let before = first_once (codes "setup ") text says.before (head p t.calls t.setup t.verify r.orders t.marks) first (first_setup p t.calls t.setup t.verify r.orders t.marks) in
      let both : head p t.calls t.setup t.verify r.orders t.marks ++ told_text u ≡ head p t.calls t.setup t.verify r.orders t.marks ++ told_text t =
      ap (λ (l : List ℕ). l ++ told_text u) (sym before) ∙ (sym says.joined ∙ (cut.0 ∙ in_parts p t.calls t.setup t.verify r.orders t.marks)) in
      let same = append_cancel_left (head p t.calls t.setup t.verify r.orders t.marks) (told_text u) (told_text t) both in
      record {
        text = cut.0;
        its_file = its_file;
        its_told = told_once (length (plan_of file u.verify).tuples) (length p.tuples) u t (few_conns file u.verify) (few_conns r.file t.verify) says.in_range r.in_range same;
      }

  -- it has this form
  says_so : (report : List ℕ) (file : CaptureFile) → report ≡ text → file ≡ r.file → Says report file t
  says_so report file is same =
      subst (λ (l : List ℕ). Says l file t) (sym is)
      (subst (λ (f : CaptureFile). Says text f t) (sym same) (record {
        before = head p t.calls t.setup t.verify r.orders t.marks;
        first = first_setup p t.calls t.setup t.verify r.orders t.marks;
        in_range = r.in_range;
        joined = in_parts p t.calls t.setup t.verify r.orders t.marks;
      }))

  right : AreRight t.setup (histories_in r.file t) × AreOrdered p t.calls (histories_in r.file t) r.orders
  right = right_from_fits p t.calls t.setup t.marks r.histories r.orders r.in_range.setup.range r.marks r.count r.fits

-- marks that are right fail for no reason
marks_right : (setup : Setup) (hs : List Ending) (r : Reason) → MarksFail setup hs r → AreRight setup hs → ⊥
marks_right setup hs (reason.Illegal q n) (below, (e, at, ill)) is_right =
    ill.illegal (legal_front e.setting (take (n + 1) e.history) (drop (n + 1) e.history) (subst (Legal e.setting) (sym (take-append-drop (n + 1) e.history)) (is_right.legal q e at)))
marks_right setup hs (reason.Open q) (legal, below, (e, at, stays_open)) is_right = stays_open (is_right.closed q e at)
marks_right setup hs (reason.Unfit q n) (legal, closed, below, (e, at, unfit)) is_right =
    unfit.unfit (fit_front setup q e (take (n + 1) e.history) (drop (n + 1) e.history) (take-append-drop (n + 1) e.history) (is_right.fit q e at))
marks_right setup hs reason.NoReport fails is_right = fails
marks_right setup hs reason.Capture fails is_right = fails
marks_right setup hs reason.Form fails is_right = fails
marks_right setup hs (reason.Order c) fails is_right = fails
marks_right setup hs (reason.Text n) fails is_right = fails

module _ (input : List ℕ) (r : Replays input) where
  no_mark_fails : (x : Reason) → Reading input (λ _. FailsAtMark x) → ⊥
  no_mark_fails x reading =
      let same = same_reading input r reading.report reading.file reading.told reading.form in
      let here : FailsAtMark x r.file r.told = subst (λ (u : Told). FailsAtMark x r.file u) same.its_told (subst (λ (f : CaptureFile). FailsAtMark x f reading.told) same.its_file reading.holds) in
      marks_right r.told.setup (histories_in r.file r.told) x here (right input r).0

  no_order_fails : (c : ℕ) → Reading input (λ _. FailsAtOrder c) → ⊥
  no_order_fails c reading =
      let same = same_reading input r reading.report reading.file reading.told reading.form in
      let here : FailsAtOrder c r.file r.told = subst (λ (u : Told). FailsAtOrder c r.file u) same.its_told (subst (λ (f : CaptureFile). FailsAtOrder c f reading.told) same.its_file reading.holds) in
      let ordered = (right input r).1 in
      let there = here.unordered.there in
      let order = some_at r.orders c (let n = ordered.count in omega (arith, there, n)) in
      here.unordered.without order.0 (ordered.each c order.0 order.1)

  no_line_fails : (n : ℕ) → Reading input (FailsAtLine n) → ⊥
  no_line_fails n reading =
      let same = same_reading input r reading.report reading.file reading.told reading.form in
      let here : FailsAtLine n reading.report r.file r.told = subst (λ (u : Told). FailsAtLine n reading.report r.file u) same.its_told (subst (λ (f : CaptureFile). FailsAtLine n reading.report f reading.told) same.its_file reading.holds) in
      let orders = orders_once (plan_of r.file r.told.verify) r.told.calls (histories_in r.file r.told) r.orders here.orders (right input r).1 here.ordered in
      let d = here.differ in
      let texts = same.text ∙ ap (λ (orders : List (List Act)). trace_text (plan_of r.file r.told.verify) r.told.calls r.told.setup (usual r.told.verify) orders r.told.marks) orders in
      d.differ (append_cancel_left d.same d.found_left d.right_left (sym d.found_is ∙ (texts ∙ d.right_is)))

pub not_both : (x : Reason) (input : List ℕ) → Holds x input → Replays input → ⊥
not_both reason.NoReport input none r = none (front (plan_of r.file r.told.verify) r.told.calls r.told.setup r.told.verify r.orders r.told.marks) (cut_first input r).there
not_both reason.Capture input (report, rest, cut, none) r = none r.file (sym (same_cut input r report rest cut).1) r.capture
not_both reason.Form input (report, file, read, none) r =
    let cut = same_cut input r report file.bytes read.cut in
    none r.told (says_so input r report file cut.0 (same_input r.file file cut.1 r.capture read.capture))
not_both (reason.Illegal q n) input holds r = no_mark_fails input r (reason.Illegal q n) holds
not_both (reason.Open q) input holds r = no_mark_fails input r (reason.Open q) holds
not_both (reason.Unfit q n) input holds r = no_mark_fails input r (reason.Unfit q n) holds
not_both (reason.Order c) input holds r = no_order_fails input r c holds
not_both (reason.Text n) input holds r = no_line_fails input r n holds

pub it_replays : (input report : List ℕ) (file : CaptureFile) (t : Told) (orders : List (List Act)) → HasForm input report file t → AreRight t.setup (histories_in file t)
    → AreOrdered (plan_of file t.verify) t.calls (histories_in file t) orders
    → report ≡ trace_text (plan_of file t.verify) t.calls t.setup (usual t.verify) orders t.marks → Replays input
it_replays input report file t orders form right ordered text =
    let range = form.says.in_range in
    let fitting = fits_from_right (plan_of file t.verify) t.calls t.setup t.marks orders range.setup.range range.marks.count right ordered in
    record {
      file = file;
      capture = form.read.capture;
      told = t;
      in_range = range;
      histories = fitting.histories;
      marks = fitting.marks_are;
      orders = orders;
      count = ordered.count;
      fits = fitting.fits;
      joined = form.read.cut.joined ∙ ap (λ (l : List ℕ). l ++ file.bytes) text;
    }
