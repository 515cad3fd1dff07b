-- Why a report isn't one, from what is read of its lines; and what all of it says.
use Rattle.std.proofs.Common.{◌≡◌, ◌∙◌, ℕ, suc, ◌+◌, ◌<◌, Bool, Box, true, if◌then◌else◌, codes, List, [], ◌∷◌, ◌++◌, drop, get_or, length, map, Result, Ok, Err, refl, sym, ap, subst, arith}
use Rattle.std.specs.Fmt.{decimal}
use Rattle.std.specs.Prelude.{All, OnOk}
use Rattle.std.specs.declared.alloc.Global.{Global}
use Rattle.std.proofs.lemmas.List.Elements.{All-append, All-cons, All-head, All-nil, All-tail}
use Rattle.std.specs.List.{enumerate_from, flat_map}
use Rattle.std.proofs.lemmas.List.{append_assoc, append_cancel_left, length-map}
use Rattle.std.proofs.lemmas.List.FromFn.{length-enumerate_from}
use Rattle.perimeter_core.specs.declared.entries.Act.{Act}
use Rattle.perimeter_core.specs.declared.marks.Mark.{Mark}
use Rattle.tcb_machine.specs.declared.kinds.Call.{Call}
use Rattle.tcb_machine.specs.declared.kinds.Call.TheVariants as Asks
use Rattle.capture_reader.specs.Outcome.{CaptureFile}
use Rattle.pcapng_reader.specs.Input.{IsInput}
use Rattle.conn_classifier.specs.Plan.{PlanOf, plan_of}
use Rattle.conn_blocks.specs.Allowed.{all_from, named_from}
use Rattle.conn_blocks.specs.CallLists.{CallLists}
use Rattle.conn_blocks.specs.ServeOrder.{BlockOf}
use Rattle.conn_blocks.specs.ServedBlocks.{AreServed, blocks_in}
use Rattle.ring_quotas.specs.declared.setup.Setup.{Setup}
use Rattle.report_lines.specs.ReportText.{body_text, done_line, report_text}
use Rattle.report_lines.specs.TraceText.{asked_text, call_line, calls_text, setup_line, squeue_line, squeue_text, thread_text, trace_text}
use Rattle.squeue_replay.specs.Histories.{ending_of, endings_of}
use Rattle.squeue_replay.specs.Standing.{GuestOf, GuestsStand}
use Rattle.trace_lines.specs.Printed.{ArePrintedCalls, ArePrintedMarks, BeginsWithCall, IsPrintedCall, IsPrintedSetup, IsTold, Told, told_text}
use Rattle.trace_replay.specs.Lines.{HasFirstLine, HasNoLine}
use Rattle.trace_replay.specs.declared.reason.Reason.{Reason}
use Rattle.trace_replay.specs.declared.reason.Reason.TheVariants as reason
use Rattle.trace_replay.specs.Judged.{FailsFor, IsHead, head_of}
use Rattle.trace_replay.specs.Reasons.{DifferAt, HasForm, Holds, IsCut, MarksFail, Says}
use Rattle.trace_replay.specs.Replays.{Replays}
use Rattle.trace_replay.proofs.Answered.{it_replays, not_both}
use Rattle.trace_replay.proofs.Decode.{call_word, setup_back, setup_from, setup_words, verify_back, verify_from, word_decimal}
use Rattle.trace_replay.proofs.FirstLines.{first_line, first_once}
use Rattle.trace_replay.proofs.ReportLines.{head_avoids, no_s}
use Rattle.trace_replay.proofs.TextLines.{whole_differ}
use Rattle.trace_replay.proofs.Words.{AreWords, all_both, in_word, is_word, line_apart}
use Rattle.trace_replay.proofs.ToldOnce.{word_asked, word_mode}
use Rattle.conn_classifier.specs.Rules.{usual}

words_are : (s : Setup) (v : Bool) → AreWords (codes "setup" ∷ setup_words s v)
words_are s v =
    (refl, (refl, (word_decimal s.squeues, (refl, (word_decimal s.rings, (refl, (word_mode s.mode, (refl, (word_decimal s.budget, (refl, (word_decimal s.spread, (refl, (word_decimal (if v then 1 else 0), tt)))))))))))))

-- a setup's line fixes it
pub same_setup : (s t : Setup) (v w : Bool) (r u : List ℕ) → IsPrintedSetup s → IsPrintedSetup t → setup_line s (usual v) ++ r ≡ setup_line t (usual w) ++ u → (s ≡ t) × (v ≡ w) × (r ≡ u)
unfolding setup_line
same_setup s t v w r u a b e =
    let x : (codes "setup" ∷ setup_words s v ≡ codes "setup" ∷ setup_words t w) × (r ≡ u) = line_apart (codes "setup") (codes "setup") (setup_words s v) (setup_words t w) r u (words_are s v) (words_are t w) e in
    let words : setup_words s v ≡ setup_words t w = cc (x.0) in
    (sym (setup_back s v a) ∙ (ap setup_from words ∙ setup_back t w b), sym (verify_back s v) ∙ (ap verify_from words ∙ verify_back t w), x.1)

-- the calls, one after another, each with its thread
abbrev Item : Type 0
Item = ℕ × (ℕ × Call)

abbrev item_text : Item → List ℕ
item_text (j, x) = call_line j x

abbrev items_of_thread : ℕ → List (ℕ × Call) → List Item
items_of_thread j [] = []
items_of_thread j (x ∷ xs) = (j, x) ∷ items_of_thread j xs

abbrev items_from : ℕ → CallLists → List Item
items_from j [] = []
items_from j (xs ∷ rest) = items_of_thread j xs ++ items_from (j + 1) rest

thread_is : (j : ℕ) (xs : List (ℕ × Call)) (more : List Item) → flat_map item_text (items_of_thread j xs ++ more) ≡ thread_text (j, xs) ++ flat_map item_text more
thread_is j [] more = refl
thread_is j (x ∷ xs) more = ap (λ t. call_line j x ++ t) (thread_is j xs more) ∙ sym (append_assoc (call_line j x) (thread_text (j, xs)) (flat_map item_text more))

items_are : (j : ℕ) (calls : CallLists) → flat_map item_text (items_from j calls) ≡ flat_map thread_text (enumerate_from j calls)
items_are j [] = refl
items_are j (xs ∷ rest) = thread_is j xs (items_from (j + 1) rest) ∙ ap (λ t. thread_text (j, xs) ++ t) (items_are (j + 1) rest)

call_is : (j c : ℕ) (a : Call) → is_word (call_word j (c, a)) ≡ true
call_is j c a = all_both in_word (decimal j) (58 ∷ (decimal c ++ 58 ∷ asked_text a)) (word_decimal j) (all_both in_word (decimal c) (58 ∷ asked_text a) (word_decimal c) (word_asked a))

begins_call : (x : Item) (t : List ℕ) → BeginsWithCall (item_text x ++ t)
unfolding call_line
begins_call (j, (c, a)) t = refl

call_apart : (x y : Item) (t u : List ℕ) → item_text x ++ t ≡ item_text y ++ u → t ≡ u
unfolding call_line
call_apart (j, (c, a)) (i, (d, b)) t u e =
    (line_apart (codes "call") (codes "call") (call_word j (c, a) ∷ []) (call_word i (d, b) ∷ []) t u (refl, (call_is j c a, tt)) (refl, (call_is i d b, tt)) e).1

items_apart : (xs ys : List Item) (r u : List ℕ) → (BeginsWithCall r → ⊥) → (BeginsWithCall u → ⊥) → flat_map item_text xs ++ r ≡ flat_map item_text ys ++ u → r ≡ u
items_apart [] [] r u n m e = e
items_apart [] (y ∷ ys) r u n m e = absurd (n (subst BeginsWithCall (sym (e ∙ append_assoc (item_text y) (flat_map item_text ys) u)) (begins_call y (flat_map item_text ys ++ u))))
items_apart (x ∷ xs) [] r u n m e = absurd (m (subst BeginsWithCall (sym (sym e ∙ append_assoc (item_text x) (flat_map item_text xs) r)) (begins_call x (flat_map item_text xs ++ r))))
items_apart (x ∷ xs) (y ∷ ys) r u n m e =
    items_apart xs ys r u n m
    (call_apart x y (flat_map item_text xs ++ r) (flat_map item_text ys ++ u)
    (sym (append_assoc (item_text x) (flat_map item_text xs) r) ∙ (e ∙ append_assoc (item_text y) (flat_map item_text ys) u)))

-- what stands behind calls is the same, however they were read
pub same_rest : (c d : CallLists) (r u : List ℕ) → (BeginsWithCall r → ⊥) → (BeginsWithCall u → ⊥) → calls_text c ++ r ≡ calls_text d ++ u → r ≡ u
same_rest c d r u n m e =
    items_apart (items_from 0 c) (items_from 0 d) r u n m (ap (λ t. t ++ r) (items_are 0 c) ∙ (e ∙ ap (λ t. t ++ u) (sym (items_are 0 d))))

-- the squeues' lines and the last one
abbrev pub marks_text : List (List Mark) → List ℕ
marks_text marks = flat_map squeue_text (enumerate_from 0 marks) ++ done_line

not_call : (marks : List (List Mark)) → BeginsWithCall (marks_text marks) → ⊥
unfolding squeue_line
not_call [] e = let first : 100 ≡ 99 = ap (λ t. get_or t 0 0) e in omega (arith, first)
not_call (ms ∷ rest) e = let first : 115 ≡ 99 = ap (λ t. get_or t 0 0) e in omega (arith, first)

-- the report's lines from the setup on
pub record StartsAt (report head lines : List ℕ) : Type 0 where
  pub first : HasFirstLine (codes "setup ") report head
  pub joined : report ≡ head ++ lines

lines_are : (report head lines : List ℕ) (file : CaptureFile) (told : Told) → StartsAt report head lines → Says report file told → lines ≡ told_text told
lines_are report head lines file told at says =
    let same : says.before ≡ head = first_once (codes "setup ") report says.before head says.first at.first in
    append_cancel_left head lines (told_text told) (sym at.joined ∙ (says.joined ∙ ap (λ t. t ++ told_text told) same))

abbrev pub SaysNone : List ℕ → CaptureFile → Type 0
SaysNone report file = (told : Told) → Says report file told → ⊥

pub no_setup : (report : List ℕ) (file : CaptureFile) → HasNoLine (codes "setup ") report → SaysNone report file
no_setup report file none told says = none says.before says.first.there

pub bad_setup : (report head lines : List ℕ) (file : CaptureFile) → StartsAt report head lines → ((s : Setup) (v : Bool) (rest : List ℕ) → IsPrintedSetup s → lines ≡ setup_line s (usual v) ++ rest → ⊥) → SaysNone report file
bad_setup report head lines file at none told says = none told.setup told.verify (calls_text told.calls ++ marks_text told.marks) says.in_range.setup (lines_are report head lines file told at says)

pub bad_calls : (report head lines rest : List ℕ) (file : CaptureFile) (s : Setup) (v : Bool) (n : ℕ) → StartsAt report head lines → IsPrintedSetup s → lines ≡ setup_line s (usual v) ++ rest → n ≡ length (plan_of file v).tuples
    → ((calls : CallLists) (more : List ℕ) → ArePrintedCalls n calls → (BeginsWithCall more → ⊥) → rest ≡ calls_text calls ++ more → ⊥) → SaysNone report file
bad_calls report head lines rest file s v n at printed joined count none told says =
    let same : (s ≡ told.setup) × (v ≡ told.verify) × (rest ≡ calls_text told.calls ++ marks_text told.marks) =
    same_setup s told.setup v told.verify rest (calls_text told.calls ++ marks_text told.marks) printed says.in_range.setup (sym joined ∙ lines_are report head lines file told at says) in
    let conns : length (plan_of file told.verify).tuples ≡ n = ap (λ w. length (plan_of file w).tuples) (sym same.1) ∙ sym count in
    none told.calls (marks_text told.marks) (subst (λ k. ArePrintedCalls k told.calls) conns says.in_range.calls) (not_call told.marks) same.2

pub bad_marks : (report head lines rest more : List ℕ) (file : CaptureFile) (s : Setup) (v : Bool) (calls : CallLists) → StartsAt report head lines → IsPrintedSetup s → lines ≡ setup_line s (usual v) ++ rest
    → (BeginsWithCall more → ⊥) → rest ≡ calls_text calls ++ more → ((marks : List (List Mark)) → ArePrintedMarks s.squeues marks → more ≡ marks_text marks → ⊥) → SaysNone report file
bad_marks report head lines rest more file s v calls at printed joined ends read none told says =
    let same : (s ≡ told.setup) × (v ≡ told.verify) × (rest ≡ calls_text told.calls ++ marks_text told.marks) =
    same_setup s told.setup v told.verify rest (calls_text told.calls ++ marks_text told.marks) printed says.in_range.setup (sym joined ∙ lines_are report head lines file told at says) in
    let behind : more ≡ marks_text told.marks = same_rest calls told.calls more (marks_text told.marks) ends (not_call told.marks) (sym read ∙ same.2) in
    none told.marks (subst (λ x. ArePrintedMarks x.squeues told.marks) (sym same.0) says.in_range.marks) behind

-- what was read of the lines
abbrev pub told_of : Setup → Bool → CallLists → List (List Mark) → Told
told_of s v calls marks = record { setup = s; verify = v; calls = calls; marks = marks }

pub record HasTold (report head : List ℕ) (p : PlanOf) (t : Told) : Type 0 where
  pub at : StartsAt report head (told_text t)
  pub range : IsTold (length p.tuples) t

pub has_told : (report head lines rest more : List ℕ) (p : PlanOf) (s : Setup) (v : Bool) (calls : CallLists) (marks : List (List Mark)) → StartsAt report head lines → IsPrintedSetup s → lines ≡ setup_line s (usual v) ++ rest
    → ArePrintedCalls (length p.tuples) calls → rest ≡ calls_text calls ++ more → ArePrintedMarks s.squeues marks → more ≡ marks_text marks → HasTold report head p (told_of s v calls marks)
has_told report head lines rest more p s v calls marks at printed joined in_calls read in_marks ends =
    let whole : lines ≡ told_text (told_of s v calls marks) = joined ∙ ap (λ t. setup_line s (usual v) ++ t) (read ∙ ap (λ t. calls_text calls ++ t) ends) in
    record {
      at = subst (StartsAt report head) whole at;
      range = record { setup = printed; calls = in_calls; marks = in_marks };
    }

pub has_form : (report head : List ℕ) (file : CaptureFile) (t : Told) → IsInput file → IsCut (report ++ file.bytes) report file.bytes → HasTold report head (plan_of file t.verify) t → HasForm (report ++ file.bytes) report file t
has_form report head file t capture cut told = record {
  read = record { cut = cut; capture = capture };
  says = record { before = head; first = told.at.first; in_range = told.range; joined = told.at.joined };
}

printed_below : (n : ℕ) (x : ℕ × Call) → IsPrintedCall n x → x.0 < n
printed_below n (c, Asks.Status) h = h
printed_below n (c, Asks.Buffer k) h = h.0
printed_below n (c, Asks.Close) h = h

thread_named : (n j k : ℕ) (l : List (ℕ × Call)) → All (IsPrintedCall n) l → All (λ call. call.0 < n) (named_from j k l)
thread_named n j k [] h = All-nil (λ call. call.0 < n)
thread_named n j k (x ∷ l) h =
    All-cons (λ call. call.0 < n) (x.0, j, k) (named_from j (suc k) l) (printed_below n x (All-head (IsPrintedCall n) x l h)) (thread_named n j (suc k) l (All-tail (IsPrintedCall n) x l h))

-- each call is on a connection that is there
pub calls_named : (n j : ℕ) (calls : CallLists) → All (λ thread. All (IsPrintedCall n) thread) calls → All (λ call. call.0 < n) (all_from j calls)
calls_named n j [] h = All-nil (λ call. call.0 < n)
calls_named n j (l ∷ ls) h =
    All-append (λ call. call.0 < n) (named_from j 0 l) (all_from (suc j) ls) (thread_named n j 0 l (All-head (λ thread. All (IsPrintedCall n) thread) l ls h)) (calls_named n (suc j) ls (All-tail (λ thread. All (IsPrintedCall n) thread) l ls h))

-- where the lines before the setup are those of the report, all of it is
pub trace_is : (report head : List ℕ) (p : PlanOf) (t : Told) (orders : List (List Act)) → HasTold report head p t → head ≡ head_of p t.calls orders → report ≡ trace_text p t.calls t.setup (usual t.verify) orders t.marks
unfolding trace_text
trace_is report head p t orders told same = told.at.joined ∙ ap (λ f. f ++ told_text t) same ∙ append_assoc (codes "report 2\n") (body_text p t.calls orders) (told_text t)

-- the orders of the blocks in these boxes
abbrev pub orders_in : List (Box BlockOf Global) → List (List Act)
orders_in boxes = map (λ b. b.order) (blocks_in boxes)

-- a report of the boxes of a slice is one of those that the slice shows
pub reported_as : (p : PlanOf) (calls : CallLists) (shown boxes : List (Box BlockOf Global)) (text : List ℕ) → shown ≡ boxes → AreServed p calls (blocks_in boxes)
    → (AreServed p calls (blocks_in shown) → text ≡ report_text p calls (orders_in shown)) → text ≡ report_text p calls (orders_in boxes)
reported_as p calls shown boxes text same served told =
    told (subst (λ (l : List (Box BlockOf Global)). AreServed p calls (blocks_in l)) (sym same) served)
    ∙ ap (λ (l : List (Box BlockOf Global)). report_text p calls (orders_in l)) same

pub report_is : (p : PlanOf) (calls : CallLists) (orders : List (List Act)) → report_text p calls orders ≡ codes "report 1\n" ++ (body_text p calls orders ++ codes "done\n")
unfolding report_text
report_is p calls orders = refl

setup_begins : (t : Told) → (more : List ℕ) × (told_text t ≡ codes "setup " ++ more)
unfolding setup_line
setup_begins t = (drop 6 (told_text t), refl)

-- and where they differ from them, all of it does
trace_differs : (n : ℕ) (report head : List ℕ) (p : PlanOf) (t : Told) (orders : List (List Act)) → HasTold report head p t → DifferAt n head (head_of p t.calls orders)
    → DifferAt n report (head_of p t.calls orders ++ told_text t)
trace_differs n report head p t orders told d =
    let word = codes "setup " in
    let begins = setup_begins t in
    let right = head_of p t.calls orders in
    let first : HasFirstLine word (right ++ told_text t) right = subst (λ x. HasFirstLine word (right ++ x) right) (sym begins.1) (first_line 115 (codes "etup ") right begins.0 (head_avoids 115 no_s p t.calls orders)) in
    let there : HasFirstLine word (head ++ told_text t) head = subst (λ x. HasFirstLine word x head) told.at.joined told.at.first in
    subst (λ x. DifferAt n x (right ++ told_text t)) (sym told.at.joined) (whole_differ n word begins.0 head right (told_text t) refl there first begins.1 d)

whole_is : (p : PlanOf) (t : Told) (orders : List (List Act)) → head_of p t.calls orders ++ told_text t ≡ trace_text p t.calls t.setup (usual t.verify) orders t.marks
unfolding trace_text
whole_is p t orders = append_assoc (codes "report 2\n") (body_text p t.calls orders) (told_text t)

-- there are guests of each squeue
pub guests_count : {A : Type 0} (f : A → List GuestOf) (p : PlanOf) (calls : CallLists) (s : Setup) (marks : List (List Mark)) (gs : List A) → GuestsStand (endings_of p calls s marks) (map f gs) → length marks ≡ s.squeues → length gs ≡ s.squeues
guests_count f p calls s marks gs stand count =
    sym (length-map gs f) ∙ (stand.count ∙ (length-map (enumerate_from 0 marks) (ending_of p calls s) ∙ (length-enumerate_from 0 marks ∙ count)))

-- a reason for which marks fail is one for all of what was read
pub marks_fail_for : (p : PlanOf) (calls : CallLists) (s : Setup) (marks : List (List Mark)) (head : List ℕ) (r : Reason) → MarksFail s (endings_of p calls s marks) r → FailsFor p calls s marks head r
marks_fail_for p calls s marks head reason.NoReport h = h
marks_fail_for p calls s marks head reason.Capture h = h
marks_fail_for p calls s marks head reason.Form h = h
marks_fail_for p calls s marks head (reason.Illegal q n) h = h
marks_fail_for p calls s marks head (reason.Open q) h = h
marks_fail_for p calls s marks head (reason.Unfit q n) h = h
marks_fail_for p calls s marks head (reason.Order c) h = absurd h
marks_fail_for p calls s marks head (reason.Text n) h = absurd h

pub form_fails : (r : Reason) (report : List ℕ) (file : CaptureFile) → IsInput file → IsCut (report ++ file.bytes) report file.bytes → SaysNone report file → reason.Form ≡ r → Holds r (report ++ file.bytes)
form_fails r report file capture cut none is = subst (λ x. Holds x (report ++ file.bytes)) is (report, file, record { cut = cut; capture = capture }, none)

-- a reason for which what was read fails holds of the input
pub fails_for : (r : Reason) (report head : List ℕ) (file : CaptureFile) (t : Told) → HasForm (report ++ file.bytes) report file t → HasTold report head (plan_of file t.verify) t
    → FailsFor (plan_of file t.verify) t.calls t.setup t.marks head r → Holds r (report ++ file.bytes)
fails_for reason.NoReport report head file t form told h = absurd h
fails_for reason.Capture report head file t form told h = absurd h
fails_for reason.Form report head file t form told h = absurd h
fails_for (reason.Illegal q n) report head file t form told h = record { report = report; file = file; told = t; form = form; holds = h }
fails_for (reason.Open q) report head file t form told h = record { report = report; file = file; told = t; form = form; holds = h }
fails_for (reason.Unfit q n) report head file t form told h = record { report = report; file = file; told = t; form = form; holds = h }
fails_for (reason.Order c) report head file t form told h = record { report = report; file = file; told = t; form = form; holds = record { right = h.0; unordered = h.1 } }
fails_for (reason.Text n) report head file t form told h = record {
  report = report;
  file = file;
  told = t;
  form = form;
  holds = record {
    right = h.right;
    orders = h.orders;
    ordered = h.ordered;
    differ = subst (DifferAt n report) (whole_is (plan_of file t.verify) t h.orders) (trace_differs n report head (plan_of file t.verify) t h.orders told h.differ);
  };
}

pub is_head : (report head : List ℕ) (file : CaptureFile) (t : Told) → HasForm (report ++ file.bytes) report file t → HasTold report head (plan_of file t.verify) t
    → IsHead (plan_of file t.verify) t.calls t.setup t.marks head → Replays (report ++ file.bytes)
is_head report head file t form told h =
    it_replays (report ++ file.bytes) report file t h.orders form h.right h.ordered (trace_is report head (plan_of file t.verify) t h.orders told h.same)

-- all lines of the report are read
pub record AllRead (report head : List ℕ) (file : CaptureFile) (t : Told) : Type 0 where
  pub form : HasForm (report ++ file.bytes) report file t
  pub told : HasTold report head (plan_of file t.verify) t

pub all_read : (report head lines rest more : List ℕ) (file : CaptureFile) (s : Setup) (v : Bool) (n : ℕ) (calls : CallLists) (marks : List (List Mark)) → IsInput file → IsCut (report ++ file.bytes) report file.bytes
    → StartsAt report head lines → IsPrintedSetup s → lines ≡ setup_line s (usual v) ++ rest → n ≡ length (plan_of file v).tuples → ArePrintedCalls n calls → rest ≡ calls_text calls ++ more
    → ArePrintedMarks s.squeues marks → more ≡ marks_text marks → AllRead report head file (told_of s v calls marks)
all_read report head lines rest more file s v n calls marks capture cut at printed joined count in_calls read in_marks ends =
    let told = has_told report head lines rest more (plan_of file v) s v calls marks at printed joined (subst (λ k. ArePrintedCalls k calls) count in_calls) read in_marks ends in
    record { form = has_form report head file (told_of s v calls marks) capture cut told; told = told }

pub yes_for : (report head front : List ℕ) (file : CaptureFile) (p : PlanOf) (t : Told) → AllRead report head file t → p ≡ plan_of file t.verify → front ≡ head → IsHead p t.calls t.setup t.marks front → Replays (report ++ file.bytes)
yes_for report head front file p t read planned same h =
    is_head report head file t read.form read.told (subst (IsHead (plan_of file t.verify) t.calls t.setup t.marks) same (subst (λ q. IsHead q t.calls t.setup t.marks front) planned h))

pub no_for : (r : Reason) (report head front : List ℕ) (file : CaptureFile) (p : PlanOf) (t : Told) → AllRead report head file t → p ≡ plan_of file t.verify → front ≡ head → FailsFor p t.calls t.setup t.marks front r → Holds r (report ++ file.bytes)
no_for r report head front file p t read planned same h =
    fails_for r report head file t read.form read.told (subst (λ f. FailsFor (plan_of file t.verify) t.calls t.setup t.marks f r) same (subst (λ q. FailsFor q t.calls t.setup t.marks front r) planned h))

pub on_ok : {T E : Type 0} {P Q : Type 0} (r : Result T E) → (P → Q) → OnOk r P → OnOk r Q
on_ok (Ok x) f h = f h
on_ok (Err e) f h = tt

-- with a reason that holds of it an input doesn't replay
pub and_not : (r : Reason) (input : List ℕ) → Holds r input → Holds r input × (Replays input → ⊥)
and_not r input h = (h, not_both r input h)

pub no_capture_behind : (r : Reason) (input report rest : List ℕ) → IsCut input report rest → (r ≡ reason.Capture) × ((file : CaptureFile) → file.bytes ≡ rest → IsInput file → ⊥) → Holds r input × (Replays input → ⊥)
no_capture_behind r input report rest cut h = and_not r input (subst (λ x. Holds x input) (sym h.0) (report, rest, cut, h.1))

pub whole_input : (r : Reason) (input report rest text bytes : List ℕ) → IsCut input report rest → text ≡ report → bytes ≡ rest → Holds r (text ++ bytes) → Holds r input × (Replays input → ⊥)
whole_input r input report rest text bytes cut front back h =
    and_not r input (subst (Holds r) (ap (λ t. t ++ bytes) front ∙ (ap (λ t. report ++ t) back ∙ sym cut.joined)) h)
