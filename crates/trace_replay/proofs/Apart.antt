-- No input has two reasons: each has those before it behind it, and what is read of an input is read in one way.
use Rattle.std.proofs.Common.{◌≡◌, ℕ, ◌+◌, ◌≤◌, ◌<◌, ◌==◌, ◌⊎◌, inl, inr, Bool, true, false, if◌then◌else◌, Some, List, [], ◌∷◌, ◌++◌, length, take, drop, refl, ap, sym, ◌∙◌, subst, append_assoc, arith}
use Rattle.std.specs.Prelude.{codes, slice_get}
use Rattle.std.proofs.lemmas.Bool.{cases_lt, cases_order, eqb-true}
use Rattle.std.proofs.lemmas.List.{append-nil, append_cancel_left, take-append-drop, take-take}
use Rattle.perimeter_core.specs.declared.entries.Act.{Act}
use Rattle.perimeter_core.specs.History.{Element, Setting}
use Rattle.perimeter_core.specs.Legal.{Legal}
use Rattle.perimeter_core.proofs.OneMore.{legal_front}
use Rattle.capture_reader.specs.Outcome.{CaptureFile}
use Rattle.pcapng_reader.proofs.Inputs.{same_input}
use Rattle.histories.specs.Endings.{Ending}
use Rattle.conn_classifier.specs.Plan.{PlanOf, plan_of}
use Rattle.histories.proofs.ListPlaces.{some_at}
use Rattle.ring_quotas.specs.declared.setup.Setup.{Setup}
use Rattle.report_lines.specs.ReportText.{done_line}
use Rattle.report_lines.specs.TraceText.{trace_text}
use Rattle.trace_lines.specs.Printed.{Told, told_text}
use Rattle.trace_replay.specs.declared.reason.Reason.{Reason}
use Rattle.trace_replay.specs.declared.reason.Reason.TheVariants as reason
use Rattle.trace_replay.specs.Reasons.{AllClosed, AllFit, AllLegal, AreFit, AreOrdered, DifferAt, FailsAtLine, FailsAtMark, FailsAtOrder, HasForm, Holds, IsCut, IsIllegalAt, IsRead, IsUnfitAt, MarksFail, Reading, Says, first_marks, histories_in, lines_in}
use Rattle.trace_replay.proofs.Once.{few_conns, fit_front, orders_once}
use Rattle.trace_replay.proofs.FirstLines.{first_once}
use Rattle.trace_replay.proofs.ToldOnce.{told_once}
use Rattle.conn_classifier.specs.Rules.{usual}

-- of two fronts of a list the shorter is a front of the longer
record GoesOn {A : Type 0} (xs ys us vs : List A) : Type 0 where
  mid : List A
  longer : ys ≡ xs ++ mid
  left : us ≡ mid ++ vs

goes_on : {A : Type 0} (xs ys us vs : List A) → xs ++ us ≡ ys ++ vs → length xs ≤ length ys → GoesOn xs ys us vs
goes_on [] ys us vs e n = record { mid = ys; longer = refl; left = e }
goes_on (x ∷ xs) [] us vs e n = absurd (let no : ⊥ = omega (arith, n) in no)
goes_on (x ∷ xs) (y ∷ ys) us vs e n =
    let first : x ≡ y = cc e in
    let others : xs ++ us ≡ ys ++ vs = cc e in
    let r = goes_on xs ys us vs others (omega (arith, n)) in
    record { mid = r.mid; longer = λ i. sym first i ∷ r.longer i; left = r.left }

-- the first line of what ends with a line
record BeginsLine (text : List ℕ) : Type 0 where
  line : List ℕ
  after : List ℕ
  text_is : text ≡ line ++ 10 ∷ after
  one_line : lines_in line ≡ 0

first_line : (m : List ℕ) → BeginsLine (m ++ 10 ∷ [])
first_line [] = record { line = []; after = []; text_is = refl; one_line = refl }
first_line (x ∷ m) = by (x == 10) refl (first_line m)
  where
    by : (b : Bool) → (x == 10) ≡ b → BeginsLine (m ++ 10 ∷ []) → BeginsLine ((x ∷ m) ++ 10 ∷ [])
    by true is r = let ten : x ≡ 10 = eqb-true x 10 is in record { line = []; after = m ++ 10 ∷ []; text_is = λ i. ten i ∷ (m ++ 10 ∷ []); one_line = refl }
    by false is r =
        let rest : lines_in r.line ≡ 0 = r.one_line in
        let none : (if x == 10 then 1 else 0) + lines_in r.line ≡ 0 + lines_in r.line = λ i. (if is i then 1 else 0) + lines_in r.line in
        let left : 0 + lines_in r.line ≡ 0 = omega (arith, rest) in
        record { line = x ∷ r.line; after = r.after; text_is = λ i. x ∷ r.text_is i; one_line = none ∙ left }

-- what a text of lines ends with, behind a front
ends_so : (xs mid front : List ℕ) → xs ++ mid ≡ front ++ 10 ∷ [] → (mid ≡ []) ⊎ ((m : List ℕ) × (mid ≡ m ++ 10 ∷ []))
ends_so [] mid front e = inr (front, e)
ends_so (x ∷ xs) mid (y ∷ front) e = let others : xs ++ mid ≡ front ++ 10 ∷ [] = cc e in ends_so xs mid front others
ends_so (x ∷ xs) mid [] e = let others : xs ++ mid ≡ [] = cc e in inl (no_more xs mid others)
  where
    no_more : (xs mid : List ℕ) → xs ++ mid ≡ [] → mid ≡ []
    no_more [] mid e = e
    no_more (x ∷ xs) mid e = absurd (let no : ⊥ = cc e in no)

-- two texts differ first at one line
same_first : (found right : List ℕ) (n k : ℕ) (a : DifferAt n found right) (b : DifferAt k found right) → length a.same ≤ length b.same → n ≡ k
same_first found right n k a b less =
    let one = goes_on a.same b.same a.found_left b.found_left (sym a.found_is ∙ b.found_is) less in
    let joined : a.same ++ (one.mid ++ b.right_left) ≡ a.same ++ a.right_left = sym (append_assoc a.same one.mid b.right_left) ∙ (ap (λ (l : List ℕ). l ++ b.right_left) (sym one.longer) ∙ (sym b.right_is ∙ a.right_is)) in
    let right_left : a.right_left ≡ one.mid ++ b.right_left = sym (append_cancel_left a.same (one.mid ++ b.right_left) a.right_left joined) in
    let none : one.mid ≡ [] = nothing one.mid one.left right_left (ends_of one.mid one.longer) in
    let same : b.same ≡ a.same = one.longer ∙ (ap (λ (l : List ℕ). a.same ++ l) none ∙ append-nil a.same) in
    a.number ∙ (ap (λ (l : List ℕ). lines_in l + 1) (sym same) ∙ sym b.number)
  where
    ends_of : (mid : List ℕ) → b.same ≡ a.same ++ mid → (mid ≡ []) ⊎ ((m : List ℕ) × (mid ≡ m ++ 10 ∷ []))
    ends_of mid longer =
        elim b.lines [
          | inl none ↦ inl (empty_end a.same mid (sym longer ∙ none))
          | inr some ↦ ends_so a.same mid some.0 (sym longer ∙ some.1)
        ]
      where
        empty_end : (xs mid : List ℕ) → xs ++ mid ≡ [] → mid ≡ []
        empty_end [] mid e = e
        empty_end (x ∷ xs) mid e = absurd (let no : ⊥ = cc e in no)

    nothing : (mid : List ℕ) → a.found_left ≡ mid ++ b.found_left → a.right_left ≡ mid ++ b.right_left → (mid ≡ []) ⊎ ((m : List ℕ) × (mid ≡ m ++ 10 ∷ [])) → mid ≡ []
    nothing mid found_is right_is (inl none) = none
    nothing mid found_is right_is (inr some) =
        let first = first_line some.0 in
        let parts : mid ≡ first.line ++ 10 ∷ first.after = some.1 ∙ first.text_is in
        absurd (a.no_more (record {
          line = first.line;
          found_after = first.after ++ b.found_left;
          right_after = first.after ++ b.right_left;
          found_is = found_is ∙ (ap (λ (l : List ℕ). l ++ b.found_left) parts ∙ append_assoc first.line (10 ∷ first.after) b.found_left);
          right_is = right_is ∙ (ap (λ (l : List ℕ). l ++ b.right_left) parts ∙ append_assoc first.line (10 ∷ first.after) b.right_left);
          one_line = first.one_line;
        }))

one_line : (found right : List ℕ) (n k : ℕ) → DifferAt n found right → DifferAt k found right → n ≡ k
one_line found right n k a b =
    elim (cases_lt (length a.same) (length b.same)) [
      | inl less ↦ same_first found right n k a b (omega (arith, less))
      | inr more ↦ sym (same_first found right k n b a more)
    ]

-- what is read of an input is read in one way
same_cut : (input report rest other more : List ℕ) → IsCut input report rest → IsCut input other more → (report ≡ other) × (rest ≡ more)
same_cut input report rest other more a b =
    let before = first_once done_line input a.before b.before a.first b.first in
    let same : report ≡ other = a.report_is ∙ (ap (λ (l : List ℕ). l ++ done_line) before ∙ sym b.report_is) in
    (same, append_cancel_left other rest more (ap (λ (l : List ℕ). l ++ rest) (sym same) ∙ (sym a.joined ∙ b.joined)))

same_read : (input report other : List ℕ) (file next : CaptureFile) → IsRead input report file → IsRead input other next → (report ≡ other) × (file ≡ next)
same_read input report other file next a b =
    let cut = same_cut input report file.bytes other next.bytes a.cut b.cut in
    (cut.0, same_input next file cut.1 b.capture a.capture)

same_told : (report : List ℕ) (file next : CaptureFile) (t u : Told) → Says report file t → Says report next u → t ≡ u
same_told report file next t u a b =
    let before = first_once (codes "setup ") report a.before b.before a.first b.first in
    let both : b.before ++ told_text t ≡ b.before ++ told_text u = ap (λ (l : List ℕ). l ++ told_text t) (sym before) ∙ (sym a.joined ∙ b.joined) in
    told_once (length (plan_of file t.verify).tuples) (length (plan_of next u.verify).tuples) t u (few_conns file t.verify) (few_conns next u.verify) a.in_range b.in_range
    (append_cancel_left b.before (told_text t) (told_text u) both)

same_form : (input report other : List ℕ) (file next : CaptureFile) (t u : Told) → HasForm input report file t → HasForm input other next u → (report ≡ other) × (file ≡ next) × (t ≡ u)
same_form input report other file next t u a b =
    let read = same_read input report other file next a.read b.read in
    (read.0, read.1, same_told other file next t u (subst (λ (l : List ℕ). Says l file t) read.0 a.says) b.says)

-- what holds of one reading holds of the other
brought : (input : List ℕ) (G H : List ℕ → CaptureFile → Told → Type 0) (a : Reading input G) (b : Reading input H) → H a.report a.file a.told
brought input G H a b =
    let same = same_form input b.report a.report b.file a.file b.told a.told b.form a.form in
    subst (λ (t : Told). H a.report a.file t) same.2 (subst (λ (f : CaptureFile). H a.report f b.told) same.1 (subst (λ (l : List ℕ). H l b.file b.told) same.0 b.holds))

-- the first marks of a legal history are legal
legal_marks : (S : Setting) (n : ℕ) (H : List Element) → Legal S H → Legal S (take n H)
legal_marks S n H l = legal_front S (take n H) (drop n H) (subst (Legal S) (sym (take-append-drop n H)) l)

-- and of a history that fits fit
fit_marks : (setup : Setup) (q n : ℕ) (e : Ending) → AreFit setup q e → AreFit setup q (first_marks n e)
fit_marks setup q n e fit = fit_front setup q e (take n e.history) (drop n e.history) (take-append-drop n e.history) fit

illegal_once : (e : Ending) (n m : ℕ) → IsIllegalAt e n → IsIllegalAt e m → n < m → ⊥
illegal_once e n m a b less =
    a.illegal (subst (Legal e.setting) (take-take (n + 1) m e.history (omega (arith, less))) (legal_marks e.setting (n + 1) (take m e.history) b.before))

unfit_once : (setup : Setup) (q : ℕ) (e : Ending) (n m : ℕ) → IsUnfitAt setup q e n → IsUnfitAt setup q e m → n < m → ⊥
unfit_once setup q e n m a b less =
    a.unfit (subst (λ (H : List Element). AreFit setup q (record e { history = H })) (take-take (n + 1) m e.history (omega (arith, less))) (fit_marks setup q (n + 1) (first_marks m e) b.before))

-- of numbers none of which is below another
equal : (n m : ℕ) → (n < m → ⊥) → (m < n → ⊥) → n ≡ m
equal n m not_less not_more =
    elim (cases_order n m) [
      | inl same ↦ same
      | inr apart ↦ elim apart [
        | inl less ↦ absurd (not_less less)
        | inr more ↦ absurd (not_more more)
      ]
    ]

-- each reason rules out what those behind it need
module _ (setup : Setup) (hs : List Ending) where
  not_legal : (q n : ℕ) → MarksFail setup hs (reason.Illegal q n) → AllLegal hs → ⊥
  not_legal q n (below, (e, at, ill)) all = ill.illegal (legal_marks e.setting (n + 1) e.history (all q e at))

  not_closed : (q : ℕ) → MarksFail setup hs (reason.Open q) → AllClosed hs → ⊥
  not_closed q (legal, below, (e, at, still)) all = still (all q e at)

  not_fit : (q n : ℕ) → MarksFail setup hs (reason.Unfit q n) → AllFit setup hs → ⊥
  not_fit q n (legal, closed, below, (e, at, unfit)) all = unfit.unfit (fit_marks setup q (n + 1) e (all q e at))

  illegal_before : (q n k m : ℕ) → MarksFail setup hs (reason.Illegal q n) → MarksFail setup hs (reason.Illegal k m) → q < k → ⊥
  illegal_before q n k m (below, (e, at, ill)) (before, _) less = ill.illegal (legal_marks e.setting (n + 1) e.history (before q e less at))

  open_before : (q k : ℕ) → MarksFail setup hs (reason.Open q) → MarksFail setup hs (reason.Open k) → q < k → ⊥
  open_before q k (legal, below, (e, at, still)) (_, before, _) less = still (before q e less at)

  unfit_before : (q n k m : ℕ) → MarksFail setup hs (reason.Unfit q n) → MarksFail setup hs (reason.Unfit k m) → q < k → ⊥
  unfit_before q n k m (legal, closed, below, (e, at, unfit)) (_, _, before, _) less = unfit.unfit (fit_marks setup q (n + 1) e (before q e less at))

  same_end : (q k : ℕ) (e f : Ending) → q ≡ k → slice_get hs q ≡ Some e → slice_get hs k ≡ Some f → f ≡ e
  same_end q k e f same at is = cc

  same_illegal : (q n k m : ℕ) → MarksFail setup hs (reason.Illegal q n) → MarksFail setup hs (reason.Illegal k m) → reason.Illegal q n ≡ reason.Illegal k m
  same_illegal q n k m a b =
      let squeue : q ≡ k = equal q k (illegal_before q n k m a b) (illegal_before k m q n b a) in
      let there : IsIllegalAt a.1.0 m = subst (λ (e : Ending). IsIllegalAt e m) (same_end q k a.1.0 b.1.0 squeue a.1.1 b.1.1) b.1.2 in
      let mark : n ≡ m = equal n m (illegal_once a.1.0 n m a.1.2 there) (illegal_once a.1.0 m n there a.1.2) in
      λ i. reason.Illegal (squeue i) (mark i)

  same_open : (q k : ℕ) → MarksFail setup hs (reason.Open q) → MarksFail setup hs (reason.Open k) → reason.Open q ≡ reason.Open k
  same_open q k a b = let squeue : q ≡ k = equal q k (open_before q k a b) (open_before k q b a) in λ i. reason.Open (squeue i)

  same_unfit : (q n k m : ℕ) → MarksFail setup hs (reason.Unfit q n) → MarksFail setup hs (reason.Unfit k m) → reason.Unfit q n ≡ reason.Unfit k m
  same_unfit q n k m (la, ca, ba, (e, at, x)) (lb, cb, bb, (f, is, y)) =
      let squeue : q ≡ k = equal q k (unfit_before q n k m (la, ca, ba, (e, at, x)) (lb, cb, bb, (f, is, y))) (unfit_before k m q n (lb, cb, bb, (f, is, y)) (la, ca, ba, (e, at, x))) in
      let there : IsUnfitAt setup q e m = subst (λ (g : Ending). IsUnfitAt setup q g m) (same_end q k e f squeue at is) (subst (λ (j : ℕ). IsUnfitAt setup j f m) (sym squeue) y) in
      let mark : n ≡ m = equal n m (unfit_once setup q e n m x there) (unfit_once setup q e m n there x) in
      λ i. reason.Unfit (squeue i) (mark i)

-- what fails of what was read, for a reason behind the form
abbrev Fails : Reason → List ℕ → CaptureFile → Told → Type 0
Fails (reason.Order c) report file t = FailsAtOrder c file t
Fails (reason.Text n) report file t = FailsAtLine n report file t
Fails (reason.Illegal q n) report file t = FailsAtMark (reason.Illegal q n) file t
Fails (reason.Open q) report file t = FailsAtMark (reason.Open q) file t
Fails (reason.Unfit q n) report file t = FailsAtMark (reason.Unfit q n) file t
Fails reason.NoReport report file t = ⊥
Fails reason.Capture report file t = ⊥
Fails reason.Form report file t = ⊥

module _ (report : List ℕ) (file : CaptureFile) (t : Told) where
  abbrev hs : List Ending
  hs = histories_in file t

  abbrev p : PlanOf
  p = plan_of file t.verify

  order_before : (c d : ℕ) → FailsAtOrder c file t → FailsAtOrder d file t → c < d → ⊥
  order_before c d a b less = let had = b.unordered.before c less in a.unordered.without had.0 had.1

  not_ordered : (c : ℕ) (orders : List (List Act)) → FailsAtOrder c file t → AreOrdered p t.calls hs orders → ⊥
  not_ordered c orders a ordered =
      let there = a.unordered.there in
      let n = ordered.count in
      let order = some_at orders c (omega (arith, there, n)) in
      a.unordered.without order.0 (ordered.each c order.0 order.1)

  same_order : (c d : ℕ) → FailsAtOrder c file t → FailsAtOrder d file t → reason.Order c ≡ reason.Order d
  same_order c d a b = let conn : c ≡ d = equal c d (order_before c d a b) (order_before d c b a) in λ i. reason.Order (conn i)

  same_text : (n k : ℕ) → FailsAtLine n report file t → FailsAtLine k report file t → reason.Text n ≡ reason.Text k
  same_text n k a b =
      let orders = orders_once p t.calls hs b.orders a.orders b.ordered a.ordered in
      let there : DifferAt k report (trace_text p t.calls t.setup (usual t.verify) a.orders t.marks) =
      subst (λ (os : List (List Act)). DifferAt k report (trace_text p t.calls t.setup (usual t.verify) os t.marks)) orders b.differ in
      let line : n ≡ k = one_line report (trace_text p t.calls t.setup (usual t.verify) a.orders t.marks) n k a.differ there in
      λ i. reason.Text (line i)

  alike : (r s : Reason) → Fails r report file t → Fails s report file t → r ≡ s
  alike (reason.Illegal q n) (reason.Illegal k m) a b = same_illegal t.setup hs q n k m a b
  alike (reason.Illegal q n) (reason.Open k) a b = absurd (not_legal t.setup hs q n a b.0)
  alike (reason.Illegal q n) (reason.Unfit k m) a b = absurd (not_legal t.setup hs q n a b.0)
  alike (reason.Illegal q n) (reason.Order c) a b = absurd (not_legal t.setup hs q n a b.right.legal)
  alike (reason.Illegal q n) (reason.Text l) a b = absurd (not_legal t.setup hs q n a b.right.legal)
  alike (reason.Open q) (reason.Illegal k m) a b = absurd (not_legal t.setup hs k m b a.0)
  alike (reason.Open q) (reason.Open k) a b = same_open t.setup hs q k a b
  alike (reason.Open q) (reason.Unfit k m) a b = absurd (not_closed t.setup hs q a b.1)
  alike (reason.Open q) (reason.Order c) a b = absurd (not_closed t.setup hs q a b.right.closed)
  alike (reason.Open q) (reason.Text l) a b = absurd (not_closed t.setup hs q a b.right.closed)
  alike (reason.Unfit q n) (reason.Illegal k m) a b = absurd (not_legal t.setup hs k m b a.0)
  alike (reason.Unfit q n) (reason.Open k) a b = absurd (not_closed t.setup hs k b a.1)
  alike (reason.Unfit q n) (reason.Unfit k m) a b = same_unfit t.setup hs q n k m a b
  alike (reason.Unfit q n) (reason.Order c) a b = absurd (not_fit t.setup hs q n a b.right.fit)
  alike (reason.Unfit q n) (reason.Text l) a b = absurd (not_fit t.setup hs q n a b.right.fit)
  alike (reason.Order c) (reason.Illegal k m) a b = absurd (not_legal t.setup hs k m b a.right.legal)
  alike (reason.Order c) (reason.Open k) a b = absurd (not_closed t.setup hs k b a.right.closed)
  alike (reason.Order c) (reason.Unfit k m) a b = absurd (not_fit t.setup hs k m b a.right.fit)
  alike (reason.Order c) (reason.Order d) a b = same_order c d a b
  alike (reason.Order c) (reason.Text l) a b = absurd (not_ordered c b.orders a b.ordered)
  alike (reason.Text l) (reason.Illegal k m) a b = absurd (not_legal t.setup hs k m b a.right.legal)
  alike (reason.Text l) (reason.Open k) a b = absurd (not_closed t.setup hs k b a.right.closed)
  alike (reason.Text l) (reason.Unfit k m) a b = absurd (not_fit t.setup hs k m b a.right.fit)
  alike (reason.Text l) (reason.Order c) a b = absurd (not_ordered c a.orders b a.ordered)
  alike (reason.Text l) (reason.Text k) a b = same_text l k a b
  alike reason.NoReport s a b = absurd a
  alike reason.Capture s a b = absurd a
  alike reason.Form s a b = absurd a
  alike (reason.Illegal q n) reason.NoReport a b = absurd b
  alike (reason.Illegal q n) reason.Capture a b = absurd b
  alike (reason.Illegal q n) reason.Form a b = absurd b
  alike (reason.Open q) reason.NoReport a b = absurd b
  alike (reason.Open q) reason.Capture a b = absurd b
  alike (reason.Open q) reason.Form a b = absurd b
  alike (reason.Unfit q n) reason.NoReport a b = absurd b
  alike (reason.Unfit q n) reason.Capture a b = absurd b
  alike (reason.Unfit q n) reason.Form a b = absurd b
  alike (reason.Order c) reason.NoReport a b = absurd b
  alike (reason.Order c) reason.Capture a b = absurd b
  alike (reason.Order c) reason.Form a b = absurd b
  alike (reason.Text l) reason.NoReport a b = absurd b
  alike (reason.Text l) reason.Capture a b = absurd b
  alike (reason.Text l) reason.Form a b = absurd b

-- how far an input gets that has a reason
data Gets (input : List ℕ) (r : Reason) : Type 0 where
  no_report : r ≡ reason.NoReport → Holds reason.NoReport input → Gets input r
  no_capture : r ≡ reason.Capture → Holds reason.Capture input → Gets input r
  no_form : r ≡ reason.Form → Holds reason.Form input → Gets input r
  is_read : Reading input (Fails r) → Gets input r

gets : (input : List ℕ) (r : Reason) → Holds r input → Gets input r
gets input reason.NoReport h = no_report refl h
gets input reason.Capture h = no_capture refl h
gets input reason.Form h = no_form refl h
gets input (reason.Illegal q n) h = is_read h
gets input (reason.Open q) h = is_read h
gets input (reason.Unfit q n) h = is_read h
gets input (reason.Order c) h = is_read h
gets input (reason.Text n) h = is_read h

module _ (input : List ℕ) where
  no_cut : (report rest : List ℕ) → Holds reason.NoReport input → IsCut input report rest → ⊥
  no_cut report rest none cut = none cut.before cut.first.there

  not_read : (report : List ℕ) (file : CaptureFile) → Holds reason.Capture input → IsRead input report file → ⊥
  not_read report file (other, rest, cut, none) read = none file (same_cut input report file.bytes other rest read.cut cut).1 read.capture

  not_said : (report : List ℕ) (file : CaptureFile) (t : Told) → Holds reason.Form input → HasForm input report file t → ⊥
  not_said report file t (other, next, read, none) form =
      let same = same_read input report other file next form.read read in
      none t (subst (λ (f : CaptureFile). Says other f t) same.1 (subst (λ (l : List ℕ). Says l file t) same.0 form.says))

  both : (r s : Reason) → Gets input r → Gets input s → r ≡ s
  both r s (no_report e h) (no_report f k) = e ∙ sym f
  both r s (no_report e h) (no_capture f (report, rest, cut, none)) = absurd (no_cut report rest h cut)
  both r s (no_report e h) (no_form f (report, file, read, none)) = absurd (no_cut report file.bytes h read.cut)
  both r s (no_report e h) (is_read b) = absurd (no_cut b.report b.file.bytes h b.form.read.cut)
  both r s (no_capture e (report, rest, cut, none)) (no_report f k) = absurd (no_cut report rest k cut)
  both r s (no_capture e h) (no_capture f k) = e ∙ sym f
  both r s (no_capture e h) (no_form f (report, file, read, none)) = absurd (not_read report file h read)
  both r s (no_capture e h) (is_read b) = absurd (not_read b.report b.file h b.form.read)
  both r s (no_form e (report, file, read, none)) (no_report f k) = absurd (no_cut report file.bytes k read.cut)
  both r s (no_form e (report, file, read, none)) (no_capture f k) = absurd (not_read report file k read)
  both r s (no_form e h) (no_form f k) = e ∙ sym f
  both r s (no_form e h) (is_read b) = absurd (not_said b.report b.file b.told h b.form)
  both r s (is_read a) (no_report f k) = absurd (no_cut a.report a.file.bytes k a.form.read.cut)
  both r s (is_read a) (no_capture f k) = absurd (not_read a.report a.file k a.form.read)
  both r s (is_read a) (no_form f k) = absurd (not_said a.report a.file a.told k a.form)
  both r s (is_read a) (is_read b) = alike a.report a.file a.told r s a.holds (brought input (Fails r) (Fails s) a b)

-- an input has one reason at most
pub one_reason : (input : List ℕ) (r s : Reason) → Holds r input → Holds s input → r ≡ s
one_reason input r s h k = both input r s (gets input r h) (gets input s k)
