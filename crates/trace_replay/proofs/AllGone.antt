-- The marks of one squeue after another are gone through.
use Rattle.std.specs.Option.{option_or}
use Rattle.std.specs.Bool.{then_some}
use Rattle.std.specs.List.{enumerate_from, flat_map}
use Rattle.std.proofs.Common.{◌≡◌, ◌↔◌, ℕ, zero, suc, ◌+◌, ◌<◌, ◌⊎◌, inl, inr, not, All, Bool, true, false, MatchOption, Option, Some, None, List, [], ◌∷◌, ◌++◌, get_or, length, map, option_map, slice_get, refl, ap, sym, ◌∙◌, subst, arith, length-append}
use Rattle.std.proofs.lemmas.Bool.{cases_eq}
use Rattle.std.proofs.lemmas.Option.{get_or_from_slice_get, slice_get_within}
use Rattle.perimeter_core.specs.declared.marks.Mark.{Mark}
use Rattle.perimeter_core.specs.Legal.{Legal}
use Rattle.histories.specs.Endings.{Ending}
use Rattle.conn_classifier.specs.Plan.{PlanOf}
use Rattle.conn_blocks.specs.CallLists.{CallLists}
use Rattle.ring_quotas.specs.declared.setup.Setup.{Setup}
use Rattle.report_lines.specs.TraceText.{mark_line}
use Rattle.squeue_replay.specs.Histories.{ending_of, endings_of}
use Rattle.squeue_replay.specs.Marks.{IsPrinted}
use Rattle.squeue_replay.specs.Standing.{GuestOf, GuestStands, GuestsStand}
use Rattle.trace_lines.specs.Printed.{ArePrintedMarks}
use Rattle.trace_replay.specs.declared.reason.Reason.{Reason}
use Rattle.trace_replay.specs.declared.reason.Reason.TheVariants as reason
use Rattle.trace_replay.specs.Going.{HasGone}
use Rattle.trace_replay.specs.Reasons.{AreFit, AreRight, HasClosed, IsIllegalAt, IsUnfitAt, MarksFail, OfEach, OfEachBelow}

-- ---- by number

get_numbered : {A B : Type 0} (f : ℕ × A → B) (n : ℕ) (xs : List A) (k : ℕ) (x : A) → slice_get xs k ≡ Some x → slice_get (map f (enumerate_from n xs)) k ≡ Some (f (n + k, x))
get_numbered f n [] k x is = cc is
get_numbered {A = A} f n (y ∷ xs) zero x is =
    let same : y ≡ x = cc is in
    let start : n ≡ n + 0 = omega arith in
    ap (λ (z : A). Some (f (n, z))) same ∙ ap (λ (m : ℕ). Some (f (m, x))) start
get_numbered f n (y ∷ xs) (suc k) x is = let next : (n + 1) + k ≡ n + suc k = omega arith in get_numbered f (n + 1) xs k x is ∙ ap (λ (m : ℕ). Some (f (m, x))) next

numbered_length : {A B : Type 0} (f : ℕ × A → B) (n : ℕ) (xs : List A) → length (map f (enumerate_from n xs)) ≡ length xs
numbered_length f n [] = refl
numbered_length f n (x ∷ xs) = ap (λ (m : ℕ). suc m) (numbered_length f (n + 1) xs)

-- the marks of the squeue whose lines stand there
pub record MarksAt (marks : List (List Mark)) (k : ℕ) (lines : List ℕ) : Type 0 where
  pub ms : List Mark
  pub there : slice_get marks k ≡ Some ms
  pub lines_are : lines ≡ flat_map mark_line ms

pub marks_at : {A : Type 0} (now : A → List ℕ) (xs : List A) (marks : List (List Mark)) (k : ℕ) (d : A) → map now xs ≡ map (flat_map mark_line) marks → k < length xs → MarksAt marks k (now (get_or xs k d))
marks_at now [] marks k d is there = absurd (omega (arith, there))
marks_at now (x ∷ xs) [] k d is there = cc is
marks_at now (x ∷ xs) (ms ∷ marks) zero d is there = record { ms = ms; there = refl; lines_are = cc is }
marks_at now (x ∷ xs) (ms ∷ marks) (suc k) d is there =
    let others : map now xs ≡ map (flat_map mark_line) marks = cc is in
    let r = marks_at now xs marks k d others (omega (arith, there)) in
    record { ms = r.ms; there = r.there; lines_are = r.lines_are }

pub printed_at : (n : ℕ) (marks : List (List Mark)) (k : ℕ) (ms : List Mark) → ArePrintedMarks n marks → slice_get marks k ≡ Some ms → All IsPrinted ms
printed_at n marks k ms are there = subst (All IsPrinted) (get_or_from_slice_get marks k ms [] there) (are.each k [] (slice_get_within marks k ms there))

push_get : {A : Type 0} (xs : List A) (y : A) (k : ℕ) (x : A) → slice_get (xs ++ y ∷ []) k ≡ Some x → (slice_get xs k ≡ Some x) ⊎ ((k ≡ length xs) × (x ≡ y))
push_get [] y zero x is = inr (refl, cc is)
push_get [] y (suc k) x is = cc is
push_get (z ∷ xs) y zero x is = inl is
push_get (z ∷ xs) y (suc k) x is = elim (push_get xs y k x is) [ inl h ↦ inl h | inr h ↦ inr (ap (λ (m : ℕ). suc m) h.0, h.1) ]

-- ---- endings

module _ (p : PlanOf) (calls : CallLists) (setup : Setup) (marks : List (List Mark)) where
  abbrev pub hs : List Ending
  hs = endings_of p calls setup marks

  pub ending_at : (k : ℕ) (ms : List Mark) → slice_get marks k ≡ Some ms → slice_get hs k ≡ Some (ending_of p calls setup (k, ms))
  ending_at k ms there = let e : 0 + k ≡ k = omega arith in get_numbered (ending_of p calls setup) 0 marks k ms there ∙ ap (λ (n : ℕ). Some (ending_of p calls setup (n, ms))) e

  many : length hs ≡ length marks
  many = numbered_length (ending_of p calls setup) 0 marks

  abbrev IsOpenAt : ℕ → Type 0
  IsOpenAt k = OfEachBelow k (λ _ e. HasClosed e) hs × ((e : Ending) × (slice_get hs k ≡ Some e) × (HasClosed e → ⊥))

  abbrev IsFirstUnfit : ℕ → ℕ → Type 0
  IsFirstUnfit k n = OfEachBelow k (λ j e. AreFit setup j e) hs × ((e : Ending) × (slice_get hs k ≡ Some e) × IsUnfitAt setup k e n)

  abbrev OpenFor : Reason → Type 0
  OpenFor r = (k : ℕ) × (r ≡ reason.Open k) × IsOpenAt k

  abbrev UnfitFor : Reason → Type 0
  UnfitFor r = (k : ℕ) × (n : ℕ) × (r ≡ reason.Unfit k n) × IsFirstUnfit k n

  -- so many squeues' marks were gone through
  pub record AreGone (i : ℕ) (all : List (List GuestOf)) (open_one unfit : Option Reason) : Type 0 where
    pub legal : OfEachBelow i (λ _ e. Legal e.setting e.history) hs
    pub counted : length all ≡ i
    pub guests : (k : ℕ) (e : Ending) (gs : List GuestOf) → slice_get hs k ≡ Some e → slice_get all k ≡ Some gs → (length gs ≡ length e.setting.starts) × ((c : ℕ) (g : GuestOf) → slice_get gs c ≡ Some g → GuestStands e.setting e.history c g)
    pub closed : MatchOption open_one (OfEachBelow i (λ _ e. HasClosed e) hs) OpenFor
    pub fit : MatchOption unfit (OfEachBelow i (λ k e. AreFit setup k e) hs) UnfitFor

  pub none_gone : AreGone 0 [] None None
  none_gone =
      record {
        legal = λ k e lt. absurd (omega (arith, lt));
        counted = refl;
        guests = λ k e gs there is. cc is;
        closed = λ k e lt. absurd (omega (arith, lt));
        fit = λ k e lt. absurd (omega (arith, lt));
      }

  below_one_more : (P : ℕ → Ending → Type 0) (i : ℕ) (x : Ending) → slice_get hs i ≡ Some x → OfEachBelow i P hs → P i x → OfEachBelow (i + 1) P hs
  below_one_more P i x here before one k e lt is =
      elim (cases_eq k i) [
        | inl last ↦
            let same : x ≡ e = (let h : Some x ≡ Some e = sym here ∙ (ap (slice_get hs) (sym last) ∙ is) in cc h) in
            subst (λ (n : ℕ). P n e) (sym last) (subst (P i) same one)
        | inr other ↦ before k e (omega (arith, lt, other)) is
      ]

  module _ (i : ℕ) (all : List (List GuestOf)) (open_one unfit : Option Reason) (so_far : AreGone i all open_one unfit) (x : Ending) (here : slice_get hs i ≡ Some x) where
    -- its marks aren't legal
    pub stops_at : (n : ℕ) → IsIllegalAt x n → MarksFail setup hs (reason.Illegal i n)
    stops_at n at = (so_far.legal, (x, here, at))

    module _ (gs : List GuestOf) (over : Bool) (broken : Option ℕ) (found : HasGone setup i x gs over broken) where
      closed_more : (o : Option Reason) (b : Bool) → MatchOption o (OfEachBelow i (λ _ e. HasClosed e) hs) OpenFor → (b ≡ true ↔ HasClosed x)
          → MatchOption (option_or o (then_some (not b) (reason.Open i))) (OfEachBelow (i + 1) (λ _ e. HasClosed e) hs) OpenFor
      closed_more (Some r) b was is = was
      closed_more None true was is = below_one_more (λ _ e. HasClosed e) i x here was (is.0 refl)
      closed_more None false was is = (i, refl, (was, (x, here, λ closed. let unlike : false ≡ true = is.1 closed in cc unlike)))

      fit_one_more : (o : Option Reason) (b : Option ℕ) → MatchOption o (OfEachBelow i (λ k e. AreFit setup k e) hs) UnfitFor → MatchOption b (AreFit setup i x) (IsUnfitAt setup i x)
          → MatchOption (option_or o (option_map (λ n. reason.Unfit i n) b)) (OfEachBelow (i + 1) (λ k e. AreFit setup k e) hs) UnfitFor
      fit_one_more (Some r) b was is = was
      fit_one_more None None was is = below_one_more (λ k e. AreFit setup k e) i x here was is
      fit_one_more None (Some n) was is = (i, n, refl, (was, (x, here, is)))

      pub one_gone : AreGone (i + 1) (all ++ gs ∷ []) (option_or open_one (then_some (not over) (reason.Open i))) (option_or unfit (option_map (λ n. reason.Unfit i n) broken))
      one_gone =
          record {
            legal = below_one_more (λ _ e. Legal e.setting e.history) i x here so_far.legal found.legal;
            counted = length-append all (gs ∷ []) ∙ ap (λ (n : ℕ). n + 1) so_far.counted;
            guests = λ k e hs_gs there is.
                elim (push_get all gs k hs_gs is) [
                  | inl h ↦ so_far.guests k e hs_gs there h
                  | inr h ↦
                      let at : k ≡ i = h.0 ∙ so_far.counted in
                      let same : x ≡ e = (let g : Some x ≡ Some e = sym here ∙ (ap (slice_get hs) (sym at) ∙ there) in cc g) in
                      subst (λ (y : Ending). (length hs_gs ≡ length y.setting.starts) × ((c : ℕ) (g : GuestOf) → slice_get hs_gs c ≡ Some g → GuestStands y.setting y.history c g)) same
                      (subst (λ (l : List GuestOf). (length l ≡ length x.setting.starts) × ((c : ℕ) (g : GuestOf) → slice_get l c ≡ Some g → GuestStands x.setting x.history c g)) (sym h.1) (found.count, found.each))
                ];
            closed = closed_more open_one over so_far.closed found.ended;
            fit = fit_one_more unfit broken so_far.fit found.unfit;
          }

  module _ (i : ℕ) (all : List (List GuestOf)) (open_one unfit : Option Reason) (gone : AreGone i all open_one unfit) (whole : i ≡ length marks) where
    of_all : (P : ℕ → Ending → Type 0) → OfEachBelow i P hs → OfEach P hs
    of_all P below k e is = let lt = slice_get_within hs k e is in let so_many = many in below k e (omega (arith, lt, so_many, whole)) is

    pub fails : (r : Reason) → option_or open_one unfit ≡ Some r → MarksFail setup hs r
    fails r is = by open_one unfit gone.closed gone.fit is
      where
        by : (o u : Option Reason) → MatchOption o (OfEachBelow i (λ _ e. HasClosed e) hs) OpenFor → MatchOption u (OfEachBelow i (λ k e. AreFit setup k e) hs) UnfitFor → option_or o u ≡ Some r → MarksFail setup hs r
        by (Some s) u closed fit is =
            let same : s ≡ r = cc is in
            subst (MarksFail setup hs) (sym closed.1 ∙ same) (of_all (λ _ e. Legal e.setting e.history) gone.legal, closed.2.0, closed.2.1)
        by None (Some s) closed fit is =
            let same : s ≡ r = cc is in
            subst (MarksFail setup hs) (sym fit.2 ∙ same) (of_all (λ _ e. Legal e.setting e.history) gone.legal, of_all (λ _ e. HasClosed e) closed, fit.3.0, fit.3.1)
        by None None closed fit is = cc is

    pub right : option_or open_one unfit ≡ None → AreRight setup hs × GuestsStand hs all
    right is =
        let r = by open_one unfit gone.closed gone.fit is in (
          record { legal = of_all (λ _ e. Legal e.setting e.history) gone.legal; closed = of_all (λ _ e. HasClosed e) r.0; fit = of_all (λ k e. AreFit setup k e) r.1 },
          record {
            count = gone.counted ∙ (whole ∙ sym many);
            each = λ k e gs there at. (gone.guests k e gs there at).1;
            all = λ k e gs there at. (gone.guests k e gs there at).0;
          },
        )
      where
        by : (o u : Option Reason) → MatchOption o (OfEachBelow i (λ _ e. HasClosed e) hs) OpenFor → MatchOption u (OfEachBelow i (λ k e. AreFit setup k e) hs) UnfitFor → option_or o u ≡ None
            → OfEachBelow i (λ _ e. HasClosed e) hs × OfEachBelow i (λ k e. AreFit setup k e) hs
        by (Some s) u closed fit is = cc is
        by None (Some s) closed fit is = cc is
        by None None closed fit is = (closed, fit)

  -- the lines of the next squeue were gone through
  module _ {A : Type 0} (now : A → List ℕ) (xs : List A) (n : ℕ) (are : ArePrintedMarks n marks) (is : map now xs ≡ map (flat_map mark_line) marks) (i k : ℕ) (same : i ≡ k) (there : k < length xs) (all : List (List GuestOf)) (open_one unfit : Option Reason) (so_far : AreGone i all open_one unfit) (d : A) where
    at : MarksAt marks i (now (get_or xs k d))
    at = subst (λ (j : ℕ). MarksAt marks j (now (get_or xs k d))) (sym same) (marks_at now xs marks k d is there)

    here : slice_get hs i ≡ Some (ending_of p calls setup (i, at.ms))
    here = ending_at i at.ms at.there

    printed : All IsPrinted at.ms
    printed = printed_at n marks i at.ms are at.there

    pub next_stops : (r : Reason) → ((ms : List Mark) → All IsPrinted ms → now (get_or xs k d) ≡ flat_map mark_line ms → (n : ℕ) × (r ≡ reason.Illegal i n) × IsIllegalAt (ending_of p calls setup (i, ms)) n) → MarksFail setup hs r
    next_stops r refused =
        let why = refused at.ms printed at.lines_are in
        subst (MarksFail setup hs) (sym why.1) (stops_at i all open_one unfit so_far (ending_of p calls setup (i, at.ms)) here why.0 why.2)

    pub next_gone : (gs : List GuestOf) (over : Bool) (broken : Option ℕ) → ((ms : List Mark) → All IsPrinted ms → now (get_or xs k d) ≡ flat_map mark_line ms → HasGone setup i (ending_of p calls setup (i, ms)) gs over broken)
        → (more : List (List GuestOf)) (opened unfitted : Option Reason) → more ≡ all ++ gs ∷ [] → opened ≡ option_or open_one (then_some (not over) (reason.Open i)) → unfitted ≡ option_or unfit (option_map (λ n. reason.Unfit i n) broken) → AreGone (i + 1) more opened unfitted
    next_gone gs over broken found more opened unfitted more_is opened_is unfitted_is =
        subst (λ (l : List (List GuestOf)). AreGone (i + 1) l opened unfitted) (sym more_is)
        (subst (λ (o : Option Reason). AreGone (i + 1) (all ++ gs ∷ []) o unfitted) (sym opened_is)
        (subst (λ (u : Option Reason). AreGone (i + 1) (all ++ gs ∷ []) (option_or open_one (then_some (not over) (reason.Open i))) u) (sym unfitted_is)
        (one_gone i all open_one unfit so_far (ending_of p calls setup (i, at.ms)) here gs over broken (found at.ms printed at.lines_are))))
