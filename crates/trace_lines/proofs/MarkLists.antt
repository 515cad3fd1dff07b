-- The mark lines of squeues, read one after another.
use Rattle.std.proofs.Common.{arith, ◌≡◌, ◌≢◌, ℕ, ◌+◌, ◌-◌, ◌^◌, ◌<◌, All, Bool, true, false, Decides, eqb, eq-eqb, List, [], ◌∷◌, ◌++◌, map, take, codes, length, get_or, refl, subst, ◌∙◌, sym, ap, ap₂, append_assoc, length-append}
use Rattle.std.specs.List.{enumerate_from, flat_map}
use Rattle.std.specs.Fmt.{decimal}
use Rattle.std.specs.Cmp.Lexicographic.{pointwise}
use Rattle.std.proofs.lemmas.Bool.{eqb-true}
use Rattle.std.proofs.lemmas.Slice.Eq.{slice_eq-Decides}
use Rattle.std.proofs.lemmas.List.{append-nil, map-append}
use Rattle.std.proofs.lemmas.List.Elements.{All-cons, All-head, All-tail, All-nil}
use Rattle.std.proofs.Math.Seq.{take-append_seam}
use Rattle.perimeter_core.specs.declared.marks.Mark.{Mark}
use Rattle.report_lines.specs.ReportText.{done_line}
use Rattle.report_lines.specs.TraceText.{mark_line, squeue_line, squeue_text}
use Rattle.squeue_replay.specs.Marks.{IsPrinted}
use Rattle.trace_lines.specs.Forms.{filled}
use Rattle.trace_lines.specs.Printed.{ArePrintedMarks}
use Rattle.trace_lines.proofs.Numbers.{same_numbers, tail_same}
use Rattle.trace_lines.proofs.Filled.{one_way}
use Rattle.trace_lines.proofs.MarkOnce.{line_same}

abbrev pub EachPrinted : List Mark → Type 0
EachPrinted [] = Unit {0}
EachPrinted (m ∷ ms) = IsPrinted m × EachPrinted ms

pub each_of : (ms : List Mark) → All IsPrinted ms → EachPrinted ms
each_of [] h = tt
each_of (m ∷ ms) h = (All-head IsPrinted m ms h, each_of ms (All-tail IsPrinted m ms h))

pub all_of : (ms : List Mark) → EachPrinted ms → All IsPrinted ms
all_of [] h = All-nil IsPrinted
all_of (m ∷ ms) h = All-cons IsPrinted m ms h.0 (all_of ms h.1)

each_push : (ms : List Mark) (m : Mark) → EachPrinted ms → IsPrinted m → EachPrinted (ms ++ m ∷ [])
each_push [] m h g = (g, tt)
each_push (k ∷ ms) m h g = (h.0, each_push ms m h.1 g)

lines_push : (ms : List Mark) (m : Mark) (t : List ℕ) → flat_map mark_line (ms ++ m ∷ []) ++ t ≡ flat_map mark_line ms ++ (mark_line m ++ t)
lines_push [] m t = ap (λ l. l ++ t) (append-nil (mark_line m))
lines_push (k ∷ ms) m t =
    append_assoc (mark_line k) (flat_map mark_line (ms ++ m ∷ [])) t ∙ (ap (λ l. mark_line k ++ l) (lines_push ms m t) ∙ sym (append_assoc (mark_line k) (flat_map mark_line ms) (mark_line m ++ t)))

-- how far the marks of a squeue were read
pub record MarksRead (text rest : List ℕ) (left count : ℕ) : Type 0 where
  pub some : (ms : List Mark) × (EachPrinted ms × (length ms + left ≡ count) × (text ≡ flat_map mark_line ms ++ rest))
  pub owed : (ms : List Mark) (t : List ℕ) → EachPrinted ms → length ms ≡ count → text ≡ flat_map mark_line ms ++ t → (due : List Mark) × (EachPrinted due × (length due ≡ left) × (rest ≡ flat_map mark_line due ++ t))

owed_behind : (rest others t : List ℕ) (left : ℕ) (m : Mark) (due : List Mark) → 0 < left → IsPrinted m → rest ≡ mark_line m ++ others → EachPrinted due → length due ≡ left → rest ≡ flat_map mark_line due ++ t
    → (ms : List Mark) × (EachPrinted ms × (length ms ≡ left - 1) × (others ≡ flat_map mark_line ms ++ t))
owed_behind rest others t left m [] some g here h l e = absurd (omega (arith, l, some))
owed_behind rest others t left m (k ∷ due) some g here h l e =
    let both : mark_line m ++ others ≡ mark_line k ++ (flat_map mark_line due ++ t) = sym here ∙ (e ∙ append_assoc (mark_line k) (flat_map mark_line due) t) in
    (due, (h.1, omega (arith, l), (line_same m k others (flat_map mark_line due ++ t) g h.0 both).1))

pub marks_more : (text rest others : List ℕ) (left count : ℕ) (m : Mark) → MarksRead text rest left count → 0 < left → IsPrinted m → rest ≡ mark_line m ++ others → MarksRead text others (left - 1) count
marks_more text rest others left count m r some g here = record {
  some =
      let ms = r.some.0 in
      let had = r.some.1 in
      (ms ++ m ∷ [], (each_push ms m had.0 g, omega (arith, had.1, some, length-append ms (m ∷ [])), had.2 ∙ (ap (λ l. flat_map mark_line ms ++ l) here ∙ sym (lines_push ms m others))));
  owed = λ ms t h l e.
      let due = r.owed ms t h l e in
      owed_behind rest others t left m due.0 some g here due.1.0 due.1.1 due.1.2;
}

owed_none : (rest t : List ℕ) (left : ℕ) (due : List Mark) → 0 < left → ((m : Mark) (after : List ℕ) → IsPrinted m → rest ≡ mark_line m ++ after → ⊥) → EachPrinted due → length due ≡ left → rest ≡ flat_map mark_line due ++ t → ⊥
owed_none rest t left [] some none h l e = omega (arith, l, some)
owed_none rest t left (k ∷ due) some none h l e = none k (flat_map mark_line due ++ t) h.0 (e ∙ append_assoc (mark_line k) (flat_map mark_line due) t)

pub marks_fail : (text rest : List ℕ) (left count : ℕ) → MarksRead text rest left count → 0 < left → ((m : Mark) (after : List ℕ) → IsPrinted m → rest ≡ mark_line m ++ after → ⊥)
    → (ms : List Mark) (t : List ℕ) → All IsPrinted ms → length ms ≡ count → text ≡ flat_map mark_line ms ++ t → ⊥
marks_fail text rest left count r some none ms t h l e =
    let due = r.owed ms t (each_of ms h) l e in
    owed_none rest t left due.0 some none due.1.0 due.1.1 due.1.2

pub marks_all : (text rest : List ℕ) (left count : ℕ) → MarksRead text rest left count → left ≡ 0 → (ms : List Mark) × All IsPrinted ms × (length ms ≡ count) × (text ≡ flat_map mark_line ms ++ rest)
marks_all text rest left count r none = (r.some.0, all_of r.some.0 r.some.1.0, omega (arith, r.some.1.1, none), r.some.1.2)

-- a squeue's line, by a form
pub squeue_form : (q n : ℕ) (t : List ℕ) → squeue_line q n ++ t ≡ filled (codes "squeue # marks ") (q ∷ []) ++ (decimal n ++ 10 ∷ t)
unfolding squeue_line
squeue_form q n t = simp append_assoc

squeue_same : (q p n m : ℕ) (t u : List ℕ) → q < 2 ^ 32 → p < 2 ^ 32 → n < 2 ^ 64 → m < 2 ^ 64 → squeue_line q n ++ t ≡ squeue_line p m ++ u → (q ≡ p) × (n ≡ m) × (t ≡ u)
squeue_same q p n m t u sq sp sn sm e =
    let first = one_way (codes "squeue # marks ") (q ∷ []) (p ∷ []) (decimal n ++ 10 ∷ t) (decimal m ++ 10 ∷ u) refl refl refl (sq, tt) (sp, tt) (sym (squeue_form q n t) ∙ (e ∙ squeue_form p m u)) in
    let second = same_numbers n m (10 ∷ t) (10 ∷ u) sn sm refl refl first.1 in
    (ap (λ l. get_or l 0 0) first.0, second.0, tail_same 10 _ _ second.1)

-- the heading of squeue q
pub no_heading : (text : List ℕ) (q : ℕ) → q < 2 ^ 32 → ((p : ℕ) (rest : List ℕ) → p < 2 ^ 32 → text ≡ filled (codes "squeue # marks ") (p ∷ []) ++ rest → ⊥)
    → (n : ℕ) (rest : List ℕ) → n < 2 ^ 64 → text ≡ squeue_line q n ++ rest → ⊥
no_heading text q small none n rest sn e = none q (decimal n ++ 10 ∷ rest) small (e ∙ squeue_form q n rest)

heading_parts : (text found rest : List ℕ) (p q n : ℕ) → q < 2 ^ 32 → (p < 2 ^ 32) × (text ≡ filled (codes "squeue # marks ") (p ∷ []) ++ found) → text ≡ squeue_line q n ++ rest → (p ≡ q) × (found ≡ decimal n ++ 10 ∷ rest)
heading_parts text found rest p q n small h e =
    let same = one_way (codes "squeue # marks ") (p ∷ []) (q ∷ []) found (decimal n ++ 10 ∷ rest) refl refl refl (h.0, tt) (small, tt) (sym h.1 ∙ (e ∙ squeue_form q n rest)) in
    (ap (λ l. get_or l 0 0) same.0, same.1)

pub other_heading : (text found : List ℕ) (p q : ℕ) → q < 2 ^ 32 → (p < 2 ^ 32) × (text ≡ filled (codes "squeue # marks ") (p ∷ []) ++ found) → p ≢ q → (n : ℕ) (rest : List ℕ) → n < 2 ^ 64 → text ≡ squeue_line q n ++ rest → ⊥
other_heading text found p q small h other n rest sn e = other (heading_parts text found rest p q n small h e).0

pub heading_cut : (text found : List ℕ) (p q : ℕ) → q < 2 ^ 32 → (p < 2 ^ 32) × (text ≡ filled (codes "squeue # marks ") (p ∷ []) ++ found) → ((n : ℕ) (t : List ℕ) → n < 2 ^ 64 → found ≡ decimal n ++ 10 ∷ t → ⊥)
    → (n : ℕ) (rest : List ℕ) → n < 2 ^ 64 → text ≡ squeue_line q n ++ rest → ⊥
heading_cut text found p q small h none n rest sn e = none n rest sn (heading_parts text found rest p q n small h e).1

pub heading_found : (text found rest : List ℕ) (p q n : ℕ) → p ≡ q → (p < 2 ^ 32) × (text ≡ filled (codes "squeue # marks ") (p ∷ []) ++ found) → (n < 2 ^ 64) × (found ≡ decimal n ++ 10 ∷ rest) → (n < 2 ^ 64) × (text ≡ squeue_line q n ++ rest)
heading_found text found rest p q n same h g =
    (g.0, h.1 ∙ (ap₂ (λ x l. filled (codes "squeue # marks ") (x ∷ []) ++ l) same g.1 ∙ sym (squeue_form q n rest)))

-- the lists of marks of squeues
abbrev pub AreLists : List (List Mark) → Type 0
AreLists [] = Unit {0}
AreLists (ms ∷ l) = (length ms < 2 ^ 64) × EachPrinted ms × AreLists l

abbrev IsFew : List Mark → Type 0
IsFew ms = length ms < 2 ^ 64

abbrev ArePrinted : List Mark → Type 0
ArePrinted ms = All IsPrinted ms

lists_of : (l : List (List Mark)) → All IsFew l → All ArePrinted l → AreLists l
lists_of [] f h = tt
lists_of (ms ∷ l) f h = (All-head IsFew ms l f, each_of ms (All-head ArePrinted ms l h), lists_of l (All-tail IsFew ms l f) (All-tail ArePrinted ms l h))

few_of : (l : List (List Mark)) → AreLists l → All IsFew l
few_of [] h = All-nil IsFew
few_of (ms ∷ l) h = All-cons IsFew ms l h.0 (few_of l h.2)

printed_of : (l : List (List Mark)) → AreLists l → All ArePrinted l
printed_of [] h = All-nil ArePrinted
printed_of (ms ∷ l) h = All-cons ArePrinted ms l (all_of ms h.1) (printed_of l h.2)

lists_push : (l : List (List Mark)) (ms : List Mark) → AreLists l → length ms < 2 ^ 64 → EachPrinted ms → AreLists (l ++ ms ∷ [])
lists_push [] ms h few each = (few, each, tt)
lists_push (k ∷ l) ms h few each = (h.0, h.1, lists_push l ms h.2 few each)

abbrev pub text_from : ℕ → List (List Mark) → List ℕ
text_from k l = flat_map squeue_text (enumerate_from k l)

text_push : (k : ℕ) (l : List (List Mark)) (ms : List Mark) (t : List ℕ) → text_from k (l ++ ms ∷ []) ++ t ≡ text_from k l ++ (squeue_text (k + length l, ms) ++ t)
text_push k [] ms t = ap (λ x. x ++ t) (append-nil (squeue_text (k, ms))) ∙ ap (λ n. squeue_text (n, ms) ++ t) (omega arith)
text_push k (x ∷ l) ms t =
    append_assoc (squeue_text (k, x)) (text_from (k + 1) (l ++ ms ∷ [])) t
    ∙ (ap (λ y. squeue_text (k, x) ++ y) (text_push (k + 1) l ms t ∙ ap (λ n. text_from (k + 1) l ++ (squeue_text (n, ms) ++ t)) (omega arith))
    ∙ sym (append_assoc (squeue_text (k, x)) (text_from (k + 1) l) (squeue_text (k + length (x ∷ l), ms) ++ t)))

map_push : (l : List (List Mark)) (ms : List Mark) → map (flat_map mark_line) (l ++ ms ∷ []) ≡ map (flat_map mark_line) l ++ flat_map mark_line ms ∷ []
map_push [] ms = refl
map_push (k ∷ l) ms = ap (λ x. flat_map mark_line k ∷ x) (map_push l ms)

same_lists : (ms ds : List Mark) (t u : List ℕ) → EachPrinted ms → EachPrinted ds → length ms ≡ length ds → flat_map mark_line ms ++ t ≡ flat_map mark_line ds ++ u → t ≡ u
same_lists [] [] t u h g l e = e
same_lists [] (d ∷ ds) t u h g l e = absurd (omega (arith, l))
same_lists (m ∷ ms) [] t u h g l e = absurd (omega (arith, l))
same_lists (m ∷ ms) (d ∷ ds) t u h g l e =
    let both : mark_line m ++ (flat_map mark_line ms ++ t) ≡ mark_line d ++ (flat_map mark_line ds ++ u) =
    sym (append_assoc (mark_line m) (flat_map mark_line ms) t) ∙ (e ∙ append_assoc (mark_line d) (flat_map mark_line ds) u) in
    same_lists ms ds t u h.1 g.1 (omega (arith, l)) (line_same m d (flat_map mark_line ms ++ t) (flat_map mark_line ds ++ u) h.0 g.0 both).1

-- how far the squeues were read, with the lines of each
pub record SqueuesRead (text rest : List ℕ) (lines : List (List ℕ)) (q squeues : ℕ) : Type 0 where
  pub some : (l : List (List Mark)) × (AreLists l × (length l ≡ q) × (text ≡ text_from 0 l ++ rest) × (lines ≡ map (flat_map mark_line) l))
  pub owed : (l : List (List Mark)) → AreLists l → length l ≡ squeues → text ≡ text_from 0 l ++ done_line → (due : List (List Mark)) × (AreLists due × (q + length due ≡ squeues) × (rest ≡ text_from q due ++ done_line))

squeue_joined : (q : ℕ) (ds : List Mark) (x t : List ℕ) → (squeue_text (q, ds) ++ x) ++ t ≡ squeue_line q (length ds) ++ (flat_map mark_line ds ++ (x ++ t))
squeue_joined q ds x t = simp append_assoc

squeue_owed : (rest marks others : List ℕ) (q squeues count : ℕ) (ms : List Mark) (due : List (List Mark)) → q < squeues → q < 2 ^ 32 → (count < 2 ^ 64) × (rest ≡ squeue_line q count ++ marks) → EachPrinted ms → length ms ≡ count
    → marks ≡ flat_map mark_line ms ++ others → AreLists due → q + length due ≡ squeues → rest ≡ text_from q due ++ done_line
    → (l : List (List Mark)) × (AreLists l × (q + 1 + length l ≡ squeues) × (others ≡ text_from (q + 1) l ++ done_line))
squeue_owed rest marks others q squeues count ms [] below small head each n here h l e = absurd (omega (arith, below, l))
squeue_owed rest marks others q squeues count ms (ds ∷ due) below small head each n here h l e =
    let same = squeue_same q q count (length ds) marks (flat_map mark_line ds ++ (text_from (q + 1) due ++ done_line)) small small head.0 h.0 (sym head.1 ∙ (e ∙ squeue_joined q ds (text_from (q + 1) due) done_line)) in
    (due, (h.2, omega (arith, l), same_lists ms ds others (text_from (q + 1) due ++ done_line) each h.1 (n ∙ same.1) (sym here ∙ same.2)))

front_is : (a b text : List ℕ) → text ≡ a ++ b → take (length text - length b) text ≡ a
front_is a b text e =
    let size : length text - length b ≡ length a = omega (arith, ap length e, length-append a b) in
    ap₂ take size e ∙ take-append_seam a b

pub squeues_more : (text rest marks others : List ℕ) (lines : List (List ℕ)) (q squeues count : ℕ) → SqueuesRead text rest lines q squeues → q < squeues → q < 2 ^ 32 → (count < 2 ^ 64) × (rest ≡ squeue_line q count ++ marks)
    → (ms : List Mark) × All IsPrinted ms × (length ms ≡ count) × (marks ≡ flat_map mark_line ms ++ others) → SqueuesRead text others (lines ++ take (length marks - length others) marks ∷ []) (q + 1) squeues
squeues_more text rest marks others lines q squeues count r below small head found = record {
  some =
      let l = r.some.0 in
      let had = r.some.1 in
      let ms = found.0 in
      let few : length ms < 2 ^ 64 = omega (arith, found.2, head.0) in
      let heading : rest ≡ squeue_text (q, ms) ++ others =
      head.1 ∙ (ap₂ (λ n x. squeue_line q n ++ x) (sym found.2) found.3 ∙ sym (append_assoc (squeue_line q (length ms)) (flat_map mark_line ms) others)) in
      let placed : squeue_text (q, ms) ++ others ≡ squeue_text (0 + length l, ms) ++ others = ap (λ n. squeue_text (n, ms) ++ others) (omega (arith, had.1)) in (
        l ++ ms ∷ [],
        (
          lists_push l ms had.0 few (each_of ms found.1),
          omega (arith, had.1, length-append l (ms ∷ [])),
          had.2 ∙ (ap (λ x. text_from 0 l ++ x) (heading ∙ placed) ∙ sym (text_push 0 l ms others)),
          ap₂ (λ x y. x ++ y ∷ []) had.3 (front_is (flat_map mark_line ms) others marks found.3) ∙ sym (map_push l ms),
        ),
      );
  owed = λ l h n e.
      let due = r.owed l h n e in
      squeue_owed rest marks others q squeues count found.0 due.0 below small head (each_of found.0 found.1) found.2 found.3 due.1.0 due.1.1 due.1.2;
}

lists_from : (squeues : ℕ) (l : List (List Mark)) → ArePrintedMarks squeues l → AreLists l
lists_from squeues l h = lists_of l h.few h.each

no_squeue : (rest : List ℕ) (q squeues : ℕ) (due : List (List Mark)) → q < squeues → ((n : ℕ) (t : List ℕ) → n < 2 ^ 64 → rest ≡ squeue_line q n ++ t → ⊥) → AreLists due → q + length due ≡ squeues → rest ≡ text_from q due ++ done_line → ⊥
no_squeue rest q squeues [] below none h l e = omega (arith, below, l)
no_squeue rest q squeues (ds ∷ due) below none h l e = none (length ds) (flat_map mark_line ds ++ (text_from (q + 1) due ++ done_line)) h.0 (e ∙ squeue_joined q ds (text_from (q + 1) due) done_line)

pub no_more_squeues : (text rest : List ℕ) (lines : List (List ℕ)) (q squeues : ℕ) → SqueuesRead text rest lines q squeues → q < squeues → ((n : ℕ) (t : List ℕ) → n < 2 ^ 64 → rest ≡ squeue_line q n ++ t → ⊥)
    → (l : List (List Mark)) → ArePrintedMarks squeues l → text ≡ text_from 0 l ++ done_line → ⊥
no_more_squeues text rest lines q squeues r below none l h e =
    let due = r.owed l (lists_from squeues l h) h.count e in
    no_squeue rest q squeues due.0 below none due.1.0 due.1.1 due.1.2

marks_cut : (rest marks : List ℕ) (q squeues count : ℕ) (due : List (List Mark)) → q < squeues → q < 2 ^ 32 → (count < 2 ^ 64) × (rest ≡ squeue_line q count ++ marks)
    → ((ms : List Mark) (t : List ℕ) → All IsPrinted ms → length ms ≡ count → marks ≡ flat_map mark_line ms ++ t → ⊥) → AreLists due → q + length due ≡ squeues → rest ≡ text_from q due ++ done_line → ⊥
marks_cut rest marks q squeues count [] below small head none h l e = omega (arith, below, l)
marks_cut rest marks q squeues count (ds ∷ due) below small head none h l e =
    let same = squeue_same q q count (length ds) marks (flat_map mark_line ds ++ (text_from (q + 1) due ++ done_line)) small small head.0 h.0 (sym head.1 ∙ (e ∙ squeue_joined q ds (text_from (q + 1) due) done_line)) in
    none ds (text_from (q + 1) due ++ done_line) (all_of ds h.1) (sym same.1) same.2

pub no_marks_there : (text rest marks : List ℕ) (lines : List (List ℕ)) (q squeues count : ℕ) → SqueuesRead text rest lines q squeues → q < squeues → q < 2 ^ 32 → (count < 2 ^ 64) × (rest ≡ squeue_line q count ++ marks)
    → ((ms : List Mark) (t : List ℕ) → All IsPrinted ms → length ms ≡ count → marks ≡ flat_map mark_line ms ++ t → ⊥) → (l : List (List Mark)) → ArePrintedMarks squeues l → text ≡ text_from 0 l ++ done_line → ⊥
no_marks_there text rest marks lines q squeues count r below small head none l h e =
    let due = r.owed l (lists_from squeues l h) h.count e in
    marks_cut rest marks q squeues count due.0 below small head none due.1.0 due.1.1 due.1.2

last_owed : (rest : List ℕ) (q squeues : ℕ) (due : List (List Mark)) → q ≡ squeues → q + length due ≡ squeues → rest ≡ text_from q due ++ done_line → rest ≡ done_line
last_owed rest q squeues [] same l e = e
last_owed rest q squeues (ds ∷ due) same l e = absurd (omega (arith, same, l))

pub other_end : (text rest : List ℕ) (lines : List (List ℕ)) (q squeues : ℕ) → SqueuesRead text rest lines q squeues → q ≡ squeues → (rest ≡ done_line → ⊥) → (l : List (List Mark)) → ArePrintedMarks squeues l → text ≡ text_from 0 l ++ done_line → ⊥
other_end text rest lines q squeues r same other l h e =
    let due = r.owed l (lists_from squeues l h) h.count e in
    other (last_owed rest q squeues due.0 same due.1.1 due.1.2)

pub squeues_all : (text rest : List ℕ) (lines : List (List ℕ)) (q squeues : ℕ) → SqueuesRead text rest lines q squeues → q ≡ squeues → rest ≡ done_line
    → (l : List (List Mark)) × ArePrintedMarks squeues l × (text ≡ text_from 0 l ++ done_line) × (lines ≡ map (flat_map mark_line) l)
squeues_all text rest lines q squeues r same end =
    let l = r.some.0 in
    let had = r.some.1 in
    (l, record { count = had.1 ∙ same; few = few_of l had.0; each = printed_of l had.0 }, had.2 ∙ ap (λ x. text_from 0 l ++ x) end, had.3)

-- the lines of one squeue more are kept
pub squeues_kept : {A : Type 0} (now : A → List ℕ) (text others : List ℕ) (items pushed : List A) (x : A) (front : List ℕ) (q squeues : ℕ) → pushed ≡ items ++ x ∷ [] → now x ≡ front
    → SqueuesRead text others (map now items ++ front ∷ []) q squeues → SqueuesRead text others (map now pushed) q squeues
squeues_kept now text others items pushed x front q squeues is same r =
    let all : map now items ++ front ∷ [] ≡ map now pushed = ap (λ l. map now items ++ l ∷ []) (sym same) ∙ (sym (map-append now items (x ∷ [])) ∙ ap (map now) (sym is)) in
    subst (λ l. SqueuesRead text others l q squeues) all r

-- the comparison of what is left of the text with the last line
equal_texts : (b : Bool) (rest end : List ℕ) → b ≡ pointwise eqb rest end → Decides b (rest ≡ end)
equal_texts b rest end h = slice_eq-Decides {E = eqb} (λ x y. (eqb-true x y, eq-eqb x y)) rest end b h

pub at_end : (rest end l : List ℕ) → true ≡ pointwise eqb rest end → end ≡ l → rest ≡ l
at_end rest end l h e = (equal_texts true rest end h).0 refl ∙ e

pub not_at_end : (rest end l : List ℕ) → false ≡ pointwise eqb rest end → end ≡ l → rest ≡ l → ⊥
not_at_end rest end l h e is = let both : false ≡ true = (equal_texts false rest end h).1 (is ∙ sym e) in cc
