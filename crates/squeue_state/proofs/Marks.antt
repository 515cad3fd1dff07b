-- Marks, when more entries follow those that they name.
use Rattle.std.proofs.Common.{◌≡◌, ℕ, ◌+◌, ◌<◌, ◌≤◌, List, [], ◌∷◌, ◌++◌, zero, suc, refl, length, map, take, drop, get_or, ap, sym, subst, ◌∙◌, length-append, arith}
use Rattle.std.proofs.lemmas.List.{take-append-le, drop-append-le, length-drop, map-append, take_all, get_or_append_left}
use Rattle.std.proofs.Math.Seq.{drop-append_seam}
use Rattle.perimeter_core.specs.declared.entries.Entry.{Entry}
use Rattle.perimeter_core.specs.declared.entries.Feed.{Feed}
use Rattle.perimeter_core.specs.declared.marks.Mark.{Mark}
use Rattle.perimeter_core.specs.Deeds.{entries}
use Rattle.perimeter_core.specs.declared.entries.Entry.TheVariants as Entry'
use Rattle.perimeter_core.specs.declared.marks.Mark.TheVariants as On
use Rattle.squeue_state.specs.declared.trace.TraceMark.{TraceMark}
use Rattle.squeue_state.specs.declared.trace.TraceMark.TheVariants as Told
use Rattle.squeue_state.specs.Told.{mark_of, Within, AllWithin}

-- a part that lies within a list stays the same
same_part : (es fs : List Entry) (first len : ℕ) → first + len ≤ length es → take len (drop first (es ++ fs)) ≡ take len (drop first es)
same_part es fs first len h =
    let there : first ≤ length es = omega arith in
    let l = length-drop first es in
    let fits : len ≤ length (drop first es) = omega (arith, l) in
    ap (λ xs. take len xs) (drop-append-le first es fs there) ∙ take-append-le len (drop first es) fs fits

-- the last entries of a list
pub last_part : (es fs : List Entry) (first len : ℕ) → first ≡ length es → len ≡ length fs → take len (drop first (es ++ fs)) ≡ fs
last_part es fs first len f l =
    let all : length fs ≤ len = omega (arith, l) in
    ap (λ k. take len (drop k (es ++ fs))) f ∙ (ap (λ xs. take len xs) (drop-append_seam es fs) ∙ take_all len fs all)

pub same_mark : (es fs : List Entry) (m : TraceMark) → Within (length es) m → mark_of (es ++ fs) m ≡ mark_of es m
same_mark es fs (Told.Fill p first len) h = ap (λ xs. On.Fill p xs) (same_part es fs first len h)
same_mark es fs (Told.Fast p first) h = ap (λ x. On.Fast p x) (get_or_append_left es fs (Entry'.Ask 0) first h)
same_mark es fs (Told.Claim p first len) h = ap (λ xs. On.Claim p xs) (same_part es fs first len h)
same_mark es fs (Told.Take p) h = refl
same_mark es fs (Told.Leave p rest act) h = refl
same_mark es fs (Told.Ask p) h = refl
same_mark es fs (Told.Grant p j rest) h = refl
same_mark es fs (Told.Accept j) h = refl
same_mark es fs (Told.Work p) h = refl
same_mark es fs (Told.Close p) h = refl

pub same_marks : (es fs : List Entry) (ms : List TraceMark) → AllWithin (length es) ms → map (mark_of (es ++ fs)) ms ≡ map (mark_of es) ms
same_marks es fs [] h = refl
same_marks es fs (m ∷ ms) h = cc (same_mark es fs m h.0, same_marks es fs ms h.1)

pub within_more : (n k : ℕ) (m : TraceMark) → n ≤ k → Within n m → Within k m
within_more n k (Told.Fill p first len) le h = omega (arith, le, h)
within_more n k (Told.Fast p first) le h = omega (arith, le, h)
within_more n k (Told.Claim p first len) le h = omega (arith, le, h)
within_more n k (Told.Take p) le h = tt
within_more n k (Told.Leave p rest act) le h = tt
within_more n k (Told.Ask p) le h = tt
within_more n k (Told.Grant p j rest) le h = tt
within_more n k (Told.Accept j) le h = tt
within_more n k (Told.Work p) le h = tt
within_more n k (Told.Close p) le h = tt

pub all_more : (n k : ℕ) (ms : List TraceMark) → n ≤ k → AllWithin n ms → AllWithin k ms
all_more n k [] le h = tt
all_more n k (m ∷ ms) le h = (within_more n k m le h.0, all_more n k ms le h.1)

pub all_push : (n : ℕ) (ms : List TraceMark) (m : TraceMark) → AllWithin n ms → Within n m → AllWithin n (ms ++ m ∷ [])
all_push n [] m h w = (w, tt)
all_push n (x ∷ ms) m h w = (h.0, all_push n ms m h.1 w)

pub within_at : (n : ℕ) (ms : List TraceMark) (i : ℕ) (d : TraceMark) → i < length ms → AllWithin n ms → Within n (get_or ms i d)
within_at n [] i d lt h = absurd (omega (arith, lt))
within_at n (m ∷ ms) zero d lt h = h.0
within_at n (m ∷ ms) (suc i) d lt h = within_at n ms i d (omega (arith, lt)) h.1

-- one more mark
pub marks_push : (es : List Entry) (ms now : List TraceMark) (m : TraceMark) (said : Mark) → now ≡ ms ++ m ∷ [] → mark_of es m ≡ said → map (mark_of es) now ≡ map (mark_of es) ms ++ said ∷ []
marks_push es ms now m said is m_is =
    ap (map (mark_of es)) is ∙ (map-append (mark_of es) ms (m ∷ []) ∙ ap (λ x. map (mark_of es) ms ++ x ∷ []) m_is)

-- what a fill or a claim of feeds notes
pub entries-length : (fs : List Feed) → length (entries fs) ≡ length fs
entries-length [] = refl
entries-length (f ∷ fs) = ap (λ (n : ℕ). suc n) (entries-length fs)

pub part_fits : (es : List Entry) (fs : List Feed) (room : ℕ) → length es + length (entries fs) ≤ room → length es + length fs ≤ room
part_fits es fs room h = omega (arith, h, entries-length fs)

pub part_there : (es now : List Entry) (fs : List Feed) (first len : ℕ) → first ≡ length es → len ≡ length fs → now ≡ es ++ entries fs → take len (drop first now) ≡ entries fs
part_there es now fs first len f l is = ap (λ xs. take len (drop first xs)) is ∙ last_part es (entries fs) first len f (l ∙ sym (entries-length fs))

pub part_within : (es now : List Entry) (fs : List Feed) (first len : ℕ) → first ≡ length es → len ≡ length fs → now ≡ es ++ entries fs → first + len ≤ length now
part_within es now fs first len f l is = omega (arith, f, l, ap length is, length-append es (entries fs), entries-length fs)

-- more entries leave what the marks tell
pub told_more : (es now fs : List Entry) (ms : List TraceMark) → AllWithin (length es) ms → now ≡ es ++ fs → map (mark_of now) ms ≡ map (mark_of es) ms
told_more es now fs ms h is = subst (λ (xs : List Entry). map (mark_of xs) ms ≡ map (mark_of es) ms) (sym is) (same_marks es fs ms h)
