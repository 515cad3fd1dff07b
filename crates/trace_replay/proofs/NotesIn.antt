-- The notes with which the stays of a connection came, by the history.
use Rattle.std.proofs.Common.{◌≡◌, ℕ, suc, ◌+◌, Bool, true, false, if◌then◌else◌, Option, Some, None, List, [], ◌∷◌, ◌++◌, length, map, refl, ap, sym, ◌∙◌, append_assoc, arith}
use Rattle.std.specs.Prelude.{slice_get}
use Rattle.std.specs.Option.{option_map}
use Rattle.std.proofs.lemmas.List.{append-nil, map-append}
use Rattle.std.proofs.lemmas.Option.{slice_get-map}
use Rattle.perimeter_core.specs.declared.entries.Act.{Act}
use Rattle.perimeter_core.specs.declared.marks.Mark.{Mark}
use Rattle.perimeter_core.specs.Perimeter.{State, after, is_here}
use Rattle.perimeter_core.specs.History.{Element, Setting, start}
use Rattle.perimeter_core.specs.Deeds.{acts_after, puts_in, reported, takes_out}
use Rattle.histories.specs.Stays.{Stay, Stays, all_in, as_list, begun, longer_by, stays, stays_after, stays_from}
use Rattle.squeue_replay.specs.Histories.{times_in}
use Rattle.histories.proofs.StaysSeen.{notes, same_note}

abbrev pub marks_of : List Element → List Mark
marks_of H = map (λ (e : Element). e.mark) H

-- the notes with which c was put in
abbrev pub notes_in : ℕ → List Element → List (List Act)
notes_in c [] = []
notes_in c (e ∷ H) = if puts_in c e.mark then e.note ∷ notes_in c H else notes_in c H

-- and the empty one of a stay that begins at the start
abbrev pub firsts : Bool → List (List Act)
firsts here = if here then [] ∷ [] else []

notes_after : (a b : Bool) (more had note : List Act) (v : Stays)
    → notes (if a then record { ended = all_in v; now = Some (begun note) }
    else if b then record { ended = v.ended ++ as_list (longer_by more had v.now); now = None }
    else record { ended = v.ended; now = longer_by more had v.now }) ≡ notes v ++ (if a then note ∷ [] else [])
notes_after true b more had note v = map-append (λ (u : Stay). u.note) (all_in v) (begun note ∷ [])
notes_after false true more had note v =
    ap (map (λ (u : Stay). u.note)) (append-nil (v.ended ++ as_list (longer_by more had v.now))) ∙ (same_note v.ended more had v.now ∙ sym (append-nil (notes v)))
notes_after false false more had note v = same_note v.ended more had v.now ∙ sym (append-nil (notes v))

one_in : (b : Bool) (ns ms : List (List Act)) (note : List Act) → (ns ++ (if b then note ∷ [] else [])) ++ ms ≡ ns ++ (if b then note ∷ ms else ms)
one_in true ns ms note = append_assoc ns (note ∷ []) ms
one_in false ns ms note = ap (λ (l : List (List Act)). l ++ ms) (append-nil ns)

notes_from : (c : ℕ) (H : List Element) (s : State) (had : List Act) (v : Stays) → notes (stays_from c s had v H) ≡ notes v ++ notes_in c H
notes_from c [] s had v = sym (append-nil (notes v))
notes_from c (e ∷ H) s had v =
    notes_from c H (after s e.mark) (acts_after c s had e) (stays_after c s had v e)
    ∙ (ap (λ (ns : List (List Act)). ns ++ notes_in c H) (notes_after (puts_in c e.mark) (takes_out c e.mark) (reported c s e.mark) (acts_after c s had e) e.note v)
    ∙ one_in (puts_in c e.mark) (notes v) (notes_in c H) e.note)

first_notes : (b : Bool) → notes (record { ended = []; now = if b then Some (begun []) else None }) ≡ firsts b
first_notes true = refl
first_notes false = refl

pub notes_are : (S : Setting) (H : List Element) (c : ℕ) → map (λ (u : Stay). u.note) (all_in (stays S H c)) ≡ firsts (is_here (start S) c) ++ notes_in c H
notes_are S H c =
    notes_from c H (start S) [] (record { ended = []; now = if is_here (start S) c then Some (begun []) else None })
    ∙ ap (λ (ns : List (List Act)). ns ++ notes_in c H) (first_notes (is_here (start S) c))

counted_one : (b : Bool) (k : ℕ) (n : List Act) (ns : List (List Act)) → length ns ≡ k → length (if b then n ∷ ns else ns) ≡ (if b then 1 else 0) + k
counted_one true k n ns e = omega (arith, e)
counted_one false k n ns e = omega (arith, e)

pub notes_counted : (c : ℕ) (H : List Element) → length (notes_in c H) ≡ times_in c (marks_of H)
notes_counted c [] = refl
notes_counted c (e ∷ H) = counted_one (puts_in c e.mark) (times_in c (marks_of H)) e.note (notes_in c H) (notes_counted c H)

cons_or : (b : Bool) (n : List Act) (ns ms : List (List Act)) → (if b then n ∷ (ns ++ ms) else (ns ++ ms)) ≡ (if b then n ∷ ns else ns) ++ ms
cons_or true n ns ms = refl
cons_or false n ns ms = refl

notes_both : (c : ℕ) (H K : List Element) → notes_in c (H ++ K) ≡ notes_in c H ++ notes_in c K
notes_both c [] K = refl
notes_both c (e ∷ H) K =
    ap (λ (l : List (List Act)). if puts_in c e.mark then e.note ∷ l else l) (notes_both c H K) ∙ cons_or (puts_in c e.mark) e.note (notes_in c H) (notes_in c K)

pub got_behind : {A : Type 0} (xs ys : List A) (i : ℕ) → slice_get (xs ++ ys) (length xs + i) ≡ slice_get ys i
got_behind [] ys i = let z : 0 + i ≡ i = omega arith in ap (slice_get ys) z
got_behind (x ∷ xs) ys i = let z : length (x ∷ xs) + i ≡ suc (length xs + i) = omega arith in ap (slice_get ((x ∷ xs) ++ ys)) z ∙ got_behind xs ys i

noted_stay : (o : Option Stay) (n : List Act) → option_map (λ (u : Stay). u.note) o ≡ Some n → (v : Stay) × (o ≡ Some v) × (v.note ≡ n)
noted_stay None n e = absurd (let no : ⊥ = cc e in no)
noted_stay (Some v) n e = (v, refl, (let s : v.note ≡ n = cc e in s))

-- the stay that an In begins, with its note
pub begins_stay : (S : Setting) (F K : List Element) (e : Element) (c : ℕ) → puts_in c e.mark ≡ true
    → (v : Stay) × (slice_get (all_in (stays S (F ++ e ∷ K) c)) (length (firsts (is_here (start S) c)) + times_in c (marks_of F)) ≡ Some v) × (v.note ≡ e.note)
begins_stay S F K e c puts =
    let H : List Element = F ++ e ∷ K in
    let here : List (List Act) = firsts (is_here (start S) c) in
    let at : ℕ = length here + times_in c (marks_of F) in
    let head : notes_in c (e ∷ K) ≡ e.note ∷ notes_in c K = ap (λ (b : Bool). if b then e.note ∷ notes_in c K else notes_in c K) puts in
    let zero_more : times_in c (marks_of F) ≡ length (notes_in c F) + 0 = (let n = notes_counted c F in omega (arith, n)) in
    noted_stay (slice_get (all_in (stays S H c)) at) e.note
    (sym (slice_get-map (λ (u : Stay). u.note) (all_in (stays S H c)) at)
    ∙ (ap (λ (ns : List (List Act)). slice_get ns at) (notes_are S H c)
    ∙ (got_behind here (notes_in c H) (times_in c (marks_of F))
    ∙ (ap (λ (ns : List (List Act)). slice_get ns (times_in c (marks_of F))) (notes_both c F (e ∷ K))
    ∙ (ap (slice_get (notes_in c F ++ notes_in c (e ∷ K))) zero_more
    ∙ (got_behind (notes_in c F) (notes_in c (e ∷ K)) 0 ∙ ap (λ (ns : List (List Act)). slice_get ns 0) head))))))

-- the note of a stay
pub note_at : (S : Setting) (H : List Element) (c i : ℕ) (v : Stay) → slice_get (all_in (stays S H c)) i ≡ Some v → slice_get (firsts (is_here (start S) c) ++ notes_in c H) i ≡ Some v.note
note_at S H c i v at =
    sym (ap (λ (ns : List (List Act)). slice_get ns i) (notes_are S H c))
    ∙ (slice_get-map (λ (u : Stay). u.note) (all_in (stays S H c)) i ∙ ap (option_map (λ (u : Stay). u.note)) at)
