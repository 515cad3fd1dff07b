-- The lines of marks, one after another, and of the entries that a mark names.
use Rattle.std.proofs.Common.{◌≡◌, ℕ, ◌+◌, ◌-◌, ◌<◌, ◌≤◌, List, [], ◌∷◌, suc, zero, length, map, take, drop, get_or, slice_get, Some, sym, ap, ◌∙◌, arith, add-one}
use Rattle.std.specs.List.{enumerate_from, flat_map}
use Rattle.std.specs.Option.{option_map}
use Rattle.text_digits.specs.Told.{Told, more}
use Rattle.text_digits.proofs.Joins.{more_more}
use Rattle.std.proofs.lemmas.List.{take_all}
use Rattle.std.proofs.lemmas.List.FromFn.{length-enumerate_from}
use Rattle.std.proofs.lemmas.Option.{slice_get-get_or, slice_get-map}
use Rattle.perimeter_core.specs.declared.entries.Entry.{Entry}
use Rattle.report_lines.specs.ReportText.{line_end}
use Rattle.report_lines.specs.TraceText.{entered_field}

-- an element of a list, by what stands there whatever is given beside the list
pub there : {X : Type 0} (xs : List X) (i : ℕ) (x : X) → i < length xs → ((d : X) → x ≡ get_or xs i d) → slice_get xs i ≡ Some x
there xs i x lt e = slice_get-get_or xs i x lt ∙ ap Some (sym (e x))

pub there_as : {X Y : Type 0} (f : X → Y) (xs : List X) (i : ℕ) (x : X) → i < length xs → ((d : X) → x ≡ get_or xs i d) → slice_get (map f xs) i ≡ Some (f x)
there_as f xs i x lt e = slice_get-map f xs i ∙ ap (option_map f) (there xs i x lt e)

-- a part of a list, as its first element and the rest
pub part_first : {X : Type 0} (xs : List X) (i n : ℕ) (x : X) → slice_get xs i ≡ Some x → 0 < n → take n (drop i xs) ≡ x ∷ take (n - 1) (drop (i + 1) xs)
part_first xs i zero x e lt = absurd (let no : ⊥ = omega (arith, lt) in no)
part_first [] zero (suc n) x e lt = cc
part_first [] (suc i) (suc n) x e lt = cc
part_first (y ∷ xs) zero (suc n) x e lt =
    let same : y ≡ x = cc in
    let less : suc n - 1 ≡ n = omega arith in
    (λ k. same k ∷ take (sym less k) xs)
part_first (y ∷ xs) (suc i) (suc n) x e lt = rw add-one (let more = part_first xs i (suc n) x e lt in rw add-one at more)

-- one entry more, where so many are to come
pub entry_more : (es : List Entry) (was new whole : Told) (i n m : ℕ) (e : Entry) → more was (line_end (map entered_field (take n (drop i es)))) ≡ whole
    → slice_get es i ≡ Some e → n ≡ m + 1 → new ≡ more was (32 ∷ entered_field e) → more new (line_end (map entered_field (take m (drop (i + 1) es)))) ≡ whole
entry_more es was new whole i n m e so_far here count n_is =
    let some : 0 < n = omega (arith, count) in
    let less : n - 1 ≡ m = omega (arith, count) in
    let rest = line_end (map entered_field (take m (drop (i + 1) es))) in
    let first = part_first es i n e here some ∙ ap (λ k. e ∷ take k (drop (i + 1) es)) less in
    ap (λ l. more l rest) n_is ∙ more_more was (32 ∷ entered_field e) rest
    ∙ sym (ap (λ l. more was (line_end (map entered_field l))) first) ∙ so_far

-- no entry is to come
pub entries_end : (es : List Entry) (n i : ℕ) (last whole new : Told) → n ≡ 0 → more last (line_end (map entered_field (take n (drop i es)))) ≡ whole → new ≡ more last (10 ∷ []) → new ≡ whole
entries_end es zero i last whole new none h e = e ∙ h
entries_end es (suc n) i last whole new none h e = absurd (let no : ⊥ = omega (arith, none) in no)

-- the numbered elements of a list, by its elements
pub numbered : {X : Type 0} (xs : List X) (a b i : ℕ) (x : X) → b ≡ a + i → slice_get xs i ≡ Some x → slice_get (enumerate_from a xs) i ≡ Some (b, x)
numbered [] a b i x e here = cc
numbered (y ∷ xs) a b zero x e here =
    let same : y ≡ x = cc in
    let first : a ≡ b = omega (arith, e) in
    (λ k. Some (first k, same k))
numbered (y ∷ xs) a b (suc i) x e here = numbered xs (a + 1) b i x (omega (arith, e)) here

pub numbered_or : {X : Type 0} (xs : List X) (i : ℕ) (d : X) → i < length xs → slice_get (enumerate_from 0 xs) i ≡ Some (i, get_or xs i d)
numbered_or xs i d lt = numbered xs 0 i i (get_or xs i d) (omega arith) (slice_get-get_or xs i d lt)

-- the texts of all numbered elements
pub numbered_all : {X : Type 0} (f : ℕ × X → List ℕ) (xs : List X) (old new : Told) (n : ℕ) → length xs ≤ n → new ≡ more old (flat_map f (take n (enumerate_from 0 xs))) → new ≡ more old (flat_map f (enumerate_from 0 xs))
numbered_all f xs old new n past e = e ∙ ap (λ l. more old (flat_map f l)) (take_all n (enumerate_from 0 xs) (omega (arith, past, length-enumerate_from 0 xs)))
