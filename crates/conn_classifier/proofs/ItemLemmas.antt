-- One more item.
use Rattle.std.proofs.Common.{◌≡◌, ℕ, ◌+◌, ◌<◌, nat_le, Bool, true, false, max, suc, zero, List, [], ◌∷◌, ◌++◌, length, drop, get_or, refl, sym, ap, ◌∙◌, subst, arith, append_assoc}
use Rattle.std.proofs.lemmas.List.{drop_more}
use Rattle.conn_classifier.specs.declared.kinds.Arrival.{Arrival}
use Rattle.conn_classifier.specs.declared.kinds.Item.{Item}
use Rattle.conn_classifier.specs.declared.kinds.Item.TheVariants.{Time, Segment}
use Rattle.conn_classifier.specs.Limits.{least_gap}
use Rattle.conn_classifier.specs.Items.{hint, gap, items_after}
use Rattle.conn_classifier.specs.Hints.{hints_of}

pub length_hints : (xs : List Arrival) → length (hints_of xs) ≡ length xs
length_hints [] = refl
length_hints (x ∷ xs) = ap suc (length_hints xs)

pub hint_at : (xs : List Arrival) (i k : ℕ) (d : Arrival) → i < length xs → get_or (hints_of xs) i k ≡ hint (get_or xs i d).seg (drop (i + 1) xs)
hint_at [] i k d lt = absurd (none lt)
  where
    none : {n : ℕ} → n < 0 → ⊥
    none h = omega arith
hint_at (x ∷ xs) zero k d lt = refl
hint_at (x ∷ xs) (suc i) k d lt =
    let on : suc i + 1 ≡ suc (i + 1) = omega arith in
    let less : i < length xs = omega (arith, lt) in
    hint_at xs i k d less ∙ ap (λ n. hint (get_or xs i d).seg (drop n (x ∷ xs))) (sym on)

-- one turn: what is made so far, and what is left
pub turn_items : (xs : List Arrival) (i : ℕ) (d : Arrival) (last : ℕ) (made end whole : List Item) (iss : ℕ) → i < length xs
    → made ++ (items_after last (drop i xs) ++ end) ≡ whole → iss ≡ hint (get_or xs i d).seg (drop (i + 1) xs)
    → ((made ++ gap last (max last (get_or xs i d).at)) ++ Segment (max last (get_or xs i d).at) (get_or xs i d).rec iss (get_or xs i d).seg ∷ [])
    ++ (items_after (max last (get_or xs i d).at) (drop (i + 1) xs) ++ end) ≡ whole
turn_items xs i d last made end whole iss lt so_far e =
    let a = get_or xs i d in
    let at = max last a.at in
    let after = items_after at (drop (i + 1) xs) in
    let seg = Segment at a.rec iss a.seg in
    append_assoc (made ++ gap last at) (seg ∷ []) (after ++ end)
    ∙ append_assoc made (gap last at) (seg ∷ (after ++ end))
    ∙ ap (λ l. made ++ l) (sym (append_assoc (gap last at) (seg ∷ after) end))
    ∙ (λ k. made ++ ((gap last at ++ Segment at a.rec (e k) a.seg ∷ after) ++ end))
    ∙ ap (λ l. made ++ (items_after last l ++ end)) (sym (drop_more xs i d lt))
    ∙ so_far

pub turn_made : (xs : List Arrival) (i : ℕ) (d : Arrival) (last : ℕ) (made end whole : List Item) (iss : ℕ) → i < length xs
    → made ++ (items_after last (drop i xs) ++ end) ≡ whole → iss ≡ hint (get_or xs i d).seg (drop (i + 1) xs)
    → (at : ℕ) (two three : List Item) → at ≡ max last (get_or xs i d).at → two ≡ made ++ gap last at
    → three ≡ two ++ Segment at (get_or xs i d).rec iss (get_or xs i d).seg ∷ []
    → three ++ (items_after at (drop (i + 1) xs) ++ end) ≡ whole
turn_made xs i d last made end whole iss lt so_far e at two three is_at is_two is_three =
    let a = get_or xs i d in
    ap (λ l. l ++ (items_after at (drop (i + 1) xs) ++ end)) (is_three ∙ ap (λ l. l ++ Segment at a.rec iss a.seg ∷ []) is_two)
    ∙ subst (λ m. ((made ++ gap last m) ++ Segment m a.rec iss a.seg ∷ []) ++ (items_after m (drop (i + 1) xs) ++ end) ≡ whole) (sym is_at)
    (turn_items xs i d last made end whole iss lt so_far e)

-- with the time item of a gap before them, or without
pub gap_by : (last at : ℕ) (xs : List Item) (P : List Item → Type 0) → P xs → P (Time at ∷ xs) → P (gap last at ++ xs)
gap_by last at xs P none some = by (nat_le (last + least_gap) at) refl
  where
    by : (b : Bool) → nat_le (last + least_gap) at ≡ b → P (gap last at ++ xs)
    by true e = rw e some
    by false e = rw e none
