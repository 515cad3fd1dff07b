-- What a plan's invariant says of one connection and one item.
use Rattle.std.proofs.Common.{◌≡◌, ℕ, ◌<◌, ◌≤◌, List, [], ◌∷◌, suc, zero, length, map, get_or, sym, ap, ◌∙◌, arith, IfSome, slice_get}
use Rattle.std.specs.List.{AllByRecursion}
use Rattle.std.proofs.lemmas.List.{get_or-map, length-map}
use Rattle.conn_classifier.specs.Plan.{PlanOf, IsPlan, IsItems, Rises, items_in, time_of}
use Rattle.conn_classifier.specs.declared.kinds.Item.{Item}

pub no_below : {A : Type 0} {n : ℕ} → n < 0 → A
no_below h = absurd (let no : ⊥ = omega arith in no)

pub all_at : {X : Type 0} (P : X → Type 0) (xs : List X) (i : ℕ) (d : X) → AllByRecursion P xs → i < length xs → P (get_or xs i d)
all_at P [] i d h lt = no_below lt
all_at P (x ∷ xs) zero d h lt = h.0
all_at P (x ∷ xs) (suc i) d h lt = let less : i < length xs = omega (arith, lt) in all_at P xs i d h.1 less

pub items_at : (p : PlanOf) (c : ℕ) → IsPlan p → c < length p.tuples → IsItems p.file (items_in p c)
items_at p c is lt = let less : c < length p.items = omega (arith, is.listed) in all_at (IsItems p.file) p.items c [] is.each less

-- what was read of the vectors is the connection's list
pub read_items : {V : Type 0} (f : V → List Item) (p : PlanOf) (vs : List V) (c : ℕ) (v : V) → map f vs ≡ p.items → IsPlan p → c < length p.tuples
    → v ≡ get_or vs c v → f v ≡ items_in p c
read_items f p vs c v e is lt r =
    let less : c < length vs = omega (arith, is.listed, ap length e, length-map vs f) in
    ap f r ∙ sym (get_or-map f vs c v [] less) ∙ ap (λ l. get_or l c []) e

pub rises_most : (last most : ℕ) (xs : List Item) → Rises last most xs → last ≤ most
rises_most last most [] h = h
rises_most last most (x ∷ xs) h = let rest = rises_most (time_of x) most xs h.1 in omega (arith, h.0, rest)

pub time_most : (last most : ℕ) (xs : List Item) (i : ℕ) (d : Item) → Rises last most xs → i < length xs → time_of (get_or xs i d) ≤ most
time_most last most [] i d h lt = no_below lt
time_most last most (x ∷ xs) zero d h lt = rises_most (time_of x) most xs h.1
time_most last most (x ∷ xs) (suc i) d h lt = let less : i < length xs = omega (arith, lt) in time_most (time_of x) most xs i d h.1 less

time_after : (last most : ℕ) (xs : List Item) (i : ℕ) (d : Item) → Rises last most xs → i < length xs → last ≤ time_of (get_or xs i d)
time_after last most [] i d h lt = no_below lt
time_after last most (x ∷ xs) zero d h lt = h.0
time_after last most (x ∷ xs) (suc i) d h lt =
    let less : i < length xs = omega (arith, lt) in
    let rest = time_after (time_of x) most xs i d h.1 less in omega (arith, h.0, rest)

pub time_rises : (last most : ℕ) (xs : List Item) (n : ℕ) (d : Item) → Rises last most xs → n < length xs → (m : ℕ) → m ≤ n
    → IfSome (slice_get xs m) (λ before. time_of before ≤ time_of (get_or xs n d))
time_rises last most [] n d h lt m le = no_below lt
time_rises last most (x ∷ xs) n d h lt zero le = first n lt
  where
    first : (n : ℕ) → n < length (x ∷ xs) → time_of x ≤ time_of (get_or (x ∷ xs) n d)
    first zero lt = omega arith
    first (suc n) lt = let less : n < length xs = omega (arith, lt) in time_after (time_of x) most xs n d h.1 less
time_rises last most (x ∷ xs) zero d h lt (suc m) le = absurd (let no : ⊥ = omega arith in no)
time_rises last most (x ∷ xs) (suc n) d h lt (suc m) le =
    let less : n < length xs = omega (arith, lt) in
    let below : m ≤ n = omega (arith, le) in
    time_rises (time_of x) most xs n d h.1 less m below
