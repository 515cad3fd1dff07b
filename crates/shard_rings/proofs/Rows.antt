-- A ring's row, in which one cell changed.
use Rattle.std.proofs.Common.{◌≡◌, ◌≢◌, ℕ, zero, suc, ◌==◌, ◌<◌, Bool, true, false, Option, None, Some, IfNone, IfSome, List, [], ◌∷◌, ◌++◌, length, map, slice_get, slice_set, slice_index_or, refl, ap, sym, ◌∙◌, subst}
use Rattle.std.proofs.lemmas.Bool.{eqb-true, eq-eqb}
use Rattle.std.proofs.lemmas.List.{length-set}
use Rattle.std.proofs.lemmas.Option.{slice_get-get_or, slice_get_read, slice_get_within}
use Rattle.rtrb.specs.Ring.{SameProducer, sent}
use Rattle.perimeter_core.proofs.ActLists.{get_other, get_same}
use Rattle.turn_gate.specs.declared.pass.Pass.{Pass}
use Rattle.perimeter_core.specs.History.{Element, Limits}
use Rattle.squeue_state.specs.Naming.{Named}
use Rattle.shard_rings.specs.declared.cell.Cell.{Cell}
use Rattle.shard_rings.specs.Cells.{cell}
use Rattle.squeue_serve.specs.Places.{Holds}
use Rattle.shard_rings.specs.Knowing.{IsAt, IsBeside, SameEnd, sent_of}
use Rattle.shard_rings.specs.Rows.{AreKnown, IsKnown, SameEnds}

pub some_is : {A : Type 0} {x y : A} → Some x ≡ Some y → x ≡ y
some_is is = cc is

apart_by : (c p : ℕ) → (c == p) ≡ false → c ≢ p
apart_by c p is same = clash (eq-eqb c p same) is
  where
    clash : (c == p) ≡ true → (c == p) ≡ false → ⊥
    clash a b = cc (a, b)

-- what is at the number that was set
pub at_set : {A : Type 0} (xs : List A) (q : ℕ) (x y : A) → q < length xs → slice_get (slice_set xs q x) q ≡ Some y → y ≡ x
at_set xs q x y lt is = some_is (sym is ∙ get_same xs q x lt)

module _ {A T : Type 0} (f : A → List T) where
  pub cell_is : (xs : List A) (q : ℕ) (x : A) → slice_get xs q ≡ Some x → cell (map f xs) q ≡ f x
  cell_is [] q x is = absurd (cc is)
  cell_is (y ∷ ys) zero x is = ap f (some_is is)
  cell_is (y ∷ ys) (suc q) x is = cell_is ys q x is

  pub map_set : (xs : List A) (q : ℕ) (x : A) → map f (slice_set xs q x) ≡ slice_set (map f xs) q (f x)
  map_set [] q x = refl
  map_set (y ∷ ys) zero x = refl
  map_set (y ∷ ys) (suc q) x = ap (λ l. f y ∷ l) (map_set ys q x)

  -- a cell with the same in it
  pub map_kept : (xs : List A) (q : ℕ) (x y : A) → slice_get xs q ≡ Some x → f y ≡ f x → map f (slice_set xs q y) ≡ map f xs
  map_kept [] q x y is same = refl
  map_kept (z ∷ xs) zero x y is same = ap (λ a. a ∷ map f xs) (same ∙ ap f (sym (some_is is)))
  map_kept (z ∷ xs) (suc q) x y is same = ap (λ l. f z ∷ l) (map_kept xs q x y is same)

module _ {R T : Type 0} (limits : R → Limits) (ring : ℕ) where
  pub known_set : (squeues : List (Named R)) (places : List (Option (Pass Element))) (cells : List (Cell T)) (q : ℕ) (s : Named R) (o : Option (Pass Element)) (c : Cell T) → slice_get squeues q ≡ Some s → q < length squeues
      → IsKnown limits ring s o c → AreKnown limits ring squeues places cells → AreKnown limits ring squeues (slice_set places q o) (slice_set cells q c)
  known_set squeues places cells q s o c at lt is known =
      record {
        places_count = length-set places q o ∙ known.places_count;
        cells_count = length-set cells q c ∙ known.cells_count;
        each = each;
      }
    where
      each : (p : ℕ) (t : Named R) (n : Option (Pass Element)) (d : Cell T) → slice_get squeues p ≡ Some t → slice_get (slice_set places q o) p ≡ Some n → slice_get (slice_set cells q c) p ≡ Some d → IsKnown limits ring t n d
      each p t n d squeue place there = go (q == p) refl
        where
          go : (b : Bool) → (q == p) ≡ b → IsKnown limits ring t n d
          go true same =
              let here : q ≡ p = eqb-true q p same in
              let its : t ≡ s = some_is (sym squeue ∙ (ap (slice_get squeues) (sym here) ∙ at)) in
              let pass : n ≡ o = at_set places q o n (subst (λ k. q < k) (sym known.places_count) lt) (ap (slice_get (slice_set places q o)) here ∙ place) in
              let one : d ≡ c = at_set cells q c d (subst (λ k. q < k) (sym known.cells_count) lt) (ap (slice_get (slice_set cells q c)) here ∙ there) in
              subst (λ x. IsKnown limits ring x n d) (sym its) (subst (λ x. IsKnown limits ring s x d) (sym pass) (subst (λ x. IsKnown limits ring s o x) (sym one) is))
          go false other =
              let apart : q ≢ p = apart_by q p other in
              known.each p t n d squeue (sym (get_other places q p o apart) ∙ place) (sym (get_other cells q p c apart) ∙ there)

  -- the pass is the same, and so is what it knows
  pub known_cell : (squeues : List (Named R)) (places : List (Option (Pass Element))) (cells : List (Cell T)) (q : ℕ) (c d : Cell T) → slice_get cells q ≡ Some c
      → ((s : Named R) (o : Option (Pass Element)) → IsKnown limits ring s o c → IsKnown limits ring s o d) → AreKnown limits ring squeues places cells → AreKnown limits ring squeues places (slice_set cells q d)
  known_cell squeues places cells q c d at then known =
      record { places_count = known.places_count; cells_count = length-set cells q d ∙ known.cells_count; each = each }
    where
      each : (p : ℕ) (t : Named R) (n : Option (Pass Element)) (e : Cell T) → slice_get squeues p ≡ Some t → slice_get places p ≡ Some n → slice_get (slice_set cells q d) p ≡ Some e → IsKnown limits ring t n e
      each p t n e squeue place there = go (q == p) refl
        where
          go : (b : Bool) → (q == p) ≡ b → IsKnown limits ring t n e
          go true same =
              let here : q ≡ p = eqb-true q p same in
              let one : e ≡ d = at_set cells q d e (slice_get_within cells q c at) (ap (slice_get (slice_set cells q d)) here ∙ there) in
              subst (λ x. IsKnown limits ring t n x) (sym one) (then t n (known.each p t n c squeue place (ap (slice_get cells) (sym here) ∙ at)))
          go false other = known.each p t n e squeue place (sym (get_other cells q p d (apart_by q p other)) ∙ there)

module _ {T : Type 0} where
  ends_then : (a b c : Cell T) → SameEnd a b → SameEnd b c → SameEnd a c
  ends_then a b c ((i, j), (k, l)) ((m, n), (o, q)) =
      (((m.0 ∙ i.0, m.1 ∙ i.1, m.2 ∙ i.2, m.3 ∙ i.3), n ∙ j), ((o.0 ∙ k.0, o.1 ∙ k.1, o.2 ∙ k.2, o.3 ∙ k.3), q ∙ l))

  pub ends_set : (first cells : List (Cell T)) (q : ℕ) (c d : Cell T) → slice_get cells q ≡ Some c → SameEnd c d → SameEnds first cells → SameEnds first (slice_set cells q d)
  ends_set first cells q c d at same ends = record { count = length-set cells q d ∙ ends.count; each = each }
    where
      each : (p : ℕ) (x y : Cell T) → slice_get first p ≡ Some x → slice_get (slice_set cells q d) p ≡ Some y → SameEnd x y
      each p x y its there = go (q == p) refl
        where
          go : (b : Bool) → (q == p) ≡ b → SameEnd x y
          go true eq =
              let here : q ≡ p = eqb-true q p eq in
              let one : y ≡ d = at_set cells q d y (slice_get_within cells q c at) (ap (slice_get (slice_set cells q d)) here ∙ there) in
              subst (λ z. SameEnd x z) (sym one) (ends_then x c d (ends.each p x c its (ap (slice_get cells) (sym here) ∙ at)) same)
          go false other = ends.each p x y its (sym (get_other cells q p d (apart_by q p other)) ∙ there)

-- what is read at a number stands there
read_at : {A : Type 0} (xs : List A) (q : ℕ) (x : A) → q < length xs → x ≡ slice_index_or xs q x → slice_get xs q ≡ Some x
read_at xs q x lt is = slice_get_read xs (length xs) q x refl lt is

module _ {A T : Type 0} (f : A → List T) (xs : List A) (q : ℕ) (x y : A) (range : q < length xs) (is : x ≡ slice_index_or xs q x) where
  -- more in one cell
  pub set_more : (added : List T) → f y ≡ f x ++ added → map f (slice_set xs q y) ≡ slice_set (map f xs) q (cell (map f xs) q ++ added)
  set_more added more = map_set f xs q y ∙ ap (slice_set (map f xs) q) (more ∙ ap (λ l. l ++ added) (sym (cell_is f xs q x (read_at xs q x range is))))

  pub set_same : f y ≡ f x → map f (slice_set xs q y) ≡ map f xs
  set_same same = map_kept f xs q x y (read_at xs q x range is) same

  -- where one more may be there
  pub none_more : (o : Option T) → IfNone o (f y ≡ f x) → IfNone o (map f (slice_set xs q y) ≡ map f xs)
  none_more None same = set_same same
  none_more (Some v) same = same

  pub some_more : (o : Option T) → IfSome o (λ v. f y ≡ f x ++ v ∷ []) → IfSome o (λ v. map f (slice_set xs q y) ≡ slice_set (map f xs) q (cell (map f xs) q ++ v ∷ []))
  some_more None more = more
  some_more (Some v) more = set_more (v ∷ []) more

module _ {T : Type 0} (a b : Cell T) (beside : IsBeside a b) where
  pub same_sent : sent_of b ≡ sent_of a
  same_sent = ap sent beside.output

  pub same_end : SameEnd a b
  same_end = (subst (SameProducer a.end.output) (sym beside.output) ((refl, refl, refl, refl), refl), beside.back)

module _ {R T : Type 0} (limits : R → Limits) (ring : ℕ) (squeues : List (Named R)) (places : List (Option (Pass Element))) (cells : List (Cell T)) (q : ℕ) (known : AreKnown limits ring squeues places cells) (range : q < length cells) where
  in_squeues : q < length squeues
  in_squeues = subst (λ n. q < n) known.cells_count range

  in_places : q < length places
  in_places = subst (λ n. q < n) (sym known.places_count) in_squeues

  -- what is known of one squeue
  pub known_at : (s : Named R) (o : Option (Pass Element)) (c : Cell T) → o ≡ slice_index_or places q o → c ≡ slice_index_or cells q c → IsKnown limits ring (slice_index_or squeues q s) o c
  known_at s o c is its = known.each q (slice_index_or squeues q s) o c (slice_get-get_or squeues q s in_squeues) (read_at places q o in_places is) (read_at cells q c range its)

  module _ (first : List (Cell T)) (ends : SameEnds first cells) (c d : Cell T) (its : c ≡ slice_index_or cells q c) where
    -- and of all, when something was done there
    pub ready_set : (s : Named R) (o : Option (Pass Element)) → IsKnown limits ring (slice_index_or squeues q s) o d → SameEnd c d → AreKnown limits ring squeues (slice_set places q o) (slice_set cells q d) × SameEnds first (slice_set cells q d)
    ready_set s o is same =
        (known_set limits ring squeues places cells q (slice_index_or squeues q s) o d (slice_get-get_or squeues q s in_squeues) in_squeues is known, ends_set first cells q c d (read_at cells q c range its) same ends)

    -- when a parcel was popped there
    pub ready_beside : IsBeside c d → AreKnown limits ring squeues places (slice_set cells q d) × SameEnds first (slice_set cells q d)
    ready_beside beside =
        (known_cell limits ring squeues places cells q c d (read_at cells q c range its) then known, ends_set first cells q c d (read_at cells q c range its) (same_end c d beside) ends)
      where
        then : (s : Named R) (o : Option (Pass Element)) → IsKnown limits ring s o c → IsKnown limits ring s o d
        then s o is =
            record {
              serves = is.serves;
              at = subst (λ (n : ℕ). Holds (IsAt limits s ring n (length (sent_of d))) o) (sym beside.entered) (subst (λ (l : List T). Holds (IsAt limits s ring c.entered (length l)) o) (sym (same_sent c d beside)) is.at);
            }
