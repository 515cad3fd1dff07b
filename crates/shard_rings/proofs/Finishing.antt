-- Squeues whose rings' parcels are all taken, the last one first.
use Rattle.std.proofs.Common.{◌≡◌, ◌⊎◌, ℕ, zero, suc, ◌+◌, ◌<◌, ◌≤◌, Some, List, [], ◌∷◌, ◌++◌, All, Vec, Global, inl, inr, length, length-append, slice_get, slice_set, refl, ap, sym, ◌∙◌, subst, arith}
use Rattle.std.proofs.lemmas.Bool.{cases_lt}
use Rattle.std.proofs.lemmas.List.{length-set}
use Rattle.std.proofs.lemmas.Option.{slice_get_within}
use Rattle.perimeter_core.proofs.ActLists.{get_other, get_same}
use Rattle.histories.proofs.ListPlaces.{get_front, some_at}
use Rattle.squeue_serve.proofs.Lent.{get_end}
use Rattle.squeue_rings.proofs.Works.{got_or}
use Rattle.shards.specs.declared.shared.Shared.{Ghosts}
use Rattle.shards.specs.declared.shard.Shard.{Shard}
use Rattle.shards.specs.Lanes.{IsLane}
use Rattle.shards.specs.Sharing.{ends_of, origin_of}
use Rattle.squeue_pool.specs.declared.work.Left.{Left}
use Rattle.shard_rings.specs.declared.cell.Cell.{Cell}
use Rattle.shard_rings.specs.declared.run.ServedShard.{ServedShard}
use Rattle.shard_rings.specs.Columns.{AreEnded, AreLanes, AreTaken, IsColumn, IsEnded, IsFinished, MayFinish, MayFinishAll}

is_some_of : {A : Type 0} {x y : A} → Some x ≡ Some y → x ≡ y
is_some_of is = cc is

-- what is so of all is so at each place
pub all_at : {A : Type 0} (P : A → Type 0) (xs : List A) (k : ℕ) (x : A) → All P xs → slice_get xs k ≡ Some x → P x
all_at P xs k x all at = subst P (got_or xs k x x at) (all k x (slice_get_within xs k x at))

pub at_all : {A : Type 0} (P : A → Type 0) (xs : List A) → ((k : ℕ) (x : A) → slice_get xs k ≡ Some x → P x) → All P xs
at_all P xs each k d lt = let h = some_at xs k lt in subst P (sym (got_or xs k h.0 d h.1)) (each k h.0 h.1)

pub all_before : {A : Type 0} (P : A → Type 0) (xs rest : List A) (x : A) → xs ≡ rest ++ x ∷ [] → All P xs → All P rest
all_before P xs rest x split all = at_all P rest (λ k y at. all_at P xs k y all (ap (λ l. slice_get l k) split ∙ get_front rest (x ∷ []) k y at))

-- what is so of the last ones, by number, and of the one before them
pub behind : {A : Type 0} (P : ℕ → A → Type 0) (n m : ℕ) (x : A) (xs : List A) → n ≡ m + 1 → P m x → ((i : ℕ) (y : A) → slice_get xs i ≡ Some y → P (n + i) y) → (i : ℕ) (y : A) → slice_get (x ∷ xs) i ≡ Some y → P (m + i) y
behind P n m x xs next here each zero y at = let e : m ≡ m + 0 = omega arith in subst (λ k. P k y) e (subst (P m) (is_some_of at) here)
behind P n m x xs next here each (suc i) y at = let e : n + i ≡ m + suc i = omega (arith, next) in subst (λ k. P k y) e (each i y at)

module _ {T : Type 0} where
  pub none_taken_yet : (rows : List (Vec (Cell T) Global)) (column : List (Cell T)) → column ≡ [] → AreTaken 0 rows rows column
  none_taken_yet rows column none = record { same = refl; many = ap length none; each = λ p a lt. absurd (omega (arith, lt)); rest = λ p le. refl }

  -- and of the next row
  pub one_more_taken : (n : ℕ) (old now : List (Vec (Cell T) Global)) (column more : List (Cell T)) (a b : Vec (Cell T) Global) (c : Cell T) → slice_get now n ≡ Some a → a.items ≡ b.items ++ c ∷ [] → more ≡ column ++ c ∷ []
      → AreTaken n old now column → AreTaken (n + 1) old (slice_set now n b) more
  one_more_taken n old now column more a b c at split is so =
      record {
        same = length-set now n b ∙ so.same;
        many = let e = ap length is ∙ length-append column (c ∷ []) in let k = so.many in omega (arith, e, k);
        each = λ p x lt there. by p x there (cases_lt p n) lt;
        rest = λ p le. get_other now n p b (λ e. absurd (omega (arith, le, e))) ∙ so.rest p (omega (arith, le));
      }
    where
      Has : ℕ → Vec (Cell T) Global → Type 0
      Has p x = (y : Vec (Cell T) Global) × (d : Cell T) × (slice_get (slice_set now n b) p ≡ Some y) × (slice_get more p ≡ Some d) × (x.items ≡ y.items ++ d ∷ [])

      by : (p : ℕ) (x : Vec (Cell T) Global) → slice_get old p ≡ Some x → (p < n) ⊎ (n ≤ p) → p < n + 1 → Has p x
      by p x there (inl less) lt =
          let h = so.each p x less there in
          (h.0, h.1, get_other now n p b (λ e. absurd (omega (arith, less, e))) ∙ h.2, ap (λ l. slice_get l p) is ∙ get_front column (c ∷ []) p h.1 h.3, h.4)
      by p x there (inr more_than) lt =
          let e : n ≡ p = omega (arith, lt, more_than) in
          let k = so.many in
          let was : slice_get old n ≡ Some a = sym (so.rest n (omega arith)) ∙ at in
          let one : x ≡ a = is_some_of (sym there ∙ (ap (slice_get old) (sym e) ∙ was)) in (
            b,
            c,
            ap (slice_get (slice_set now n b)) (sym e) ∙ get_same now n b (slice_get_within now n a at),
            ap (λ l. slice_get l p) is ∙ get_end column [] c p (omega (arith, k, e)),
            ap (λ (r : Vec (Cell T) Global). r.items) one ∙ split,
          )

module _ {X H T O : Type 0} {G : Ghosts X T O} (rows : List (Vec (Cell T) Global)) (all : List (Left (Shard X H T O G))) where
  -- those behind these have ended, and of each row as many cells are left as there are of these
  pub record SoFar (left : List (Left (Shard X H T O G))) (now : List (Vec (Cell T) Global)) (served : List (ServedShard X)) : Type 0 where
    pub lefts : (q : ℕ) → q < length left → slice_get left q ≡ slice_get all q
    pub count : length served + length left ≡ length all
    pub rows_count : length now ≡ length rows
    pub rows_are : (p : ℕ) (a b : Vec (Cell T) Global) → slice_get rows p ≡ Some a → slice_get now p ≡ Some b
        → (length b.items ≡ length left) × ((q : ℕ) → q < length left → slice_get b.items q ≡ slice_get a.items q)
    pub each : (i : ℕ) (w : ServedShard X) → slice_get served i ≡ Some w → (v : Left (Shard X H T O G)) × (slice_get all (length left + i) ≡ Some v) × IsEnded rows (length left + i) v w

  pub none_ended : (served : List (ServedShard X)) → served ≡ [] → All (λ row. length row.items ≡ length all) rows → SoFar all rows served
  none_ended served none full =
      record {
        lefts = λ q lt. refl;
        count = let z = ap length none in omega (arith, z);
        rows_count = refl;
        rows_are = λ p a b at there.
            (let one : a ≡ b = is_some_of (sym at ∙ there) in
            let n = all_at (λ (row : Vec (Cell T) Global). length row.items ≡ length all) rows p b full there in
            (n, λ q lt. ap (λ (r : Vec (Cell T) Global). slice_get r.items q) (sym one)));
        each = λ i w at. cc (sym (ap (λ l. slice_get l i) none) ∙ at);
      }

  pub all_ended : (left : List (Left (Shard X H T O G))) (now : List (Vec (Cell T) Global)) (served : List (ServedShard X)) → left ≡ [] → SoFar left now served → AreEnded rows all served
  all_ended left now served none so =
      record {
        count = let z = ap length none in let k = so.count in omega (arith, z, k);
        each = λ q w at. (let z = ap length none in let e : length left + q ≡ q = omega (arith, z) in subst (λ (k : ℕ). (v : Left (Shard X H T O G)) × (slice_get all k ≡ Some v) × IsEnded rows k v w) e (so.each q w at));
      }

  module _ (left rest : List (Left (Shard X H T O G))) (v : Left (Shard X H T O G)) (now : List (Vec (Cell T) Global)) (served : List (ServedShard X)) (split : left ≡ rest ++ v ∷ []) (so : SoFar left now served) where
    one_less : length left ≡ length rest + 1
    one_less = ap length split ∙ length-append rest (v ∷ [])

    left_at : slice_get all (length rest) ≡ Some v
    left_at = sym (so.lefts (length rest) (omega (arith, one_less))) ∙ (ap (λ (l : List (Left (Shard X H T O G))). slice_get l (length rest)) split ∙ get_end rest [] v (length rest) refl)

    -- each row has a cell
    pub some_left : All (λ row. 0 < length row.items) now
    some_left =
        at_all (λ (row : Vec (Cell T) Global). 0 < length row.items) now
        (λ k b at. (let n = so.rows_count in let a = some_at rows k (let lt = slice_get_within now k b at in omega (arith, lt, n)) in let m = (so.rows_are k a.0 b a.1 at).0 in omega (arith, m, one_less)))

    module _ (next : List (Vec (Cell T) Global)) (column : List (Cell T)) (taken : AreTaken (length now) now next column) where
      -- the last cells are the squeue's
      its_column : IsColumn rows (length rest) column
      its_column = record { count = taken.many ∙ so.rows_count; each = each }
        where
          each : (p : ℕ) (row : Vec (Cell T) Global) → slice_get rows p ≡ Some row → (c : Cell T) × (slice_get row.items (length rest) ≡ Some c) × (slice_get column p ≡ Some c)
          each p row at =
              let n = so.rows_count in
              let lt = slice_get_within rows p row at in
              let b = some_at now p (omega (arith, lt, n)) in
              let h = taken.each p b.0 (slice_get_within now p b.0 b.1) b.1 in
              let r = so.rows_are p row b.0 at b.1 in
              let m = ap length h.4 ∙ length-append h.0.items (h.1 ∷ []) in
              let k = r.0 in
              let last : slice_get b.0.items (length rest) ≡ Some h.1 = ap (λ l. slice_get l (length rest)) h.4 ∙ get_end h.0.items [] h.1 (length rest) (omega (arith, m, k, one_less)) in
              (h.1, sym (r.1 (length rest) (omega (arith, one_less))) ∙ last, h.3)

      -- and they have the other ends of the lanes of its resident
      pub its_lanes : MayFinishAll rows all → AreLanes column (ends_of v.resident)
      its_lanes may =
          record {
            count = m.count ∙ sym its_column.count;
            each = λ p c end at there.
                (let n = its_column.count in
                let lt = slice_get_within column p c at in
                let row = some_at rows p (omega (arith, lt, n)) in
                let h = its_column.each p row.0 row.1 in
                let one : h.0 ≡ c = is_some_of (sym h.2 ∙ at) in
                subst (λ (d : Cell T). IsLane d.end end) one (m.lanes p row.0 h.0 end row.1 h.1 there));
          }
        where
          m : MayFinish rows (length rest) v.resident
          m = may (length rest) v left_at

      pub its_may : MayFinishAll rows all → MayFinish rows (length rest) v.resident
      its_may may = may (length rest) v left_at

      pub column_count : length column ≡ length rows
      column_count = its_column.count

      pub one_ended : (w : ServedShard X) → IsFinished G.is_made column w.shared → G.origin w.shared ≡ (origin_of v.resident).0 → w.end ≡ v.end → SoFar rest next (w ∷ served)
      one_ended w finished origin end =
          record {
            lefts = λ q lt.
                (let at = some_at rest q lt in
                at.1 ∙ (sym (ap (λ (l : List (Left (Shard X H T O G))). slice_get l q) split ∙ get_front rest (v ∷ []) q at.0 at.1) ∙ so.lefts q (omega (arith, lt, one_less))));
            count = let k = so.count in omega (arith, k, one_less);
            rows_count = taken.same ∙ so.rows_count;
            rows_are = rows_are;
            each = behind (λ k u. (x : Left (Shard X H T O G)) × (slice_get all k ≡ Some x) × IsEnded rows k x u) (length left) (length rest) w served one_less
                (v, left_at, record { column = column; cells = its_column; finished = finished; origin = origin; end = end }) so.each;
          }
        where
          rows_are : (p : ℕ) (a b : Vec (Cell T) Global) → slice_get rows p ≡ Some a → slice_get next p ≡ Some b → (length b.items ≡ length rest) × ((q : ℕ) → q < length rest → slice_get b.items q ≡ slice_get a.items q)
          rows_are p a b at there =
              let n = so.rows_count in
              let lt = slice_get_within rows p a at in
              let was = some_at now p (omega (arith, lt, n)) in
              let h = taken.each p was.0 (slice_get_within now p was.0 was.1) was.1 in
              let one : h.0 ≡ b = is_some_of (sym h.2 ∙ there) in
              let items : h.0.items ≡ b.items = ap (λ (r : Vec (Cell T) Global). r.items) one in
              let r = so.rows_are p a was.0 at was.1 in
              let m = ap length h.4 ∙ length-append h.0.items (h.1 ∷ []) in
              let k = r.0 in
              let e = ap length items in
              let count : length b.items ≡ length rest = omega (arith, m, k, e, one_less) in (
                count,
                λ q less.
                    (let its = some_at b.items q (omega (arith, less, count)) in
                    let old : slice_get was.0.items q ≡ Some its.0 = ap (λ l. slice_get l q) h.4 ∙ get_front h.0.items (h.1 ∷ []) q its.0 (ap (λ l. slice_get l q) items ∙ its.1) in
                    its.1 ∙ (sym old ∙ r.1 q (omega (arith, less, one_less)))),
              )
