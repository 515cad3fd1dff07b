-- What is left at one squeue, and what it served.
use Rattle.std.proofs.Common.{◌≡◌, ◌≢◌, ℕ, zero, suc, ◌+◌, ◌==◌, ◌<◌, ◌≤◌, Bool, true, false, Some, List, [], ◌∷◌, ◌++◌, length, length-append, map, slice_get, refl, ap, sym, ◌∙◌, subst, arith}
use Rattle.std.specs.List.{AllByRecursion}
use Rattle.std.proofs.lemmas.Bool.{eqb-true, eq-eqb}
use Rattle.std.proofs.lemmas.List.{length-map}
use Rattle.std.proofs.lemmas.Option.{slice_get_within}
use mathlib.Core.List.{IsPrefix}
use Rattle.histories.proofs.ListPlaces.{from_map}
use Rattle.shards.specs.declared.lanes.SqueueEnd.{SqueueEnd}
use Rattle.shards.specs.Mixing.{IsMix, from_ring}
use Rattle.shards.specs.Merging.{GaveBack, HasAll, IsMerged, came_from}
use Rattle.shard_rings.specs.declared.cell.Cell.{Cell}
use Rattle.shard_rings.specs.Knowing.{came_of, sent_of}
use Rattle.shard_rings.specs.Columns.{HasTaken, IsFinished}
use Rattle.shard_rings.specs.Runs.{as_came}
use Rattle.shard_rings.proofs.Rows.{some_is}

get_some : {A : Type 0} (xs : List A) (k : ℕ) → k < length xs → (x : A) × (slice_get xs k ≡ Some x)
get_some [] k lt = absurd (omega arith)
get_some (x ∷ xs) zero lt = (x, refl)
get_some (x ∷ xs) (suc k) lt = get_some xs k (omega arith)

pub get_before : {A : Type 0} (xs ys : List A) (k : ℕ) → k < length xs → slice_get (xs ++ ys) k ≡ slice_get xs k
get_before [] ys k lt = absurd (omega arith)
get_before (x ∷ xs) ys zero lt = refl
get_before (x ∷ xs) ys (suc k) lt = get_before xs ys k (omega arith)

pub get_last : {A : Type 0} (xs : List A) (x : A) → slice_get (xs ++ x ∷ []) (length xs) ≡ Some x
get_last [] x = refl
get_last (y ∷ xs) x = get_last xs x

-- of the cells of a column those of the first rings are left, and what the lanes of the others had was taken
pub record SoFar {T : Type 0} (all left : List (Cell T)) (first ends : List (SqueueEnd T)) : Type 0 where
  pub cells : (q : ℕ) → q < length left → slice_get left q ≡ slice_get all q
  pub same : (q : ℕ) → q < length left → slice_get ends q ≡ slice_get first q
  pub taken : (q : ℕ) (c : Cell T) (end : SqueueEnd T) → length left ≤ q → slice_get all q ≡ Some c → slice_get ends q ≡ Some end → HasTaken c end

module _ {T : Type 0} where
  pub none_taken : (all : List (Cell T)) (ends : List (SqueueEnd T)) → SoFar all all ends ends
  none_taken all ends =
      record { cells = λ q lt. refl; same = λ q lt. refl; taken = λ q c end le at is. (let lt = slice_get_within all q c at in absurd (omega (arith, lt, le))) }

  -- the last of them was
  pub one_taken : (all left rest : List (Cell T)) (c : Cell T) (first before after : List (SqueueEnd T)) → left ≡ rest ++ c ∷ [] → HasAll after (length rest) (sent_of c) → GaveBack after (length rest) (came_of c)
      → ((q : ℕ) → q ≢ length rest → slice_get after q ≡ slice_get before q) → SoFar all left first before → SoFar all rest first after
  one_taken all left rest c first before after split has gave others so =
      record {
        cells = λ q lt. sym (get_before rest (c ∷ []) q lt) ∙ (ap (λ l. slice_get l q) (sym split) ∙ so.cells q (omega (arith, lt, more)));
        same = λ q lt. others q (λ e. absurd (omega (arith, lt, e))) ∙ so.same q (omega (arith, lt, more));
        taken = taken;
      }
    where
      more : length left ≡ length rest + 1
      more = ap length split ∙ length-append rest (c ∷ [])

      taken : (q : ℕ) (d : Cell T) (end : SqueueEnd T) → length rest ≤ q → slice_get all q ≡ Some d → slice_get after q ≡ Some end → HasTaken d end
      taken q d end le at is = go (q == length rest) refl
        where
          go : (b : Bool) → (q == length rest) ≡ b → HasTaken d end
          go true eq =
              let here : q ≡ length rest = eqb-true q (length rest) eq in
              let there : slice_get left (length rest) ≡ Some c = ap (λ l. slice_get l (length rest)) split ∙ get_last rest c in
              let one : d ≡ c = some_is (sym at ∙ (ap (slice_get all) here ∙ (sym (so.cells (length rest) (omega (arith, more))) ∙ there))) in
              let its : slice_get after (length rest) ≡ Some end = ap (slice_get after) (sym here) ∙ is in
              subst (λ x. HasTaken x end) (sym one) (record { all = has end its; front = gave end its })
          go false other =
              let apart : q ≢ length rest = λ e. clash (eq-eqb q (length rest) e) other in
              so.taken q d end (omega (arith, le, more, apart)) at (sym (others q apart) ∙ is)
            where
              clash : (q == length rest) ≡ true → (q == length rest) ≡ false → ⊥
              clash a b = cc (a, b)

module _ {T X : Type 0} (IsMade : List (ℕ × (T × T)) → X → Type 0) where
  -- all lanes are empty
  pub finished_by : (column : List (Cell T)) (ends : List (SqueueEnd T)) (shared : X) → length ends ≡ length column
      → ((p : ℕ) (c : Cell T) (end : SqueueEnd T) → slice_get column p ≡ Some c → slice_get ends p ≡ Some end → HasTaken c end) → IsMerged IsMade ends shared → IsFinished IsMade column shared
  finished_by column ends shared same taken m =
      record {
        log = m.log;
        sent = λ p c at. (let e = its p c at in sym (m.each p e.0 e.1).came ∙ (taken p c e.0 at e.1).all);
        back = λ p c at. (let e = its p c at in subst (IsPrefix (came_of c)) (m.each p e.0 e.1).went (taken p c e.0 at e.1).front);
        only = subst (λ (n : ℕ). AllByRecursion (λ (e : ℕ × (T × T)). e.0 < n) m.log) same m.only;
        made = m.made;
      }
    where
      its : (p : ℕ) (c : Cell T) → slice_get column p ≡ Some c → (end : SqueueEnd T) × (slice_get ends p ≡ Some end)
      its p c at = get_some ends p (subst (λ (n : ℕ). p < n) (sym same) (slice_get_within column p c at))

module _ {T : Type 0} where
  as_came_from : (p : ℕ) (log : List (ℕ × (T × T))) → from_ring p (as_came log) ≡ came_from p log
  as_came_from p [] = refl
  as_came_from p (e ∷ log) = go (as_came_from p log) (e.0 == p) refl
    where
      go : from_ring p (as_came log) ≡ came_from p log → (b : Bool) → (e.0 == p) ≡ b → from_ring p (as_came (e ∷ log)) ≡ came_from p (e ∷ log)
      go rest true is = rw is (ap (λ (l : List T). e.1.0 ∷ l) rest)
      go rest false is = rw is rest

  only_came : (n : ℕ) (log : List (ℕ × (T × T))) → AllByRecursion (λ (e : ℕ × (T × T)). e.0 < n) log → AllByRecursion (λ (e : ℕ × T). e.0 < n) (as_came log)
  only_came n [] all = tt
  only_came n (e ∷ log) all = (all.0, only_came n log all.1)

  -- the log is a mix of what the rings sent
  pub is_mix : (column : List (Cell T)) (log : List (ℕ × (T × T))) → ((p : ℕ) (c : Cell T) → slice_get column p ≡ Some c → came_from p log ≡ sent_of c) → AllByRecursion (λ (e : ℕ × (T × T)). e.0 < length column) log
      → IsMix (map sent_of column) (as_came log)
  is_mix column log each only =
      record {
        each = λ p its at. (let c = from_map sent_of column p its at in as_came_from p log ∙ (each p c.0 c.1 ∙ c.2));
        only = subst (λ (n : ℕ). AllByRecursion (λ (e : ℕ × T). e.0 < n) (as_came log)) (sym (length-map column sent_of)) (only_came (length column) log only);
      }
