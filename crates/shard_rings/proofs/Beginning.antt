-- What a ring knows when it begins.
use Rattle.std.proofs.Common.{◌≡◌, ℕ, zero, suc, Option, Some, None, List, [], ◌∷◌, length, map, replicate, slice_get, refl, ap, sym, ◌∙◌, subst, arith}
use Rattle.turn_gate.specs.Passes.{seen}
use Rattle.turn_gate.specs.declared.pass.Pass.{Pass}
use Rattle.perimeter_core.specs.Perimeter.{Idle, is_here}
use Rattle.perimeter_core.specs.History.{Element, Limits, Setting, run}
use Rattle.perimeter_core.specs.Deeds.{due, times_left}
use Rattle.perimeter_core.specs.Legal.{asks_by, feeds_by}
use Rattle.squeue_state.specs.Naming.{Named, setting_of}
use Rattle.squeue_serve.specs.Places.{Holds, IsNew}
use Rattle.squeue_serve.proofs.Unused.{start_idle}
use Rattle.squeue_rings.proofs.Slots.{at_got, at_length}
use Rattle.shard_rings.specs.declared.cell.Cell.{Cell}
use Rattle.shard_rings.specs.declared.run.RingTask.{RingTask}
use Rattle.shard_rings.specs.Knowing.{IsAt, SameEnd, Serves, sent_of}
use Rattle.shard_rings.specs.Rows.{AreKnown, IsKnown, SameEnds}
use Rattle.shard_rings.specs.Tasks.{IsNewCell, IsReady}
use Rattle.shard_rings.proofs.Rows.{some_is}

module _ {R : Type 0} (limits : R → Limits) (s : Named R) (ring : ℕ) where
  -- by a new pass
  new_at : (p : Pass Element) → Serves limits s ring → IsNew ring s p → IsAt limits s ring 0 0 p
  new_at p serves new =
      let S : Setting = setting_of limits s.given in
      let none = new.none_seen in
      let left : times_left ring (seen p) ≡ 0 = ap (times_left ring) none in
      let asks : asks_by ring (seen p) ≡ 0 = ap (asks_by ring) none in
      record {
        pass = new.pass;
        is_number = new.is_number;
        idle = subst (λ (H : List Element). Idle (run S H) ring) (sym none) (start_idle S ring);
        here = ap (λ (H : List Element). is_here (run S H) ring) none ∙ serves.begins;
        next = ap (λ (H : List Element). due H ring) none;
        left = omega (arith, left);
        asks = omega (arith, asks);
        feeds = ap (feeds_by ring) none;
      }

  new_known : {T : Type 0} (o : Option (Pass Element)) (c : Cell T) → Serves limits s ring → Holds (IsNew ring s) o → IsNewCell c → IsKnown limits ring s o c
  new_known None c serves new none = absurd new
  new_known (Some p) c serves new none =
      record {
        serves = serves;
        at = subst (λ (n : ℕ). IsAt limits s ring n (length (sent_of c)) p) (sym none.2) (subst (λ (n : ℕ). IsAt limits s ring 0 n p) (sym (ap length none.0)) (new_at p serves new));
      }

module _ {B R T : Type 0} (limits : R → Limits) (squeues : List (Named R)) (places : List (Option (Pass Element))) (a : RingTask B T) (ready : IsReady limits squeues places a) where
  -- of each squeue
  pub known_first : AreKnown limits a.number squeues places a.cells.items
  known_first =
      record {
        places_count = at_length (λ s o. Holds (IsNew a.number s) o) squeues places ready.passes;
        cells_count = ready.cells;
        each = λ q s o c squeue place its.
            new_known limits s a.number o c (ready.serves q s squeue) (at_got (λ s o. Holds (IsNew a.number s) o) squeues places q s o ready.passes squeue place) (ready.new q c its);
      }

pub same_ends : {T : Type 0} (xs : List (Cell T)) → SameEnds xs xs
same_ends xs =
    record {
      count = refl;
      each = λ q a b first then. subst (SameEnd a) (some_is (sym first ∙ then)) (((refl, refl, refl, refl), refl), ((refl, refl, refl, refl), refl));
    }

-- nothing is in any cell
pub all_nothing : {A T : Type 0} (f : A → List T) (xs : List A) (n : ℕ) → n ≡ length xs → ((q : ℕ) (x : A) → slice_get xs q ≡ Some x → f x ≡ []) → map f xs ≡ replicate n []
all_nothing f [] zero same none = refl
all_nothing f [] (suc n) same none = absurd (omega (arith, same))
all_nothing f (x ∷ xs) zero same none = absurd (omega (arith, same))
all_nothing f (x ∷ xs) (suc n) same none =
    let first : f x ≡ [] = none 0 x refl in
    let rest : map f xs ≡ replicate n [] = all_nothing f xs n (omega (arith, same)) (λ q y is. none (suc q) y is) in
    rw (first, rest) refl
