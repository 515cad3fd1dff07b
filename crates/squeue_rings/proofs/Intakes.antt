-- Intakes of rings, one after another.
use Rattle.std.proofs.Common.{◌≡◌, ℕ, ◌+◌, Some, List, [], ◌∷◌, ◌++◌, length, length-append, map, slice_get, refl, sym, subst, arith}
use Rattle.std.proofs.lemmas.List.{length-map}
use Rattle.perimeter_core.specs.declared.entries.Feed.{Feed}
use Rattle.histories.proofs.ListPlaces.{from_map}
use Rattle.squeue_rings.specs.declared.intake.IntakeEnds.{IntakeEnds}
use Rattle.squeue_rings.specs.declared.intake.Intake.{Intake}
use Rattle.squeue_rings.specs.Tasks.{AreIntakes, AreUnused, IsUnused}
use Rattle.squeue_rings.proofs.Tasked.{each_more}

module _ (P : ℕ → List Feed → Type 0) where
  -- the first n rings have their intakes
  pub record HaveIntakes (n : ℕ) (es : List IntakeEnds) : Type 0 where
    pub count : length es ≡ n
    pub each : (r : ℕ) (e : IntakeEnds) → slice_get es r ≡ Some e → P r e.intake.list.items
    pub unused : AreUnused es

  pub no_intake : HaveIntakes 0 []
  no_intake = record { count = refl; each = λ r e is. cc is; unused = λ r e is. cc is }

  pub intake_more : (n : ℕ) (es : List IntakeEnds) (e : IntakeEnds) (list : List Feed) → HaveIntakes n es → P n list → e.intake.list.items ≡ list → IsUnused e → HaveIntakes (n + 1) (es ++ e ∷ [])
  intake_more n es e list so is same unused =
      record {
        count = let c = so.count in omega (arith, c, length-append es (e ∷ []));
        each = each_more (λ r (e : IntakeEnds). P r e.intake.list.items) es e so.each (subst (λ (k : ℕ). P k e.intake.list.items) (sym so.count) (subst (P n) (sym same) is));
        unused = each_more (λ r e. IsUnused e) es e so.unused unused;
      }

  pub all_intakes : (n rings : ℕ) (es : List IntakeEnds) → n ≡ rings → HaveIntakes n es → AreIntakes P rings (map (λ e. e.intake) es)
  all_intakes n rings es all so =
      record {
        count = let c = so.count in let m = length-map es (λ (e : IntakeEnds). e.intake) in omega (arith, c, m, all);
        each = λ r l at. let e = from_map (λ (e : IntakeEnds). e.intake) es r l at in subst (λ (l : Intake). P r l.list.items) e.2 (so.each r e.0 e.1);
      }
