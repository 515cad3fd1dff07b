-- The traces of a run that kept its marks are the marks of its histories.
use Rattle.std.proofs.Common.{◌≡◌, ◌∙◌, ℕ, suc, Bool, true, if◌then◌else◌, IfSome, Some, List, [], ◌∷◌, length, map, slice_get, refl, ap, subst, arith}
use Rattle.perimeter_core.specs.declared.marks.Mark.{Mark}
use Rattle.histories.specs.Endings.{Ending}
use Rattle.squeue_state.specs.Told.{Traced, marks_of}

-- the marks of a history
abbrev pub marks_in : Ending → List Mark
marks_in e = map (λ m. m.mark) e.history

abbrev AreTraced : List Traced → List Ending → Type 0
AreTraced ts es = (q : ℕ) (e : Ending) → slice_get es q ≡ Some e → IfSome (slice_get ts q) (λ t. marks_of t ≡ marks_in e)

traced : (ts : List Traced) (es : List Ending) → length ts ≡ length es → AreTraced ts es → map marks_of ts ≡ map marks_in es
traced [] [] n h = refl
traced [] (e ∷ es) n h = absurd (omega (arith, n))
traced (t ∷ ts) [] n h = absurd (omega (arith, n))
traced (t ∷ ts) (e ∷ es) n h =
    let first : marks_of t ≡ marks_in e = h 0 e refl in
    let others : map marks_of ts ≡ map marks_in es = traced ts es (omega (arith, n)) (λ q f is. h (suc q) f is) in
    ap (λ x. x ∷ map marks_of ts) first ∙ ap (λ xs. marks_in e ∷ xs) others

pub marks_are : (trace : Bool) (ts : List Traced) (es : List Ending) → trace ≡ true → length ts ≡ length es
    → ((q : ℕ) (e : Ending) → slice_get es q ≡ Some e → IfSome (slice_get ts q) (λ t. marks_of t ≡ (if trace then map (λ m. m.mark) e.history else [])))
    → map marks_of ts ≡ map (λ e. map (λ m. m.mark) e.history) es
marks_are trace ts es on n h =
    traced ts es n (λ q e is. subst (λ b. IfSome (slice_get ts q) (λ t. marks_of t ≡ (if b then marks_in e else []))) on (h q e is))
