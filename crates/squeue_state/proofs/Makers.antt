-- The elements of a pass, and what others made since it last looked.
use Rattle.std.proofs.Common.{◌≡◌, ◌==◌, if◌then◌else◌, ℕ, Bool, true, false, List, [], ◌∷◌, ◌++◌, ap, sym, ◌∙◌, refl}
use Rattle.turn_gate.specs.History.{only}
use Rattle.perimeter_core.specs.History.{Element, pass_of, made_by}
use Rattle.histories.specs.Elements.{number_of}

-- the gate's elements of a number are the machine's elements of that pass
pub only_made : (p : ℕ) (H : List Element) → only number_of p H ≡ made_by p H
only_made p [] = refl
only_made p (e ∷ H) = ap (λ (xs : List Element). if pass_of e.mark == p then e ∷ xs else xs) (only_made p H)

one_more : (b : Bool) (e : Element) (xs ys : List Element) → (if b then e ∷ (xs ++ ys) else xs ++ ys) ≡ (if b then e ∷ xs else xs) ++ ys
one_more true e xs ys = refl
one_more false e xs ys = refl

pub made-append : (p : ℕ) (H K : List Element) → made_by p (H ++ K) ≡ made_by p H ++ made_by p K
made-append p [] K = refl
made-append p (e ∷ H) K = ap (λ (xs : List Element). if pass_of e.mark == p then e ∷ xs else xs) (made-append p H K) ∙ one_more (pass_of e.mark == p) e (made_by p H) (made_by p K)

no_more : (xs ys : List Element) → xs ≡ xs ++ ys → ys ≡ []
no_more [] ys e = sym e
no_more (x ∷ xs) ys e = no_more xs ys (cc e)

-- where the pass knows its own elements before and after, others made what lies between
pub others_made : (p : ℕ) (H K mine : List Element) → only number_of p H ≡ mine → only number_of p (H ++ K) ≡ mine → made_by p K ≡ []
others_made p H K mine before now =
    let h : made_by p H ≡ mine = sym (only_made p H) ∙ before in
    let all : made_by p H ++ made_by p K ≡ mine = sym (made-append p H K) ∙ (sym (only_made p (H ++ K)) ∙ now) in
    no_more (made_by p H) (made_by p K) (h ∙ sym all)
