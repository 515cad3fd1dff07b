-- Lists that grow at their ends.
use Rattle.std.proofs.Common.{◌≡◌, Some, List, [], ◌∷◌, ◌++◌, length, slice_get, refl, ap, ◌∙◌, arith, length-append}

-- what is before the last of two equal lists
pub last_gone : {X : Type 0} (xs ys : List X) (a b : X) → xs ++ a ∷ [] ≡ ys ++ b ∷ [] → xs ≡ ys
last_gone [] [] a b is = refl
last_gone [] (y ∷ ys) a b is = absurd (omega (arith, ap length is, length-append ys (b ∷ [])))
last_gone (x ∷ xs) [] a b is = absurd (omega (arith, ap length is, length-append xs (a ∷ [])))
last_gone {X} (x ∷ xs) (y ∷ ys) a b is =
    let first : x ≡ y = cc is in
    let rest : xs ++ a ∷ [] ≡ ys ++ b ∷ [] = cc is in
    ap (λ (z : X). z ∷ xs) first ∙ ap (λ (l : List X). y ∷ l) (last_gone xs ys a b rest)

pub middle_got : {X : Type 0} (xs ys : List X) (x : X) → slice_get ((xs ++ x ∷ []) ++ ys) (length xs) ≡ Some x
middle_got [] ys x = refl
middle_got (z ∷ xs) ys x = middle_got xs ys x
