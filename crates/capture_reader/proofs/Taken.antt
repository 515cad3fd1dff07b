-- What was taken of a source whose bytes are known.
use Rattle.std.proofs.Common.{◌≡◌, ◌∙◌, ℕ, ◌+◌, ◌≤◌, List, ◌++◌, length, Option, Some, None, subst, sym, ap, arith, length-append}
use Rattle.std.proofs.lemmas.List.{append-nil}
use Rattle.std.specs.Io.KnownBytes.{Consumes}
use Rattle.capture_reader.specs.Limits.{most_bytes, most_taken}
use Rattle.capture_reader.specs.Outcome.{ReadsWhole, TakesTooMany}

pub whole_some : (xs bs : List ℕ) (is : Option (List ℕ)) → ReadsWhole (Some xs) is bs → bs ≡ xs
whole_some xs bs None r = absurd r.taken
whole_some xs bs (Some ys) r = sym (append-nil bs) ∙ ap (λ rest. bs ++ rest) (sym r.ended) ∙ sym r.taken

-- a source that is read whole gives its bytes
pub whole_is : (xs bs : List ℕ) (was is : Option (List ℕ)) → was ≡ Some xs → ReadsWhole was is bs → bs ≡ xs
whole_is xs bs was is e r =
    let Whole : Option (List ℕ) → Type 0 = λ w. ReadsWhole w is bs in
    whole_some xs bs is (subst Whole e r)

-- and no more than them
pub taken_some : (xs bs : List ℕ) (is : Option (List ℕ)) → Consumes (Some xs) is bs → length bs ≤ length xs
taken_some xs bs None t = absurd t
taken_some xs bs (Some ys) t = let sizes : length xs ≡ length bs + length ys = ap length t ∙ length-append bs ys in omega arith

pub not_too_many : (xs : List ℕ) (was is : Option (List ℕ)) → was ≡ Some xs → length xs ≤ most_bytes → TakesTooMany was is → ⊥
not_too_many xs was is e small t =
    let Taken : Option (List ℕ) → Type 0 = λ w. Consumes w is t.bytes in
    let few : length t.bytes ≤ length xs = taken_some xs t.bytes is (subst Taken e t.taken) in
    let many : length t.bytes ≡ most_taken = t.count in
    omega (arith, few, many, small)
