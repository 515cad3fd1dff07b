-- A protocol for tests: each byte is a request, its answer is a line of it, and a z is the last.
use Rattle.std.specs.Prelude.{◌≡◌, ℕ, ◌+◌, ◌≤◌, ◌==◌, not, List, [], ◌∷◌, ◌++◌, length, take, replicate, Option, None, Some}
use Rattle.std.proofs.Common.{ap, ◌∙◌, arith, length-append}
use Rattle.std.proofs.lemmas.List.{length-replicate}
use Rattle.page_service.specs.Protocol.{Protocol, IsProtocol}

abbrev pub letter : List ℕ → Option (ℕ × ℕ)
letter [] = None
letter (b ∷ bs) = Some (b, 1)

abbrev pub letters : Protocol ℕ
letters = record { answers = λ _ bytes. letter bytes; text = λ b. replicate 64 b ++ 10 ∷ []; keeps = λ b. not (b == 122) }

one : (bytes : List ℕ) (found : ℕ × ℕ) → letter bytes ≡ Some found → (found.1 ≡ 1) × (1 ≤ length bytes) × ((more : List ℕ) → letter (take 1 bytes ++ more) ≡ Some found)
one [] found e = cc
one (b ∷ bs) found e = let f : found.1 ≡ 1 = cc in (f, omega arith, λ more. e)

pub letters-sound : IsProtocol letters
letters-sound = record {
  counted = λ at bytes found e. let h = one bytes found e in let n = h.0 in let l = h.1 in omega (arith, n, l);
  alone = λ at bytes more found e. let h = one bytes found e in ap (λ (n : ℕ). letter (take n bytes ++ more)) h.0 ∙ h.2 more;
  long = λ b. let l = length-append (replicate 64 b) (10 ∷ []) in let r = length-replicate 64 b in omega (arith, l, r);
}
