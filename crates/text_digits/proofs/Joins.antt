-- Texts joined one after another.
use Rattle.std.proofs.Common.{◌≡◌, ℕ, None, List, [], ◌++◌, ap, append-nil, append_assoc, length-append}
use Rattle.text_digits.specs.Told.{Told, more}

pub more_more : (t : Told) (a b : List ℕ) → more (more t a) b ≡ more t (a ++ b)
unfolding more
more_more t a b = ap (λ l. record t { text = l }) (append_assoc t.text a b)

pub more_none : (t : Told) → more t [] ≡ t
unfolding more
more_none t = ap (λ l. record t { text = l }) (append-nil t.text)

-- a text in memory
pub in_memory : (old new bytes : List ℕ) → record { place = 0; was = None; faults = 0; text = new } ≡ more (record { place = 0; was = None; faults = 0; text = old }) bytes → new ≡ old ++ bytes
unfolding more
in_memory old new bytes e = ap (λ (t : Told). t.text) e

pub ruleset joins = (more_more, append_assoc, length-append)
