-- What a pass has entered is in its own elements.
use Rattle.std.proofs.Common.{◌≡◌, ℕ, ◌+◌, ◌==◌, Bool, true, false, if◌then◌else◌, List, [], ◌∷◌, refl, arith}
use Rattle.perimeter_core.specs.History.{Element, pass_of, made_by}
use Rattle.perimeter_core.specs.Deeds.{entries_of}
use Rattle.perimeter_core.specs.Legal.{feeds_by, asks_by, feed_count, ask_count}

counted : (p : ℕ) (e : Element) (H K : List Element) (b : Bool) → (pass_of e.mark == p) ≡ b → (feeds_by p H ≡ feeds_by p K) × (asks_by p H ≡ asks_by p K)
    → ((if b then feed_count (entries_of e.mark) else 0) + feeds_by p H ≡ feeds_by p (if b then e ∷ K else K)) × ((if b then ask_count (entries_of e.mark) else 0) + asks_by p H ≡ asks_by p (if b then e ∷ K else K))
counted p e H K true is same = rw is (omega (arith, same.0), omega (arith, same.1))
counted p e H K false is same = (omega (arith, same.0), omega (arith, same.1))

pub own_counts : (p : ℕ) (H : List Element) → (feeds_by p H ≡ feeds_by p (made_by p H)) × (asks_by p H ≡ asks_by p (made_by p H))
own_counts p [] = (refl, refl)
own_counts p (e ∷ H) = counted p e H (made_by p H) (pass_of e.mark == p) refl (own_counts p H)
