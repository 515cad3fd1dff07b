-- Feeds at home, one by one.
use Rattle.std.proofs.Common.{◌≡◌, ℕ, zero, suc, ◌<◌, List, [], ◌∷◌, get_or, length, take, arith}
use Rattle.perimeter_core.specs.declared.entries.Feed.{Feed as FeedOf}
use Rattle.perimeter_core.specs.Deeds.{entries}
use Rattle.histories.specs.Homes.{home}
use Rattle.histories.specs.Keeping.{AreHome}

module _ (squeues spread q : ℕ) (d : FeedOf) where
  pub home_at : (fs : List FeedOf) (i : ℕ) → i < length fs → AreHome squeues spread q (entries fs) → home squeues spread (get_or fs i d).c (get_or fs i d).n ≡ q
  home_at [] i there are = absurd (omega (arith, there))
  home_at (f ∷ fs) zero there are = are.0
  home_at (f ∷ fs) (suc i) there are = home_at fs i (omega (arith, there)) are.1

  pub home_more : (fs : List FeedOf) (i : ℕ) → i < length fs → AreHome squeues spread q (entries (take i fs)) → home squeues spread (get_or fs i d).c (get_or fs i d).n ≡ q → AreHome squeues spread q (entries (take (suc i) fs))
  home_more [] i there are one = absurd (omega (arith, there))
  home_more (f ∷ fs) zero there are one = (one, tt)
  home_more (f ∷ fs) (suc i) there are one = (are.0, home_more fs i (omega (arith, there)) are.1 one)
