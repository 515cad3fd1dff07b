-- The feeds that each ring brings.
use Rattle.std.specs.Prelude.{ℕ, ◌%◌, ◌==◌, if◌then◌else◌, List, [], ◌∷◌, ◌++◌, zero, suc}
use Rattle.perimeter_core.specs.declared.entries.Feed.{Feed}

-- k feeds of key c, from number n on
abbrev pub items_of : ℕ → ℕ → ℕ → List Feed
items_of c n zero = []
items_of c n (suc k) = record { c = c; n = n } ∷ items_of c (suc n) k

-- The feeds of ring r, key by key, where the keys from c on have so many items
abbrev pub list_of : ℕ → ℕ → ℕ → List ℕ → List Feed
list_of rings r c [] = []
list_of rings r c (k ∷ counts) = (if c % rings == r then items_of c 0 k else []) ++ list_of rings r (suc c) counts
