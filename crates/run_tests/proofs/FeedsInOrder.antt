-- Orders whose feeds rise, one act further.
use Rattle.std.proofs.Common.{ℕ, ◌+◌, ◌≤◌, List, [], ◌∷◌, ◌++◌, arith}
use Rattle.perimeter_core.specs.declared.entries.Act.{Act}
use Rattle.perimeter_core.specs.declared.entries.Act.TheVariants as act
use Rattle.conn_blocks.specs.ServeOrder.{FeedsRise}

-- the feeds' numbers rise from lo on, and are below hi
abbrev pub RisesTo : ℕ → ℕ → List Act → Type 0
RisesTo lo hi [] = lo ≤ hi
RisesTo lo hi (act.Feed m ∷ xs) = (lo ≤ m) × RisesTo (m + 1) hi xs
RisesTo lo hi (act.Call j k ∷ xs) = RisesTo lo hi xs

pub rises : (lo hi : ℕ) (xs : List Act) → RisesTo lo hi xs → FeedsRise lo xs
rises lo hi [] h = tt
rises lo hi (act.Feed m ∷ xs) h = (h.0, rises (m + 1) hi xs h.1)
rises lo hi (act.Call j k ∷ xs) h = rises lo hi xs h

pub rises_feed : (lo hi n : ℕ) (xs : List Act) → hi ≤ n → RisesTo lo hi xs → RisesTo lo (n + 1) (xs ++ act.Feed n ∷ [])
rises_feed lo hi n [] le h = (omega (arith, h, le), omega arith)
rises_feed lo hi n (act.Feed m ∷ xs) le h = (h.0, rises_feed (m + 1) hi n xs le h.1)
rises_feed lo hi n (act.Call j k ∷ xs) le h = rises_feed lo hi n xs le h

pub rises_call : (lo hi j k : ℕ) (xs : List Act) → RisesTo lo hi xs → RisesTo lo hi (xs ++ act.Call j k ∷ [])
rises_call lo hi j k [] h = h
rises_call lo hi j k (act.Feed m ∷ xs) h = (h.0, rises_call (m + 1) hi j k xs h.1)
rises_call lo hi j k (act.Call i m ∷ xs) h = rises_call lo hi j k xs h
