-- Where the feeds of a list are at home, and which of their connections move before them.
use Rattle.std.specs.Prelude.{◌≡◌, ℕ, ◌+◌, ◌-◌, ◌==◌, ◌&&◌, if◌then◌else◌, not, Bool, List, [], ◌∷◌, length}
use Rattle.perimeter_core.specs.declared.entries.Feed.{Feed}
use Rattle.perimeter_core.specs.Deeds.{entries, feeds_of}
use Rattle.perimeter_core.specs.Backlog.{up}
use Rattle.histories.specs.Homes.{home}

-- how many of these feeds are the connection's
abbrev pub brought : ℕ → List Feed → ℕ
brought c fs = length (feeds_of c (entries fs))

-- the feeds of each connection come in order, from the first on
abbrev pub InOrder : List Feed → Type 0
InOrder fs = (c : ℕ) → feeds_of c (entries fs) ≡ up 0 (brought c fs)

-- how many of these feeds pass
abbrev pub count : (Feed → Bool) → List Feed → ℕ
count test [] = 0
count test (f ∷ fs) = (if test f then 1 else 0) + count test fs

module _ (squeues spread : ℕ) where
  -- the home of the feed's connection when it comes, and before it
  abbrev pub home_of : Feed → ℕ
  home_of f = home squeues spread f.c f.n

  abbrev pub home_before : Feed → ℕ
  home_before f = home squeues spread f.c (f.n - 1)

  -- its connection is at home at squeue q when it comes
  abbrev pub is_at : ℕ → Feed → Bool
  is_at q f = home_of f == q

  -- it leaves squeue q before the feed; it comes to squeue q before the feed
  abbrev pub leaves : ℕ → Feed → Bool
  leaves q f = (home_before f == q) && not (home_of f == q)

  abbrev pub comes : ℕ → Feed → Bool
  comes q f = not (home_before f == q) && (home_of f == q)

  -- connection c leaves squeue q before the feed
  abbrev pub is_left_by : ℕ → ℕ → Feed → Bool
  is_left_by c q f = (f.c == c) && leaves q f

  -- where connection c is when it has moved for its last feed among these
  abbrev pub place : ℕ → List Feed → ℕ
  place c fs = home squeues spread c (brought c fs - 1)

  -- it moves before the feed
  abbrev pub moves : Feed → Bool
  moves f = not (home_before f == home_of f)

  -- how many feeds from the first on are at its home without a move between them
  abbrev pub run_of : ℕ → List Feed → ℕ
  run_of q [] = 0
  run_of q (f ∷ fs) = if (home_of f == q) && not (moves f) then 1 + run_of q fs else 0
