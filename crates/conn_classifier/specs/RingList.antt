-- What a ring brings, and in which order: the items of its connections in record order, a time item just before its segment, and then
-- the last time items by connection.
use Rattle.std.specs.Prelude.{Bool, true, false, ℕ, ◌≡◌, ◌==◌, ◌-◌, ◌<◌, ◌%◌, List, [], ◌∷◌, ◌++◌, drop, filter, length, map, suc, if◌then◌else◌}
use Rattle.std.specs.List.{AllByRecursion, range_with_len}
use Rattle.perimeter_core.specs.declared.entries.Feed.{Feed}
use Rattle.conn_classifier.specs.declared.kinds.Item.{Item}
use Rattle.conn_classifier.specs.declared.kinds.Item.TheVariants.{Time, Segment}
use Rattle.conn_classifier.specs.Plan.{PlanOf, items_in, Climbs}

-- so many feeds of connection c, from n on
abbrev pub feeds : ℕ → ℕ → ℕ → List Feed
feeds c n count = map (λ m. record { c = c; n = m }) (range_with_len n count)

-- the record of the first segment of these items
abbrev pub first_record : List Item → ℕ
first_record [] = 0
first_record (Time at ∷ xs) = first_record xs
first_record (Segment at rec iss seg ∷ xs) = rec

abbrev pub is_time : Item → Bool
is_time (Time at) = true
is_time (Segment at rec iss seg) = false

-- how many items there are up to and with the first segment
abbrev pub to_segment : List Item → ℕ
to_segment [] = 0
to_segment (Time at ∷ xs) = suc (to_segment xs)
to_segment (Segment at rec iss seg ∷ xs) = 1

-- the record that a feed stands for: a segment for its own, a time item for that of the segment behind it
abbrev pub record_of : PlanOf → Feed → ℕ
record_of p f = first_record (drop f.n (items_in p f.c))

-- the feeds of all items but the last ones: of each connection of the ring in order, and along all of them the records never fall
pub record IsFront (p : PlanOf) (rings r : ℕ) (front : List Feed) : Type 0 where
  pub each : (c : ℕ) → c < length p.tuples → filter (λ f. f.c == c) front ≡ (if c % rings == r then feeds c 0 (length (items_in p c) - 1) else [])
  pub only : AllByRecursion (λ (f : Feed). f.c < length p.tuples) front
  pub rising : Climbs 0 (map (record_of p) front)

-- the feeds of the last items, of those of the first so many connections that are the ring's
abbrev pub last_feeds : PlanOf → ℕ → ℕ → ℕ → List Feed
last_feeds p rings r count = map (λ c. record { c = c; n = length (items_in p c) - 1 }) (filter (λ c. c % rings == r) (range_with_len 0 count))

pub record IsRingList (p : PlanOf) (rings r : ℕ) (list : List Feed) : Type 0 where
  pub front : List Feed
  pub is : IsFront p rings r front
  pub whole : list ≡ front ++ last_feeds p rings r (length p.tuples)
