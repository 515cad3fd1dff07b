-- The plan of a capture: its connections by number, and the items of each by number.
use Rattle.std.specs.Prelude.{sum_by, ℕ, ◌≡◌, ◌==◌, filter, ◌+◌, ◌<◌, ◌≤◌, Bool, true, List, [], ◌∷◌, take, drop, length, map, get_or, slice_get, IfSome}
use Rattle.std.specs.List.{AllByRecursion}
use Rattle.std.specs.Option.{option_map_or}
use Rattle.sq_base.specs.declared.kinds.Tuple.{Tuple}
use Rattle.segment_codec.specs.Packet.{packet_in}
use Rattle.capture_reader.specs.CaptureFile.{last_time}
use Rattle.capture_reader.specs.Limits.{latest_time, most_records}
use Rattle.capture_reader.specs.Outcome.{CaptureFile}
use Rattle.conn_classifier.specs.Limits.{most_conns, most_items}
use Rattle.conn_classifier.specs.Rules.{is_served, usual}
use Rattle.conn_classifier.specs.Connections.{conns, decoded}
use Rattle.conn_classifier.specs.Classes.{class_in, counts_of}
use Rattle.conn_classifier.specs.Items.{Seen, conn_items}
use Rattle.conn_classifier.specs.Sorting.{order_of}
use Rattle.conn_classifier.specs.declared.kinds.Item.{Item}
use Rattle.conn_classifier.specs.declared.kinds.Item.TheVariants.{Time, Segment}
use Rattle.conn_classifier.specs.declared.kinds.Counts.{Counts}
use Rattle.conn_classifier.specs.declared.rules.Ports.{Ports}
use Rattle.conn_classifier.specs.declared.rules.Rules.{Rules}

-- the capture; the ports of the services; by number the connections and the items of each; the connection of each served segment, in record order; the counts
pub record PlanOf : Type 0 where
  pub file : CaptureFile
  pub ports : Ports
  pub tuples : List Tuple
  pub items : List (List Item)
  pub order : List ℕ
  pub counts : Counts

-- the records of a capture: time and packet
abbrev pub seen : CaptureFile → Bool → List Seen
seen file verify = map (λ r. (r.time, packet_in file.link r.body verify)) file.packets

unfoldable pub plan_by : CaptureFile → Rules → PlanOf
plan_by file rules =
    let ts = conns rules.ports (decoded file rules.verify) in
    record {
      file = file;
      ports = rules.ports;
      tuples = ts;
      items = map (λ t. conn_items rules.ports (last_time file.packets) t (seen file rules.verify)) ts;
      order = order_of rules.ports ts (seen file rules.verify);
      counts = counts_of (length file.packets) file.cut (map (λ x. class_in rules.ports ts x.1) (seen file rules.verify));
    }

-- the plan by the well-known ports
abbrev pub plan_of : CaptureFile → Bool → PlanOf
plan_of file verify = plan_by file (usual verify)

-- the items of connection c
abbrev pub items_in : PlanOf → ℕ → List Item
items_in p c = get_or p.items c []

abbrev pub time_of : Item → ℕ
time_of (Time at) = at
time_of (Segment at rec iss seg) = at

-- the text of an item: the segment's, in its record's body; a time item has none
abbrev pub text_of : CaptureFile → Item → List ℕ
text_of file (Time at) = []
text_of file (Segment at rec iss seg) = take seg.text_len (drop seg.text_from (option_map_or (λ p. p.body) (slice_get file.packets rec) []))

abbrev pub text_len_of : Item → ℕ
text_len_of (Time at) = 0
text_len_of (Segment at rec iss seg) = seg.text_len

-- a segment's record is one of the capture's, and its text lies within the record's body
abbrev pub IsInside : CaptureFile → Item → Type 0
IsInside file (Time at) = Unit {0}
IsInside file (Segment at rec iss seg) = (rec < length file.packets) × IfSome (slice_get file.packets rec) (λ p. seg.text_from + seg.text_len ≤ length p.body)

-- times never fall from one item to the next, and stay within a number
abbrev pub Rises : ℕ → ℕ → List Item → Type 0
Rises last most [] = last ≤ most
Rises last most (x ∷ xs) = (last ≤ time_of x) × Rises (time_of x) most xs

-- a time item stands before a segment, but for the last item, which is one
abbrev pub IsSpaced : List Item → Type 0
IsSpaced [] = ⊥
IsSpaced (Segment at rec iss seg ∷ xs) = IsSpaced xs
IsSpaced (Time at ∷ []) = Unit {0}
IsSpaced (Time at ∷ (Time then ∷ xs)) = ⊥
IsSpaced (Time at ∷ (Segment then rec iss seg ∷ xs)) = IsSpaced xs

-- the records of the segments among items
abbrev pub records_of : List Item → List ℕ
records_of [] = []
records_of (Time at ∷ xs) = records_of xs
records_of (Segment at rec iss seg ∷ xs) = rec ∷ records_of xs

-- numbers that never fall, from one on
abbrev pub Climbs : ℕ → List ℕ → Type 0
Climbs least [] = Unit {0}
Climbs least (x ∷ xs) = (least ≤ x) × Climbs x xs

-- the items of one connection: there is one, their times rise, and their texts are in the capture
pub record IsItems (file : CaptureFile) (xs : List Item) : Type 0 where
  pub some : 0 < length xs
  pub many : length xs ≤ most_items
  pub rising : Rises 0 latest_time xs
  pub inside : AllByRecursion (IsInside file) xs
  pub spaced : IsSpaced xs

-- the connections of the served segments stand in record order: each segment's record is known, and these records never fall
pub record IsOrdered (p : PlanOf) : Type 0 where
  -- by segment: its connection and its record
  pub places : List (ℕ × ℕ)
  pub few : length places ≤ most_records
  pub order : p.order ≡ map (λ q. q.0) places
  pub rising : Climbs 0 (map (λ q. q.1) places)
  pub within : AllByRecursion (λ (q : ℕ × ℕ). q.0 < length p.tuples) places
  pub each : (c : ℕ) → c < length p.tuples → records_of (items_in p c) ≡ map (λ q. q.1) (filter (λ q. q.0 == c) places)

-- what holds of every plan
pub record IsPlan (p : PlanOf) : Type 0 where
  pub few : length p.tuples ≤ most_conns
  pub listed : length p.items ≡ length p.tuples
  pub served : AllByRecursion (λ t. is_served p.ports t.server_port ≡ true) p.tuples
  pub each : AllByRecursion (IsItems p.file) p.items
  pub ordered : IsOrdered p

-- how many items all connections have together
abbrev pub items_together : PlanOf → ℕ
items_together p = sum_by (λ xs. length xs) p.items
