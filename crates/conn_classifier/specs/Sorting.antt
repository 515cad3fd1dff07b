-- What one pass over the records sorts out: the connections, the records of each, the connection of each arrival, and the counts.
use Rattle.std.specs.Prelude.{ℕ, ◌+◌, ◌||◌, nat_le, Bool, List, [], ◌∷◌, ◌++◌, length, map, Option, position, if◌then◌else◌}
use Rattle.std.specs.List.{filter_map, list_any}
use Rattle.std.specs.Option.{option_map, option_and_then}
use Rattle.sq_base.specs.declared.kinds.Tuple.{Tuple}
use Rattle.segment_codec.specs.declared.packet.Packet.{Packet}
use Rattle.segment_codec.specs.declared.packet.Seg.{Seg}
use Rattle.capture_reader.specs.CaptureFile.{Packet as Captured}
use Rattle.segment_codec.specs.Refusal.{tuple_of}
use Rattle.conn_classifier.specs.Limits.{most_conns}
use Rattle.conn_classifier.specs.Connections.{conns, served_in, tuple_eq}
use Rattle.conn_classifier.specs.Classes.{class_in, counts_of}
use Rattle.conn_classifier.specs.Items.{Seen, of_conn}
use Rattle.conn_classifier.specs.declared.rules.Ports.{Ports}
use Rattle.conn_classifier.specs.declared.kinds.Class.{Class}
use Rattle.conn_classifier.specs.declared.kinds.Class.TheVariants as class
use Rattle.conn_classifier.specs.declared.kinds.Counts.{Counts}

-- the records with their packets
abbrev pub seen_of : List Captured → List Packet → List Seen
seen_of [] ps = []
seen_of (r ∷ rs) [] = []
seen_of (r ∷ rs) (p ∷ ps) = (r.time, p) ∷ seen_of rs ps

-- the number of a segment's connection among these
abbrev pub number_in : List Tuple → Seg → Option ℕ
number_in ts s = position (tuple_eq (tuple_of s)) ts

-- the number of a record's connection, where it is among these
abbrev pub conn_in : Ports → List Tuple → Packet → Option ℕ
conn_in ports ts p = option_and_then (number_in ts) (served_in ports p)

-- that number and the segment
abbrev pub place_in : Ports → List Tuple → Packet → Option (ℕ × Seg)
place_in ports ts p = option_and_then (λ s. option_map (λ c. (c, s)) (number_in ts s)) (served_in ports p)

-- the connection of each record that is of one, in record order
unfoldable pub order_of : Ports → List Tuple → List Seen → List ℕ
order_of ports ts xs = filter_map (λ x. conn_in ports ts x.1) xs

-- the records of a connection's arrivals
abbrev pub recs_of : Ports → Tuple → List Seen → List ℕ
recs_of ports t xs = map (λ a. a.rec) (of_conn ports t xs)

pub record SortedOf : Type 0 where
  pub tuples : List Tuple
  -- by connection the records of its arrivals
  pub lists : List (List ℕ)
  pub order : List ℕ
  pub counts : Counts

-- all that is sorted out of the records seen, in a capture with this many records and a cut tail or none
abbrev pub sorted_of : Ports → ℕ → Bool → List Tuple → List Seen → SortedOf
sorted_of ports records cut ts xs = record {
  tuples = ts;
  lists = map (λ t. recs_of ports t xs) ts;
  order = order_of ports ts xs;
  counts = counts_of records cut (map (λ x. class_in ports ts x.1) xs);
}

-- the same, where the connections are those of the records seen
abbrev pub sorted_seen : Ports → ℕ → Bool → List Seen → SortedOf
sorted_seen ports records cut xs = sorted_of ports records cut (conns ports (map (λ x. x.1) xs)) xs

-- one more tuple: a new one is a connection without segments, where connections still fit
abbrev pub with_conn : Tuple → SortedOf → SortedOf
with_conn t s =
    if nat_le most_conns (length s.tuples) || list_any (tuple_eq t) s.tuples then s
    else record s { tuples = s.tuples ++ t ∷ []; lists = s.lists ++ [] ∷ [] }

-- one more record of this class
abbrev pub counted : Class → Counts → Counts
counted class.Served c = record c { served = c.served + 1 }
counted class.NoFit c = record c { nofit = c.nofit + 1 }
counted class.Server c = record c { server = c.server + 1 }
counted class.Other c = record c { other = c.other + 1 }
counted class.Fragment c = record c { fragment = c.fragment + 1 }
counted class.Cut c = record c { cut = c.cut + 1 }
counted class.Malformed c = record c { malformed = c.malformed + 1 }
counted class.BadSum c = record c { badsum = c.badsum + 1 }

-- how many records were counted
abbrev pub total : Counts → ℕ
total c = c.served + c.nofit + c.server + c.other + c.fragment + c.cut + c.malformed + c.badsum
