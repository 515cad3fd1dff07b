-- What one pass over the records sorts out: the streams with their datagrams, the segments of each, and how many records are served.
use Rattle.std.specs.Prelude.{ℕ, ◌||◌, nat_le, max, List, [], ◌∷◌, ◌++◌, map, filter, length, if◌then◌else◌}
use Rattle.std.specs.List.{list_any}
use Rattle.sq_base.specs.declared.kinds.Tuple.{Tuple}
use Rattle.udp_codec.specs.declared.datagram.Udp.{Udp}
use Rattle.conn_classifier.specs.Connections.{tuple_eq}
use Rattle.conn_classifier.specs.Items.{items_of}
use Rattle.conn_classifier.specs.declared.kinds.Arrival.{Arrival}
use Rattle.stream_plan.specs.Limits.{most_streams}
use Rattle.stream_plan.specs.declared.kinds.Arrived.{Arrived}
use Rattle.stream_plan.specs.declared.kinds.ServedDatagram.{ServedDatagram}
use Rattle.stream_plan.specs.declared.kinds.Found.{Found}
use Rattle.stream_plan.specs.declared.kinds.Found.TheVariants as found
use Rattle.stream_plan.specs.Streams.{StreamOf, datagrams_of, is_among, of_stream, rising, segments_of, tuples_in}

pub record SortedOf : Type 0 where
  pub tuples : List Tuple
  -- by number the streams, without items
  pub streams : List StreamOf
  -- by stream its segments
  pub segments : List (List Arrival)
  -- how many records are of these streams, and how many of all streams
  pub served : ℕ
  pub arrived : ℕ

-- a stream of which nothing has arrived
abbrev pub new_stream : Tuple → StreamOf
new_stream t = record { tuple = t; datagrams = []; items = [] }

-- the datagrams of what arrived for a stream
abbrev pub heard_in : Tuple → List Arrived → StreamOf
heard_in t xs = record { tuple = t; datagrams = rising 0 (datagrams_of xs); items = [] }

-- all that is sorted out of what arrived, where these are the streams
abbrev pub sorted_of : List Tuple → List Arrived → SortedOf
sorted_of ts xs = record {
  tuples = ts;
  streams = map (λ t. heard_in t (of_stream t xs)) ts;
  segments = map (λ t. segments_of (of_stream t xs)) ts;
  served = length (filter (is_among ts) xs);
  arrived = length xs;
}

-- the same, where the streams are those of what arrived
abbrev pub sorted_seen : List Arrived → SortedOf
sorted_seen xs = sorted_of (tuples_in xs) xs

-- one more pair of ends: a new one is a stream of which nothing has arrived, where streams still fit
abbrev pub with_stream : Tuple → SortedOf → SortedOf
with_stream t s =
    if nat_le most_streams (length s.tuples) || list_any (tuple_eq t) s.tuples then s
    else record s { tuples = s.tuples ++ t ∷ []; streams = s.streams ++ new_stream t ∷ []; segments = s.segments ++ [] ∷ [] }

-- the time of the last of these, or else this one
abbrev pub last_at : ℕ → List ServedDatagram → ℕ
last_at from [] = from
last_at from (d ∷ ds) = last_at d.at ds

-- a stream with one more datagram, whose time doesn't fall behind that of the one before it
abbrev pub with_datagram : ℕ → ℕ → Udp → StreamOf → StreamOf
with_datagram rec at u s = record s { datagrams = s.datagrams ++ record { at = max (last_at 0 s.datagrams) at; rec = rec; udp = u } ∷ [] }

-- what arrived goes to its stream: a datagram to the stream's own, a segment to the stream's segments
abbrev pub heard : ℕ → ℕ → Found → StreamOf → StreamOf
heard rec at (found.Datagram u) s = with_datagram rec at u s
heard rec at (found.Segment g) s = s

abbrev pub entered : ℕ → ℕ → Found → List Arrival → List Arrival
entered rec at (found.Datagram u) ss = ss
entered rec at (found.Segment g) ss = ss ++ record { rec = rec; at = at; seg = g } ∷ []

-- the first of these streams, each with the items of its segments, where this is the greatest time of all records
abbrev pub filled : ℕ → List StreamOf → List (List Arrival) → List StreamOf
filled last [] ls = []
filled last (s ∷ ss) [] = s ∷ ss
filled last (s ∷ ss) (l ∷ ls) = record s { items = items_of last l } ∷ filled last ss ls
