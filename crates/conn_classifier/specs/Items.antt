-- The items of a connection: its segments in record order, each with its time and hint, and the times between and behind them.
use Rattle.std.specs.Prelude.{ℕ, ◌==◌, ◌&&◌, ◌+◌, ◌%◌, not, nat_le, max, Bool, List, [], ◌∷◌, ◌++◌, filter, Option, None, Some, suc, if◌then◌else◌}
use Rattle.std.specs.List.{find}
use Rattle.std.specs.Option.{option_map_or}
use Rattle.sq_base.specs.declared.kinds.Tuple.{Tuple}
use Rattle.segment_codec.specs.ControlBits.{has_ack, has_rst, has_syn}
use Rattle.segment_codec.specs.declared.packet.Packet.{Packet}
use Rattle.segment_codec.specs.declared.packet.Seg.{Seg}
use Rattle.conn_classifier.specs.Limits.{least_gap}
use Rattle.segment_codec.specs.Refusal.{tuple_of}
use Rattle.conn_classifier.specs.Connections.{served_in, tuple_eq}
use Rattle.conn_classifier.specs.declared.rules.Ports.{Ports}
use Rattle.conn_classifier.specs.declared.kinds.Item.{Item}
use Rattle.conn_classifier.specs.declared.kinds.Item.TheVariants.{Time, Segment}
use Rattle.conn_classifier.specs.declared.kinds.Arrival.{Arrival}

-- a record: its time and its packet
abbrev pub Seen : Type 0
Seen = ℕ × Packet

-- the segment of a record with this number, where it goes to a served port
abbrev pub arrival : ℕ → ℕ → Option Seg → List Arrival
arrival n time None = []
arrival n time (Some s) = record { rec = n; at = time; seg = s } ∷ []

-- all those of the records, numbered from n
abbrev pub arrivals : Ports → ℕ → List Seen → List Arrival
arrivals ports n [] = []
arrivals ports n (x ∷ xs) = arrival n x.0 (served_in ports x.1) ++ arrivals ports (suc n) xs

-- those of one connection
unfoldable pub of_conn : Ports → Tuple → List Seen → List Arrival
of_conn ports t xs = filter (λ a. tuple_eq (tuple_of a.seg) t) (arrivals ports 0 xs)

-- a later segment that decides the hint of a SYN with this sequence number: a SYN with another number, or else an ACK that is no reset
abbrev pub decides : ℕ → Arrival → Bool
decides seq a = if has_syn a.seg then not (a.seg.seq == seq) else (not (has_rst a.seg) && has_ack a.seg)

-- what the deciding segment says: a SYN nothing, an ACK the number before the one that it acknowledges
abbrev pub says : Arrival → ℕ
says a = if has_syn a.seg then 0 else (a.seg.ack + 4294967295) % 4294967296

unfoldable pub looked : ℕ → List Arrival → ℕ
looked seq later = option_map_or says (find (decides seq) later) 0

-- the initial sequence number that the later segments acknowledge, for a SYN
abbrev pub hint : Seg → List Arrival → ℕ
hint s later = if has_syn s then looked s.seq later else 0

-- the time item before a segment that comes at least 100,000 microseconds after the last one
abbrev pub gap : ℕ → ℕ → List Item
gap last at = if nat_le (last + least_gap) at then Time at ∷ [] else []

-- the items of the segments behind one of this time
abbrev pub items_after : ℕ → List Arrival → List Item
items_after last [] = []
items_after last (a ∷ more) =
    gap last (max last a.at) ++ Segment (max last a.at) a.rec (hint a.seg more) a.seg ∷ items_after (max last a.at) more

-- all items of the segments, where this is the greatest time of all records
abbrev pub items_of : ℕ → List Arrival → List Item
items_of last [] = []
items_of last (a ∷ more) = Segment a.at a.rec (hint a.seg more) a.seg ∷ (items_after a.at more ++ Time last ∷ [])

-- the items of a connection in the records seen, of which the greatest time is given
unfoldable pub conn_items : Ports → ℕ → Tuple → List Seen → List Item
conn_items ports last t xs = items_of last (of_conn ports t xs)
