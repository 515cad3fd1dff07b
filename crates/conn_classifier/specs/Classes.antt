-- What the records of a capture count as: each in exactly one class.
use Rattle.std.specs.Prelude.{ℕ, ◌+◌, Bool, true, false, List, [], ◌∷◌, if◌then◌else◌}
use Rattle.std.specs.List.{list_any}
use Rattle.sq_base.specs.declared.kinds.Tuple.{Tuple}
use Rattle.segment_codec.specs.declared.packet.Packet.{Packet}
use Rattle.segment_codec.specs.declared.packet.Packet.TheVariants as packet
use Rattle.segment_codec.specs.Refusal.{tuple_of}
use Rattle.conn_classifier.specs.Rules.{is_served}
use Rattle.conn_classifier.specs.Connections.{tuple_eq}
use Rattle.conn_classifier.specs.declared.rules.Ports.{Ports}
use Rattle.conn_classifier.specs.declared.kinds.Class.{Class}
use Rattle.conn_classifier.specs.declared.kinds.Class.TheVariants as class
use Rattle.conn_classifier.specs.declared.kinds.Counts.{Counts}

-- the class of a record, where these are the connections
abbrev pub class_in : Ports → List Tuple → Packet → Class
class_in ports ts (packet.Segment s) =
    if is_served ports s.dst_port then (if list_any (tuple_eq (tuple_of s)) ts then class.Served else class.NoFit)
    else if is_served ports s.src_port then class.Server
    else class.Other
class_in ports ts packet.Other = class.Other
class_in ports ts packet.Fragment = class.Fragment
class_in ports ts packet.Cut = class.Cut
class_in ports ts (packet.Malformed why) = class.Malformed
class_in ports ts packet.BadSum = class.BadSum

abbrev pub same_class : Class → Class → Bool
same_class class.Served class.Served = true
same_class class.NoFit class.NoFit = true
same_class class.Server class.Server = true
same_class class.Other class.Other = true
same_class class.Fragment class.Fragment = true
same_class class.Cut class.Cut = true
same_class class.Malformed class.Malformed = true
same_class class.BadSum class.BadSum = true
same_class _ _ = false

-- how many are of this class
abbrev pub tally : Class → List Class → ℕ
tally c [] = 0
tally c (x ∷ xs) = (if same_class c x then 1 else 0) + tally c xs

-- the counts of a capture with this many records, of which the last was cut or not, where these classes are known
abbrev pub counts_of : ℕ → Bool → List Class → Counts
counts_of records cut cs = record {
  records = records;
  tail = if cut then 1 else 0;
  served = tally class.Served cs;
  nofit = tally class.NoFit cs;
  server = tally class.Server cs;
  other = tally class.Other cs;
  fragment = tally class.Fragment cs;
  cut = tally class.Cut cs;
  malformed = tally class.Malformed cs;
  badsum = tally class.BadSum cs;
}
