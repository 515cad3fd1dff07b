-- What the items of a stream are served into, in order: echo answers each datagram with its own text (RFC 862), discard with
-- nothing (RFC 863), and the generator's block is given each segment and each time.
use Rattle.std.specs.Prelude.{ℕ, ◌-◌, ◌==◌, List, [], ◌∷◌, take, drop, map, length, slice_get, if◌then◌else◌}
use Rattle.std.specs.List.{flat_map}
use Rattle.std.specs.Option.{option_map_or}
use Rattle.sq_base.specs.Ports.{echo_port}
use Rattle.sq_base.specs.declared.kinds.Tuple.{Tuple}
use Rattle.capture_reader.specs.Outcome.{CaptureFile}
use Rattle.udp_codec.specs.UdpBytes.{udp_bytes}
use Rattle.chargen_service.specs.Chargen.{Generating, new_generating, Entry, segment, time, serves}
use Rattle.conn_classifier.specs.declared.kinds.Item.{Item}
use Rattle.conn_classifier.specs.declared.kinds.Item.TheVariants as item
use Rattle.stream_plan.specs.declared.kinds.ServedDatagram.{ServedDatagram}
use Rattle.stream_plan.specs.Streams.{StreamOf, item_count}
use Rattle.datagram_services.specs.declared.answer.SentDatagram.{SentDatagram}

-- a text of the capture: so many bytes of a record's body, from a place on
abbrev pub text_in : CaptureFile → ℕ → ℕ → ℕ → List ℕ
text_in file rec from len = take len (drop from (option_map_or (λ p. p.body) (slice_get file.packets rec) []))

-- echo answers a datagram at its time with the same text, discard with nothing
abbrev pub answers_to : CaptureFile → Tuple → ServedDatagram → List SentDatagram
answers_to file t d =
    if t.server_port == echo_port then record { at = d.at; datagram = udp_bytes t (text_in file d.rec d.udp.text_from d.udp.text_len) } ∷ []
    else []

-- what the generator's block is given of an item
abbrev pub entry_of : CaptureFile → Item → Entry
entry_of file (item.Time at) = time at
entry_of file (item.Segment at rec iss seg) = segment at iss seg (text_in file rec seg.text_from seg.text_len)

pub record ServedOf : Type 0 where
  pub answers : List SentDatagram
  pub generator : Generating

-- what the first n items of a stream leave; one of its two lists is empty
unfoldable pub served : CaptureFile → StreamOf → ℕ → ServedOf
served file s n = record {
  answers = flat_map (answers_to file s.tuple) (take n s.datagrams);
  generator = serves (map (entry_of file) (take (n - length s.datagrams) s.items)) new_generating;
}

-- what all items leave
abbrev pub all_served : CaptureFile → StreamOf → ServedOf
all_served file s = served file s (item_count s)
