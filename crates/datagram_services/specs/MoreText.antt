-- The report of what was served of a capture's streams, by lines and fields.
use Rattle.std.specs.Prelude.{ℕ, ◌-◌, ◌==◌, Bool, List, [], ◌∷◌, ◌++◌, length, codes, if◌then◌else◌}
use Rattle.std.specs.List.{enumerate_from, flat_map}
use Rattle.std.specs.Fmt.{decimal}
use Rattle.sq_base.specs.Ports.{chargen_port, echo_port}
use Rattle.sq_base.specs.declared.kinds.Tuple.{Tuple}
use Rattle.capture_reader.specs.Outcome.{CaptureFile}
use Rattle.report_lines.specs.ReportText.{datagram_line, done_line, end_field, end_line, line, reply_line}
use Rattle.stream_plan.specs.declared.kinds.Counts.{Counts}
use Rattle.stream_plan.specs.Streams.{MorePlanOf, StreamOf, item_count, more_plan_of}
use Rattle.datagram_services.specs.declared.answer.SentDatagram.{SentDatagram}
use Rattle.datagram_services.specs.Items.{ServedOf, all_served}

-- by the server's port: echo and discard are served over UDP, the character generator over TCP
abbrev pub is_generator : ℕ → Bool
is_generator port = port == chargen_port

abbrev pub protocol_word : ℕ → List ℕ
protocol_word port = if is_generator port then codes "tcp" else codes "udp"

abbrev pub service_word : ℕ → List ℕ
service_word port = if is_generator port then codes "chargen" else if port == echo_port then codes "echo" else codes "discard"

unfoldable pub counts_line : ℕ → Bool → Counts → ℕ → List ℕ
counts_line records tail n streams = line (
    codes "records" ∷ decimal records ∷ codes "tail" ∷ decimal (if tail then 1 else 0) ∷ codes "served" ∷ decimal n.served
    ∷ codes "nofit" ∷ decimal n.nofit ∷ codes "other" ∷ decimal n.other ∷ codes "streams" ∷ decimal streams ∷ [])

-- the client first
unfoldable pub stream_line : ℕ → Tuple → List ℕ
stream_line c t = line (
    codes "stream" ∷ decimal c ∷ protocol_word t.server_port ∷ end_field t.client t.client_port ∷ end_field t.server t.server_port
    ∷ service_word t.server_port ∷ [])

-- the items from the first to the last, of so many
unfoldable pub items_line : ℕ → List ℕ
items_line n = line (codes "order" ∷ (if n == 1 then codes "f0" else codes "f0-" ++ decimal (n - 1)) ∷ [])

unfoldable pub answer_line : SentDatagram → List ℕ
answer_line a = datagram_line a.at a.datagram

-- a stream, and what its items were served into
unfoldable pub stream_text : ℕ → StreamOf → ServedOf → List ℕ
stream_text c s v =
    stream_line c s.tuple ++ (items_line (item_count s) ++ (flat_map answer_line v.answers ++ (flat_map (reply_line s.tuple) v.generator.block.replies
    ++ (if is_generator s.tuple.server_port then end_line v.generator.block.state else []))))

unfoldable pub plan_text : MorePlanOf → List ℕ
plan_text p =
    line (codes "more" ∷ codes "1" ∷ [])
    ++ (counts_line (length p.file.packets) p.file.cut p.counts (length p.streams)
    ++ (flat_map (λ (c, s). stream_text c s (all_served p.file s)) (enumerate_from 0 p.streams) ++ done_line))

-- each stream's items are served in order, each once
unfoldable pub more_text : CaptureFile → List ℕ
more_text file = plan_text (more_plan_of file)
