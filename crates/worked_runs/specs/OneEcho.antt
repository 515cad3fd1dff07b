-- A stream of frames written out, and what a live server answers: one connection that opens, sends a text, and closes.
use Rattle.std.specs.Prelude.{ℕ, ◌+◌, false, List, [], ◌∷◌, codes, None, Some}
use Rattle.std.specs.List.{flat_map}
use Rattle.sq_base.specs.declared.kinds.Tuple.{Tuple}
use Rattle.segment_codec.specs.ControlBits.{ack, fin, psh, syn}
use Rattle.segment_codec.specs.PlainSegments.{plain}
use Rattle.segment_codec.specs.declared.packet.Reply.{Reply}
use Rattle.turn_gate.specs.declared.pass.Pass.{Pass}
use Rattle.perimeter_core.specs.declared.entries.Entry.TheVariants.{Feed, Ask}
use Rattle.perimeter_core.specs.declared.marks.SynchAct.TheVariants as Done
use Rattle.perimeter_core.specs.declared.marks.Mark.TheVariants as On
use Rattle.perimeter_core.specs.History.{Element, Setting, plain as marked}
use Rattle.perimeter_core.specs.declared.known.Known.{Known}
use Rattle.histories.specs.declared.mode.Mode.TheVariants as Mode'
use Rattle.histories.specs.Endings.{Ending}
use Rattle.live_server.specs.Acts.{datagram_of}
use Rattle.live_server.specs.Frames.{frame_of}
use Rattle.live_server.specs.Services.{plain_ports}
use Rattle.live_server.specs.declared.acting.Datagram.{Datagram}
use Rattle.live_server.specs.declared.marking.Marking.{Marking}
use Rattle.live_rings.specs.declared.ending.Ends.{Ends}
use Rattle.live_rings.specs.declared.ending.EndedRing.{EndedRing}
use Rattle.live_rings.specs.declared.words.Layout.{Layout}

-- TTL and DSCP as they are where nothing is said of them
abbrev pub usual : Marking
usual = record { ttl = 64; dscp = 0 }

-- one squeue; the server is 10.9.0.2
abbrev pub layout : Layout
layout = record {
  squeues = 1;
  mode = Mode'.Process;
  budget = 64;
  setting = record {
    address = record { 0 = 0x0a090002 };
    broadcast = record { 0 = 0x0a0900ff };
    places = 2;
    idle = 7200000000;
    bytes = 268435456;
    segment = 1460;
    marking = usual;
    pings = 1000;
    ports = plain_ports;
    site = None;
    host = None;
  };
  secret = record { 0 = 0 ∷ 1 ∷ 2 ∷ 3 ∷ 4 ∷ 5 ∷ 6 ∷ 7 ∷ 8 ∷ 9 ∷ 10 ∷ 11 ∷ 12 ∷ 13 ∷ 14 ∷ 15 ∷ [] };
  goes_on = false;
}

-- the client is 10.9.0.1:4000
abbrev pub ends : Tuple
ends = record { client = record { 0 = 0x0a090001 }; client_port = 4000; server = record { 0 = 0x0a090002 }; server_port = 7 }

-- the same from the other side: what the client sends goes to the server
abbrev pub turned : Tuple
turned = record { client = ends.server; client_port = ends.server_port; server = ends.client; server_port = ends.client_port }

-- the server's initial sequence number for these ends at time 0, by RFC 6528
abbrev pub first : ℕ
first = 955759340

-- what the client sends, with right sums: time, control bits, sequence number, acknowledgement number, text
abbrev pub sent : ℕ → ℕ → ℕ → ℕ → List ℕ → Datagram
sent at bits seq acked text = datagram_of usual turned (plain at bits seq acked 4096 text)

abbrev pub input : List ℕ
input =
    flat_map frame_of (
    sent 0 syn 100 0 []
    ∷ sent 1000 (psh + ack) 101 (first + 1) (codes "hello")
    ∷ sent 2000 (fin + ack) 106 (first + 6) []
    ∷ sent 3000 ack 107 (first + 7) []
    ∷ [])

-- the SYN,ACK announces an MSS, and no window scale to a client that has none
abbrev pub syn_ack : Reply
syn_ack = record (plain 0 (syn + ack) first 101 65535 []) { options = record { mss = Some 1460; scale = None } }

-- what is answered
abbrev pub answered : List Datagram
answered =
    datagram_of usual ends syn_ack
    ∷ datagram_of usual ends (plain 1000 (psh + ack) (first + 1) 106 65535 (codes "hello"))
    ∷ datagram_of usual ends (plain 2000 (fin + ack) (first + 6) 107 65535 [])
    ∷ []

abbrev pub output : List ℕ
output = flat_map frame_of answered

-- The stream's ends as lists: what is left to be read, and what was written. Which pass the ring had in the end is anybody's to say
abbrev pub before : Ends (List ℕ) (List ℕ)
before = record { reader = input; sink = [] }

abbrev pub after : Known (Pass Element) → EndedRing (List ℕ) (List ℕ)
after pass = record { reader = []; sink = output; fault = None; lost = false; pass = pass }

-- The ring puts the connection's part in, feeds it its beginning and the three frames that it hears, and takes it out
abbrev pub setting : Setting
setting = record {
  rings = 1;
  quotas = (4, 2) ∷ (0, 0) ∷ [];
  starts = false ∷ [];
  limits = record { feeds = 4 ∷ []; leaves = 1 ∷ []; calls = [] };
}

abbrev pub history : List Element
history =
    marked (On.Claim 0 (Ask 0 ∷ [])) ∷ marked (On.Leave 0 0 (Done.In 0))
    ∷ marked (On.Claim 0 (Feed 0 0 ∷ Feed 0 1 ∷ Feed 0 2 ∷ Feed 0 3 ∷ [])) ∷ marked (On.Leave 0 0 Done.None)
    ∷ marked (On.Claim 0 (Ask 0 ∷ [])) ∷ marked (On.Leave 0 0 (Done.Out 0)) ∷ marked (On.Close 0) ∷ marked (On.Close 1) ∷ []

abbrev pub ending : Ending
ending = record { number = 0; setting = setting; history = history }
