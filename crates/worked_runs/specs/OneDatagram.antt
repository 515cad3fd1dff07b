-- A whole run of `sqmore` written out: a capture of one datagram to echo, from its bytes to what one squeue and one ring serve of it, and to
-- the bytes that are then written.
use Rattle.std.specs.Prelude.{ℕ, ◌+◌, true, false, List, [], ◌∷◌, ◌++◌, length, codes, Some}
use Rattle.std.specs.List.{concat, flat_map}
use Rattle.byteorder.specs.Endian.{big_bytes}
use Rattle.sq_base.specs.Ends.{End}
use Rattle.sq_base.specs.declared.kinds.Tuple.{Tuple}
use Rattle.sq_base.specs.declared.kinds.Link.TheVariants.{RawIp}
use Rattle.capture_reader.specs.CaptureFile.{packets_of}
use Rattle.capture_reader.specs.Limits.{header_size}
use Rattle.capture_reader.specs.Outcome.{CaptureFile}
use Rattle.udp_codec.specs.UdpBytes.{udp_bytes}
use Rattle.chargen_service.specs.Chargen.{new_generating}
use Rattle.perimeter_core.specs.declared.entries.Entry.TheVariants.{Feed}
use Rattle.perimeter_core.specs.declared.marks.SynchAct.TheVariants as Done
use Rattle.perimeter_core.specs.declared.marks.Mark.TheVariants as On
use Rattle.perimeter_core.specs.History.{Element, Setting, plain}
use Rattle.histories.specs.Endings.{Ending}
use Rattle.stream_plan.specs.Streams.{MorePlanOf, StreamOf}
use Rattle.datagram_services.specs.Items.{ServedOf}
use Rattle.datagram_services.specs.Served.{MoreServedOf}
use Rattle.squeue_run.specs.GeneratedCapture.{file_header, record_of}
use Rattle.worked_runs.specs.FiveSegments.{form}

-- the client is 10.0.0.1:5000, the server 10.0.0.2:7
abbrev pub ends : Tuple
ends = record { client = record { 0 = 0x0a000001 }; client_port = 5000; server = record { 0 = 0x0a000002 }; server_port = 7 }

abbrev pub sent : List ℕ
sent = codes "hi"

-- the datagram, with sums of 0
abbrev pub datagram : List ℕ
datagram =
    0x45 ∷ 0 ∷ (big_bytes 2 30 ++ (0 ∷ 0 ∷ 0x40 ∷ 0 ∷ 64 ∷ 17 ∷ 0 ∷ 0 ∷ 10 ∷ 0 ∷ 0 ∷ 1 ∷ 10 ∷ 0 ∷ 0 ∷ 2 ∷ (big_bytes 2 5000 ++ (big_bytes 2 7
    ++ (big_bytes 2 10 ++ (0 ∷ 0 ∷ sent))))))

abbrev pub records : List (List ℕ)
records = record_of 7 datagram ∷ []

abbrev pub file : CaptureFile
file = record { bytes = file_header ++ concat records; link = RawIp; packets = packets_of form header_size records; cut = false }

-- the only stream, with one item
abbrev pub stream : StreamOf
stream = record {
  tuple = ends;
  datagrams =
      record {
        at = 7;
        rec = 0;
        udp = record { src = ends.client; src_port = ends.client_port; dst = ends.server; dst_port = ends.server_port; text_from = 28; text_len = length sent };
      } ∷ [];
  items = [];
}

abbrev pub plan : MorePlanOf
plan = record { file = file; counts = record { served = 1; nofit = 0; other = 0 }; streams = stream ∷ [] }

abbrev pub setting : Setting
setting = record {
  rings = 1;
  quotas = (1, 0) ∷ [];
  starts = true ∷ [];
  limits = record { feeds = 1 ∷ []; leaves = []; calls = [] };
}

-- the ring brings the item, finds the squeue free, and processes it
abbrev pub history : List Element
history = plain (On.Fast 0 (Feed 0 0)) ∷ plain (On.Leave 0 0 Done.None) ∷ plain (On.Close 0) ∷ []

abbrev pub ending : Ending
ending = record { number = 0; setting = setting; history = history }

-- its answer is a datagram with the same text
abbrev pub answered : ServedOf
answered = record { answers = record { at = 7; datagram = udp_bytes ends sent } ∷ []; generator = new_generating }

abbrev pub served : MoreServedOf
served = record { streams = answered ∷ []; ended = ending ∷ [] }

-- the report, line by line
abbrev pub text : List ℕ
text =
    flat_map (λ line. line ++ 10 ∷ []) (
    codes "more 1"
    ∷ codes "records 1 tail 0 served 1 nofit 0 other 0 streams 1"
    ∷ codes "stream 0 udp 10.0.0.1:5000 10.0.0.2:7 echo"
    ∷ codes "order f0"
    ∷ codes "reply 7 4500001e00004000401126cd0a0000020a00000100071388000a6fdf6869"
    ∷ codes "done"
    ∷ [])

-- the source gave all its bytes, and the report was written
abbrev pub source : End
source = record { was = Some file.bytes; is = Some []; faults_were = 0; faults_are = 0 }

abbrev pub out : End
out = record { was = Some []; is = Some text; faults_were = 0; faults_are = 0 }
