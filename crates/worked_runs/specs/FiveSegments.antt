-- A whole run written out: the capture of a short echo session in five segments, from its bytes to what one squeue and one ring serve of it,
-- and to the bytes that are then written.
use Rattle.std.specs.Prelude.{ℕ, ◌+◌, true, false, List, [], ◌∷◌, ◌++◌, length, codes, Some}
use Rattle.std.specs.List.{concat, flat_map}
use Rattle.byteorder.specs.Endian.{big_bytes}
use Rattle.sq_base.specs.Ends.{End}
use Rattle.sq_base.specs.declared.kinds.Tuple.{Tuple}
use Rattle.sq_base.specs.declared.kinds.Link.TheVariants.{RawIp}
use Rattle.segment_codec.specs.ControlBits.{ack, fin, psh, syn}
use Rattle.segment_codec.specs.PlainSegments.{plain_from}
use Rattle.capture_reader.specs.CaptureFile.{packets_of}
use Rattle.capture_reader.specs.Limits.{header_size}
use Rattle.capture_reader.specs.Outcome.{CaptureFile}
use Rattle.capture_reader.specs.declared.form.Form.{Form}
use Rattle.conn_classifier.specs.Plan.{PlanOf}
use Rattle.conn_classifier.specs.Rules.{usual_ports}
use Rattle.conn_classifier.specs.declared.kinds.Item.{Item}
use Rattle.conn_classifier.specs.declared.kinds.Item.TheVariants.{Time, Segment}
use Rattle.perimeter_core.specs.declared.entries.Act.{Act}
use Rattle.perimeter_core.specs.declared.entries.Act.TheVariants as Did
use Rattle.perimeter_core.specs.declared.entries.Entry.TheVariants.{Feed}
use Rattle.perimeter_core.specs.declared.marks.SynchAct.TheVariants as Done
use Rattle.perimeter_core.specs.declared.marks.Mark.TheVariants as On
use Rattle.perimeter_core.specs.History.{Element, Setting, plain}
use Rattle.histories.specs.Endings.{Ending}
use Rattle.conn_blocks.specs.CallLists.{CallLists}
use Rattle.ring_threads.specs.Served.{ServedOf}
use Rattle.squeue_run.specs.GeneratedCapture.{file_header, record_of}
use Rattle.worked_runs.specs.OneSqueue.{block_of, no_trace, only_block}

-- the client is 10.0.0.1:4000, the server 10.0.0.2:7
abbrev pub ends : Tuple
ends = record { client = record { 0 = 0x0a000001 }; client_port = 4000; server = record { 0 = 0x0a000002 }; server_port = 7 }

-- the datagram of a segment that the client sends, without options and with sums of 0: control bits, sequence number, acknowledgement number, text
abbrev pub sent : ℕ → ℕ → ℕ → List ℕ → List ℕ
sent bits seq acked text =
    0x45 ∷ 0 ∷ (big_bytes 2 (40 + length text) ++ (0 ∷ 0 ∷ 0x40 ∷ 0 ∷ 64 ∷ 6 ∷ 0 ∷ 0 ∷ 10 ∷ 0 ∷ 0 ∷ 1 ∷ 10 ∷ 0 ∷ 0 ∷ 2 ∷ (big_bytes 2 4000 ++ (big_bytes 2 7
    ++ (big_bytes 4 seq ++ (big_bytes 4 acked ++ (0x50 ∷ bits ∷ (big_bytes 2 4096 ++ (0 ∷ 0 ∷ 0 ∷ 0 ∷ text)))))))))

-- the records: SYN, ACK, text, FIN, ACK
abbrev pub records : List (List ℕ)
records =
    record_of 0 (sent syn 100 0 [])
    ∷ record_of 1000 (sent ack 101 501 [])
    ∷ record_of 2000 (sent (psh + ack) 101 501 (codes "hello"))
    ∷ record_of 3000 (sent (fin + ack) 106 506 [])
    ∷ record_of 4000 (sent ack 107 507 [])
    ∷ []

-- little-endian, in microseconds
abbrev pub form : Form
form = record { big_endian = false; nanoseconds = false }

abbrev pub file : CaptureFile
file = record { bytes = file_header ++ concat records; link = RawIp; packets = packets_of form header_size records; cut = false }

-- the item of a segment: time, record, hint, control bits, sequence number, acknowledgement number, length of the text
abbrev pub item : ℕ → ℕ → ℕ → ℕ → ℕ → ℕ → ℕ → Item
item at rec hint bits seq acked len = Segment at rec hint (plain_from ends bits seq acked 4096 40 len)

-- the plan of the capture: one connection with five segments, and the time at the end
abbrev pub plan : PlanOf
plan = record {
  file = file;
  ports = usual_ports;
  tuples = ends ∷ [];
  items = (
      item 0 0 500 syn 100 0 0
      ∷ item 1000 1 0 ack 101 501 0
      ∷ item 2000 2 0 (psh + ack) 101 501 5
      ∷ item 3000 3 0 (fin + ack) 106 506 0
      ∷ item 4000 4 0 ack 107 507 0
      ∷ Time 4000
      ∷ []) ∷ [];
  order = 0 ∷ 0 ∷ 0 ∷ 0 ∷ 0 ∷ [];
  counts = record { records = 5; tail = 0; served = 5; nofit = 0; server = 0; other = 0; fragment = 0; cut = 0; malformed = 0; badsum = 0 };
}

-- four application threads without calls
abbrev pub no_calls : CallLists
no_calls = [] ∷ [] ∷ [] ∷ [] ∷ []

abbrev pub setting : Setting
setting = record {
  rings = 1;
  quotas = (6, 0) ∷ (0, 0) ∷ (0, 0) ∷ (0, 0) ∷ (0, 0) ∷ [];
  starts = true ∷ [];
  limits = record { feeds = 6 ∷ []; leaves = 0 ∷ []; calls = [] };
}

-- the ring brings all items at once, finds the squeue free, and processes them
abbrev pub history : List Element
history =
    plain (On.Claim 0 (Feed 0 0 ∷ Feed 0 1 ∷ Feed 0 2 ∷ Feed 0 3 ∷ Feed 0 4 ∷ Feed 0 5 ∷ [])) ∷ plain (On.Leave 0 0 Done.None)
    ∷ plain (On.Close 0) ∷ plain (On.Close 1) ∷ plain (On.Close 2) ∷ plain (On.Close 3) ∷ plain (On.Close 4) ∷ []

abbrev pub ending : Ending
ending = record { number = 0; setting = setting; history = history }

abbrev pub order : List Act
order = Did.Feed 0 ∷ Did.Feed 1 ∷ Did.Feed 2 ∷ Did.Feed 3 ∷ Did.Feed 4 ∷ Did.Feed 5 ∷ []

abbrev pub served : ServedOf
served = only_block (block_of plan no_calls order) ending no_trace

-- the report, line by line
abbrev pub text : List ℕ
text =
    flat_map (λ line. line ++ 10 ∷ []) (
    codes "report 1"
    ∷ codes "records 5 tail 0 served 5 nofit 0 server 0 other 0 fragment 0 cut 0 malformed 0 badsum 0 connections 1"
    ∷ codes "conn 0 10.0.0.1:4000 10.0.0.2:7 echo"
    ∷ codes "order f0-5"
    ∷ codes "reply 0 4500002c00004000400626ca0a0000020a00000100070fa0000001f4000000656012ffff72140000020405b4"
    ∷ codes "reply 2000 4500002d00004000400626c90a0000020a00000100070fa0000001f50000006a5018ffff45ed000068656c6c6f"
    ∷ codes "reply 3000 4500002800004000400626ce0a0000020a00000100070fa0000001fa0000006b5011ffff89c50000"
    ∷ codes "end LISTEN"
    ∷ codes "done"
    ∷ [])

-- the source gave all its bytes, the report was written, and nothing was told
abbrev pub source : End
source = record { was = Some file.bytes; is = Some []; faults_were = 0; faults_are = 0 }

abbrev pub out : End
out = record { was = Some []; is = Some text; faults_were = 0; faults_are = 0 }

abbrev pub err : End
err = record { was = Some []; is = Some []; faults_were = 0; faults_are = 0 }
