-- Chats: what each connection is told, and what it says. A table is then the chats of all ends, and what is done to them, step by step.
use Rattle.std.specs.Prelude.{ℕ, Option, None, Some, List, [], ◌∷◌, ◌++◌, if◌then◌else◌}
use Rattle.segment_codec.specs.declared.packet.Seg.{Seg}
use Rattle.sq_base.specs.declared.kinds.Tuple.{Tuple}
use Rattle.live_server.specs.Acts.{emptied, new_conn, receives, sent_by, ticked}
use Rattle.live_server.specs.Isolation.{conn_of, kept_as}
use Rattle.live_server.specs.PathMtu.{path_told}
use Rattle.live_server.specs.Urgent.{urged}
use Rattle.live_server.specs.Services.{service_at}
use Rattle.live_server.specs.Serving.{ServerOf}
use Rattle.live_server.specs.Table.{tuple_eq}
use Rattle.live_server.specs.declared.acting.Datagram.{Datagram}
use Rattle.live_server.specs.declared.conn.Conn.{Conn}
use Rattle.live_server.specs.declared.setting.Setting.{Setting}
use Rattle.live_server.specs.declared.measures.Measures.{Measures}

pub data Item : Type 0 where
  -- a connection begins, and what it sent goes out
  opens : Conn → Item
  -- it gives way, or leaves in time
  leaves : Item
  -- a segment comes, with the initial sequence number for one that opens
  segment : ℕ → ℕ → Seg → List ℕ → Item
  -- a router says that the segment of a number was longer than the next path takes
  path : ℕ → ℕ → Item
  -- a segment with URG says where urgent data ends
  urgent : ℕ → ℕ → Seg → Item
  -- the time comes, at a tick with what is asked of all
  time : Measures → ℕ → Item

-- what becomes of a connection, where there is one, and what it sends
pub record Said : Type 0 where
  pub conn : Option Conn
  pub sent : List Datagram

-- it becomes c, and leaves where that is over
abbrev pub becoming : Tuple → Conn → Said
becoming t c = record { conn = kept_as c; sent = sent_by t c }

-- a connection that a segment finds where there is none
abbrev pub fresh : Setting → ℕ → Seg → Conn
fresh g now s = new_conn (service_at g now s.dst_port) g.segment g.marking now

-- what a segment makes of what stands at two ends: where nothing does, it is answered as a new connection answers it
abbrev pub segment_said : Setting → Tuple → ℕ → ℕ → Seg → List ℕ → Option Conn → Said
segment_said g t now iss s text None = record { conn = None; sent = sent_by t (receives now iss s text (fresh g now s)) }
segment_said g t now iss s text (Some c) = becoming t (receives now iss s text c)

abbrev pub path_said : Tuple → ℕ → ℕ → Option Conn → Said
path_said t seq most None = record { conn = None; sent = [] }
path_said t seq most (Some c) = becoming t (path_told seq most c)

abbrev pub urgent_said : Tuple → ℕ → ℕ → Seg → Option Conn → Said
urgent_said t now pointer s None = record { conn = None; sent = [] }
urgent_said t now pointer s (Some c) = becoming t (urged now pointer s c)

abbrev pub time_said : Tuple → Measures → ℕ → Option Conn → Said
time_said t measures now None = record { conn = None; sent = [] }
time_said t measures now (Some c) = becoming t (ticked measures now c)

abbrev pub said : Setting → Tuple → Item → Option Conn → Said
said g t (opens c) o = record { conn = Some (emptied c); sent = sent_by t c }
said g t leaves o = record { conn = None; sent = [] }
said g t (segment now iss s text) o = segment_said g t now iss s text o
said g t (path seq most) o = path_said t seq most o
said g t (urgent now pointer s) o = urgent_said t now pointer s o
said g t (time measures now) o = time_said t measures now o

-- what stands at each two ends
abbrev pub Chats : Type 0
Chats = Tuple → Option Conn

abbrev pub chats_of : ServerOf → Chats
chats_of sv q = conn_of q sv

abbrev pub with_chat : Tuple → Option Conn → Chats → Chats
with_chat t o all q = if tuple_eq t q then o else all q

-- datagrams go out that are no connection's; or one connection is told something
pub data Step : Type 0 where
  sends : List Datagram → Step
  tells : Tuple → Item → Step

pub record Run : Type 0 where
  pub chats : Chats
  pub sent : List Datagram

abbrev pub telling : Tuple → Said → Chats → Run
telling t x all = record { chats = with_chat t x.conn all; sent = x.sent }

abbrev pub one_step : Setting → Step → Chats → Run
one_step g (sends ds) all = record { chats = all; sent = ds }
one_step g (tells t x) all = telling t (said g t x (all t)) all

-- one step after another
abbrev pub runs : Setting → List Step → Chats → Run
runs g [] all = record { chats = all; sent = [] }
runs g (w ∷ ws) all = record {
  chats = (runs g ws (one_step g w all).chats).chats;
  sent = (one_step g w all).sent ++ (runs g ws (one_step g w all).chats).sent;
}
