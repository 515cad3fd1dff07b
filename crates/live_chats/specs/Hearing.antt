-- A chat: one connection at its place, and what each item makes of it. Times after the last one count as the last one.
use Rattle.std.specs.Prelude.{◌≡◌, ℕ, min, Bool, true, false, Option, None, Some, List, [], ◌∷◌}
use Rattle.segment_codec.specs.declared.packet.Seg.{Seg}
use Rattle.sq_base.specs.declared.kinds.Tuple.{Tuple}
use Rattle.tcb_machine.specs.Limits.{last_time}
use Rattle.live_server.specs.Acts.{Meeting, emptied, meets, no_conn, sent_by, ticked}
use Rattle.live_server.specs.PathMtu.{shortens}
use Rattle.live_server.specs.Urgent.{urges}
use Rattle.live_server.specs.declared.acting.Datagram.{Datagram}
use Rattle.live_server.specs.declared.conn.Conn.{Conn}
use Rattle.live_server.specs.declared.conn.Met.{Met}
use Rattle.live_server.specs.declared.measures.Measures.{Measures}
use Rattle.live_chats.specs.declared.item.ChatItem.{ChatItem}
use Rattle.live_chats.specs.declared.item.ChatItem.TheVariants.{Meets, Opens, Shortens, Time, Urges}

-- the two ends; the connection, where one began, also when it is over; what was sent at the last item, and, where that was a segment, what
-- became of it; and whether memory was missing
pub record ChatOf : Type 0 where
  pub ends : Tuple
  pub conn : Option Conn
  pub sent : List Datagram
  pub met : Option Met
  pub lost : Bool

-- no ends
abbrev pub no_ends : Tuple
no_ends = record { client = record { 0 = 0 }; client_port = 0; server = record { 0 = 0 }; server_port = 0 }

-- a chat in which nobody is yet
abbrev pub nobody : ChatOf
nobody = record { ends = no_ends; conn = None; sent = []; met = None; lost = false }

-- nothing is sent
abbrev pub silent : ChatOf → ChatOf
silent c = record c { sent = []; met = None }

-- a segment has come to its connection, or what a router says of one, or the time has
abbrev pub met_by : Meeting → ChatOf → ChatOf
met_by m c = record c { conn = Some (emptied m.conn); sent = m.sent; met = Some m.met }

abbrev pub timed : Conn → ChatOf → ChatOf
timed d c = record c { conn = Some (emptied d); sent = sent_by c.ends d; met = None }

abbrev pub meeting : ℕ → ℕ → Seg → List ℕ → Option Conn → ChatOf → ChatOf
meeting now iss s text None c = silent c
meeting now iss s text (Some d) c = met_by (meets now iss s text c.ends d) c

abbrev pub shortening : ℕ → ℕ → Option Conn → ChatOf → ChatOf
shortening seq most None c = silent c
shortening seq most (Some d) c = met_by (shortens seq most c.ends d) c

abbrev pub urging : ℕ → ℕ → Seg → Option Conn → ChatOf → ChatOf
urging now pointer s None c = silent c
urging now pointer s (Some d) c = met_by (urges now pointer s c.ends d) c

abbrev pub timing : Measures → ℕ → Option Conn → ChatOf → ChatOf
timing measures now None c = silent c
timing measures now (Some d) c = timed (ticked measures now d) c

-- whether a connection begins by it
abbrev pub is_opening : ChatItem → Bool
is_opening (Opens ends conn) = true
is_opening (Meets now iss seg text) = false
is_opening (Shortens seq most) = false
is_opening (Urges now pointer seg) = false
is_opening (Time measures now) = false

-- What an item makes of a chat. One that begins a connection makes the same of every chat, also of one that was lost
unfoldable pub hearing : ChatItem → ChatOf → ChatOf
hearing (Opens ends conn) c = record { ends = ends; conn = Some conn.value; sent = []; met = None; lost = false }
hearing (Meets now iss seg text) c = meeting (min now last_time) iss seg text.items c.conn c
hearing (Shortens seq most) c = shortening seq most c.conn c
hearing (Urges now pointer seg) c = urging now pointer seg c.conn c
hearing (Time measures now) c = timing measures (min now last_time) c.conn c

-- one after another
abbrev pub hearing_all : List ChatItem → ChatOf → ChatOf
hearing_all [] c = c
hearing_all (x ∷ xs) c = hearing_all xs (hearing x c)

-- the connection of a chat
abbrev pub conn_in : Option Conn → Conn
conn_in None = no_conn
conn_in (Some c) = c

-- memory was missing
abbrev pub losing : ChatOf → ChatOf
losing c = record c { conn = None; sent = []; met = None; lost = true }

-- A chat was told x. Where memory is missing its connection is lost, and from then on it stays as it is, until another one begins. That
-- takes no memory
pub record Hears (from : ChatOf) (x : ChatItem) (to : ChatOf) : Type 0 where
  pub begins : is_opening x ≡ true → to ≡ hearing x from
  pub hears : to.lost ≡ false → to ≡ hearing x from
  pub loses : from.lost ≡ false → to.lost ≡ true → to ≡ losing from
  pub stopped : from.lost ≡ true → is_opening x ≡ false → to ≡ from
