-- What stands at the places of a pass, and at the seats of a table.
use Rattle.std.specs.Prelude.{◌≡◌, ◌≢◌, ℕ, ◌+◌, ◌<◌, ◌≤◌, ◌⊎◌, Bool, Option, None, Some, List, [], ◌∷◌, ◌++◌, length, map, slice_get, swap_remove}
use Rattle.std.specs.List.{IsDistinct}
use Rattle.std.specs.Map.{keys_of}
use Rattle.std.specs.Option.{option_map_or}
use Rattle.sq_base.specs.declared.kinds.Tuple.{Tuple}
use Rattle.indexmap.specs.IndexMap.{set_value_at}
use Rattle.turn_gate.specs.Passes.{number}
use Rattle.turn_gate.specs.declared.pass.Pass.{Pass}
use Rattle.perimeter_core.specs.History.{Element, Limits}
use Rattle.squeue_state.specs.Naming.{Named}
use Rattle.squeue_serve.specs.Places.{MayClose}
use Rattle.stream_stays.specs.declared.place.Stays.{Stays}
use Rattle.stream_stays.specs.Places.{IsOpen, Knows, chain_of, life_of, place_at, touched_of}
use Rattle.stream_stays.specs.Settling.{sent_in}
use Rattle.live_server.specs.Acts.{emptied, ticked}
use Rattle.live_server.specs.Facts.{facts_of, is_leaving_by, is_over_by}
use Rattle.live_server.specs.Table.{Conns, settled, tuple_eq}
use Rattle.live_server.specs.declared.acting.Datagram.{Datagram}
use Rattle.live_server.specs.declared.conn.Conn.{Conn}
use Rattle.live_server.specs.declared.conn.Met.{Met}
use Rattle.live_server.specs.declared.facts.Facts.{Facts}
use Rattle.live_server.specs.declared.measures.Measures.{Measures}
use Rattle.live_chats.specs.Accounts.{pushed_at}
use Rattle.live_chats.specs.Hearing.{ChatOf, conn_in, hearing, hearing_all, nobody}
use Rattle.live_chats.specs.Telling.{IsFirst, Tells}
use Rattle.live_chats.specs.declared.chats.Chats.{Chats}
use Rattle.live_chats.specs.declared.ear.Heard.{Heard}
use Rattle.live_chats.specs.declared.item.ChatItem.{ChatItem}
use Rattle.live_chats.specs.declared.item.ChatItem.TheVariants.{Time}
use Rattle.live_chats.specs.declared.seat.Seat.{Seat}
use Rattle.live_chats.specs.declared.seat.Who.{Who}
use Rattle.live_chats.specs.declared.seat.Who.TheVariants.{Due, Over}

-- what the chat at a place is, or will be
unfoldable pub chat_at : Stays ChatItem ChatOf → ℕ → ChatOf
chat_at st c = hearing_all (sent_in (place_at st c)) nobody

-- at all other places a part stays, each chat is what it was, and nothing was pushed
pub record KeptBut (c : ℕ) (a b : Stays ChatItem ChatOf) : Type 0 where
  pub opens : (d : ℕ) → d ≢ c → IsOpen a d → IsOpen b d
  pub chats : (d : ℕ) → d ≢ c → chat_at b d ≡ chat_at a d
  pub pushed : (d : ℕ) → d ≢ c → pushed_at b d ≡ pushed_at a d

-- the same of every part that is at its place
pub record KeptOpen (a b : Stays ChatItem ChatOf) : Type 0 where
  pub opens : (d : ℕ) → IsOpen a d → IsOpen b d
  pub chats : (d : ℕ) → IsOpen a d → chat_at b d ≡ chat_at a d
  pub pushed : (d : ℕ) → IsOpen a d → pushed_at b d ≡ pushed_at a d

-- a connection with these ends began at a place at which no part was, by the first item that was pushed there
pub record Begins (c : ℕ) (ends : Tuple) (conn : Conn) (a b : Stays ChatItem ChatOf) : Type 0 where
  pub was_not : IsOpen a c → ⊥
  pub is_open : IsOpen b c
  pub ends_are : (chat_at b c).ends ≡ ends
  pub conn_is : (chat_at b c).conn ≡ Some conn
  pub one : pushed_at b c ≡ 1

-- the connections of these seats
abbrev pub conn_of_seat : Stays ChatItem ChatOf → Tuple × Seat → Tuple × Conn
conn_of_seat st e = (e.0, conn_in (chat_at st e.1.place).conn)

abbrev pub conns_of : Stays ChatItem ChatOf → List (Tuple × Seat) → Conns
conns_of st es = map (conn_of_seat st) es

-- a part is at the place of a seat, whose connection has these ends and these facts
pub record IsSeated (st : Stays ChatItem ChatOf) (e : Tuple × Seat) : Type 0 where
  pub is_open : IsOpen st e.1.place
  pub ends : (chat_at st e.1.place).ends ≡ e.0
  pub conn : Conn
  pub its_conn : (chat_at st e.1.place).conn ≡ Some conn
  pub facts : e.1.facts ≡ facts_of conn

abbrev pub AllSeated : Stays ChatItem ChatOf → List (Tuple × Seat) → Type 0
AllSeated st es = (k : ℕ) (e : Tuple × Seat) → slice_get es k ≡ Some e → IsSeated st e

-- who is at a place leaves it, and the last one takes it
abbrev pub left_at : {X : Type 0} → ℕ → List X → List X
left_at i xs = option_map_or (λ x. swap_remove xs i x) (slice_get xs i) xs

-- a chat with this connection, of which nothing was heard yet
abbrev pub chat_of : Tuple → Conn → ChatOf
chat_of t d = record nobody { ends = t; conn = Some d }

-- whichever chat hears it, its ends stay
abbrev pub KeepsEnds : ChatItem → Type 0
KeepsEnds x = (c : ChatOf) → (hearing x c).ends ≡ c.ends

-- the connection with these ends at a place of a table heard an item, and this was heard of it
pub record HeardAt (x : ChatItem) (t : Tuple) (d : Conn) (i : ℕ) (h : Heard) (was is : Conns) (before after : List Datagram) : Type 0 where
  pub table : is ≡ set_value_at was i (conn_in (hearing x (chat_of t d)).conn)
  pub facts : h.facts ≡ facts_of (conn_in (hearing x (chat_of t d)).conn)
  pub met : h.met ≡ (hearing x (chat_of t d)).met
  pub sent : after ≡ before ++ (hearing x (chat_of t d)).sent

-- whichever connection hears it tells what became of it
abbrev pub Judges : ChatItem → Type 0
Judges x = (t : Tuple) (d : Conn) → (m : Met) × ((hearing x (chat_of t d)).met ≡ Some m)

-- so a connection heard it, and left where it was over then
pub record MetAt (x : ChatItem) (t : Tuple) (d : Conn) (i : ℕ) (m : Met) (was is : Conns) (before after : List Datagram) : Type 0 where
  pub table : is ≡ settled i (set_value_at was i (conn_in (hearing x (chat_of t d)).conn))
  pub met : (hearing x (chat_of t d)).met ≡ Some m
  pub sent : after ≡ before ++ (hearing x (chat_of t d)).sent

-- who of them is to leave
abbrev pub goes : Who → Facts → Bool
goes Over f = is_over_by f
goes (Due setting now taken) f = is_leaving_by setting.now now taken f

-- what a time leaves where memory was missing: some connections are gone, and to some of the others the time didn't come
abbrev pub Spoils : Measures → ℕ → Conns → Conns → Type 0
Spoils measures now was is = (k : ℕ) (t : Tuple) (c : Conn) → slice_get is k ≡ Some (t, c)
    → (j : ℕ) × (d : Conn) × (slice_get was j ≡ Some (t, d)) × ((c ≡ d) ⊎ (c ≡ emptied (ticked measures now d)))

-- the time is told at the first so many of these seats, and at no other one
pub record AreTold (measures : Measures) (now i : ℕ) (a b : Stays ChatItem ChatOf) (es : List (Tuple × Seat)) : Type 0 where
  pub opens : (d : ℕ) → IsOpen a d → IsOpen b d
  pub told : (k : ℕ) (e : Tuple × Seat) → slice_get es k ≡ Some e → k < i → chat_at b e.1.place ≡ hearing (Time measures now) (chat_at a e.1.place)
  pub others : (k : ℕ) (e : Tuple × Seat) → slice_get es k ≡ Some e → i ≤ k → chat_at b e.1.place ≡ chat_at a e.1.place
  pub pushed : (k : ℕ) (e : Tuple × Seat) → slice_get es k ≡ Some e → k < i → pushed_at b e.1.place ≡ pushed_at a e.1.place + 1
  pub unpushed : (k : ℕ) (e : Tuple × Seat) → slice_get es k ≡ Some e → i ≤ k → pushed_at b e.1.place ≡ pushed_at a e.1.place

-- the places of seats
abbrev pub places_in : List (Tuple × Seat) → List ℕ
places_in es = map (λ e. e.1.place) es

-- what was heard of the first seats, one after another, is learnt there
abbrev pub learnt : Option Heard → Seat → Seat
learnt None seat = seat
learnt (Some h) seat = record seat { facts = h.facts }

abbrev pub all_learnt : List (Option Heard) → List (Tuple × Seat) → List (Tuple × Seat)
all_learnt [] es = es
all_learnt (o ∷ os) [] = []
all_learnt (o ∷ os) (e ∷ es) = (e.0, learnt o e.1) ∷ all_learnt os es

module _ {R : Type 0} (limits : R → Limits) (s : Named R) (o : Chats) where
  -- all that was pushed is entered and settled
  pub record IsSettled (p : Pass Element) (st : Stays ChatItem ChatOf) : Type 0 where
    pub knows : Knows IsFirst Tells limits s o p st
    pub entered : chain_of st ≡ []
    pub settled : touched_of st ≡ []

  -- each of these seats has its connection, no two the same ends, and the pass may close the place of each
  pub record HasSeats (p : Pass Element) (st : Stays ChatItem ChatOf) (es : List (Tuple × Seat)) : Type 0 where
    pub settled : IsSettled p st
    pub seated : AllSeated st es
    pub distinct : IsDistinct tuple_eq (keys_of es)
    pub paid : length es ≤ (life_of st).asks

  -- so it is of all seats but the one at a place, at which a part with its ends is
  pub record HasSeatsBut (i : ℕ) (p : Pass Element) (st : Stays ChatItem ChatOf) (es : List (Tuple × Seat)) : Type 0 where
    pub settled : IsSettled p st
    pub seated : (k : ℕ) (e : Tuple × Seat) → slice_get es k ≡ Some e → k ≢ i → IsSeated st e
    pub left : Tuple × Seat
    pub its_place : slice_get es i ≡ Some left
    pub is_open : IsOpen st left.1.place
    pub ends : (chat_at st left.1.place).ends ≡ left.0
    pub distinct : IsDistinct tuple_eq (keys_of es)
    pub paid : length es ≤ (life_of st).asks

  -- so it is of all seats but those of the first so many of which nothing was heard, at each of which a part with its ends is
  pub record HasHeardSeats (hs : List (Option Heard)) (m : ℕ) (p : Pass Element) (st : Stays ChatItem ChatOf) (es : List (Tuple × Seat)) : Type 0 where
    pub settled : IsSettled p st
    pub seated : (k : ℕ) (e : Tuple × Seat) → slice_get es k ≡ Some e → (m ≤ k) ⊎ (slice_get hs k ≢ Some None) → IsSeated st e
    pub is_open : (k : ℕ) (e : Tuple × Seat) → slice_get es k ≡ Some e → IsOpen st e.1.place
    pub ends : (k : ℕ) (e : Tuple × Seat) → slice_get es k ≡ Some e → (chat_at st e.1.place).ends ≡ e.0
    pub distinct : IsDistinct tuple_eq (keys_of es)
    pub paid : length es ≤ (life_of st).asks

  -- and the pass is there; where a pass with its number may be closed it may be closed
  pub record IsGood (closes : Pass Element → Type 0) (pass : Option (Pass Element)) (st : Stays ChatItem ChatOf) (es : List (Tuple × Seat)) : Type 0 where
    pub its_pass : Pass Element
    pub is_there : pass ≡ Some its_pass
    pub may_close : (q : Pass Element) → MayClose limits s q → number q ≡ number its_pass → closes q
    pub seats : HasSeats its_pass st es
