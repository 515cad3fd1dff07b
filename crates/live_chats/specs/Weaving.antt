-- Weaving: each chat by itself, and what all of them send, in the order of the steps.
use Rattle.std.specs.Prelude.{◌≡◌, Option, List, [], ◌∷◌, ◌++◌, if◌then◌else◌}
use Rattle.sq_base.specs.declared.kinds.Tuple.{Tuple}
use Rattle.live_server.specs.Frames.{FrameOf, serves_frames}
use Rattle.live_server.specs.Isolation.{IsTable}
use Rattle.live_server.specs.Serving.{ServerOf}
use Rattle.live_server.specs.Table.{tuple_eq}
use Rattle.live_server.specs.declared.acting.Datagram.{Datagram}
use Rattle.live_server.specs.declared.conn.Conn.{Conn}
use Rattle.live_server.specs.declared.setting.Setting.{Setting}
use Rattle.live_chats.specs.Chats.{Item, Step, chats_of, runs, said, sends, tells}
use Rattle.live_chats.specs.Ways.{ways}

-- what the chat of two ends is told
abbrev pub items_to : Tuple → List Step → List Item
items_to q [] = []
items_to q (sends ds ∷ ws) = items_to q ws
items_to q (tells t x ∷ ws) = if tuple_eq t q then x ∷ items_to q ws else items_to q ws

-- and what it says, item by item
abbrev pub chat_says : Setting → Tuple → List Item → Option Conn → List (List Datagram)
chat_says g t [] o = []
chat_says g t (x ∷ xs) o = (said g t x o).sent ∷ chat_says g t xs (said g t x o).conn

abbrev pub chat_ends : Setting → Tuple → List Item → Option Conn → Option Conn
chat_ends g t [] o = o
chat_ends g t (x ∷ xs) o = chat_ends g t xs (said g t x o).conn

-- answers of all chats that aren't out yet
abbrev pub Answers : Type 0
Answers = Tuple → List (List Datagram)

abbrev pub first_of_all : List (List Datagram) → List Datagram
first_of_all [] = []
first_of_all (a ∷ more) = a

abbrev pub behind_first : List (List Datagram) → List (List Datagram)
behind_first [] = []
behind_first (a ∷ more) = more

abbrev pub one_out : Tuple → Answers → Answers
one_out t out q = if tuple_eq t q then behind_first (out q) else out q

-- the answers go out in the order of the steps
abbrev pub woven : List Step → Answers → List Datagram
woven [] out = []
woven (sends ds ∷ ws) out = ds ++ woven ws out
woven (tells t x ∷ ws) out = first_of_all (out t) ++ woven ws (one_out t out)

-- what each chat says that is told these steps
abbrev pub answers_to : Setting → List Step → (Tuple → Option Conn) → Answers
answers_to g ws all q = chat_says g q (items_to q ws) (all q)

-- chats don't hear one another: each says what it says alone
abbrev pub ChatsAreApart : Type 0
ChatsAreApart = (g : Setting) (ws : List Step) (all : Tuple → Option Conn)
    → ((runs g ws all).sent ≡ woven ws (answers_to g ws all)) × ((q : Tuple) → (runs g ws all).chats q ≡ chat_ends g q (items_to q ws) (all q))

-- what a server sends for frames are the answers of its chats, woven in the order of the frames
abbrev pub ServersAreChats : Type 0
ServersAreChats = (frames : List FrameOf) (sv : ServerOf) → IsTable sv
    → (serves_frames frames sv).sent ≡ woven (ways frames sv) (answers_to sv.setting (ways frames sv) (chats_of sv))
