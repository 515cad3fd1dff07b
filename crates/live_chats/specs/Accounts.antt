-- What a table's pass may say of its connections: how much was pushed for each, and how that goes on with its history.
use Rattle.std.specs.Prelude.{◌≡◌, ℕ, ◌+◌, ◌^◌, false, Option, None, Some, List, [], ◌∷◌, ◌++◌, map}
use Rattle.std.specs.List.{AllByRecursion}
use Rattle.sq_base.specs.declared.kinds.Tuple.{Tuple}
use Rattle.turn_gate.specs.History.{Begins}
use Rattle.turn_gate.specs.Passes.{number, seen}
use Rattle.turn_gate.specs.declared.pass.Pass.{Pass}
use Rattle.perimeter_core.specs.History.{Element, Limits, Setting}
use Rattle.squeue_state.specs.Naming.{Named, setting_of}
use Rattle.stream_stays.specs.declared.place.Place.{Place}
use Rattle.stream_stays.specs.declared.place.Place.TheVariants.{Open}
use Rattle.stream_stays.specs.declared.place.Stays.{Stays}
use Rattle.stream_stays.specs.Places.{place_at}
use Rattle.stream_stays.specs.Staying.{leaves_of, pushed_of}
use Rattle.live_server.specs.Table.{tuple_eq}
use Rattle.live_server.specs.Told.{Told}
use Rattle.live_chats.specs.Hearing.{ChatOf}
use Rattle.live_chats.specs.Lived.{AreMadeOf, heard_with, lives_with, stays_behind}
use Rattle.live_chats.specs.declared.item.ChatItem.{ChatItem}
use Rattle.live_chats.specs.declared.seat.Seat.{Seat}

-- how many items were pushed at a place since it was opened
abbrev pub pushed_in : Option (Place ChatItem ChatOf) → ℕ
pushed_in (Some (Open stay)) = pushed_of stay
pushed_in _ = 0

abbrev pub pushed_at : Stays ChatItem ChatOf → ℕ → ℕ
pushed_at st c = pushed_in (place_at st c)

-- how often the part at a place may still leave the squeue
abbrev pub leaves_in : Option (Place ChatItem ChatOf) → ℕ
leaves_in (Some (Open stay)) = leaves_of stay
leaves_in _ = 0

abbrev pub leaves_at : Stays ChatItem ChatOf → ℕ → ℕ
leaves_at st c = leaves_in (place_at st c)

-- from so many items on the place of a connection is closed and opened again: while it is open it has fewer than 2^32
abbrev pub many_feeds : ℕ
many_feeds = 2 ^ 31

-- the ends of each connection, and how many items were pushed for it
abbrev pub Accounts : Type 0
Accounts = List (Tuple × ℕ)

abbrev pub account_of : Stays ChatItem ChatOf → Tuple × Seat → Tuple × ℕ
account_of st e = (e.0, pushed_at st e.1.place)

abbrev pub accounts_of : Stays ChatItem ChatOf → List (Tuple × Seat) → Accounts
accounts_of st es = map (account_of st) es

-- nobody has these ends
abbrev pub IsAway : Tuple → Accounts → Type 0
IsAway t accounts = AllByRecursion (λ x. tuple_eq t x.0 ≡ false) accounts

-- who isn't there hears nothing more
abbrev pub HearIfHere : Accounts → (Tuple → ℕ) → Type 0
HearIfHere accounts more = (t : Tuple) → IsAway t accounts → more t ≡ 0

-- what each has in the end, where it hears so many more
abbrev pub in_the_end : (Tuple → ℕ) → Accounts → List ℕ
in_the_end more accounts = map (λ x. x.1 + more x.0) accounts

-- This was told between two moments of a table, of whose pass the history and the accounts are given. However the history goes on: if the
-- stays that end behind the second moment make up what is there then, and others, those that end behind the first moment make up what
-- was there, who began since, and these others
pub record WereTold (S : Setting) (p : ℕ) (past now : List Element) (was is : Accounts) (told : List Told) : Type 0 where
  pub grown : List Element
  pub goes_on : now ≡ past ++ grown
  pub here : (more : Tuple → ℕ) → HearIfHere is more → HearIfHere was (heard_with more told)
  pub lived : (more : Tuple → ℕ) (rest : List Element) (others : List ℕ) → HearIfHere is more
      → AreMadeOf (stays_behind S p now rest) (in_the_end more is ++ others)
      → AreMadeOf (stays_behind S p past (grown ++ rest)) (in_the_end (heard_with more told) was ++ (lives_with more told ++ others))

module _ {R : Type 0} (limits : R → Limits) (s : Named R) where
  -- the same of seats over the places of a pass of this squeue
  abbrev pub SeatsWereTold : Pass Element → Pass Element → Stays ChatItem ChatOf → Stays ChatItem ChatOf → List (Tuple × Seat) → List (Tuple × Seat)
      → List Told → Type 0
  SeatsWereTold p q a b es fs told = WereTold (setting_of limits s.given) (number p) (seen p) (seen q) (accounts_of a es) (accounts_of b fs) told

-- the number and the history of a table's pass
abbrev pub number_in : Option (Pass Element) → ℕ
number_in (Some p) = number p
number_in None = 0

abbrev pub seen_in : Option (Pass Element) → List Element
seen_in (Some p) = seen p
seen_in None = []

-- by this the history of the pass has grown, whose last element ends a stay with so many feeds
pub record HasEndedStay (S : Setting) (p : ℕ) (past now : List Element) (n : ℕ) : Type 0 where
  pub grown : List Element
  pub goes_on : now ≡ past ++ grown
  pub before : List ℕ
  pub ended : stays_behind S p past grown ≡ before ++ n ∷ []

-- by this such a stay has ended, and then the history went on
pub record HasRenewedStay (S : Setting) (p : ℕ) (past now : List Element) (n : ℕ) : Type 0 where
  pub mid : List Element
  pub ended : HasEndedStay S p past mid n
  pub goes_on : Begins mid now
