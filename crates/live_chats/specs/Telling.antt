-- Chats at their places: with what each begins, and what is then known of one by its items.
use Rattle.std.specs.Prelude.{◌≡◌, ℕ, false, Some, List, slice_get}
use Rattle.std.proofs.Common.{Global}
use Rattle.rtrb.specs.declared.AnyItems.{AnyItems}
use Rattle.rtrb.specs.declared.consumer.Consumer.{Consumer}
use Rattle.squeue_streams.specs.declared.streams.Stream.{Stream}
use Rattle.squeue_streams.specs.Taking.{IsStreamOf, input_of, items_of, state_of}
use Rattle.live_chats.specs.Hearing.{ChatOf, Hears, hearing_all, nobody}
use Rattle.live_chats.specs.declared.chats.Chats.{Chats}
use Rattle.live_chats.specs.declared.item.ChatItem.{ChatItem}

-- the streams with which a run begins, by number
abbrev pub first_of : Chats → List (Stream ChatItem ChatOf)
first_of o = o.first.value.items

-- stream c begins with this end of a ring, and with nobody
pub record IsFirst (o : Chats) (c : ℕ) (input : Consumer ChatItem Global AnyItems) (chat : ChatOf) : Type 0 where
  pub stream : Stream ChatItem ChatOf
  pub its_number : slice_get (first_of o) c ≡ Some stream
  pub its_input : input_of stream ≡ input
  pub nobody_is : chat ≡ nobody

-- what one item does to a chat
abbrev pub Tells : Chats → ChatOf → ChatItem → ChatOf → Type 0
Tells o = Hears

-- a chat's stream
abbrev pub IsChatOf : Chats → ℕ → Stream ChatItem ChatOf → Type 0
IsChatOf = IsStreamOf IsFirst Tells

-- where memory wasn't missing a chat is what its items make of it, one after another
abbrev pub ItemsTell : Type 0
ItemsTell = (o : Chats) (c : ℕ) (s : Stream ChatItem ChatOf) → IsChatOf o c s → (state_of s).lost ≡ false → state_of s ≡ hearing_all (items_of s) nobody
