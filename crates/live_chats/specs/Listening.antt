-- What is heard of chats where their places are settled.
use Rattle.std.specs.Prelude.{◌≡◌, ℕ, ◌<◌, true, false, Option, Some, IfSome, List, [], ◌∷◌, ◌++◌, length, vec_capacity}
use Rattle.live_server.specs.Facts.{facts_of}
use Rattle.live_server.specs.Written.{HasSent}
use Rattle.live_server.specs.declared.acting.Datagram.{Datagram}
use Rattle.live_server.specs.declared.conn.Conn.{Conn}
use Rattle.live_chats.specs.Hearing.{ChatOf}
use Rattle.live_chats.specs.declared.ear.Ear.{Ear}
use Rattle.live_chats.specs.declared.ear.Ears.{Ears}
use Rattle.live_chats.specs.declared.ear.Heard.{Heard}

-- the chat isn't lost, and this is what it tells of its last item; what it sent goes behind what was sent before
pub record IsAnswer (chat : ChatOf) (h : Heard) (before after : List Datagram) : Type 0 where
  pub here : chat.lost ≡ false
  pub conn : Conn
  pub its_conn : chat.conn ≡ Some conn
  pub facts : h.facts ≡ facts_of conn
  pub met : h.met ≡ chat.met
  pub sent : after ≡ before ++ chat.sent

-- what went out, heard or not: some of what it sent, and nothing where it is lost
pub record Writes (chat : ChatOf) (before after : List Datagram) : Type 0 where
  pub lost : chat.lost ≡ true → after ≡ before
  pub part : HasSent before after chat.sent

-- a chat was listened to
pub record Listens (from to : Ear) (c : ℕ) (chat : ChatOf) : Type 0 where
  pub heard : (h : Heard) → to.heard ≡ Some h → IsAnswer chat h from.out.items to.out.items
  pub wrote : Writes chat from.out.items to.out.items

-- one chat more was, where there was room for what it tells
pub record ListensOn (from to : Ears) (c : ℕ) (chat : ChatOf) : Type 0 where
  pub room : vec_capacity to.heard ≡ vec_capacity from.heard
  pub told : length from.heard.items < vec_capacity from.heard
      → (o : Option Heard) × (to.heard.items ≡ from.heard.items ++ o ∷ []) × IfSome o (λ h. IsAnswer chat h from.out.items to.out.items)
  pub wrote : Writes chat from.out.items to.out.items

-- these chats were, one after another: what each tells, where it was heard; and some of what it sent went out, where it wasn't
abbrev pub AreAnswers : List ChatOf → List (Option Heard) → List Datagram → List Datagram → Type 0
AreAnswers [] [] before after = after ≡ before
AreAnswers [] (o ∷ os) before after = ⊥
AreAnswers (c ∷ cs) [] before after = ⊥
AreAnswers (c ∷ cs) (o ∷ os) before after = (mid : List Datagram) × IfSome o (λ h. IsAnswer c h before mid) × HasSent before mid c.sent × AreAnswers cs os mid after
