-- What is heard of many chats, one after another.
use Rattle.std.proofs.Common.{◌≡◌, ◌≢◌, ℕ, zero, suc, ◌+◌, ◌≤◌, Option, None, Some, IfSome, List, [], ◌∷◌, ◌++◌, length, map, slice_get, vec_capacity, refl, sym, ap, subst, ◌∙◌, append_assoc, append-nil, arith}
use Rattle.std.specs.List.{flat_map}
use Rattle.std.proofs.lemmas.List.{length-append}
use Rattle.std.proofs.lemmas.Option.{none-some, same_Some}
use Rattle.sq_base.specs.declared.kinds.Tuple.{Tuple}
use Rattle.squeue_streams.specs.Taking.{state_of}
use Rattle.stream_stays.specs.declared.place.Stays.{Stays}
use Rattle.stream_stays.specs.Places.{place_at}
use Rattle.stream_stays.specs.Settling.{Collected, WasCollected, sent_in}
use Rattle.live_server.specs.Facts.{facts_of}
use Rattle.live_server.specs.declared.acting.Datagram.{Datagram}
use Rattle.live_server.specs.declared.conn.Conn.{Conn}
use Rattle.live_chats.specs.Hearing.{ChatOf}
use Rattle.live_chats.specs.Listening.{AreAnswers, IsAnswer, ListensOn}
use Rattle.live_chats.specs.Seating.{chat_at, places_in}
use Rattle.live_chats.specs.Telling.{IsFirst, Tells}
use Rattle.live_chats.specs.declared.chats.Chats.{Chats}
use Rattle.live_chats.specs.declared.ear.Ears.{Ears}
use Rattle.live_chats.specs.declared.ear.Heard.{Heard}
use Rattle.live_chats.specs.declared.item.ChatItem.{ChatItem}
use Rattle.live_chats.specs.declared.seat.Seat.{Seat}
use Rattle.live_server.specs.Written.{HasSent}
use Rattle.live_server.proofs.WrittenLemmas.{nothing_sent, sent_behind}
use Rattle.live_chats.proofs.PlaceLemmas.{shown_chat, shown_writes}

abbrev Entry : Type 0
Entry = Tuple × Seat

module _ (o : Chats) (d e : Stays ChatItem ChatOf) (same : (k : ℕ) → sent_in (place_at e k) ≡ sent_in (place_at d k)) where
  -- what was heard of the state at a place was heard of its chat
  heard_of_chat : (c : ℕ) (from to : Ears) (shown : WasCollected IsFirst Tells ListensOn o from to c (sent_in (place_at d c))) (x : Option Heard) (before after : List Datagram)
      → IfSome x (λ h. IsAnswer (state_of shown.part) h before after) → IfSome x (λ h. IsAnswer (chat_at e c) h before after)
  heard_of_chat c from to shown None before after i = tt
  heard_of_chat c from to shown (Some h) before after i = subst (λ (chat : ChatOf). IsAnswer chat h before after) (shown_chat o c d e from to shown (same c) i.here) i

  -- who listened where many places were settled heard their chats
  pub listened_all : (cs : List ℕ) (from to : Ears) → Collected IsFirst Tells ListensOn o d cs from to → length from.heard.items + length cs ≤ vec_capacity from.heard
      → (hs : List (Option Heard)) × (to.heard.items ≡ from.heard.items ++ hs) × AreAnswers (map (chat_at e) cs) hs from.out.items to.out.items × (vec_capacity to.heard ≡ vec_capacity from.heard)
  listened_all [] from to all room =
      ([], ap (λ (x : Ears). x.heard.items) all ∙ sym (append-nil from.heard.items), ap (λ (x : Ears). x.out.items) all, ap (λ (x : Ears). vec_capacity x.heard) all)
  listened_all (c ∷ cs) from to (next, shown, more) room =
      let one = shown.took.told (omega (arith, room)) in
      let grown : length next.heard.items ≡ length from.heard.items + 1 = ap length one.1 ∙ length-append from.heard.items (one.0 ∷ []) in
      let rest = listened_all cs next to more (omega (arith, room, grown, shown.took.room)) in (
        one.0 ∷ rest.0,
        rest.1 ∙ ap (λ (l : List (Option Heard)). l ++ rest.0) one.1 ∙ append_assoc from.heard.items (one.0 ∷ []) rest.0,
        (
          next.out.items,
          heard_of_chat c from next shown one.0 from.out.items next.out.items one.2,
          (shown_writes o c d e from next shown (same c) from.out.items next.out.items shown.took.wrote).part,
          rest.2,
        ),
        rest.3 ∙ shown.took.room,
      )

  -- and so it is of all, where nothing was heard before
  pub listened_there : (cs ts : List ℕ) (from to : Ears) (out : List Datagram) → cs ≡ ts → from.heard.items ≡ [] → from.out.items ≡ out → length ts ≤ vec_capacity from.heard
      → Collected IsFirst Tells ListensOn o d cs from to → AreAnswers (map (chat_at e) ts) to.heard.items out to.out.items × (vec_capacity to.heard ≡ vec_capacity from.heard)
  listened_there cs ts from to out same empty before room all =
      let heard = listened_all cs from to all (omega (arith, room, ap length same, ap length empty)) in
      let its : heard.0 ≡ to.heard.items = sym (heard.1 ∙ ap (λ (l : List (Option Heard)). l ++ heard.0) empty) in (
        subst (λ (x : List ℕ × List (Option Heard) × List Datagram). AreAnswers (map (chat_at e) x.0) x.1 x.2 to.out.items) (λ j. (same j, its j, before j)) heard.2,
        heard.3,
      )

-- what was heard of the chats at the places of seats
module _ (st : Stays ChatItem ChatOf) where
  abbrev sent_there : Entry → List Datagram
  sent_there e = (chat_at st e.1.place).sent

  abbrev Answers : List Entry → List (Option Heard) → List Datagram → List Datagram → Type 0
  Answers es os before after = AreAnswers (map (chat_at st) (places_in es)) os before after

  pub answers_count : (es : List Entry) (os : List (Option Heard)) (before after : List Datagram) → Answers es os before after → length os ≡ length es
  answers_count [] [] before after h = refl
  answers_count [] (o ∷ os) before after h = absurd h
  answers_count (e ∷ es) [] before after h = absurd h
  answers_count (e ∷ es) (o ∷ os) before after (mid, one, wrote, more) = ap suc (answers_count es os mid after more)

  pub answers_at : (es : List Entry) (os : List (Option Heard)) (before after : List Datagram) → Answers es os before after
      → (k : ℕ) (e : Entry) (h : Heard) → slice_get es k ≡ Some e → slice_get os k ≡ Some (Some h) → (conn : Conn) × ((chat_at st e.1.place).conn ≡ Some conn) × (h.facts ≡ facts_of conn)
  answers_at [] os before after all k e h at its = absurd (none-some _ at)
  answers_at (f ∷ es) [] before after all k e h at its = absurd all
  answers_at (f ∷ es) (o ∷ os) before after (mid, one, wrote, more) (suc k) e h at its = answers_at es os mid after more k e h at its
  answers_at (f ∷ es) (o ∷ os) before after (mid, one, wrote, more) zero e h at its =
      let P : Option Heard → Type 0 = λ x. IfSome x (λ y. IsAnswer (chat_at st f.1.place) y before mid) in
      let answer : IsAnswer (chat_at st f.1.place) h before mid = subst P (same_Some _ _ its) one in
      (answer.conn, ap (λ (x : Entry). (chat_at st x.1.place).conn) (sym (same_Some _ _ at)) ∙ answer.its_conn, answer.facts)

  pub answers_sent : (es : List Entry) (os : List (Option Heard)) (before after : List Datagram) → Answers es os before after → ((k : ℕ) → slice_get os k ≢ Some None)
      → after ≡ before ++ flat_map sent_there es
  answers_sent [] [] before after h all = h ∙ sym (append-nil before)
  answers_sent [] (o ∷ os) before after h all = absurd h
  answers_sent (e ∷ es) [] before after h all = absurd h
  answers_sent (e ∷ es) (None ∷ os) before after h all = absurd (all zero refl)
  answers_sent (e ∷ es) (Some h ∷ os) before after (mid, one, wrote, more) all =
      answers_sent es os mid after more (λ k. all (suc k)) ∙ ap (λ (l : List Datagram). l ++ flat_map sent_there es) one.sent ∙ append_assoc before (sent_there e) (flat_map sent_there es)

  -- heard or not, some of what they sent went out
  pub answers_partly : (es : List Entry) (os : List (Option Heard)) (before after : List Datagram) → Answers es os before after → HasSent before after (flat_map sent_there es)
  answers_partly [] [] before after h = nothing_sent before after [] h
  answers_partly [] (o ∷ os) before after h = absurd h
  answers_partly (e ∷ es) [] before after h = absurd h
  answers_partly (e ∷ es) (o ∷ os) before after (mid, one, wrote, more) =
      sent_behind before mid after _ (sent_there e) (flat_map sent_there es) refl wrote (answers_partly es os mid after more)
