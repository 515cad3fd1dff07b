-- Chats don't hear one another.
use Rattle.std.proofs.Common.{◌≡◌, Bool, true, false, cond, List, [], ◌∷◌, ◌++◌, Option, refl, sym, ap, ◌∙◌}
use Rattle.sq_base.specs.declared.kinds.Tuple.{Tuple}
use Rattle.live_server.specs.Table.{tuple_eq}
use Rattle.live_server.specs.declared.acting.Datagram.{Datagram}
use Rattle.live_server.specs.declared.conn.Conn.{Conn}
use Rattle.live_server.specs.declared.setting.Setting.{Setting}
use Rattle.live_server.proofs.TableLemmas.{same, tuple_equivalence}
use Rattle.live_chats.specs.Chats.{Item, Step, said, sends, tells, with_chat}
use Rattle.live_chats.specs.Weaving.{Answers, ChatsAreApart, answers_to, behind_first, chat_ends, chat_says, first_of_all, items_to, one_out, woven}

module _ (g : Setting) (t : Tuple) (x : Item) (ws : List Step) (all : Tuple → Option Conn) where
  abbrev next : Tuple → Option Conn
  next = with_chat t (said g t x (all t)).conn all

  abbrev told_by : Tuple → Bool → List Item
  told_by q b = cond b (x ∷ items_to q ws) (items_to q ws)

  -- what is behind the first answer of the one that is told something, and all of each other one
  others_out : (q : Tuple) (b : Bool) → tuple_eq t q ≡ b
      → cond b (behind_first (chat_says g q (told_by q b) (all q))) (chat_says g q (told_by q b) (all q)) ≡ chat_says g q (items_to q ws) (cond b (said g t x (all t)).conn (all q))
  others_out q true e = ap (λ (u : Tuple). chat_says g q (items_to q ws) (said g u x (all u)).conn) (sym (same t q e))
  others_out q false e = refl

  out_next : (q : Tuple) → one_out t (answers_to g (tells t x ∷ ws) all) q ≡ answers_to g ws next q
  out_next q = others_out q (tuple_eq t q) refl

  first_out : first_of_all (answers_to g (tells t x ∷ ws) all t) ≡ (said g t x (all t)).sent
  first_out = ap (λ (b : Bool). first_of_all (chat_says g t (told_by t b) (all t))) (tuple_equivalence.refl t)

  ends_by : (q : Tuple) (b : Bool) → tuple_eq t q ≡ b → chat_ends g q (items_to q ws) (cond b (said g t x (all t)).conn (all q)) ≡ chat_ends g q (told_by q b) (all q)
  ends_by q true e = ap (λ (u : Tuple). chat_ends g q (items_to q ws) (said g u x (all u)).conn) (same t q e)
  ends_by q false e = refl

  ends_next : (q : Tuple) → chat_ends g q (items_to q ws) (next q) ≡ chat_ends g q (items_to q (tells t x ∷ ws)) (all q)
  ends_next q = ends_by q (tuple_eq t q) refl

pub chats_are_apart : ChatsAreApart
chats_are_apart g [] all = (refl, λ q. refl)
chats_are_apart g (sends ds ∷ ws) all =
    let behind = chats_are_apart g ws all in
    (ap (λ (l : List Datagram). ds ++ l) behind.0, behind.1)
chats_are_apart g (tells t x ∷ ws) all =
    let behind = chats_are_apart g ws (next g t x ws all) in
    let outs : one_out t (answers_to g (tells t x ∷ ws) all) ≡ answers_to g ws (next g t x ws all) = λ j q. out_next g t x ws all q j in (
      ap (λ (l : List Datagram). (said g t x (all t)).sent ++ l) (behind.0 ∙ ap (λ (o : Answers). woven ws o) (sym outs))
          ∙ ap (λ (l : List Datagram). l ++ woven ws (one_out t (answers_to g (tells t x ∷ ws) all))) (sym (first_out g t x ws all)),
      λ q. behind.1 q ∙ ends_next g t x ws all q,
    )
