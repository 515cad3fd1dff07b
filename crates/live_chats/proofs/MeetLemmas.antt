-- What a segment makes of the connection at a place of the table.
use Rattle.std.proofs.Common.{◌≡◌, ℕ, zero, suc, ◌<◌, ◌≤◌, min, Bool, true, cond, None, Some, List, [], ◌∷◌, ◌++◌, length, slice_get, refl, sym, ap, subst, ◌∙◌, arith, Global, Vec}
use Rattle.std.specs.List.{IsDistinct}
use Rattle.std.specs.Map.{keys_of, lookup}
use Rattle.std_collections.proofs.HashLookup.{IsFirst}
use Rattle.indexmap.specs.IndexMap.{set_value_at}
use Rattle.segment_codec.specs.declared.packet.Seg.{Seg}
use Rattle.sq_base.specs.declared.kinds.Tuple.{Tuple}
use Rattle.tcb_machine.specs.Limits.{last_time}
use Rattle.live_server.specs.Acts.{emptied, is_over, meets}
use Rattle.live_server.specs.PathMtu.{shortens}
use Rattle.live_server.specs.Urgent.{urges}
use Rattle.live_server.specs.Table.{Conns, conn_at, place_of, replaced, settled, tuple_eq, without, IsNew}
use Rattle.live_server.specs.Written.{HasSent}
use Rattle.live_server.specs.declared.acting.Datagram.{Datagram}
use Rattle.live_server.specs.declared.conn.Conn.{Conn}
use Rattle.live_server.specs.declared.conn.Met.{Met}
use Rattle.live_server.specs.declared.conn.Met.TheVariants.{Gone}
use Rattle.live_server.proofs.MeetLemmas.{gone_is_over}
use Rattle.live_server.proofs.TableLemmas.{conn_written, first_at, look_without, same, tuple_equivalence, within_at, without_set}
use Rattle.live_chats.specs.Hearing.{ChatOf, conn_in, hearing, met_by}
use Rattle.live_chats.specs.Seating.{Judges, MetAt, chat_of}
use Rattle.live_chats.specs.declared.item.ChatItem.TheVariants.{Meets, Shortens, Urges}

-- a segment tells what became of it
pub meets_judge : (now iss : ℕ) (seg : Seg) (text : Vec ℕ Global) → Judges (Meets now iss seg text)
unfolding hearing
meets_judge now iss seg text t d = ((meets (min now last_time) iss seg text.items t d).met, refl)

-- the entry that was looked up
key_there : (t : Tuple) (cs : Conns) (i : ℕ) → IsFirst (tuple_eq t) cs i → slice_get cs i ≡ Some (t, conn_at i cs)
key_there t [] i h = absurd h
key_there t (c ∷ cs) zero h = ap (λ (k : Tuple). Some (k, c.1)) (sym (same t c.0 h))
key_there t (c ∷ cs) (suc i) h = key_there t cs i h.1

pub looked_up : (t : Tuple) (cs : Conns) (i : ℕ) → place_of t cs ≡ Some i → slice_get cs i ≡ Some (t, conn_at i cs)
looked_up t cs i at = key_there t cs i (first_at t cs i at)

module _ (now iss : ℕ) (time : now ≤ last_time) (seg : Seg) (text : Vec ℕ Global) (bytes : List ℕ) (is_text : text.items ≡ bytes) (t : Tuple) (d : Conn) where
  hears_is : hearing (Meets now iss seg text) (chat_of t d) ≡ met_by (meets now iss seg bytes t d) (chat_of t d)
  unfolding hearing
  hears_is =
      let least : min now last_time ≡ now = omega (arith, time) in
      λ j. met_by (meets (least j) iss seg (is_text j) t d) (chat_of t d)

  -- memory was missing
  pub meets_partly : (before after : List Datagram) → HasSent before after (hearing (Meets now iss seg text) (chat_of t d)).sent → HasSent before after (meets now iss seg bytes t d).sent
  meets_partly before after h = subst (λ (c : ChatOf). HasSent before after c.sent) hears_is h

  module _ (i : ℕ) (m : Met) (was is : Conns) (before after : List Datagram) (met : MetAt (Meets now iss seg text) t d i m was is before after) where
    pub met_is : m ≡ (meets now iss seg bytes t d).met
    met_is = one (sym met.met ∙ ap (λ (c : ChatOf). c.met) hears_is)
      where
        one : Some m ≡ Some (meets now iss seg bytes t d).met → m ≡ (meets now iss seg bytes t d).met
        one e = cc

    pub table_is : is ≡ replaced i (meets now iss seg bytes t d).conn was
    unfolding replaced
    table_is = met.table ∙ ap (λ (c : ChatOf). settled i (set_value_at was i (conn_in c.conn))) hears_is

    pub sent_is : after ≡ before ++ (meets now iss seg bytes t d).sent
    sent_is = met.sent ∙ ap (λ (c : ChatOf). before ++ c.sent) hears_is

-- so does what a router says of one
pub shortens_judge : (seq most : ℕ) → Judges (Shortens seq most)
unfolding hearing
shortens_judge seq most t d = ((shortens seq most t d).met, refl)

module _ (seq most : ℕ) (t : Tuple) (d : Conn) where
  path_is : hearing (Shortens seq most) (chat_of t d) ≡ met_by (shortens seq most t d) (chat_of t d)
  unfolding hearing
  path_is = refl

  pub path_partly : (before after : List Datagram) → HasSent before after (hearing (Shortens seq most) (chat_of t d)).sent → HasSent before after (shortens seq most t d).sent
  path_partly before after h = subst (λ (c : ChatOf). HasSent before after c.sent) path_is h

  module _ (i : ℕ) (m : Met) (was is : Conns) (before after : List Datagram) (met : MetAt (Shortens seq most) t d i m was is before after) where
    pub path_met : m ≡ (shortens seq most t d).met
    path_met = one (sym met.met ∙ ap (λ (c : ChatOf). c.met) path_is)
      where
        one : Some m ≡ Some (shortens seq most t d).met → m ≡ (shortens seq most t d).met
        one e = cc

    pub path_table : is ≡ replaced i (shortens seq most t d).conn was
    unfolding replaced
    path_table = met.table ∙ ap (λ (c : ChatOf). settled i (set_value_at was i (conn_in c.conn))) path_is

    pub path_sent : after ≡ before ++ (shortens seq most t d).sent
    path_sent = met.sent ∙ ap (λ (c : ChatOf). before ++ c.sent) path_is

pub urges_judge : (now pointer : ℕ) (seg : Seg) → Judges (Urges now pointer seg)
unfolding hearing
urges_judge now pointer seg t d = ((urges now pointer seg t d).met, refl)

module _ (now pointer : ℕ) (seg : Seg) (t : Tuple) (d : Conn) where
  urged_is : hearing (Urges now pointer seg) (chat_of t d) ≡ met_by (urges now pointer seg t d) (chat_of t d)
  unfolding hearing
  urged_is = refl

  pub urged_partly : (before after : List Datagram) → HasSent before after (hearing (Urges now pointer seg) (chat_of t d)).sent → HasSent before after (urges now pointer seg t d).sent
  urged_partly before after h = subst (λ (c : ChatOf). HasSent before after c.sent) urged_is h

  module _ (i : ℕ) (m : Met) (was is : Conns) (before after : List Datagram) (met : MetAt (Urges now pointer seg) t d i m was is before after) where
    pub urged_met : m ≡ (urges now pointer seg t d).met
    urged_met = one (sym met.met ∙ ap (λ (c : ChatOf). c.met) urged_is)
      where
        one : Some m ≡ Some (urges now pointer seg t d).met → m ≡ (urges now pointer seg t d).met
        one e = cc

    pub urged_table : is ≡ replaced i (urges now pointer seg t d).conn was
    unfolding replaced
    urged_table = met.table ∙ ap (λ (c : ChatOf). settled i (set_value_at was i (conn_in c.conn))) urged_is

    pub urged_sent : after ≡ before ++ (urges now pointer seg t d).sent
    urged_sent = met.sent ∙ ap (λ (c : ChatOf). before ++ c.sent) urged_is

-- who met nobody has left
module _ (now iss : ℕ) (seg : Seg) (bytes : List ℕ) (t : Tuple) (was : Conns) (i : ℕ) (at : place_of t was ≡ Some i) (distinct : IsDistinct tuple_eq (keys_of was)) where
  abbrev its_conn : Conn
  its_conn = emptied (meets now iss seg bytes t (conn_at i was)).conn

  pub gone_left : (meets now iss seg bytes t (conn_at i was)).met ≡ Gone → (is : Conns) → is ≡ replaced i (meets now iss seg bytes t (conn_at i was)).conn was → IsNew t is
  unfolding replaced settled
  gone_left gone is table =
      let lt : i < length was = within_at t was i at in
      let over : is_over (conn_at i (set_value_at was i its_conn)) ≡ true = ap is_over (conn_written was i its_conn lt) ∙ gone_is_over now iss seg bytes t (conn_at i was) gone in
      ap (lookup (tuple_eq t)) (table ∙ ap (λ (b : Bool). cond b (without i (set_value_at was i its_conn)) (set_value_at was i its_conn)) over ∙ without_set was i its_conn lt)
      ∙ look_without was i t (first_at t was i at) lt distinct t
      ∙ ap (λ (b : Bool). cond b None (lookup (tuple_eq t) was)) (tuple_equivalence.refl t)
