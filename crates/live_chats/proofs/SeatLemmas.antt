-- The seats of a table, where one chat changes, leaves or comes.
use Rattle.std.proofs.Common.{◌≡◌, ◌≢◌, ℕ, ◌+◌, ◌<◌, ◌≤◌, min, ◌⊎◌, inl, inr, suc, Bool, true, false, cond, Option, None, Some, IfSome, IfNone, List, [], ◌∷◌, ◌++◌, length, map, slice_get, refl, sym, ap, subst, ◌∙◌, arith}
use Rattle.std.specs.List.{IsDistinct, swap_remove}
use Rattle.std.specs.List.Sorted.{IsPermutation}
use Rattle.std.specs.Map.{keys_of}
use Rattle.std.specs.Option.{option_map}
use Rattle.std.proofs.lemmas.Option.{slice_get-map, slice_get_within}
use Rattle.std_collections.proofs.HashLookup.{IsAbsent, distinct_push, distinct_swap_remove, length-swap_remove}
use Rattle.indexmap.specs.IndexMap.{insert_entry, set_value_at}
use Rattle.indexmap.proofs.MapLemmas.{absent_from_lookup, insert_entry-absent}
use Rattle.indexmap.specs.Layout.{length-set_value_at}
use Rattle.sq_base.specs.declared.kinds.Tuple.{Tuple}
use Rattle.turn_gate.specs.History.{Begins as Grows}
use Rattle.turn_gate.specs.Passes.{number, seen}
use Rattle.turn_gate.specs.declared.pass.Pass.{Pass}
use Rattle.perimeter_core.specs.History.{Element, Limits, Setting}
use Rattle.squeue_state.specs.Naming.{Named, setting_of}
use Rattle.stream_stays.specs.declared.place.Stays.{Stays}
use Rattle.stream_stays.specs.Places.{IsOpen, life_of, place_at}
use Rattle.stream_stays.specs.Settling.{sent_in}
use Rattle.tcb_machine.specs.Limits.{last_time}
use Rattle.live_server.specs.Acts.{emptied, is_over, sent_by, ticked}
use Rattle.live_server.specs.Facts.{facts_of, is_over_by}
use Rattle.live_server.specs.Table.{Conns, conn_at, settled, tuple_eq, without, IsNew}
use Rattle.live_server.specs.declared.acting.Datagram.{Datagram}
use Rattle.live_server.specs.declared.conn.Conn.{Conn}
use Rattle.live_server.specs.declared.conn.Met.{Met}
use Rattle.live_server.specs.declared.facts.Facts.{Facts}
use Rattle.live_server.specs.Told.{Told}
use Rattle.live_server.specs.Told.Told.{hears}
use Rattle.live_server.specs.declared.measures.Measures.{Measures}
use Rattle.live_server.proofs.TableLemmas.{conn_written, same, tuple_equivalence}
use Rattle.live_chats.specs.Accounts.{Accounts, HasEndedStay, IsAway, SeatsWereTold, WereTold, account_of, accounts_of, number_in, pushed_at, seen_in}
use Rattle.live_chats.specs.Hearing.{ChatOf, conn_in, hearing, nobody, silent}
use Rattle.live_chats.specs.Listening.{IsAnswer}
use Rattle.live_chats.specs.Seating.{AllSeated, Begins, HasSeats, HasSeatsBut, HeardAt, IsGood, IsSeated, IsSettled, Judges, KeepsEnds, MetAt, KeptBut, KeptOpen, chat_at, chat_of, conn_of_seat, conns_of, left_at}
use Rattle.live_chats.specs.declared.chats.Chats.{Chats}
use Rattle.live_chats.specs.declared.ear.Heard.{Heard}
use Rattle.live_chats.specs.declared.item.ChatItem.{ChatItem}
use Rattle.live_chats.specs.declared.item.ChatItem.TheVariants.{Time}
use Rattle.live_chats.specs.declared.seat.Seat.{Seat}
use Rattle.live_chats.proofs.HearLemmas.{hearing-silent, hearing_all-here}
use Rattle.live_chats.specs.Onward.{told_on, untold}
use Rattle.live_chats.proofs.LivedLemmas.{frame_told, one_left}
use Rattle.live_chats.proofs.ListLemmas.{entry_there, in_left, in_pushed, in_set, left_moves, length_map, map_agrees, map_append, map_left, map_written, one_place}

abbrev pub Entry : Type 0
Entry = Tuple × Seat

pub of_some : {X : Type 0} (P : X → Type 0) (o : Option X) (x : X) → o ≡ Some x → IfSome o P → P x
of_some P o x is h = let Q : Option _ → Type 0 = λ r. IfSome r P in subst Q is h

pub none_of : {X : Type 0} (Q : Type 0) (o : Option X) → o ≡ None → IfNone o Q → Q
none_of Q o is h = let P : Option _ → Type 0 = λ r. IfNone r Q in subst P is h

pub chat_here : (st : Stays ChatItem ChatOf) (c : ℕ) → (chat_at st c).lost ≡ false
unfolding chat_at
chat_here st c = hearing_all-here (sent_in (place_at st c)) nobody refl

-- what an item makes of a chat is read off its ends and its connection
pub heard_of : (x : ChatItem) (c : ChatOf) (t : Tuple) (d : Conn) → c.ends ≡ t → c.conn ≡ Some d → c.lost ≡ false → hearing x c ≡ hearing x (chat_of t d)
heard_of x c t d ends conn here =
    let same : silent c ≡ chat_of t d = λ j. record { ends = ends j; conn = conn j; sent = []; met = None; lost = here j } in
    sym (hearing-silent x c) ∙ ap (hearing x) same

-- so it is of the chat at a seat
pub hears_there : (x : ChatItem) (st : Stays ChatItem ChatOf) (es : List Entry) (i : ℕ) (e : Entry) → slice_get es i ≡ Some e → IsSeated st e
    → (t : Tuple) (d : Conn) → slice_get (conns_of st es) i ≡ Some (t, d) → hearing x (chat_at st e.1.place) ≡ hearing x (chat_of t d)
hears_there x st es i e at its t d there =
    let entry : (t, d) ≡ conn_of_seat st e = pair_is (sym there ∙ slice_get-map (conn_of_seat st) es i ∙ ap (λ (o : Option Entry). option_map (conn_of_seat st) o) at) in
    heard_of x (chat_at st e.1.place) t d (its.ends ∙ ap (λ (y : Tuple × Conn). y.0) (sym entry))
    (its.its_conn ∙ ap Some (ap conn_in (sym its.its_conn) ∙ ap (λ (y : Tuple × Conn). y.1) (sym entry))) (chat_here st e.1.place)
  where
    pair_is : Some (t, d) ≡ Some (conn_of_seat st e) → (t, d) ≡ conn_of_seat st e
    pair_is p = cc

-- the entry at a place, of the connections
pub conns_at : (st : Stays ChatItem ChatOf) (es : List Entry) (i : ℕ) (e : Entry) → slice_get es i ≡ Some e → slice_get (conns_of st es) i ≡ Some (conn_of_seat st e)
conns_at st es i e at = slice_get-map (conn_of_seat st) es i ∙ ap (λ (o : Option Entry). option_map (conn_of_seat st) o) at

pub seated_kept : (c : ℕ) (a b : Stays ChatItem ChatOf) (e : Entry) → KeptBut c a b → e.1.place ≢ c → IsSeated a e → IsSeated b e
seated_kept c a b e k ne s = record {
  is_open = k.opens e.1.place ne s.is_open;
  ends = ap (λ (x : ChatOf). x.ends) (k.chats e.1.place ne) ∙ s.ends;
  conn = s.conn;
  its_conn = ap (λ (x : ChatOf). x.conn) (k.chats e.1.place ne) ∙ s.its_conn;
  facts = s.facts;
}

pub seated_open : (a b : Stays ChatItem ChatOf) (e : Entry) → KeptOpen a b → IsSeated a e → IsSeated b e
seated_open a b e k s = record {
  is_open = k.opens e.1.place s.is_open;
  ends = ap (λ (x : ChatOf). x.ends) (k.chats e.1.place s.is_open) ∙ s.ends;
  conn = s.conn;
  its_conn = ap (λ (x : ChatOf). x.conn) (k.chats e.1.place s.is_open) ∙ s.its_conn;
  facts = s.facts;
}

pub same_entry : (es : List Entry) (i : ℕ) (e f : Entry) → slice_get es i ≡ Some e → slice_get es i ≡ Some f → f ≡ e
same_entry es i e f p q = cc

pub left_length : (es : List Entry) (i : ℕ) (e : Entry) → slice_get es i ≡ Some e → length (left_at i es) + 1 ≡ length es
left_length es i e at = ap (λ (o : Option Entry). length (Rattle.std.specs.Option.option_map_or (λ x. swap_remove es i x) o es) + 1) at ∙ length-swap_remove es i e (slice_get_within es i e at)

pub left_distinct : (es : List Entry) (i : ℕ) (e : Entry) → slice_get es i ≡ Some e → IsDistinct tuple_eq (keys_of es) → IsDistinct tuple_eq (keys_of (left_at i es))
left_distinct es i e at d =
    subst (λ (o : Option Entry). IsDistinct tuple_eq (keys_of (Rattle.std.specs.Option.option_map_or (λ x. swap_remove es i x) o es))) (sym at)
    (distinct_swap_remove tuple_eq tuple_equivalence es i e (slice_get_within es i e at) d)

-- the account at a place
pub account_at : (st : Stays ChatItem ChatOf) (es : List Entry) (i : ℕ) (e : Entry) → slice_get es i ≡ Some e → slice_get (accounts_of st es) i ≡ Some (account_of st e)
account_at st es i e at = slice_get-map (account_of st) es i ∙ ap (λ (o : Option Entry). option_map (account_of st) o) at

pub accounts_keys : (st : Stays ChatItem ChatOf) (es : List Entry) → keys_of (accounts_of st es) ≡ keys_of es
accounts_keys st [] = refl
accounts_keys st (e ∷ es) = ap (λ (ks : List Tuple). e.0 ∷ ks) (accounts_keys st es)

pub away_by : (t : Tuple) (st : Stays ChatItem ChatOf) (es : List Entry) → ((k : ℕ) (f : Entry) → slice_get es k ≡ Some f → tuple_eq t f.0 ≡ false)
    → IsAway t (accounts_of st es)
away_by t st [] h = tt
away_by t st (e ∷ es) h = (h 0 e refl, away_by t st es (λ k f there. h (suc k) f there))

module _ (a b : Stays ChatItem ChatOf) (es : List Entry) (i : ℕ) (e : Entry) (at : slice_get es i ≡ Some e) (kept : KeptBut e.1.place a b) (ends : (chat_at a e.1.place).ends ≡ e.0)
    (distinct : IsDistinct tuple_eq (keys_of es)) (others : (k : ℕ) (f : Entry) → slice_get es k ≡ Some f → k ≢ i → IsSeated a f) where
  apart : (k : ℕ) (f : Entry) → slice_get es k ≡ Some f → k ≢ i → f.1.place ≢ e.1.place
  apart k f there ne same =
      ne (one_place tuple_eq tuple_equivalence.refl es k i f e distinct there at (sym ((others k f there ne).ends) ∙ ap (λ (p : ℕ). (chat_at a p).ends) same ∙ ends))

  pub others_kept : (k : ℕ) (f : Entry) → slice_get es k ≡ Some f → k ≢ i → IsSeated b f
  others_kept k f there ne = seated_kept e.1.place a b f kept (apart k f there ne) (others k f there ne)

  pub others_same : (k : ℕ) (f : Entry) → slice_get es k ≡ Some f → k ≢ i → conn_of_seat b f ≡ conn_of_seat a f
  others_same k f there ne = ap (λ (x : ChatOf). (f.0, conn_in x.conn)) (kept.chats f.1.place (apart k f there ne))

  pub others_counted : (k : ℕ) (f : Entry) → slice_get es k ≡ Some f → k ≢ i → account_of b f ≡ account_of a f
  others_counted k f there ne = ap (λ (n : ℕ). (f.0, n)) (kept.pushed f.1.place (apart k f there ne))

  -- where it leaves
  pub left_seated : AllSeated b (left_at i es)
  left_seated k f there = let was = in_left i es k f (slice_get_within es i e at) there in others_kept was.0 f was.1 was.2

  pub left_conns : conns_of b (left_at i es) ≡ without i (conns_of a es)
  unfolding without
  left_conns =
      map_agrees (conn_of_seat b) (conn_of_seat a) (left_at i es) (λ k f there. let was = in_left i es k f (slice_get_within es i e at) there in others_same was.0 f was.1 was.2)
      ∙ map_left (conn_of_seat a) i es

  pub left_accounts : IsPermutation (accounts_of a es) (account_of a e ∷ accounts_of b (left_at i es))
  left_accounts =
      let rest : accounts_of b (left_at i es) ≡ left_at i (accounts_of a es) =
      map_agrees (account_of b) (account_of a) (left_at i es)
      (λ k f there. let was = in_left i es k f (slice_get_within es i e at) there in others_counted was.0 f was.1 was.2)
      ∙ map_left (account_of a) i es in
      subst (λ (l : Accounts). IsPermutation (accounts_of a es) (account_of a e ∷ l)) (sym rest) (left_moves i (accounts_of a es) (account_of a e) (account_at a es i e at))

  pub left_away : IsAway e.0 (accounts_of b (left_at i es))
  left_away = away_by e.0 b (left_at i es) (λ k f there. let was = in_left i es k f (slice_get_within es i e at) there in not_its (tuple_eq e.0 f.0) refl was.0 was.1 was.2)
    where
      not_its : {f : Entry} (r : Bool) → tuple_eq e.0 f.0 ≡ r → (j : ℕ) → slice_get es j ≡ Some f → j ≢ i → tuple_eq e.0 f.0 ≡ false
      not_its false is j there ne = is
      not_its {f} true is j there ne = absurd (ne (one_place tuple_eq tuple_equivalence.refl es j i f e distinct there at (sym (same e.0 f.0 is))))

  pub heard_accounts : (seat : Seat) → seat.place ≡ e.1.place → pushed_at b e.1.place ≡ pushed_at a e.1.place + 1
      → accounts_of b (set_value_at es i seat) ≡ set_value_at (accounts_of a es) i (pushed_at a e.1.place + 1)
  heard_accounts seat place more =
      map_written (account_of a) (account_of b) es i seat (pushed_at a e.1.place + 1) e at (λ _. refl)
      (λ j. (e.0, (ap (pushed_at b) place ∙ more) j)) others_counted

  pub without_same : without i (conns_of b es) ≡ without i (conns_of a es)
  unfolding without
  without_same =
      sym (map_left (conn_of_seat b) i es)
      ∙ map_agrees (conn_of_seat b) (conn_of_seat a) (left_at i es) (λ k f there. let was = in_left i es k f (slice_get_within es i e at) there in others_same was.0 f was.1 was.2)
      ∙ map_left (conn_of_seat a) i es

  -- where something is heard of it
  module _ (x : ChatItem) (h : Heard) (is_open : IsOpen b e.1.place) (keeps : KeepsEnds x) (told : chat_at b e.1.place ≡ hearing x (chat_at a e.1.place))
      (before after : List Datagram) (answer : IsAnswer (chat_at b e.1.place) h before after) where
    abbrev learnt : Seat
    learnt = record e.1 { facts = h.facts }

    learnt_seated : IsSeated b (e.0, learnt)
    learnt_seated = record {
      is_open = is_open;
      ends = ap (λ (c : ChatOf). c.ends) told ∙ keeps (chat_at a e.1.place) ∙ ends;
      conn = answer.conn;
      its_conn = answer.its_conn;
      facts = answer.facts;
    }

    pub heard_seated : AllSeated b (set_value_at es i learnt)
    heard_seated k f there = elim (in_set es i learnt k f there) [
      | inl r ↦ others_kept k f r.1 r.0
      | inr r ↦ (let g = r.1.0 in
          let its : f ≡ (e.0, learnt) = r.1.2 ∙ ap (λ (y : Entry). (y.0, learnt)) (same_entry es i e g at r.1.1) in
          subst (IsSeated b) (sym its) learnt_seated)
    ]

    heard_conns : conns_of b (set_value_at es i learnt) ≡ set_value_at (conns_of a es) i (conn_in (chat_at b e.1.place).conn)
    heard_conns = map_written (conn_of_seat a) (conn_of_seat b) es i learnt (conn_in (chat_at b e.1.place).conn) e at (λ _. refl) refl others_same

    pub heard_there : (d0 : Conn) → (chat_at a e.1.place).conn ≡ Some d0 → (t : Tuple) (d : Conn) → slice_get (conns_of a es) i ≡ Some (t, d)
        → HeardAt x t d i h (conns_of a es) (conns_of b (set_value_at es i learnt)) before after
    heard_there d0 has t d there =
        let entry : (t, d) ≡ conn_of_seat a e = pair_is (sym there ∙ conns_at a es i e at) in
        let its_t : (chat_at a e.1.place).ends ≡ t = ends ∙ ap (λ (y : Tuple × Conn). y.0) (sym entry) in
        let its_d : (chat_at a e.1.place).conn ≡ Some d = has ∙ ap Some (ap conn_in (sym has) ∙ ap (λ (y : Tuple × Conn). y.1) (sym entry)) in
        let is : chat_at b e.1.place ≡ hearing x (chat_of t d) = told ∙ heard_of x (chat_at a e.1.place) t d its_t its_d (chat_here a e.1.place) in
        record {
          table = heard_conns ∙ ap (λ (c : ChatOf). set_value_at (conns_of a es) i (conn_in c.conn)) is;
          facts = answer.facts ∙ ap facts_of (ap conn_in (sym answer.its_conn) ∙ ap (λ (c : ChatOf). conn_in c.conn) is);
          met = answer.met ∙ ap (λ (c : ChatOf). c.met) is;
          sent = answer.sent ∙ ap (λ (c : ChatOf). before ++ c.sent) is;
        }
      where
        pair_is : Some (t, d) ≡ Some (conn_of_seat a e) → (t, d) ≡ conn_of_seat a e
        pair_is p = cc

pub kept_ends : (x : ChatItem) (c : ℕ) (a b : Stays ChatItem ChatOf) (t : Tuple) → KeepsEnds x → (chat_at b c ≡ hearing x (chat_at a c)) ⊎ (chat_at b c ≡ chat_at a c) → (chat_at a c).ends ≡ t → (chat_at b c).ends ≡ t
kept_ends x c a b t keeps (inl h) ends = ap (λ (y : ChatOf). y.ends) h ∙ keeps (chat_at a c) ∙ ends
kept_ends x c a b t keeps (inr h) ends = ap (λ (y : ChatOf). y.ends) h ∙ ends

pub if_some : {X : Type 0} (P : X → Type 0) (o : Option X) → ((x : X) → o ≡ Some x → P x) → IfSome o P
if_some P None h = tt
if_some P (Some x) h = h x refl

pub if_none : {X : Type 0} (Q : Type 0) (o : Option X) → (o ≡ None → Q) → IfNone o Q
if_none Q None h = h refl
if_none Q (Some x) h = tt

pub conns_length : (st : Stays ChatItem ChatOf) (es : List Entry) → length (conns_of st es) ≡ length es
conns_length st es = length_map (conn_of_seat st) es

pub conns_keys : (st : Stays ChatItem ChatOf) (es : List Entry) → keys_of (conns_of st es) ≡ keys_of es
conns_keys st [] = refl
conns_keys st (e ∷ es) = ap (λ (ks : List Tuple). e.0 ∷ ks) (conns_keys st es)

-- what was heard, read off a table
module _ (x : ChatItem) (t : Tuple) (d : Conn) (i : ℕ) (h : Heard) (was is : Conns) (before after : List Datagram) (heard : HeardAt x t d i h was is before after) (lt : i < length was) where
  abbrev then_conn : Conn
  then_conn = conn_in (hearing x (chat_of t d)).conn

  over_by : (b : Bool) → is_over_by h.facts ≡ b → is_over (conn_at i (set_value_at was i then_conn)) ≡ b
  over_by b e = ap is_over (conn_written was i then_conn lt) ∙ ap is_over_by (sym heard.facts) ∙ e

  pub met_over : is_over_by h.facts ≡ true → (m : Met) → h.met ≡ Some m → (left : Conns) → left ≡ without i is → MetAt x t d i m was left before after
  unfolding settled
  met_over over m its left gone = record {
    table = gone ∙ ap (without i) heard.table ∙ ap (λ (b : Bool). cond b (without i (set_value_at was i then_conn)) (set_value_at was i then_conn)) (sym (over_by true over));
    met = sym heard.met ∙ its;
    sent = heard.sent;
  }

  pub met_here : is_over_by h.facts ≡ false → (m : Met) → h.met ≡ Some m → MetAt x t d i m was is before after
  unfolding settled
  met_here over m its = record {
    table = heard.table ∙ ap (λ (b : Bool). cond b (without i (set_value_at was i then_conn)) (set_value_at was i then_conn)) (sym (over_by false over));
    met = sym heard.met ∙ its;
    sent = heard.sent;
  }

  pub judged_so : Judges x → h.met ≡ None → ⊥
  judged_so judges none = let m = judges t d in clash m.0 (sym none ∙ heard.met ∙ m.1)
    where
      clash : (m : Met) → None ≡ Some m → ⊥
      clash m e = cc

pub heard_length : (a b : Stays ChatItem ChatOf) (es fs : List Entry) (i : ℕ) (v : Conn) → conns_of b fs ≡ set_value_at (conns_of a es) i v → length fs ≡ length es
heard_length a b es fs i v table = sym (conns_length b fs) ∙ ap length table ∙ length-set_value_at (conns_of a es) i v ∙ conns_length a es

-- where all parts that were there are kept
pub open_conns : (a b : Stays ChatItem ChatOf) (es : List Entry) → AllSeated a es → KeptOpen a b → conns_of b es ≡ conns_of a es
open_conns a b es seated k =
    map_agrees (conn_of_seat b) (conn_of_seat a) es (λ n f at. ap (λ (x : ChatOf). (f.0, conn_in x.conn)) (k.chats f.1.place ((seated n f at).is_open)))

pub open_accounts : (a b : Stays ChatItem ChatOf) (es : List Entry) → AllSeated a es → KeptOpen a b → accounts_of b es ≡ accounts_of a es
open_accounts a b es seated k =
    map_agrees (account_of b) (account_of a) es (λ n f at. ap (λ (m : ℕ). (f.0, m)) (k.pushed f.1.place ((seated n f at).is_open)))

away_absent : (st : Stays ChatItem ChatOf) (t : Tuple) (es : List Entry) → IsAbsent (tuple_eq t) es → IsAway t (accounts_of st es)
away_absent st t [] h = tt
away_absent st t (e ∷ es) h = (h.0, away_absent st t es h.1)

absent_seat : (st : Stays ChatItem ChatOf) (t : Tuple) (es : List Entry) → IsAbsent (tuple_eq t) (conns_of st es) → IsAbsent (tuple_eq t) es
absent_seat st t [] h = tt
absent_seat st t (e ∷ es) h = (h.0, absent_seat st t es h.1)

-- a connection comes behind the others
module _ (a b : Stays ChatItem ChatOf) (es : List Entry) (c : ℕ) (t : Tuple) (d : Conn) (facts : Facts) (facts_are : facts ≡ facts_of d) (seated : AllSeated a es) (kept : KeptOpen a b) (begun : Begins c t d a b)
    (new : IsNew t (conns_of a es)) where
  abbrev its_seat : Seat
  its_seat = record { place = c; facts = facts }

  absent : IsAbsent (tuple_eq t) es
  absent = absent_seat a t es (absent_from_lookup (tuple_eq t) (conns_of a es) new)

  pub entered_last : insert_entry tuple_eq es t its_seat ≡ es ++ (t, its_seat) ∷ []
  entered_last = insert_entry-absent tuple_eq t its_seat es absent

  pub pushed_seated : AllSeated b (es ++ (t, its_seat) ∷ [])
  pushed_seated k f there = elim (in_pushed es (t, its_seat) k f there) [
    | inl r ↦ seated_open a b f kept (seated r.0 f r.1)
    | inr r ↦ subst (IsSeated b) (sym r) (record { is_open = begun.is_open; ends = begun.ends_are; conn = d; its_conn = begun.conn_is; facts = facts_are })
  ]

  pub pushed_conns : conns_of b (es ++ (t, its_seat) ∷ []) ≡ conns_of a es ++ (t, d) ∷ []
  pushed_conns =
      map_append (conn_of_seat b) es ((t, its_seat) ∷ [])
      ∙ (λ j. open_conns a b es seated kept j ++ (t, conn_in (begun.conn_is j)) ∷ [])

  pub pushed_accounts : accounts_of b (es ++ (t, its_seat) ∷ []) ≡ accounts_of a es ++ (t, 1) ∷ []
  pushed_accounts =
      map_append (account_of b) es ((t, its_seat) ∷ [])
      ∙ (λ j. open_accounts a b es seated kept j ++ (t, begun.one j) ∷ [])

  pub new_away : IsAway t (accounts_of a es)
  new_away = away_absent a t es absent

  pub pushed_distinct : IsDistinct tuple_eq (keys_of es) → IsDistinct tuple_eq (keys_of (es ++ (t, its_seat) ∷ []))
  pushed_distinct h = distinct_push tuple_eq tuple_equivalence es (t, its_seat) h absent

module _ {R : Type 0} (limits : R → Limits) (s : Named R) (o : Chats) where
  pub but_one : (i : ℕ) (p : Pass Element) (st : Stays ChatItem ChatOf) (es : List Entry) → HasSeats limits s o p st es → i < length es → HasSeatsBut limits s o i p st es
  but_one i p st es h lt =
      let at = entry_there es i lt in
      let its = h.seated i at.0 at.1 in
      record {
        settled = h.settled;
        seated = λ k e there _. h.seated k e there;
        left = at.0;
        its_place = at.1;
        is_open = its.is_open;
        ends = its.ends;
        distinct = h.distinct;
        paid = h.paid;
      }

  pub kept_seats : (p q : Pass Element) (a b : Stays ChatItem ChatOf) (es : List Entry) → HasSeats limits s o p a es → IsSettled limits s o q b → KeptOpen a b → length es ≤ (life_of b).asks → HasSeats limits s o q b es
  kept_seats p q a b es h settled k paid = record {
    settled = settled;
    seated = λ n f at. seated_open a b f k (h.seated n f at);
    distinct = h.distinct;
    paid = paid;
  }

-- what a time makes of a connection
module _ (measures : Measures) (now : ℕ) (time : now ≤ last_time) (t : Tuple) (d : Conn) where
  least : min now last_time ≡ now
  least = omega (arith, time)

  pub timed_conn : conn_in (hearing (Time measures now) (chat_of t d)).conn ≡ emptied (ticked measures now d)
  unfolding hearing
  timed_conn = ap (λ (n : ℕ). emptied (ticked measures n d)) least

  pub timed_sent : (hearing (Time measures now) (chat_of t d)).sent ≡ sent_by t (ticked measures now d)
  unfolding hearing
  timed_sent = ap (λ (n : ℕ). sent_by t (ticked measures n d)) least

module _ {R : Type 0} (limits : R → Limits) (s : Named R) (o : Chats) where
  pub good_but : (closes : Pass Element → Type 0) (pass : Option (Pass Element)) (q : Pass Element) (st : Stays ChatItem ChatOf) (es : List Entry) (i : ℕ) → IsGood limits s o closes pass st es → pass ≡ Some q → i < length es
      → HasSeatsBut limits s o i q st es
  good_but closes pass q st es i h is lt =
      subst (λ (p : Pass Element). HasSeatsBut limits s o i p st es) (one (sym h.is_there ∙ is)) (but_one limits s o i h.its_pass st es h.seats lt)
    where
      one : Some h.its_pass ≡ Some q → h.its_pass ≡ q
      one e = cc

-- what seats were told
module _ {R : Type 0} (limits : R → Limits) (s : Named R) where
  abbrev S : Setting
  S = setting_of limits s.given

  pub seats_untold : (p : Pass Element) (st : Stays ChatItem ChatOf) (es : List Entry) → SeatsWereTold limits s p p st st es es []
  seats_untold p st es = untold S (number p) (seen p) (accounts_of st es)

  -- nor does anybody hear where nobody is
  pub nobody_heard : (p : Pass Element) (st : Stays ChatItem ChatOf) (es : List Entry) → length es ≡ 0 → SeatsWereTold limits s p p st st es es (map hears (keys_of es))
  nobody_heard p st [] none = seats_untold p st []
  nobody_heard p st (e ∷ es) none = absurd (omega (arith, none))

  pub seats_told_on : (p m q : Pass Element) (a b d : Stays ChatItem ChatOf) (es fs gs : List Entry) (ws vs : List Told) → number m ≡ number p
      → SeatsWereTold limits s p m a b es fs ws → SeatsWereTold limits s m q b d fs gs vs → SeatsWereTold limits s p q a d es gs (ws ++ vs)
  seats_told_on p m q a b d es fs gs ws vs is first more =
      told_on S (number p) (seen p) (seen m) (seen q) (accounts_of a es) (accounts_of b fs) (accounts_of d gs) ws vs first
      (subst (λ (n : ℕ). WereTold S n (seen m) (seen q) (accounts_of b fs) (accounts_of d gs) vs) is more)

  module _ (p q : Pass Element) (a b : Stays ChatItem ChatOf) (es : List Entry) (i : ℕ) (e : Entry) (at : slice_get es i ≡ Some e) (kept : KeptBut e.1.place a b)
      (ends : (chat_at a e.1.place).ends ≡ e.0) (distinct : IsDistinct tuple_eq (keys_of es)) (others : (k : ℕ) (f : Entry) → slice_get es k ≡ Some f → k ≢ i → IsSeated a f) where
    pub seat_left : HasEndedStay S (number p) (seen p) (seen q) (pushed_at a e.1.place) → SeatsWereTold limits s p q a b es (left_at i es) []
    seat_left ended =
        one_left S (number p) (seen p) (seen q) (accounts_of a es) (accounts_of b (left_at i es)) e.0 (pushed_at a e.1.place)
        (left_accounts a b es i e at kept ends distinct others) (left_away a b es i e at kept ends distinct others) ended

    pub seat_heard : (seat : Seat) → seat.place ≡ e.1.place → pushed_at b e.1.place ≡ pushed_at a e.1.place + 1 → Grows (seen p) (seen q)
        → SeatsWereTold limits s p q a b es (set_value_at es i seat) (hears e.0 ∷ [])
    seat_heard seat place more grows =
        frame_told S (number p) (seen p) (seen q) (accounts_of a es) (accounts_of b (set_value_at es i seat)) i (pushed_at a e.1.place) e.0
        (account_at a es i e at) (subst (IsDistinct tuple_eq) (sym (accounts_keys a es)) distinct)
        (heard_accounts a b es i e at kept ends distinct others seat place more) grows

  -- where the pass of a table was taken, and put again
  pub table_told : (old new : Option (Pass Element)) (p q : Pass Element) (a b : Stays ChatItem ChatOf) (es fs : List Entry) (ws : List Told)
      → old ≡ Some p → new ≡ Some q → number q ≡ number p → SeatsWereTold limits s p q a b es fs ws
      → (number_in new ≡ number_in old) × WereTold S (number_in old) (seen_in old) (seen_in new) (accounts_of a es) (accounts_of b fs) ws
  table_told old new p q a b es fs ws was is same_number told = (
    ap number_in is ∙ same_number ∙ ap number_in (sym was),
    subst (λ (o : Option (Pass Element)). WereTold S (number_in o) (seen_in o) (seen_in new) (accounts_of a es) (accounts_of b fs) ws) (sym was)
        (subst (λ (o : Option (Pass Element)). WereTold S (number p) (seen p) (seen_in o) (accounts_of a es) (accounts_of b fs) ws) (sym is) told),
  )
