-- The seats of a table to which the time comes at once: where it is told, where something is learnt, and where those leave of which nothing was heard.
use Rattle.std.proofs.Common.{◌≡◌, ◌≢◌, ℕ, zero, suc, ◌+◌, ◌<◌, ◌≤◌, ◌⊎◌, inl, inr, true, false, eqb, Option, None, Some, IfSome, IfNone, List, [], ◌∷◌, ◌++◌, length, map, drop, take, slice_get, refl, sym, ap, subst, ◌∙◌, add-one, arith}
use Rattle.std.specs.List.{IsDistinct, flat_map}
use Rattle.std.specs.Map.{keys_of}
use Rattle.std.specs.Option.{option_map}
use Rattle.std.proofs.lemmas.Bool.Decides.{eqb_tells, leb_tells}
use Rattle.std.proofs.lemmas.Grind.{flat_map-append}
use Rattle.std.proofs.lemmas.List.{length-append, length-take-le, take_all}
use Rattle.std.proofs.lemmas.Option.{none-some, same_Some, slice_get-map, slice_get_past, slice_get_within}
use Rattle.indexmap.specs.IndexMap.{set_value_at}
use Rattle.sq_base.specs.declared.kinds.Tuple.{Tuple}
use Rattle.turn_gate.specs.declared.pass.Pass.{Pass}
use Rattle.perimeter_core.specs.History.{Element, Limits}
use Rattle.squeue_state.specs.Naming.{Named}
use Rattle.stream_stays.specs.declared.place.Stays.{Stays}
use Rattle.stream_stays.specs.Places.{IsOpen, life_of}
use Rattle.tcb_machine.specs.Limits.{last_time}
use Rattle.live_server.specs.Acts.{emptied, sent_by, ticked}
use Rattle.live_server.specs.Table.{all_reached, tuple_eq}
use Rattle.live_server.specs.declared.acting.Datagram.{Datagram}
use Rattle.live_server.specs.declared.conn.Conn.{Conn}
use Rattle.live_server.proofs.TableLemmas.{tuple_equivalence}
use Rattle.turn_gate.specs.History.{Begins as Grows}
use Rattle.turn_gate.specs.Passes.{number, seen}
use Rattle.squeue_state.specs.Naming.{setting_of}
use Rattle.live_server.specs.Told.Told.{hears}
use Rattle.live_server.specs.declared.measures.Measures.{Measures}
use Rattle.live_chats.specs.Accounts.{SeatsWereTold, accounts_of, pushed_at}
use Rattle.live_chats.proofs.LivedLemmas.{each_heard, one_more_each}
use Rattle.live_chats.specs.Hearing.{ChatOf, conn_in, hearing}
use Rattle.live_chats.specs.Listening.{AreAnswers}
use Rattle.live_chats.specs.Seating.{AllSeated, AreTold, HasHeardSeats, HasSeats, IsSeated, IsSettled, KeptBut, KeptOpen, Spoils, all_learnt, chat_at, chat_of, conn_of_seat, conns_of, learnt, left_at, places_in}
use Rattle.live_chats.specs.declared.chats.Chats.{Chats}
use Rattle.live_chats.specs.declared.ear.Heard.{Heard}
use Rattle.live_chats.specs.declared.item.ChatItem.{ChatItem}
use Rattle.live_chats.specs.declared.item.ChatItem.TheVariants.{Time}
use Rattle.live_chats.specs.declared.seat.Seat.{Seat}
use Rattle.live_server.specs.Written.{HasSent}
use Rattle.live_server.proofs.WrittenLemmas.{map_front, sent_of_front}
use Rattle.live_chats.proofs.AnswerLemmas.{answers_at, answers_count, answers_partly, answers_sent}
use Rattle.live_chats.proofs.HearLemmas.{time_keeps_ends}
use Rattle.live_chats.proofs.ListLemmas.{entry_there, in_left_from, one_place}
use Rattle.live_chats.proofs.SeatLemmas.{accounts_keys, chat_here, heard_of, left_distinct, left_length, same_entry, seated_kept, timed_conn, timed_sent}

abbrev Entry : Type 0
Entry = Tuple × Seat

abbrev St : Type 0
St = Stays ChatItem ChatOf

-- two seats with the ends of their chats are at two places
pub seats_apart : (a : St) (es : List Entry) → IsDistinct tuple_eq (keys_of es) → ((k : ℕ) (e : Entry) → slice_get es k ≡ Some e → (chat_at a e.1.place).ends ≡ e.0)
    → (k i : ℕ) (f e : Entry) → slice_get es k ≡ Some f → slice_get es i ≡ Some e → k ≢ i → f.1.place ≢ e.1.place
seats_apart a es distinct ends k i f e there at ne same =
    ne (one_place tuple_eq tuple_equivalence.refl es k i f e distinct there at (sym (ends k f there) ∙ ap (λ (p : ℕ). (chat_at a p).ends) same ∙ ends i e at))

-- ---- where the time is told
pub places_next : (es : List Entry) (i : ℕ) (e : Entry) → slice_get es i ≡ Some e → places_in (take (i + 1) es) ≡ places_in (take i es) ++ e.1.place ∷ []
places_next es i e at = ap (λ (n : ℕ). places_in (take n es)) (add-one i) ∙ by es i at
  where
    by : (xs : List Entry) (n : ℕ) → slice_get xs n ≡ Some e → places_in (take (suc n) xs) ≡ places_in (take n xs) ++ e.1.place ∷ []
    by [] n h = absurd (none-some _ h)
    by (x ∷ xs) zero h = ap (λ (y : Entry). y.1.place ∷ []) (same_Some _ _ h)
    by (x ∷ xs) (suc n) h = ap (λ (l : List ℕ). x.1.place ∷ l) (by xs n h)

pub told_at_first : (measures : Measures) (now : ℕ) (a : St) (es : List Entry) → AreTold measures now 0 a a es
told_at_first measures now a es = record { opens = λ d o. o; told = λ k e at lt. absurd (omega (arith, lt)); others = λ k e at _. refl; pushed = λ k e at lt. absurd (omega (arith, lt)); unpushed = λ k e at _. refl }

module _ (measures : Measures) (now : ℕ) (a b : St) (es : List Entry) (seated : AllSeated a es) (distinct : IsDistinct tuple_eq (keys_of es)) where
  apart : (k i : ℕ) (f e : Entry) → slice_get es k ≡ Some f → slice_get es i ≡ Some e → k ≢ i → f.1.place ≢ e.1.place
  apart = seats_apart a es distinct (λ k e at. (seated k e at).ends)

  module _ (i : ℕ) (e : Entry) (at : slice_get es i ≡ Some e) (c : St) (so_far : AreTold measures now i a b es) (is_open : IsOpen c e.1.place) (kept : KeptBut e.1.place b c) where
    opens_on : (d : ℕ) → IsOpen a d → IsOpen c d
    opens_on d o = elim (eqb_tells d e.1.place) [
      | inl same ↦ subst (IsOpen c) (sym same.1) is_open
      | inr ne ↦ kept.opens d ne.1 (so_far.opens d o)
    ]

    -- at one seat more
    pub told_next : chat_at c e.1.place ≡ hearing (Time measures now) (chat_at b e.1.place) → pushed_at c e.1.place ≡ pushed_at b e.1.place + 1 → AreTold measures now (i + 1) a c es
    told_next one more = record {
      opens = opens_on;
      told = tells;
      others = λ k f there past. kept.chats f.1.place (apart k i f e there at (λ z. omega (arith, z, past))) ∙ so_far.others k f there (omega (arith, past));
      pushed = counts;
      unpushed = λ k f there past. kept.pushed f.1.place (apart k i f e there at (λ z. omega (arith, z, past))) ∙ so_far.unpushed k f there (omega (arith, past));
    }
      where
        tells : (k : ℕ) (f : Entry) → slice_get es k ≡ Some f → k < i + 1 → chat_at c f.1.place ≡ hearing (Time measures now) (chat_at a f.1.place)
        tells k f there lt = elim (eqb_tells k i) [
          | inl same ↦ (let its : f ≡ e = same_entry es i e f at (ap (slice_get es) (sym same.1) ∙ there) in
              subst (λ (x : Entry). chat_at c x.1.place ≡ hearing (Time measures now) (chat_at a x.1.place)) (sym its) (one ∙ ap (hearing (Time measures now)) (so_far.others i e at (omega arith))))
          | inr ne ↦ kept.chats f.1.place (apart k i f e there at ne.1) ∙ so_far.told k f there (omega (arith, lt, ne.1))
        ]

        counts : (k : ℕ) (f : Entry) → slice_get es k ≡ Some f → k < i + 1 → pushed_at c f.1.place ≡ pushed_at a f.1.place + 1
        counts k f there lt = elim (eqb_tells k i) [
          | inl same ↦ (let its : f ≡ e = same_entry es i e f at (ap (slice_get es) (sym same.1) ∙ there) in
              subst (λ (x : Entry). pushed_at c x.1.place ≡ pushed_at a x.1.place + 1) (sym its) (more ∙ ap (λ (n : ℕ). n + 1) (so_far.unpushed i e at (omega arith))))
          | inr ne ↦ kept.pushed f.1.place (apart k i f e there at ne.1) ∙ so_far.pushed k f there (omega (arith, lt, ne.1))
        ]

    -- it wasn't taken
    pub told_still : chat_at c e.1.place ≡ chat_at b e.1.place → pushed_at c e.1.place ≡ pushed_at b e.1.place → AreTold measures now i a c es
    told_still one none = record {
      opens = opens_on;
      told = λ k f there lt. same k f there ∙ so_far.told k f there lt;
      others = λ k f there past. same k f there ∙ so_far.others k f there past;
      pushed = λ k f there lt. count k f there ∙ so_far.pushed k f there lt;
      unpushed = λ k f there past. count k f there ∙ so_far.unpushed k f there past;
    }
      where
        same : (k : ℕ) (f : Entry) → slice_get es k ≡ Some f → chat_at c f.1.place ≡ chat_at b f.1.place
        same k f there = elim (eqb_tells k i) [
          | inl is ↦ (let its : f ≡ e = same_entry es i e f at (ap (slice_get es) (sym is.1) ∙ there) in subst (λ (x : Entry). chat_at c x.1.place ≡ chat_at b x.1.place) (sym its) one)
          | inr ne ↦ kept.chats f.1.place (apart k i f e there at ne.1)
        ]

        count : (k : ℕ) (f : Entry) → slice_get es k ≡ Some f → pushed_at c f.1.place ≡ pushed_at b f.1.place
        count k f there = elim (eqb_tells k i) [
          | inl is ↦ (let its : f ≡ e = same_entry es i e f at (ap (slice_get es) (sym is.1) ∙ there) in subst (λ (x : Entry). pushed_at c x.1.place ≡ pushed_at b x.1.place) (sym its) none)
          | inr ne ↦ kept.pushed f.1.place (apart k i f e there at ne.1)
        ]

  -- and then no place is told anything
  pub told_kept_on : (i : ℕ) (c : St) → AreTold measures now i a b es → KeptOpen b c → AreTold measures now i a c es
  told_kept_on i c so_far kept =
      let same = λ (k : ℕ) (f : Entry) (there : slice_get es k ≡ Some f). kept.chats f.1.place (so_far.opens f.1.place (seated k f there).is_open) in
      let count = λ (k : ℕ) (f : Entry) (there : slice_get es k ≡ Some f). kept.pushed f.1.place (so_far.opens f.1.place (seated k f there).is_open) in
      record {
        opens = λ d o. kept.opens d (so_far.opens d o);
        told = λ k f there lt. same k f there ∙ so_far.told k f there lt;
        others = λ k f there past. same k f there ∙ so_far.others k f there past;
        pushed = λ k f there lt. count k f there ∙ so_far.pushed k f there lt;
        unpushed = λ k f there past. count k f there ∙ so_far.unpushed k f there past;
      }

-- ---- where something is learnt
pub learnt_keys : (os : List (Option Heard)) (es : List Entry) → keys_of (all_learnt os es) ≡ keys_of es
learnt_keys [] es = refl
learnt_keys (o ∷ os) [] = refl
learnt_keys (o ∷ os) (e ∷ es) = ap (λ (ks : List Tuple). e.0 ∷ ks) (learnt_keys os es)

pub learnt_length : (os : List (Option Heard)) (es : List Entry) → length (all_learnt os es) ≡ length es
learnt_length [] es = refl
learnt_length (o ∷ os) [] = refl
learnt_length (o ∷ os) (e ∷ es) = ap suc (learnt_length os es)

-- a seat stays at its place
learnt_place : (o : Option Heard) (seat : Seat) → (learnt o seat).place ≡ seat.place
learnt_place None seat = refl
learnt_place (Some h) seat = refl

pub learnt_conns : (st : St) (os : List (Option Heard)) (es : List Entry) → conns_of st (all_learnt os es) ≡ conns_of st es
learnt_conns st [] es = refl
learnt_conns st (o ∷ os) [] = refl
learnt_conns st (o ∷ os) (e ∷ es) = λ j. (e.0, conn_in (chat_at st (learnt_place o e.1 j)).conn) ∷ learnt_conns st os es j

-- what a seat knows behind that
pub record Learnt (was is : Entry) (o : Option (Option Heard)) : Type 0 where
  pub ends : is.0 ≡ was.0
  pub place : is.1.place ≡ was.1.place
  pub facts : (h : Heard) → o ≡ Some (Some h) → is.1.facts ≡ h.facts
  pub same : o ≡ None → is ≡ was

learnt_one : (o : Option Heard) (e : Entry) → Learnt e (e.0, learnt o e.1) (Some o)
learnt_one None e = record { ends = refl; place = refl; facts = λ h is. absurd (none-some _ (same_Some _ _ is)); same = λ is. absurd (none-some _ (sym is)) }
learnt_one (Some h) e = record { ends = refl; place = refl; facts = λ g is. ap (λ (x : Heard). x.facts) (same_Some _ _ (same_Some _ _ is)); same = λ is. absurd (none-some _ (sym is)) }

pub learnt_at : (os : List (Option Heard)) (es : List Entry) (k : ℕ) (e : Entry) → slice_get (all_learnt os es) k ≡ Some e
    → (f : Entry) × (slice_get es k ≡ Some f) × Learnt f e (slice_get os k)
learnt_at [] es k e at = (e, at, record { ends = refl; place = refl; facts = λ h is. absurd (none-some _ is); same = λ _. refl })
learnt_at (o ∷ os) [] k e at = absurd (none-some _ at)
learnt_at (o ∷ os) (f ∷ es) zero e at = (f, refl, subst (λ (x : Entry). Learnt f x (Some o)) (same_Some _ _ at) (learnt_one o f))
learnt_at (o ∷ os) (f ∷ es) (suc k) e at = learnt_at os es k e at

pub learnt_some : (os : List (Option Heard)) (es : List Entry) (i : ℕ) (h : Heard) (t : Tuple) (seat : Seat) → slice_get os i ≡ Some (Some h) → slice_get (all_learnt (take i os) es) i ≡ Some (t, seat)
    → set_value_at (all_learnt (take i os) es) i (record seat { facts = h.facts }) ≡ all_learnt (take (suc i) os) es
learnt_some [] es i h t seat is at = absurd (none-some _ is)
learnt_some (o ∷ os) [] zero h t seat is at = absurd (none-some _ at)
learnt_some (o ∷ os) [] (suc i) h t seat is at = absurd (none-some _ at)
learnt_some (o ∷ os) (e ∷ es) zero h t seat is at =
    ap (λ (x : Entry). (e.0, record x.1 { facts = h.facts }) ∷ es) (sym (same_Some _ _ at)) ∙ ap (λ (x : Option Heard). (e.0, learnt x e.1) ∷ es) (sym (same_Some _ _ is))
learnt_some (o ∷ os) (e ∷ es) (suc i) h t seat is at = ap (λ (l : List Entry). (e.0, learnt o e.1) ∷ l) (learnt_some os es i h t seat is at)

pub learnt_none : (os : List (Option Heard)) (es : List Entry) (i : ℕ) → slice_get os i ≡ Some None → all_learnt (take i os) es ≡ all_learnt (take (suc i) os) es
learnt_none [] es i is = absurd (none-some _ is)
learnt_none (o ∷ os) [] zero is = refl
learnt_none (o ∷ os) [] (suc i) is = refl
learnt_none (o ∷ os) (e ∷ es) zero is = ap (λ (x : Option Heard). (e.0, learnt x e.1) ∷ es) (sym (same_Some _ _ is))
learnt_none (o ∷ os) (e ∷ es) (suc i) is = ap (λ (l : List Entry). (e.0, learnt o e.1) ∷ l) (learnt_none os es i is)

pub learnt_next : (os : List (Option Heard)) (es : List Entry) (i : ℕ) (one : Option Heard) (here next : List Entry) → slice_get os i ≡ Some one → i < length es → here ≡ all_learnt (take i os) es
    → IfSome one (λ h. (t : Tuple) (seat : Seat) → slice_get here i ≡ Some (t, seat) → next ≡ set_value_at here i (record seat { facts = h.facts }))
    → IfNone one (next ≡ here) → next ≡ all_learnt (take (i + 1) os) es
learnt_next os es i one here next is lt so_far some none = by one is some none ∙ ap (λ (n : ℕ). all_learnt (take n os) es) (sym (add-one i))
  where
    by : (x : Option Heard) → slice_get os i ≡ Some x → IfSome x (λ h. (t : Tuple) (seat : Seat) → slice_get here i ≡ Some (t, seat) → next ≡ set_value_at here i (record seat { facts = h.facts }))
        → IfNone x (next ≡ here) → next ≡ all_learnt (take (suc i) os) es
    by None is_none _ same = same ∙ so_far ∙ learnt_none os es i is_none
    by (Some h) is_some set _ =
        let at = entry_there here i (omega (arith, lt, ap length so_far, learnt_length (take i os) es)) in
        set at.0.0 at.0.1 at.1
        ∙ ap (λ (l : List Entry). set_value_at l i (record at.0.1 { facts = h.facts })) so_far
        ∙ learnt_some os es i h at.0.0 at.0.1 is_some (ap (λ (l : List Entry). slice_get l i) (sym so_far) ∙ at.1)

-- ---- what is known of the seats then
module _ (measures : Measures) (now : ℕ) (time : now ≤ last_time) (a b : St) (es : List Entry) (i : ℕ) (seated : AllSeated a es) (told : AreTold measures now i a b es) where
  ends_then : (k : ℕ) (f : Entry) → slice_get es k ≡ Some f → (chat_at b f.1.place).ends ≡ f.0
  ends_then k f there = elim (leb_tells i k) [
    | inl past ↦ ap (λ (c : ChatOf). c.ends) (told.others k f there past.1) ∙ (seated k f there).ends
    | inr lt ↦ ap (λ (c : ChatOf). c.ends) (told.told k f there lt.1) ∙ time_keeps_ends measures now (chat_at a f.1.place) ∙ (seated k f there).ends
  ]

  -- what one is to whom it was told
  told_chat : (k : ℕ) (f : Entry) → slice_get es k ≡ Some f → k < i → chat_at b f.1.place ≡ hearing (Time measures now) (chat_of f.0 (conn_of_seat a f).1)
  told_chat k f there lt =
      let its = seated k f there in
      told.told k f there lt ∙ heard_of (Time measures now) (chat_at a f.1.place) f.0 (conn_of_seat a f).1 its.ends (its.its_conn ∙ ap Some (ap conn_in (sym its.its_conn))) (chat_here a f.1.place)

  pub told_conn : (k : ℕ) (f : Entry) → slice_get es k ≡ Some f → k < i → conn_of_seat b f ≡ (f.0, emptied (ticked measures now (conn_of_seat a f).1))
  told_conn k f there lt = ap (λ (c : Conn). (f.0, c)) (ap (λ (c : ChatOf). conn_in c.conn) (told_chat k f there lt) ∙ timed_conn measures now time f.0 (conn_of_seat a f).1)

  told_sent : (k : ℕ) (f : Entry) → slice_get es k ≡ Some f → k < i → (chat_at b f.1.place).sent ≡ sent_by f.0 (ticked measures now (conn_of_seat a f).1)
  told_sent k f there lt = ap (λ (c : ChatOf). c.sent) (told_chat k f there lt) ∙ timed_sent measures now time f.0 (conn_of_seat a f).1

  other_conn : (k : ℕ) (f : Entry) → slice_get es k ≡ Some f → i ≤ k → conn_of_seat b f ≡ conn_of_seat a f
  other_conn k f there past = ap (λ (c : ChatOf). (f.0, conn_in c.conn)) (told.others k f there past)

  -- each is what it was, or what the time makes of it
  pub spoilt : (k : ℕ) (f : Entry) → slice_get es k ≡ Some f → (conn_of_seat b f ≡ conn_of_seat a f) ⊎ (conn_of_seat b f ≡ (f.0, emptied (ticked measures now (conn_of_seat a f).1)))
  spoilt k f there = elim (leb_tells i k) [ inl past ↦ inl (other_conn k f there past.1) | inr lt ↦ inr (told_conn k f there lt.1) ]

-- where it was told at all, the table is what the time makes of it
pub all_told_conns : (measures : Measures) (now : ℕ) (a b : St) (es : List Entry) → ((k : ℕ) (f : Entry) → slice_get es k ≡ Some f → conn_of_seat b f ≡ (f.0, emptied (ticked measures now (conn_of_seat a f).1)))
    → conns_of b es ≡ all_reached measures now (conns_of a es)
all_told_conns measures now a b [] h = refl
all_told_conns measures now a b (e ∷ es) h = λ j. h zero e refl j ∷ all_told_conns measures now a b es (λ k f at. h (suc k) f at) j

pub all_told_sent : (measures : Measures) (now : ℕ) (a b : St) (es : List Entry) → ((k : ℕ) (f : Entry) → slice_get es k ≡ Some f → (chat_at b f.1.place).sent ≡ sent_by f.0 (ticked measures now (conn_of_seat a f).1))
    → flat_map (λ (e : Entry). (chat_at b e.1.place).sent) es ≡ flat_map (λ (c : Tuple × Conn). sent_by c.0 (ticked measures now c.1)) (conns_of a es)
all_told_sent measures now a b [] h = refl
all_told_sent measures now a b (e ∷ es) h = λ j. h zero e refl j ++ all_told_sent measures now a b es (λ k f at. h (suc k) f at) j

took : (es : List Entry) (i k : ℕ) (e : Entry) → slice_get (take i es) k ≡ Some e → k < i
took es zero k e at = absurd (none-some _ at)
took [] (suc i) k e at = absurd (none-some _ at)
took (f ∷ es) (suc i) zero e at = omega arith
took (f ∷ es) (suc i) (suc k) e at = omega (arith, took es i k e at)

taken_from : (es : List Entry) (i k : ℕ) (e : Entry) → slice_get (take i es) k ≡ Some e → slice_get es k ≡ Some e
taken_from es zero k e at = absurd (none-some _ at)
taken_from [] (suc i) k e at = absurd (none-some _ at)
taken_from (f ∷ es) (suc i) zero e at = at
taken_from (f ∷ es) (suc i) (suc k) e at = taken_from es i k e at

taken_at : (es : List Entry) (i k : ℕ) (e : Entry) → slice_get es k ≡ Some e → k < i → slice_get (take i es) k ≡ Some e
taken_at [] i k e at lt = absurd (none-some _ at)
taken_at (f ∷ es) zero k e at lt = absurd (omega (arith, lt))
taken_at (f ∷ es) (suc i) zero e at lt = at
taken_at (f ∷ es) (suc i) (suc k) e at lt = taken_at es i k e at (omega (arith, lt))

-- What is marked of each seat: what was heard of the first so many, and of the next one, where there is one, nothing
module _ (os hs : List (Option Heard)) (n : ℕ) (next : length os < n → hs ≡ os ++ None ∷ []) (none : n ≤ length os → hs ≡ os) where
  marked_length : length os ≤ n → length hs ≤ n
  marked_length few = elim (leb_tells n (length os)) [
    | inl past ↦ omega (arith, few, ap length (none past.1))
    | inr lt ↦ omega (arith, lt.1, ap length (next lt.1), length-append os (None ∷ []))
  ]

  -- one of which something was heard is among the first
  marked_some : (k : ℕ) (h : Heard) → slice_get hs k ≡ Some (Some h) → slice_get os k ≡ Some (Some h)
  marked_some k h is = elim (leb_tells n (length os)) [
    | inl past ↦ ap (λ (l : List (Option Heard)). slice_get l k) (sym (none past.1)) ∙ is
    | inr lt ↦ by os k (ap (λ (l : List (Option Heard)). slice_get l k) (sym (next lt.1)) ∙ is)
  ]
    where
      by : (xs : List (Option Heard)) (m : ℕ) → slice_get (xs ++ None ∷ []) m ≡ Some (Some h) → slice_get xs m ≡ Some (Some h)
      by [] zero e = absurd (none-some _ (same_Some _ _ e))
      by [] (suc m) e = absurd (none-some _ e)
      by (x ∷ xs) zero e = e
      by (x ∷ xs) (suc m) e = by xs m e

  marked_next : length os < n → slice_get hs (length os) ≡ Some None
  marked_next lt = ap (λ (l : List (Option Heard)). slice_get l (length os)) (next lt) ∙ by os
    where
      by : (xs : List (Option Heard)) → slice_get (xs ++ None ∷ []) (length xs) ≡ Some None
      by [] = refl
      by (x ∷ xs) = by xs

  -- where something was heard of each, it was of as many as there are
  marked_all : ((k : ℕ) → slice_get hs k ≢ Some None) → n ≤ length os
  marked_all all = elim (leb_tells n (length os)) [ inl past ↦ past.1 | inr lt ↦ absurd (all (length os) (marked_next lt.1)) ]

-- the time was told to the first so many of these seats, these answered, and what was heard of them is marked
pub record IsHeard (measures : Measures) (now : ℕ) (a b : St) (es : List Entry) (os hs : List (Option Heard)) (before after : List Datagram) : Type 0 where
  pub time : now ≤ last_time
  pub count : ℕ
  pub few : count ≤ length es
  pub seated : AllSeated a es
  pub told : AreTold measures now count a b es
  pub answers : AreAnswers (map (chat_at b) (places_in (take count es))) os before after
  pub next : length os < length es → hs ≡ os ++ None ∷ []
  pub none : length es ≤ length os → hs ≡ os

-- so it is behind a tell and a settle
pub is_heard : (measures : Measures) (now : ℕ) (a mid b : St) (es : List Entry) (os hs : List (Option Heard)) (before after : List Datagram) (i : ℕ) (ts : List ℕ) → now ≤ last_time → i ≤ length es → AllSeated a es
    → IsDistinct tuple_eq (keys_of es) → AreTold measures now i a mid es → KeptOpen mid b → ts ≡ places_in (take i es) → AreAnswers (map (chat_at b) ts) os before after
    → (length os < length es → hs ≡ os ++ None ∷ []) → (length es ≤ length os → hs ≡ os) → IsHeard measures now a b es os hs before after
is_heard measures now a mid b es os hs before after i ts time few seated distinct told kept touched answers next none = record {
  time = time;
  count = i;
  few = few;
  seated = seated;
  told = told_kept_on measures now a mid es seated distinct i b told kept;
  answers = subst (λ (l : List ℕ). AreAnswers (map (chat_at b) l) os before after) touched answers;
  next = next;
  none = none;
}

module _ (measures : Measures) (now : ℕ) (a b : St) (es : List Entry) (os hs : List (Option Heard)) (before after : List Datagram) (x : IsHeard measures now a b es os hs before after) where
  many : length os ≡ x.count
  many = answers_count b (take x.count es) os before after x.answers ∙ length-take-le x.count es x.few

  pub heard_length : length hs ≤ length es
  heard_length = marked_length os hs (length es) x.next x.none (omega (arith, many, x.few))

  -- one of which something was heard
  heard_seat : (k : ℕ) (e f : Entry) (h : Heard) → slice_get es k ≡ Some f → Learnt f e (slice_get hs k) → slice_get hs k ≡ Some (Some h) → IsSeated b e
  heard_seat k e f h there l is =
      let its = marked_some os hs (length es) x.next x.none k h is in
      let lt : k < x.count = omega (arith, slice_get_within os k (Some h) its, many) in
      let answer = answers_at b (take x.count es) os before after x.answers k f h (taken_at es x.count k f there lt) its in
      let at_place : chat_at b e.1.place ≡ chat_at b f.1.place = ap (chat_at b) l.place in
      record {
        is_open = subst (IsOpen b) (sym l.place) (x.told.opens f.1.place (x.seated k f there).is_open);
        ends = ap (λ (c : ChatOf). c.ends) at_place ∙ ends_then measures now x.time a b es x.count x.seated x.told k f there ∙ sym l.ends;
        conn = answer.0;
        its_conn = ap (λ (c : ChatOf). c.conn) at_place ∙ answer.1;
        facts = l.facts h is ∙ answer.2;
      }

  -- one that was told nothing
  other_seat : (k : ℕ) (e f : Entry) → slice_get es k ≡ Some f → Learnt f e (slice_get hs k) → slice_get hs k ≡ None → x.count ≤ k → IsSeated b e
  other_seat k e f there l is past =
      let its = x.seated k f there in
      let same : chat_at b f.1.place ≡ chat_at a f.1.place = x.told.others k f there past in
      subst (IsSeated b) (sym (l.same is)) (record {
        is_open = x.told.opens f.1.place its.is_open;
        ends = ap (λ (c : ChatOf). c.ends) same ∙ its.ends;
        conn = its.conn;
        its_conn = ap (λ (c : ChatOf). c.conn) same ∙ its.its_conn;
        facts = its.facts;
      })

  heard_or_not : (k : ℕ) (e f : Entry) → slice_get es k ≡ Some f → Learnt f e (slice_get hs k) → (length hs ≤ k) ⊎ (slice_get hs k ≢ Some None) → IsSeated b e
  heard_or_not k e f there l or = by (slice_get hs k) refl
    where
      by : (o : Option (Option Heard)) → slice_get hs k ≡ o → IsSeated b e
      by None is = other_seat k e f there l is (let past : length hs ≤ k = beyond hs k is in omega (arith, past, many, shorter))
        where
          beyond : {X : Type 0} (xs : List X) (m : ℕ) → slice_get xs m ≡ None → length xs ≤ m
          beyond [] m e = omega arith
          beyond (x ∷ xs) zero e = absurd (none-some _ (sym e))
          beyond (x ∷ xs) (suc m) e = omega (arith, beyond xs m e)

          shorter : length os ≤ length hs
          shorter = elim (leb_tells (length es) (length os)) [
            | inl past ↦ omega (arith, ap length (x.none past.1))
            | inr lt ↦ omega (arith, ap length (x.next lt.1), length-append os (None ∷ []))
          ]
      by (Some None) is = elim or [ inl past ↦ absurd (none-some _ (sym (slice_get_past hs k past) ∙ is)) | inr other ↦ absurd (other is) ]
      by (Some (Some h)) is = heard_seat k e f h there l is

  pub heard_or_seated : (k : ℕ) (e : Entry) → slice_get (all_learnt hs es) k ≡ Some e → (length hs ≤ k) ⊎ (slice_get hs k ≢ Some None) → IsSeated b e
  heard_or_seated k e at or = let was = learnt_at hs es k e at in heard_or_not k e was.0 was.1 was.2 or

  pub heard_open : (k : ℕ) (e : Entry) → slice_get (all_learnt hs es) k ≡ Some e → IsOpen b e.1.place
  heard_open k e at = let was = learnt_at hs es k e at in subst (IsOpen b) (sym was.2.place) (x.told.opens was.0.1.place (x.seated k was.0 was.1).is_open)

  pub heard_ends : (k : ℕ) (e : Entry) → slice_get (all_learnt hs es) k ≡ Some e → (chat_at b e.1.place).ends ≡ e.0
  heard_ends k e at =
      let was = learnt_at hs es k e at in
      ap (λ (p : ℕ). (chat_at b p).ends) was.2.place ∙ ends_then measures now x.time a b es x.count x.seated x.told k was.0 was.1 ∙ sym was.2.ends

  -- where something was heard of each
  module _ (all : (k : ℕ) → slice_get hs k ≢ Some None) where
    all_told : length es ≤ x.count
    all_told = omega (arith, marked_all os hs (length es) x.next x.none all, many)

    same_os : hs ≡ os
    same_os = x.none (marked_all os hs (length es) x.next x.none all)

    pub all_conns : conns_of b (all_learnt hs es) ≡ all_reached measures now (conns_of a es)
    all_conns = learnt_conns b hs es ∙ all_told_conns measures now a b es (λ k f there. told_conn measures now x.time a b es x.count x.seated x.told k f there (omega (arith, slice_get_within es k f there, all_told)))

    pub all_sent : after ≡ before ++ flat_map (λ (c : Tuple × Conn). sent_by c.0 (ticked measures now c.1)) (conns_of a es)
    all_sent =
        answers_sent b (take x.count es) os before after x.answers (λ k is. all k (ap (λ (l : List (Option Heard)). slice_get l k) same_os ∙ is))
        ∙ ap (λ (l : List Datagram). before ++ l) (ap (flat_map (λ (e : Entry). (chat_at b e.1.place).sent)) (take_all x.count es all_told)
        ∙ all_told_sent measures now a b es (λ k f there. told_sent measures now x.time a b es x.count x.seated x.told k f there (omega (arith, slice_get_within es k f there, all_told))))

  -- heard or not, what went out is some of what the time makes all of them send
  pub some_sent : HasSent before after (flat_map (λ (c : Tuple × Conn). sent_by c.0 (ticked measures now c.1)) (conns_of a es))
  some_sent =
      let its = λ (c : Tuple × Conn). sent_by c.0 (ticked measures now c.1) in
      let first = take x.count es in
      let rest = drop x.count es in
      sent_of_front before after _ (flat_map its (conns_of a first)) (flat_map its (conns_of a rest))
      (ap (flat_map its) (map_front (conn_of_seat a) es x.count) ∙ flat_map-append its (conns_of a first) (conns_of a rest))
      (subst (HasSent before after)
      (all_told_sent measures now a b first (λ k f there. told_sent measures now x.time a b es x.count x.seated x.told k f (taken_from es x.count k f there) (took es x.count k f there)))
      (answers_partly b first os before after x.answers))

  -- where some left
  pub some_spoilt : (c : St) (fs : List Entry) → ((k : ℕ) (e : Entry) → slice_get fs k ≡ Some e → (j : ℕ) × (f : Entry) × (slice_get (all_learnt hs es) j ≡ Some f) × (conn_of_seat c e ≡ conn_of_seat b f))
      → Spoils measures now (conns_of a es) (conns_of c fs)
  some_spoilt c fs were k t d at =
      let here = mapped c fs k (t, d) at in
      let one = were k here.0 here.1 in
      let was = learnt_at hs es one.0 one.1 one.2 in
      let its : (t, d) ≡ conn_of_seat b was.0 = here.2 ∙ one.3 ∙ (λ j. (was.2.ends j, conn_in (chat_at b (was.2.place j)).conn)) in (
        one.0,
        (conn_of_seat a was.0).1,
        conns_entry a es one.0 was.0 was.1 ∙ ap (λ (x : Tuple). Some (x, (conn_of_seat a was.0).1)) (sym (ap (λ (y : Tuple × Conn). y.0) its)),
        elim (spoilt measures now x.time a b es x.count x.seated x.told one.0 was.0 was.1) [
          | inl same ↦ inl (ap (λ (y : Tuple × Conn). y.1) (its ∙ same))
          | inr timed ↦ inr (ap (λ (y : Tuple × Conn). y.1) (its ∙ timed))
        ],
      )
    where
      mapped : (st : St) (xs : List Entry) (m : ℕ) (y : Tuple × Conn) → slice_get (conns_of st xs) m ≡ Some y → (e : Entry) × (slice_get xs m ≡ Some e) × (y ≡ conn_of_seat st e)
      mapped st [] m y e = absurd (none-some _ e)
      mapped st (x ∷ xs) zero y e = (x, refl, sym (same_Some _ _ e))
      mapped st (x ∷ xs) (suc m) y e = mapped st xs m y e

      conns_entry : (st : St) (xs : List Entry) (m : ℕ) (e : Entry) → slice_get xs m ≡ Some e → slice_get (conns_of st xs) m ≡ Some (conn_of_seat st e)
      conns_entry st xs m e there = slice_get-map (conn_of_seat st) xs m ∙ ap (option_map (conn_of_seat st)) there

  -- the seats that the pass has then
  module _ {R : Type 0} (limits : R → Limits) (s : Named R) (o : Chats) (p : Pass Element) (settled : IsSettled limits s o p b) (distinct : IsDistinct tuple_eq (keys_of es)) (paid : length es ≤ (life_of b).asks) where
    still_distinct : IsDistinct tuple_eq (keys_of (all_learnt hs es))
    still_distinct = subst (IsDistinct tuple_eq) (sym (learnt_keys hs es)) distinct

    still_paid : length (all_learnt hs es) ≤ (life_of b).asks
    still_paid = omega (arith, learnt_length hs es, paid)

    pub all_seats : ((k : ℕ) → slice_get hs k ≢ Some None) → HasSeats limits s o p b (all_learnt hs es)
    all_seats all = record { settled = settled; seated = λ k e at. heard_or_seated k e at (inr (all k)); distinct = still_distinct; paid = still_paid }

    pub some_seats : HasHeardSeats limits s o hs (length hs) p b (all_learnt hs es)
    some_seats = record { settled = settled; seated = heard_or_seated; is_open = heard_open; ends = heard_ends; distinct = still_distinct; paid = still_paid }

-- ---- where those leave of which nothing was heard, the last one first
module _ {R : Type 0} (limits : R → Limits) (s : Named R) (o : Chats) where
  pub heard_all_seats : (hs : List (Option Heard)) (p : Pass Element) (st : St) (es : List Entry) → HasHeardSeats limits s o hs 0 p st es → HasSeats limits s o p st es
  heard_all_seats hs p st es h = record { settled = h.settled; seated = λ k e at. h.seated k e at (inl (omega arith)); distinct = h.distinct; paid = h.paid }

  module _ (hs : List (Option Heard)) (i : ℕ) (p q : Pass Element) (a b : St) (es : List Entry) (was : HasHeardSeats limits s o hs (i + 1) p a es) where
    -- something was heard of the one
    pub one_heard : (h : Heard) → slice_get hs i ≡ Some (Some h) → IsSettled limits s o q a → HasHeardSeats limits s o hs i q a es
    one_heard h is settled = record {
      settled = settled;
      seated = λ k e at or. was.seated k e at (by k or (eqb_tells k i));
      is_open = was.is_open;
      ends = was.ends;
      distinct = was.distinct;
      paid = was.paid;
    }
      where
        by : (k : ℕ) → (i ≤ k) ⊎ (slice_get hs k ≢ Some None) → ((eqb k i ≡ true) × (k ≡ i)) ⊎ ((eqb k i ≡ false) × (k ≢ i)) → (i + 1 ≤ k) ⊎ (slice_get hs k ≢ Some None)
        by k (inr some) at = inr some
        by k (inl past) (inl same) = inr (λ empty. none-some _ (same_Some _ _ (sym empty ∙ ap (slice_get hs) same.1 ∙ is)))
        by k (inl past) (inr ne) = inl (omega (arith, past, ne.1))

    -- nothing was heard of the one, and it left
    module _ (e : Entry) (at : slice_get es i ≡ Some e) (settled : IsSettled limits s o q b) (kept : KeptBut e.1.place a b) (spent : (life_of a).asks ≤ (life_of b).asks + 1) where
      far : (j : ℕ) (f : Entry) → slice_get es j ≡ Some f → j ≢ i → f.1.place ≢ e.1.place
      far j f there ne = seats_apart a es was.distinct was.ends j i f e there at ne

      pub one_left : HasHeardSeats limits s o hs i q b (left_at i es)
      one_left = record {
        settled = settled;
        seated = λ k f there or. (
            let old = in_left_from i es k f (slice_get_within es i e at) there in
            seated_kept e.1.place a b f kept (far old.0 f old.1 old.2) (was.seated old.0 f old.1 (by k old.0 or old.2 old.3)));
        is_open = λ k f there. let old = in_left_from i es k f (slice_get_within es i e at) there in kept.opens f.1.place (far old.0 f old.1 old.2) (was.is_open old.0 f old.1);
        ends = λ k f there. (
            let old = in_left_from i es k f (slice_get_within es i e at) there in
            ap (λ (c : ChatOf). c.ends) (kept.chats f.1.place (far old.0 f old.1 old.2)) ∙ was.ends old.0 f old.1);
        distinct = left_distinct es i e at was.distinct;
        paid = omega (arith, left_length es i e at, was.paid, spent);
      }
        where
          by : (k j : ℕ) → (i ≤ k) ⊎ (slice_get hs k ≢ Some None) → j ≢ i → (j ≡ k) ⊎ ((k ≡ i) × (i < j)) → (i + 1 ≤ j) ⊎ (slice_get hs j ≢ Some None)
          by k j or ne (inr last) = inl (omega (arith, last.1))
          by k j (inl past) ne (inl same) = inl (omega (arith, past, ne, same))
          by k j (inr some) ne (inl same) = inr (λ empty. some (ap (slice_get hs) (sym same) ∙ empty))

      pub left_was : (k : ℕ) (f : Entry) → slice_get (left_at i es) k ≡ Some f → (j : ℕ) × (slice_get es j ≡ Some f) × (conn_of_seat b f ≡ conn_of_seat a f)
      left_was k f there =
          let old = in_left_from i es k f (slice_get_within es i e at) there in
          (old.0, old.1, ap (λ (c : ChatOf). (f.0, conn_in c.conn)) (kept.chats f.1.place (far old.0 f old.1 old.2)))

    -- either way
    pub one_dropped : (one : Option Heard) (fs : List Entry) → slice_get hs i ≡ Some one → i < length es → IsSettled limits s o q b → IfSome one (λ _. (b ≡ a) × (fs ≡ es))
        → IfNone one (((e : Entry) → slice_get es i ≡ Some e → KeptBut e.1.place a b) × (fs ≡ left_at i es) × ((life_of a).asks ≤ (life_of b).asks + 1))
        → HasHeardSeats limits s o hs i q b fs × ((k : ℕ) (f : Entry) → slice_get fs k ≡ Some f → (j : ℕ) × (g : Entry) × (slice_get es j ≡ Some g) × (conn_of_seat b f ≡ conn_of_seat a g)) × (i ≤ length fs)
    one_dropped (Some h) fs is lt settled stays leaves =
        let here : IsSettled limits s o q a = subst (IsSettled limits s o q) stays.0 settled in (
          subst (λ (x : St × List Entry). HasHeardSeats limits s o hs i q x.0 x.1) (λ j. (sym stays.0 j, sym stays.1 j)) (one_heard h is here),
          λ k f at. (k, f, ap (λ (l : List Entry). slice_get l k) (sym stays.1) ∙ at, ap (λ (x : St). conn_of_seat x f) stays.0),
          omega (arith, lt, ap length stays.1),
        )
    one_dropped None fs is lt settled stays leaves =
        let e = entry_there es i lt in
        let kept = leaves.0 e.0 e.1 in (
          subst (HasHeardSeats limits s o hs i q b) (sym leaves.1) (one_left e.0 e.1 settled kept leaves.2),
          λ k f at. (let w = left_was e.0 e.1 settled kept leaves.2 k f (ap (λ (l : List Entry). slice_get l k) (sym leaves.1) ∙ at) in (w.0, f, w.1, w.2)),
          omega (arith, left_length es i e.0 e.1, ap length leaves.1, lt),
        )

-- ---- what seats were told
learnt_accounts : (st : St) (os : List (Option Heard)) (es : List Entry) → accounts_of st (all_learnt os es) ≡ accounts_of st es
learnt_accounts st [] es = refl
learnt_accounts st (o ∷ os) [] = refl
learnt_accounts st (o ∷ os) (e ∷ es) = λ j. (e.0, pushed_at st (learnt_place o e.1 j)) ∷ learnt_accounts st os es j

more_accounts : (a b : St) (es : List Entry) → ((k : ℕ) (e : Entry) → slice_get es k ≡ Some e → pushed_at b e.1.place ≡ pushed_at a e.1.place + 1)
    → accounts_of b es ≡ one_more_each (accounts_of a es)
more_accounts a b [] h = refl
more_accounts a b (e ∷ es) h = λ j. (e.0, h zero e refl j) ∷ more_accounts a b es (λ k f at. h (suc k) f at) j

-- where something was heard of each
module _ (measures : Measures) (now : ℕ) (a b : St) (es : List Entry) (os hs : List (Option Heard)) (before after : List Datagram) (x : IsHeard measures now a b es os hs before after) where
  pub all_frames_told : {R : Type 0} (limits : R → Limits) (s : Named R) (p q : Pass Element) → IsDistinct tuple_eq (keys_of es) → ((k : ℕ) → slice_get hs k ≢ Some None)
      → Grows (seen p) (seen q) → SeatsWereTold limits s p q a b es (all_learnt hs es) (map hears (keys_of es))
  all_frames_told limits s p q distinct all grows =
      let most = marked_all os hs (length es) x.next x.none all in
      let accounts : accounts_of b (all_learnt hs es) ≡ one_more_each (accounts_of a es) =
      learnt_accounts b hs es
      ∙ more_accounts a b es (λ k e at. x.told.pushed k e at (omega (arith, slice_get_within es k e at, most, many measures now a b es os hs before after x))) in
      let keys = accounts_keys a es in
      subst (λ (ks : List Tuple). SeatsWereTold limits s p q a b es (all_learnt hs es) (map hears ks)) keys
      (each_heard (setting_of limits s.given) (number p) (seen p) (seen q) (accounts_of a es) (accounts_of b (all_learnt hs es)) (subst (IsDistinct tuple_eq) (sym keys) distinct)
      accounts grows)
