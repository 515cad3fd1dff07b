-- The server's state after a step of its code. `here` is the state as its fields give it.
use Rattle.std.proofs.Common.{◌≡◌, ℕ, ◌<◌, Bool, true, false, cond, List, [], ◌∷◌, ◌++◌, length, Option, None, Some, refl, sym, ap, ◌∙◌, arith}
use Rattle.std.specs.Option.{option_map_or}
use Rattle.indexmap.specs.IndexMap.{insert_entry}
use Rattle.sq_base.specs.declared.kinds.Tuple.{Tuple}
use Rattle.live_server.specs.Acts.{emptied, reached, sent_by}
use Rattle.live_server.specs.Counting.{more}
use Rattle.live_server.specs.Serving.{Outcome, ServerOf, becomes, gives_way, has_place, is_waiting, makes_place, numbered, sends_nothing, takes_free, takes_place, time_to, turns_away, yielding, yields, yields_at}
use Rattle.live_server.specs.Table.{Conns, conn_at, place_of, replaced, tuple_eq, IsNew}
use Rattle.live_server.specs.declared.acting.Datagram.{Datagram}
use Rattle.live_server.specs.declared.conn.Conn.{Conn}
use Rattle.live_server.proofs.TableLemmas.{appended}

-- the time comes to the connection at a place
module _ (now : ℕ) (t : Tuple) (sv here : ServerOf) (is : here ≡ sv) (i : ℕ) (at : place_of t here.conns ≡ Some i) where
  timed : time_to now t here ≡ becomes i t (reached now (conn_at i here.conns)) here
  unfolding time_to
  timed = ap (λ o. option_map_or (λ j. becomes j t (reached now (conn_at j here.conns)) here) o (sends_nothing here)) at

  pub timed_server : (new : Conns) → new ≡ replaced i (reached now (conn_at i here.conns)) here.conns → record here { conns = new } ≡ (time_to now t sv).server
  unfolding becomes
  timed_server new e =
      ap (λ (l : Conns). record here { conns = l }) e ∙ ap (λ (o : Outcome). o.server) (sym timed) ∙ ap (λ (s : ServerOf). (time_to now t s).server) is

  pub timed_sent : (before after : List Datagram) → after ≡ before ++ sent_by t (reached now (conn_at i here.conns)) → after ≡ before ++ (time_to now t sv).sent
  unfolding becomes
  timed_sent before after e =
      e ∙ ap (λ l. before ++ l) (ap (λ (o : Outcome). o.sent) (sym timed) ∙ ap (λ (s : ServerOf). (time_to now t s).sent) is)

-- a connection takes a place
module _ (t : Tuple) (c : Conn) (sv here : ServerOf) (is : here ≡ sv) (free : has_place sv ≡ true) (new : IsNew t sv.conns) where
  pub took : (kept : Conn) (entries : Conns) (waiting : List (Tuple × ℕ)) → kept ≡ emptied (numbered here c) → entries ≡ insert_entry tuple_eq here.conns t kept → waiting ≡ here.waiting ++ (t, here.counts.opened) ∷ []
      → record here { conns = entries; waiting = waiting; counts = record here.counts { opened = more 1 here.counts.opened } } ≡ (takes_place t c sv).server
  unfolding takes_place
  took kept entries waiting is_kept inserted pushed =
      (λ j. record here { conns = inserted j; waiting = pushed j; counts = record here.counts { opened = more 1 here.counts.opened } })
      ∙ (λ j. record (is j) { conns = insert_entry tuple_eq (is j).conns t ((is_kept ∙ ap (λ (s : ServerOf). emptied (numbered s c)) is) j); waiting = (is j).waiting ++ (t, (is j).counts.opened) ∷ []; counts = record (is j).counts { opened = more 1 (is j).counts.opened } })
      ∙ (λ j. record sv { conns = appended t (emptied (numbered sv c)) sv.conns new j; waiting = sv.waiting ++ (t, sv.counts.opened) ∷ []; counts = record sv.counts { opened = more 1 sv.counts.opened } })
      ∙ ap (λ b. (cond b (takes_free t c sv) (turns_away t sv)).server) (sym free)

-- half-open connections give way
pub stops : (ts : List (Tuple × ℕ)) (sv : ServerOf) → has_place sv ≡ true → sv ≡ yielding ts sv
stops [] sv e = refl
stops (t ∷ ts) sv e = ap (λ b. cond b sv (yielding ts (yields t (record sv { waiting = ts })))) (sym e)

pub empties : (sv : ServerOf) → sv.waiting ≡ [] → sv ≡ makes_place sv
empties sv e = ap (λ ts. yielding ts sv) (sym e)

kept_at : (n i : ℕ) (sv : ServerOf) (b : Bool) → is_waiting n (conn_at i sv.conns) ≡ b → (yields_at n i sv).waiting ≡ sv.waiting
unfolding yields_at
kept_at n i sv true e = ap (λ b. (cond b (gives_way i sv) sv).waiting) e
kept_at n i sv false e = ap (λ b. (cond b (gives_way i sv) sv).waiting) e

waiting_kept : (w : Tuple × ℕ) (sv : ServerOf) (r : Option ℕ) → place_of w.0 sv.conns ≡ r → (yields w sv).waiting ≡ sv.waiting
unfolding yields
waiting_kept w sv None at = ap (λ o. (option_map_or (λ i. yields_at w.1 i sv) o sv).waiting) at
waiting_kept w sv (Some i) at = ap (λ o. (option_map_or (λ j. yields_at w.1 j sv) o sv).waiting) at ∙ kept_at w.1 i sv (is_waiting w.1 (conn_at i sv.conns)) refl

pub goes_on_yielding : (t : Tuple × ℕ) (ts : List (Tuple × ℕ)) (sv next : ServerOf) → has_place sv ≡ false → sv.waiting ≡ t ∷ ts → next ≡ yields t (record sv { waiting = ts }) → makes_place next ≡ makes_place sv
goes_on_yielding t ts sv next full front is =
    ap makes_place is
    ∙ ap (λ l. yielding l (yields t (record sv { waiting = ts }))) (waiting_kept t (record sv { waiting = ts }) (place_of t.0 sv.conns) refl)
    ∙ ap (λ b. cond b sv (yielding ts (yields t (record sv { waiting = ts })))) (sym full)
    ∙ ap (λ l. yielding l sv) (sym front)

pub fewer_wait : (t : Tuple × ℕ) (ts : List (Tuple × ℕ)) (sv next : ServerOf) → sv.waiting ≡ t ∷ ts → next ≡ yields t (record sv { waiting = ts }) → length next.waiting < length sv.waiting
fewer_wait t ts sv next front is =
    let a = ap (λ (s : ServerOf). length s.waiting) is in
    let b = ap (λ (l : List (Tuple × ℕ)). length l) (waiting_kept t (record sv { waiting = ts }) (place_of t.0 sv.conns) refl) in
    let d = ap (λ (l : List (Tuple × ℕ)). length l) front in
    omega (arith, a, b, d)
