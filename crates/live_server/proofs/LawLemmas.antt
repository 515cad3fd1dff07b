-- What holds of every table, and what a segment does to others.
use Rattle.std.proofs.Common.{◌≡◌, ℕ, ◌<◌, ◌⊎◌, inl, inr, Bool, true, false, cond, nat_le, nat_lt, ◌-◌, List, [], ◌∷◌, length, Option, None, Some, IfSome, refl, sym, ap, subst, ◌∙◌, arith, true≢false, is_some, unwrap_or}
use Rattle.std.specs.List.{IsDistinct}
use Rattle.std.specs.Map.{keys_of, lookup}
use Rattle.std.specs.Option.{option_map_or}
use Rattle.std.proofs.lemmas.Bool.{and_parts}
use Rattle.std.proofs.lemmas.Bool.Decides.{nat_tests}
use Rattle.segment_codec.specs.Refusal.{tuple_of}
use Rattle.segment_codec.specs.declared.packet.Seg.{Seg}
use Rattle.sq_base.specs.declared.kinds.Tuple.{Tuple}
use Rattle.live_server.specs.Acts.{emptied, is_half_open, is_over, judged, new_conn, reached, receives}
use Rattle.live_server.specs.Initial.{number_for}
use Rattle.live_server.specs.Services.{service_at}
use Rattle.live_server.specs.Isolation.{conn_of, kept_as, IsTable, Loses, OthersStay, OwnConnActs, SegmentKeepsTable, Stays}
use Rattle.live_server.specs.Serving.{Outcome, ServerOf, admits, becomes, comes, fits, gives_way, goes_on, has_place, heeded, heeded_text, heeds, holding, is_waiting, judging, noting, numbered, on_segment, opens, overfull, refuses, sends_nothing, sends_of, served, takes_free, takes_place, time_to, turns_away, without_text, yielding, yields, yields_at}
use Rattle.live_server.specs.Table.{Conns, conn_at, place_of, tuple_eq, without, IsNew}
use Rattle.live_server.specs.declared.conn.Conn.{Conn}
use Rattle.live_server.specs.declared.setting.Setting.{Setting}
use Rattle.std.proofs.lemmas.List.{length-append}
use Rattle.live_server.proofs.TableLemmas.{tuple_equivalence, distinct_appended, distinct_replaced, distinct_without, first_at, length_replaced, length_without, look_appended, look_replaced, look_without, new_from_place, same, within_at}
use Rattle.live_server.proofs.PlaceLemmas.{conn_looked}

stays_on : (q : Tuple) (a b c : ServerOf) → Stays q a b → Stays q b c → Stays q a c
stays_on q a b c (inl here) (inl there) = inl (there ∙ here)
stays_on q a b c (inl here) (inr there) = inr (there.0, subst (λ o. IfSome o (λ x. is_half_open x ≡ true)) here there.1)
stays_on q a b c (inr here) (inl there) = inr (there ∙ here.0, here.1)
stays_on q a b c (inr here) (inr there) = inr (there.0, here.1)

pub still_new : (q : Tuple) (a b : ServerOf) → Stays q a b → IsNew q a.conns → IsNew q b.conns
still_new q a b (inl e) new = e ∙ new
still_new q a b (inr e) new = e.0

pub chosen : (b : Bool) (v : Bool) (x y : Option Conn) → v ≡ b → cond v x y ≡ cond b x y
chosen b v x y e = ap (λ w. cond w x y) e

-- ---- one that gives way
module _ (w : Tuple × ℕ) (sv : ServerOf) (table : IsTable sv) where
  abbrev t : Tuple
  t = w.0

  module _ (i : ℕ) (at : place_of t sv.conns ≡ Some i) where
    lt : i < length sv.conns
    lt = within_at t sv.conns i at

    yielded_table : (h : Bool) → is_waiting w.1 (conn_at i sv.conns) ≡ h → IsTable (yields_at w.1 i sv)
    unfolding yields_at
    yielded_table false whole = subst IsTable (sym (ap (λ b. cond b (gives_way i sv) sv) whole)) table
    yielded_table true half = subst IsTable (sym (ap (λ b. cond b (gives_way i sv) sv) half)) (record {
      once = distinct_without sv.conns i lt table.once;
      bounded = omega (arith, length_without sv.conns i lt, table.bounded);
    })

    yielded_stays : (q : Tuple) (h : Bool) → is_waiting w.1 (conn_at i sv.conns) ≡ h → Stays q sv (yields_at w.1 i sv)
    unfolding yields_at
    yielded_stays q false whole = subst (Stays q sv) (sym (ap (λ b. cond b (gives_way i sv) sv) whole)) (inl refl)
    yielded_stays q true half = subst (Stays q sv) (sym (ap (λ b. cond b (gives_way i sv) sv) half)) (by (tuple_eq t q) refl)
      where
        look : lookup (tuple_eq q) (without i sv.conns) ≡ cond (tuple_eq t q) None (lookup (tuple_eq q) sv.conns)
        look = look_without sv.conns i t (first_at t sv.conns i at) lt table.once q

        by : (v : Bool) → tuple_eq t q ≡ v → (lookup (tuple_eq q) (without i sv.conns) ≡ lookup (tuple_eq q) sv.conns)
            ⊎ ((lookup (tuple_eq q) (without i sv.conns) ≡ None) × IfSome (lookup (tuple_eq q) sv.conns) (λ c. is_half_open c ≡ true))
        by false e = inl (look ∙ chosen false (tuple_eq t q) None _ e)
        by true e =
            let own : place_of q sv.conns ≡ Some i = ap (λ x. place_of x sv.conns) (sym (same t q e)) ∙ at in
            inr (look ∙ chosen true (tuple_eq t q) None _ e, subst (λ o. IfSome o (λ c. is_half_open c ≡ true)) (sym (conn_looked q sv.conns i own)) (and_parts _ _ half).0)

  pub yields_by : (r : Option ℕ) → place_of t sv.conns ≡ r → yields w sv ≡ option_map_or (λ i. yields_at w.1 i sv) r sv
  unfolding yields
  yields_by r at = ap (λ o. option_map_or (λ i. yields_at w.1 i sv) o sv) at

  pub yields_table : IsTable (yields w sv)
  yields_table = by (place_of t sv.conns) refl
    where
      by : (r : Option ℕ) → place_of t sv.conns ≡ r → IsTable (yields w sv)
      by None at = subst IsTable (sym (yields_by None at)) table
      by (Some i) at = subst IsTable (sym (yields_by (Some i) at)) (yielded_table i at (is_waiting w.1 (conn_at i sv.conns)) refl)

  yields_stays : (q : Tuple) → Stays q sv (yields w sv)
  yields_stays q = by (place_of t sv.conns) refl
    where
      by : (r : Option ℕ) → place_of t sv.conns ≡ r → Stays q sv (yields w sv)
      by None at = subst (Stays q sv) (sym (yields_by None at)) (inl refl)
      by (Some i) at = subst (Stays q sv) (sym (yields_by (Some i) at)) (yielded_stays i at q (is_waiting w.1 (conn_at i sv.conns)) refl)

pub with_waiting : (ts : List (Tuple × ℕ)) (sv : ServerOf) → IsTable sv → IsTable (record sv { waiting = ts })
with_waiting ts sv table = record { once = table.once; bounded = table.bounded }

chosen_table : (b : Bool) (x y : ServerOf) → IsTable x → IsTable y → IsTable (cond b x y)
chosen_table true x y here there = here
chosen_table false x y here there = there

chosen_stays : (q : Tuple) (sv : ServerOf) (b : Bool) (x y : ServerOf) → Stays q sv x → Stays q sv y → Stays q sv (cond b x y)
chosen_stays q sv true x y here there = here
chosen_stays q sv false x y here there = there

pub yielding_table : (ts : List (Tuple × ℕ)) (sv : ServerOf) → IsTable sv → IsTable (yielding ts sv)
yielding_table [] sv table = table
yielding_table (t ∷ ts) sv table =
    chosen_table (has_place sv) _ _ table (yielding_table ts (yields t (record sv { waiting = ts })) (yields_table t (record sv { waiting = ts }) (with_waiting ts sv table)))

pub yielding_stays : (q : Tuple) (ts : List (Tuple × ℕ)) (sv : ServerOf) → IsTable sv → Stays q sv (yielding ts sv)
yielding_stays q [] sv table = inl refl
yielding_stays q (t ∷ ts) sv table =
    let here = record sv { waiting = ts } in
    let in_table = with_waiting ts sv table in
    let next = yields t here in
    chosen_stays q sv (has_place sv) _ _ (inl refl)
    (stays_on q sv next (yielding ts next) (yields_stays t here in_table q) (yielding_stays q ts next (yields_table t here in_table)))

-- ---- one that takes a place
module _ (t : Tuple) (c : Conn) (sv : ServerOf) (new : IsNew t sv.conns) where
  taken_by : (b : Bool) → has_place sv ≡ b → takes_place t c sv ≡ cond b (takes_free t c sv) (turns_away t sv)
  unfolding takes_place
  taken_by b e = ap (λ v. cond v (takes_free t c sv) (turns_away t sv)) e

  taken_table : IsTable sv → (b : Bool) → has_place sv ≡ b → IsTable (takes_place t c sv).server
  unfolding has_place
  taken_table table true e =
      let free : nat_lt (length sv.conns) sv.setting.places ≡ true = (and_parts _ _ e).0 in
      let room : length sv.conns < sv.setting.places = grind (arith, nat_tests) in
      subst (λ (o : Outcome). IsTable o.server) (sym (taken_by true e)) (record {
        once = distinct_appended t (emptied (numbered sv c)) sv.conns new table.once;
        bounded = omega (arith, length-append sv.conns ((t, emptied (numbered sv c)) ∷ []), room);
      })
  taken_table table false e = subst (λ (o : Outcome). IsTable o.server) (sym (taken_by false e)) (record { once = table.once; bounded = table.bounded })

  pub taken_stays : (q : Tuple) → tuple_eq t q ≡ false → (b : Bool) → has_place sv ≡ b → conn_of q (takes_place t c sv).server ≡ conn_of q sv
  taken_stays q apart true e = ap (λ (o : Outcome). conn_of q o.server) (taken_by true e) ∙ look_appended t (emptied (numbered sv c)) sv.conns new q ∙ chosen false (tuple_eq t q) _ _ apart
  taken_stays q apart false e = ap (λ (o : Outcome). conn_of q o.server) (taken_by false e)

-- ---- the connection at a place becomes another one
module _ (i : ℕ) (t : Tuple) (c : Conn) (sv : ServerOf) (at : place_of t sv.conns ≡ Some i) (table : IsTable sv) where
  pub become_table : IsTable (becomes i t c sv).server
  unfolding becomes
  become_table = record {
    once = distinct_replaced sv.conns i c (within_at t sv.conns i at) table.once;
    bounded = omega (arith, length_replaced sv.conns i c (within_at t sv.conns i at), table.bounded);
  }

  pub become_look : (q : Tuple) → conn_of q (becomes i t c sv).server ≡ cond (tuple_eq t q) (kept_as c) (conn_of q sv)
  unfolding becomes
  become_look q = look_replaced sv.conns i c (within_at t sv.conns i at) t (first_at t sv.conns i at) table.once q

module _ (now : ℕ) (t : Tuple) (sv : ServerOf) where
  pub timed_by : (r : Option ℕ) → place_of t sv.conns ≡ r → time_to now t sv ≡ option_map_or (λ i. becomes i t (reached now (conn_at i sv.conns)) sv) r (sends_nothing sv)
  unfolding time_to
  timed_by r at = ap (λ o. option_map_or (λ i. becomes i t (reached now (conn_at i sv.conns)) sv) o (sends_nothing sv)) at

  pub timed_table : IsTable sv → (r : Option ℕ) → place_of t sv.conns ≡ r → IsTable (time_to now t sv).server
  timed_table table None at = subst (λ (o : Outcome). IsTable o.server) (sym (timed_by None at)) table
  timed_table table (Some i) at = subst (λ (o : Outcome). IsTable o.server) (sym (timed_by (Some i) at)) (become_table i t (reached now (conn_at i sv.conns)) sv at table)

  pub timed_stays : (q : Tuple) → tuple_eq t q ≡ false → IsTable sv → (r : Option ℕ) → place_of t sv.conns ≡ r → conn_of q (time_to now t sv).server ≡ conn_of q sv
  timed_stays q apart table None at = ap (λ (o : Outcome). conn_of q o.server) (timed_by None at)
  timed_stays q apart table (Some i) at =
      ap (λ (o : Outcome). conn_of q o.server) (timed_by (Some i) at) ∙ become_look i t (reached now (conn_at i sv.conns)) sv at table q ∙ chosen false (tuple_eq t q) _ _ apart

  pub timed_kept : (r : Option ℕ) → place_of t sv.conns ≡ r → ((time_to now t sv).server.setting ≡ sv.setting) × ((time_to now t sv).server.secret ≡ sv.secret) × ((time_to now t sv).server.held ≡ sv.held)
  unfolding becomes
  timed_kept None at = (ap (λ (o : Outcome). o.server.setting) (timed_by None at), ap (λ (o : Outcome). o.server.secret) (timed_by None at), ap (λ (o : Outcome). o.server.held) (timed_by None at))
  timed_kept (Some i) at = (ap (λ (o : Outcome). o.server.setting) (timed_by (Some i) at), ap (λ (o : Outcome). o.server.secret) (timed_by (Some i) at), ap (λ (o : Outcome). o.server.held) (timed_by (Some i) at))

module _ (now : ℕ) (s : Seg) (text : List ℕ) (sv : ServerOf) (table : IsTable sv) where
  abbrev ends : Tuple
  ends = tuple_of s

  abbrev fresh : Conn
  fresh = served now s text sv (new_conn (service_at sv.setting now s.dst_port) sv.setting.segment sv.setting.marking now)

  abbrev room_made : ServerOf
  room_made = yielding sv.waiting sv

  pub admitted_by : (b : Bool) → is_over fresh ≡ b → admits now s text sv ≡ cond b (sends_of ends fresh sv) (takes_place ends fresh room_made)
  unfolding admits
  admitted_by b e = ap (λ v. cond v (sends_of ends fresh sv) (takes_place ends fresh room_made)) e

  admitted_table : IsNew ends sv.conns → (b : Bool) → is_over fresh ≡ b → IsTable (admits now s text sv).server
  admitted_table new true e = subst (λ (o : Outcome). IsTable o.server) (sym (admitted_by true e)) table
  admitted_table new false e =
      subst (λ (o : Outcome). IsTable o.server) (sym (admitted_by false e))
      (taken_table ends fresh room_made (still_new ends sv room_made (yielding_stays ends sv.waiting sv table) new) (yielding_table sv.waiting sv table) (has_place room_made) refl)

  admitted_stays : (q : Tuple) → tuple_eq ends q ≡ false → IsNew ends sv.conns → (b : Bool) → is_over fresh ≡ b → Stays q sv (admits now s text sv).server
  admitted_stays q apart new true e = subst (λ (o : Outcome). Stays q sv o.server) (sym (admitted_by true e)) (inl refl)
  admitted_stays q apart new false e =
      subst (λ (o : Outcome). Stays q sv o.server) (sym (admitted_by false e))
      (stays_on q sv room_made (takes_place ends fresh room_made).server (yielding_stays q sv.waiting sv table)
      (inl (taken_stays ends fresh room_made (still_new ends sv room_made (yielding_stays ends sv.waiting sv table) new) q apart (has_place room_made) refl)))

  opened_table : IsNew ends sv.conns → IsTable (opens now s text sv).server
  unfolding opens
  opened_table new = by sv.draining
    where
      by : (b : Bool) → IsTable (cond b (refuses now s sv) (admits now s text sv)).server
      by true = record { once = table.once; bounded = table.bounded }
      by false = admitted_table new (is_over fresh) refl

  opened_stays : (q : Tuple) → tuple_eq ends q ≡ false → IsNew ends sv.conns → Stays q sv (opens now s text sv).server
  unfolding opens
  opened_stays q apart new = by sv.draining
    where
      by : (b : Bool) → Stays q sv (cond b (refuses now s sv) (admits now s text sv)).server
      by true = inl refl
      by false = admitted_stays q apart new (is_over fresh) refl

  abbrev gone_on : ℕ → Outcome
  gone_on i = goes_on now s text i sv

  pub went_on : (i : ℕ) → goes_on now s text i sv ≡ becomes i ends (served now s text sv (conn_at i sv.conns)) (judging (judged now s text (conn_at i sv.conns)) sv)
  unfolding goes_on
  went_on i = refl

  pub judged_table : (i : ℕ) → IsTable (judging (judged now s text (conn_at i sv.conns)) sv)
  judged_table i = record { once = table.once; bounded = table.bounded }

  pub came_by : (r : Option ℕ) → place_of ends sv.conns ≡ r → comes now s text sv ≡ option_map_or gone_on r (opens now s text sv)
  unfolding comes
  came_by r at = ap (λ o. option_map_or gone_on o (opens now s text sv)) at

  came_table : (r : Option ℕ) → place_of ends sv.conns ≡ r → IsTable (comes now s text sv).server
  came_table None at = subst (λ (o : Outcome). IsTable o.server) (sym (came_by None at)) (opened_table (new_from_place ends sv.conns at))
  came_table (Some i) at =
      subst (λ (o : Outcome). IsTable o.server) (sym (came_by (Some i) at ∙ went_on i)) (become_table i ends _ (judging (judged now s text (conn_at i sv.conns)) sv) at (judged_table i))

  pub became_others : (i : ℕ) → place_of ends sv.conns ≡ Some i → (q : Tuple) → tuple_eq ends q ≡ false → conn_of q (comes now s text sv).server ≡ conn_of q sv
  became_others i at q apart =
      ap (λ (o : Outcome). conn_of q o.server) (came_by (Some i) at ∙ went_on i)
      ∙ become_look i ends _ (judging (judged now s text (conn_at i sv.conns)) sv) at (judged_table i) q ∙ chosen false (tuple_eq ends q) _ _ apart

  came_stays : (q : Tuple) → tuple_eq ends q ≡ false → (r : Option ℕ) → place_of ends sv.conns ≡ r → Stays q sv (comes now s text sv).server
  came_stays q apart None at = subst (λ (o : Outcome). Stays q sv o.server) (sym (came_by None at)) (opened_stays q apart (new_from_place ends sv.conns at))
  came_stays q apart (Some i) at = inl (became_others i at q apart)

  came_own : (i : ℕ) → place_of ends sv.conns ≡ Some i → conn_of ends (comes now s text sv).server ≡ kept_as (served now s text sv (conn_at i sv.conns))
  came_own i at =
      ap (λ (o : Outcome). conn_of ends o.server) (came_by (Some i) at ∙ went_on i)
      ∙ become_look i ends _ (judging (judged now s text (conn_at i sv.conns)) sv) at (judged_table i) ends ∙ chosen true (tuple_eq ends ends) _ _ (tuple_equivalence.refl ends)

-- a connection that is looked up has a place
pub placed_at : (t : Tuple) (cs : Conns) (c : Conn) → lookup (tuple_eq t) cs ≡ Some c → (r : Option ℕ) → place_of t cs ≡ r → (i : ℕ) × (place_of t cs ≡ Some i) × (conn_at i cs ≡ c)
placed_at t cs c look None at = absurd (true≢false (sym (ap is_some look) ∙ ap is_some (new_from_place t cs at)))
placed_at t cs c look (Some i) at = (i, at, ap (λ o. unwrap_or o c) (sym (conn_looked t cs i at) ∙ look))

module _ (now : ℕ) (s : Seg) (text : List ℕ) (sv : ServerOf) (table : IsTable sv) where
  pub noted_conns : (b : Bool) → fits text sv ≡ b → (noting text sv).conns ≡ sv.conns
  noted_conns true e = ap (λ v. (cond v (holding text sv) (overfull sv)).conns) e
  noted_conns false e = ap (λ v. (cond v (holding text sv) (overfull sv)).conns) e

  pub noted_rest : (b : Bool) → fits text sv ≡ b → ((noting text sv).setting ≡ sv.setting) × ((noting text sv).secret ≡ sv.secret)
  noted_rest true e = (ap (λ v. (cond v (holding text sv) (overfull sv)).setting) e, ap (λ v. (cond v (holding text sv) (overfull sv)).secret) e)
  noted_rest false e = (ap (λ v. (cond v (holding text sv) (overfull sv)).setting) e, ap (λ v. (cond v (holding text sv) (overfull sv)).secret) e)

  pub same_ends : (b : Bool) → tuple_of (cond b s (without_text s)) ≡ tuple_of s
  same_ends true = refl
  same_ends false = refl

  abbrev noted : ServerOf
  noted = noting text sv

  pub noted_table : IsTable noted
  noted_table =
      let same = noted_conns (fits text sv) refl in
      let rest = noted_rest (fits text sv) refl in
      record {
        once = subst (λ (l : Conns). IsDistinct tuple_eq (keys_of l)) (sym same) table.once;
        bounded = omega (arith, ap (λ (l : Conns). length l) same, ap (λ (g : Setting). g.places) rest.0, table.bounded);
      }

  heeded_table : IsTable (heeds now s text sv).server
  unfolding heeds
  heeded_table = came_table now (heeded s text sv) (heeded_text text sv) noted noted_table (place_of (tuple_of (heeded s text sv)) noted.conns) refl

  heeded_stays : (q : Tuple) → tuple_eq (tuple_of s) q ≡ false → Stays q sv (heeds now s text sv).server
  unfolding heeds
  heeded_stays q apart =
      stays_on q sv noted (comes now (heeded s text sv) (heeded_text text sv) noted).server
      (inl (ap (lookup (tuple_eq q)) (noted_conns (fits text sv) refl)))
      (came_stays now (heeded s text sv) (heeded_text text sv) noted noted_table q (ap (λ t. tuple_eq t q) (same_ends (fits text sv)) ∙ apart) (place_of (tuple_of (heeded s text sv)) noted.conns) refl)

  heeded_own : (c : Conn) → conn_of (tuple_of s) sv ≡ Some c → conn_of (tuple_of s) (heeds now s text sv).server ≡ kept_as (served now (heeded s text sv) (heeded_text text sv) sv c)
  unfolding heeds
  heeded_own c look =
      let s1 = heeded s text sv in
      let e : tuple_of s1 ≡ tuple_of s = same_ends (fits text sv) in
      let same = noted_conns (fits text sv) refl in
      let there : lookup (tuple_eq (tuple_of s1)) noted.conns ≡ Some c = (λ j. lookup (tuple_eq (e j)) (same j)) ∙ look in
      let p = placed_at (tuple_of s1) noted.conns c there (place_of (tuple_of s1) noted.conns) refl in
      ap (λ t. conn_of t (comes now s1 (heeded_text text sv) noted).server) (sym e)
      ∙ came_own now s1 (heeded_text text sv) noted noted_table p.0 p.1
      ∙ ap (λ x. kept_as (served now s1 (heeded_text text sv) noted x)) p.2
      ∙ ap (λ k. kept_as (receives now (number_for k now s1) s1 (heeded_text text sv) c)) (noted_rest (fits text sv) refl).1

pub segment_keeps_table : SegmentKeepsTable
unfolding on_segment
segment_keeps_table now s text sv table =
    let first = (time_to now (tuple_of s) sv).server in
    heeded_table now s text first (timed_table now (tuple_of s) sv table (place_of (tuple_of s) sv.conns) refl)

pub others_stay_law : OthersStay
unfolding on_segment
others_stay_law now s text sv other table apart =
    let t = tuple_of s in
    let first = (time_to now t sv).server in
    let away : tuple_eq t other ≡ false = tuple_equivalence.symm t other ∙ apart in
    let in_table = timed_table now t sv table (place_of t sv.conns) refl in
    stays_on other sv first (heeds now s text first).server (inl (timed_stays now t sv other away table (place_of t sv.conns) refl)) (heeded_stays now s text first in_table other away)

pub own_connection_law : OwnConnActs
unfolding on_segment fits
own_connection_law now s text sv c table look alive =
    let t = tuple_of s in
    let first = (time_to now t sv).server in
    let in_table = timed_table now t sv table (place_of t sv.conns) refl in
    let here = placed_at t sv.conns c look (place_of t sv.conns) refl in
    let kept = timed_kept now t sv (place_of t sv.conns) refl in
    let timed : conn_of t first ≡ Some (emptied (reached now c)) =
    ap (λ (o : Outcome). conn_of t o.server) (timed_by now t sv (Some here.0) here.1)
    ∙ become_look here.0 t (reached now (conn_at here.0 sv.conns)) sv here.1 table t
    ∙ chosen true (tuple_eq t t) _ _ (tuple_equivalence.refl t)
    ∙ ap (λ x. kept_as (reached now x)) here.2
    ∙ ap (λ b. cond b None (Some (emptied (reached now c)))) alive in
    let same_fit : fits text first ≡ fits text sv = λ j. nat_le (length text) ((kept.0 j).bytes - kept.2 j) in
    heeded_own now s text first in_table (emptied (reached now c)) timed
    ∙ (λ j. kept_as (receives now (number_for (kept.1 j) now (cond (same_fit j) s (without_text s)))
    (cond (same_fit j) s (without_text s)) (cond (same_fit j) text []) (emptied (reached now c))))

-- ---- where memory was missing
module _ (t : Tuple) (sv : ServerOf) where
  -- the connection at its place left
  pub lost_at : (here : ServerOf) → here ≡ sv → (i : ℕ) → place_of t here.conns ≡ Some i → (new : Conns) → new ≡ without i here.conns → Loses t sv (record here { conns = new })
  lost_at here is i at new left = subst (λ (x : ServerOf). Loses t x (record here { conns = new })) is (λ table.
      let lt = within_at t here.conns i at in
      let look = look_without here.conns i t (first_at t here.conns i at) lt table.once in (
        record {
          once = subst (λ (l : Conns). IsDistinct tuple_eq (keys_of l)) (sym left) (distinct_without here.conns i lt table.once);
          bounded = omega (arith, ap (λ (l : Conns). length l) left, length_without here.conns i lt, table.bounded);
        },
        ap (lookup (tuple_eq t)) left ∙ look t ∙ chosen true (tuple_eq t t) _ _ (tuple_equivalence.refl t),
        λ q apart. inl (ap (lookup (tuple_eq q)) left ∙ look q ∙ chosen false (tuple_eq t q) _ _ apart),
      ))

  -- a connection that wasn't there isn't there
  pub never_there : IsNew t sv.conns → (after : ServerOf) → after.conns ≡ sv.conns → after.setting ≡ sv.setting → Loses t sv after
  never_there new after same places table = (
    record {
      once = subst (λ (l : Conns). IsDistinct tuple_eq (keys_of l)) (sym same) table.once;
      bounded = omega (arith, ap (λ (l : Conns). length l) same, ap (λ (g : Setting). g.places) places, table.bounded);
    },
    ap (lookup (tuple_eq t)) same ∙ new,
    λ q apart. inl (ap (lookup (tuple_eq q)) same),
  )

  pub lost_after : (b c : ServerOf) → (IsTable sv → IsTable b × ((q : Tuple) → tuple_eq t q ≡ false → Stays q sv b)) → Loses t b c → Loses t sv c
  lost_after b c step loss table =
      let first = step table in
      let last = loss first.0 in
      (last.0, last.1, λ q apart. stays_on q sv b c (first.1 q apart) (last.2 q apart))

  -- behind those that gave way
  pub lost_behind : (b c : ServerOf) → b ≡ yielding sv.waiting sv → Loses t b c → Loses t sv c
  lost_behind b c is loss =
      lost_after b c (λ table. subst (λ (x : ServerOf). IsTable x × ((q : Tuple) → tuple_eq t q ≡ false → Stays q sv x)) (sym is)
      (yielding_table sv.waiting sv table, λ q apart. yielding_stays q sv.waiting sv table)) loss

  -- behind the time
  pub lost_in_time : (now : ℕ) (b c : ServerOf) → b ≡ (time_to now t sv).server → Loses t b c → Loses t sv c
  lost_in_time now b c is loss =
      lost_after b c (λ table. subst (λ (x : ServerOf). IsTable x × ((q : Tuple) → tuple_eq t q ≡ false → Stays q sv x)) (sym is)
      (timed_table now t sv table (place_of t sv.conns) refl, λ q apart. inl (timed_stays now t sv q apart table (place_of t sv.conns) refl))) loss

  -- behind what was noted
  pub lost_noted : (b c : ServerOf) → b.conns ≡ sv.conns → b.setting ≡ sv.setting → Loses t b c → Loses t sv c
  lost_noted b c same places loss =
      lost_after b c (λ table. (
        record {
          once = subst (λ (l : Conns). IsDistinct tuple_eq (keys_of l)) (sym same) table.once;
          bounded = omega (arith, ap (λ (l : Conns). length l) same, ap (λ (g : Setting). g.places) places, table.bounded);
        },
        λ q apart. inl (ap (lookup (tuple_eq q)) same),
      )) loss
