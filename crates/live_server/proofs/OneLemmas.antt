-- At a segment one half-open connection gives way at most.
use Rattle.std.proofs.Common.{◌≡◌, ℕ, suc, ◌<◌, ◌≤◌, ◌⊎◌, inl, inr, nat_lt, ◌&&◌, Bool, true, false, cond, List, [], ◌∷◌, length, Option, None, Some, refl, sym, ap, subst, ◌∙◌, arith, true≢false}
use Rattle.std.specs.List.{IsDistinct}
use Rattle.std.specs.Map.{keys_of, lookup}
use Rattle.std.specs.Option.{option_map_or}
use Rattle.std.proofs.lemmas.Bool.Decides.{nat_tests}
use Rattle.std.proofs.lemmas.List.{length-append}
use Rattle.segment_codec.specs.Refusal.{tuple_of}
use Rattle.segment_codec.specs.declared.packet.Seg.{Seg}
use Rattle.sq_base.specs.declared.kinds.Tuple.{Tuple}
use Rattle.live_server.specs.Acts.{is_over, new_conn, reached}
use Rattle.live_server.specs.Isolation.{IsTable, conn_of}
use Rattle.live_server.specs.Promises.{FewWait, HasLeft, OneGivesWay, SegmentKeepsFew, TimeKeepsFew}
use Rattle.live_server.specs.Services.{service_at}
use Rattle.live_server.specs.Serving.{Outcome, ServerOf, admits, becomes, comes, fits, gives_way, goes_on, has_place, heeded, heeded_text, heeds, holding, is_waiting, makes_place, noting, on_segment, on_time, opens, overfull, refuses, sends_nothing, sends_of, served, takes_free, takes_place, time_to, turns_away, yielding, yields, yields_at}
use Rattle.live_server.specs.Table.{Conns, conn_at, place_of, tuple_eq}
use Rattle.live_server.specs.declared.conn.Conn.{Conn}
use Rattle.live_server.specs.declared.setting.Setting.{Setting}
use Rattle.live_server.proofs.LawLemmas.{became_others, came_by, noted_conns, noted_table, admitted_by, same_ends, still_new, taken_stays, timed_kept, timed_stays, timed_table, with_waiting, yielding_stays, yields_by}
use Rattle.live_server.proofs.ServerLemmas.{stops}
use Rattle.live_server.proofs.TableLemmas.{first_at, length_without, look_without, new_from_place, same, within_at}

-- nobody left, or all others stay but for the one of these ends
abbrev AllBut : ServerOf → ServerOf → Type 0
AllBut before after = (after.conns ≡ before.conns) ⊎ ((t : Tuple) × ((q : Tuple) → tuple_eq t q ≡ false → conn_of q after ≡ conn_of q before))

-- one gives way, and then there is a place
module _ (w : Tuple × ℕ) (ws : List (Tuple × ℕ)) (sv : ServerOf) (table : IsTable sv) (few : suc (length ws) ≤ sv.setting.places) where
  abbrev before : ServerOf
  before = record sv { waiting = ws }

  module _ (i : ℕ) (at : place_of w.0 sv.conns ≡ Some i) where
    free : has_place (gives_way i before) ≡ true
    unfolding has_place
    free =
        let shorter = length_without sv.conns i (within_at w.0 sv.conns i at) in
        let bounded = table.bounded in
        both (nat_lt (length (gives_way i before).conns) sv.setting.places) (nat_lt (length ws) sv.setting.places)
        (let lt : length (gives_way i before).conns < sv.setting.places = omega (arith, shorter, bounded) in grind (arith, nat_tests, lt))
        (let lt : length ws < sv.setting.places = omega (arith, few) in grind (arith, nat_tests, lt))
      where
        both : (a b : Bool) → a ≡ true → b ≡ true → a && b ≡ true
        both true true _ _ = refl
        both true false _ e = e
        both false b e _ = absurd (true≢false (sym e))

    others_look : (q : Tuple) → tuple_eq w.0 q ≡ false → conn_of q (gives_way i before) ≡ conn_of q sv
    others_look q apart =
        look_without sv.conns i w.0 (first_at w.0 sv.conns i at) (within_at w.0 sv.conns i at) table.once q
        ∙ ap (λ (b : Bool). cond b None (lookup (tuple_eq q) sv.conns)) apart

  -- behind whoever stays the others are asked
  abbrev LaterGives : Type 0
  LaterGives = (s : ServerOf) → s.conns ≡ sv.conns → s.setting ≡ sv.setting → AllBut sv (yielding ws s)

  next_gives : LaterGives → (r : Option ℕ) → place_of w.0 sv.conns ≡ r → AllBut sv (yielding ws (yields w before))
  unfolding yields_at
  next_gives later None at = subst (λ (x : ServerOf). AllBut sv (yielding ws x)) (sym (yields_by w before (with_waiting ws sv table) None at)) (later before refl refl)
  next_gives later (Some i) at = subst (λ (x : ServerOf). AllBut sv (yielding ws x)) (sym (yields_by w before (with_waiting ws sv table) (Some i) at)) (by (is_waiting w.1 (conn_at i sv.conns)) refl)
    where
      by : (h : Bool) → is_waiting w.1 (conn_at i sv.conns) ≡ h → AllBut sv (yielding ws (yields_at w.1 i before))
      by false whole = subst (λ (b : Bool). AllBut sv (yielding ws (cond b (gives_way i before) before))) (sym whole) (later before refl refl)
      by true half =
          subst (λ (b : Bool). AllBut sv (yielding ws (cond b (gives_way i before) before))) (sym half)
          (inr (w.0, λ q apart. ap (conn_of q) (sym (stops ws (gives_way i before) (free i at))) ∙ others_look i at q apart))

moved_on : (a b after : ServerOf) → b.conns ≡ a.conns → AllBut b after → AllBut a after
moved_on a b after conns (inl e) = inl (e ∙ conns)
moved_on a b after conns (inr o) = inr (o.0, λ q apart. o.1 q apart ∙ ap (λ (l : Conns). lookup (tuple_eq q) l) conns)

-- where that is so of all behind
yields_step : (w : Tuple × ℕ) (ws : List (Tuple × ℕ)) (sv : ServerOf) → IsTable sv → suc (length ws) ≤ sv.setting.places
    → ((s : ServerOf) → IsTable s → length ws ≤ s.setting.places → AllBut s (yielding ws s)) → AllBut sv (yielding (w ∷ ws) sv)
yields_step w ws sv table few rest = by (has_place sv)
  where
    on : (s : ServerOf) → s.conns ≡ sv.conns → s.setting ≡ sv.setting → AllBut sv (yielding ws s)
    on s conns setting =
        let in_table : IsTable s = record {
          once = subst (λ (l : Conns). IsDistinct tuple_eq (keys_of l)) (sym conns) table.once;
          bounded = omega (arith, ap (λ (l : Conns). length l) conns, ap (λ (g : Setting). g.places) setting, table.bounded);
        } in
        moved_on sv s (yielding ws s) conns (rest s in_table (omega (arith, few, ap (λ (g : Setting). g.places) setting)))

    by : (b : Bool) → AllBut sv (cond b sv (yielding ws (yields w (record sv { waiting = ws }))))
    by true = inl refl
    by false = next_gives w ws sv table few on (place_of w.0 sv.conns) refl

pub one_yields : (ws : List (Tuple × ℕ)) (sv : ServerOf) → IsTable sv → length ws ≤ sv.setting.places → AllBut sv (yielding ws sv)
one_yields [] sv table few = inl refl
one_yields (w ∷ ws) sv table few = yields_step w ws sv table few (λ s in_table fits_in. one_yields ws s in_table fits_in)

-- of the connections of other ends all stay but for one
abbrev OthersBut : Tuple → ServerOf → ServerOf → Type 0
OthersBut own before after = (t : Tuple) × ((q : Tuple) → tuple_eq own q ≡ false → tuple_eq t q ≡ false → conn_of q after ≡ conn_of q before)

module _ (now : ℕ) (s : Seg) (text : List ℕ) (sv : ServerOf) (table : IsTable sv) (few : FewWait sv) where
  abbrev own : Tuple
  own = tuple_of s

  abbrev fresh : Conn
  fresh = served now s text sv (new_conn (service_at sv.setting now s.dst_port) sv.setting.segment sv.setting.marking now)

  admitted_but : Rattle.live_server.specs.Table.IsNew own sv.conns → (b : Bool) → is_over fresh ≡ b → OthersBut own sv (admits now s text sv).server
  admitted_but new true e = (own, λ q apart _. ap (λ (o : Outcome). conn_of q o.server) (admitted_by now s text sv table true e))
  admitted_but new false e = by (one_yields sv.waiting sv table few)
    where
      room : ServerOf
      room = makes_place sv

      placed : (q : Tuple) → tuple_eq own q ≡ false → conn_of q (admits now s text sv).server ≡ conn_of q room
      placed q apart =
          ap (λ (o : Outcome). conn_of q o.server) (admitted_by now s text sv table false e)
          ∙ taken_stays own fresh room (still_new own sv room (yielding_stays own sv.waiting sv table) new) q apart (has_place room) refl

      by : AllBut sv room → OthersBut own sv (admits now s text sv).server
      by (inl none) = (own, λ q apart _. placed q apart ∙ ap (λ (l : Conns). lookup (tuple_eq q) l) none)
      by (inr one) = (one.0, λ q apart away. placed q apart ∙ one.1 q away)

  opened_but : Rattle.live_server.specs.Table.IsNew own sv.conns → OthersBut own sv (opens now s text sv).server
  unfolding opens
  opened_but new = by sv.draining
    where
      by : (b : Bool) → OthersBut own sv (cond b (refuses now s sv) (admits now s text sv)).server
      by true = (own, λ q apart _. refl)
      by false = admitted_but new (is_over fresh) refl

  came_but : (r : Option ℕ) → place_of own sv.conns ≡ r → OthersBut own sv (comes now s text sv).server
  came_but None at = subst (λ (o : Outcome). OthersBut own sv o.server) (sym (came_by now s text sv table None at)) (opened_but (new_from_place own sv.conns at))
  came_but (Some i) at = (own, λ q apart _. became_others now s text sv table i at q apart)

module _ (now : ℕ) (s : Seg) (text : List ℕ) (sv : ServerOf) (table : IsTable sv) (few : FewWait sv) where
  noted_few : FewWait (noting text sv)
  noted_few = by (fits text sv)
    where
      by : (b : Bool) → FewWait (cond b (holding text sv) (overfull sv))
      by true = few
      by false = few

  heeded_but : OthersBut (tuple_of s) sv (heeds now s text sv).server
  unfolding heeds
  heeded_but =
      let s1 = heeded s text sv in
      let ends : tuple_of s1 ≡ tuple_of s = same_ends now s text sv table (fits text sv) in
      let one = came_but now s1 (heeded_text text sv) (noting text sv) (noted_table now s text sv table) noted_few (place_of (tuple_of s1) (noting text sv).conns) refl in
      (one.0, λ q apart away. one.1 q (ap (λ (t : Tuple). tuple_eq t q) ends ∙ apart) away ∙ ap (λ (l : Conns). lookup (tuple_eq q) l) (noted_conns now s text sv table (fits text sv) refl))

timed_waiting : (now : ℕ) (t : Tuple) (sv : ServerOf) → (time_to now t sv).server.waiting ≡ sv.waiting
unfolding time_to becomes
timed_waiting now t sv = by (place_of t sv.conns)
  where
    by : (r : Option ℕ) → (option_map_or (λ place. becomes place t (reached now (conn_at place sv.conns)) sv) r (sends_nothing sv)).server.waiting ≡ sv.waiting
    by None = refl
    by (Some i) = refl

pub one_gives_way : OneGivesWay
unfolding on_segment
one_gives_way now s text sv q r table few left_q left_r =
    let first : ServerOf = (time_to now (tuple_of s) sv).server in
    let in_table = timed_table now (tuple_of s) sv table (place_of (tuple_of s) sv.conns) refl in
    let setting = (timed_kept now (tuple_of s) sv (place_of (tuple_of s) sv.conns) refl).0 in
    let few_still : FewWait first = omega (arith, few, ap (λ (l : List (Tuple × ℕ)). length l) (timed_waiting now (tuple_of s) sv), ap (λ (g : Setting). g.places) setting) in
    let one = heeded_but now s text first in_table few_still in
    let its = λ (x : Tuple) (left : HasLeft now s text sv x). by one.0 x (tuple_eq one.0 x) refl left
    (λ away. one.1 x left.other away ∙ timed_stays now (tuple_of s) sv x left.other table (place_of (tuple_of s) sv.conns) refl) in
    sym (its q left_q) ∙ its r left_r
  where
    by : (t x : Tuple) (b : Bool) → tuple_eq t x ≡ b → HasLeft now s text sv x → (tuple_eq t x ≡ false → conn_of x (on_segment now s text sv).server ≡ conn_of x sv) → t ≡ x
    by t x true e left stays = same t x e
    by t x false e left stays = absurd (left.was (sym (stays e) ∙ left.gone))

-- ---- as many wait as there are places, at most
yielded_waits : (w : Tuple × ℕ) (sv : ServerOf) → ((yields w sv).waiting ≡ sv.waiting) × ((yields w sv).setting ≡ sv.setting)
unfolding yields yields_at
yielded_waits w sv = by (place_of w.0 sv.conns)
  where
    at : (i : ℕ) (b : Bool) → ((cond b (gives_way i sv) sv).waiting ≡ sv.waiting) × ((cond b (gives_way i sv) sv).setting ≡ sv.setting)
    at i true = (refl, refl)
    at i false = (refl, refl)

    by : (r : Option ℕ) → ((option_map_or (λ place. yields_at w.1 place sv) r sv).waiting ≡ sv.waiting) × ((option_map_or (λ place. yields_at w.1 place sv) r sv).setting ≡ sv.setting)
    by None = (refl, refl)
    by (Some i) = at i (is_waiting w.1 (conn_at i sv.conns))

few_same : (a b : ServerOf) → b.waiting ≡ a.waiting → b.setting ≡ a.setting → FewWait a → FewWait b
few_same a b waiting setting few = omega (arith, ap (λ (l : List (Tuple × ℕ)). length l) waiting, ap (λ (g : Setting). g.places) setting, few)

few_step : (w : Tuple × ℕ) (ws : List (Tuple × ℕ)) (sv : ServerOf) → suc (length ws) ≤ sv.setting.places → FewWait sv
    → ((s : ServerOf) → length ws ≤ s.setting.places → FewWait s → FewWait (yielding ws s)) → FewWait (yielding (w ∷ ws) sv)
few_step w ws sv shorter few rest = by (has_place sv)
  where
    before : ServerOf
    before = record sv { waiting = ws }

    by : (b : Bool) → FewWait (cond b sv (yielding ws (yields w before)))
    by true = few
    by false =
        let waits = yielded_waits w before in
        rest (yields w before) (omega (arith, shorter, ap (λ (g : Setting). g.places) waits.1)) (few_same before (yields w before) waits.0 waits.1 (omega (arith, shorter)))

yielding_few : (ws : List (Tuple × ℕ)) (sv : ServerOf) → length ws ≤ sv.setting.places → FewWait sv → FewWait (yielding ws sv)
yielding_few [] sv shorter few = few
yielding_few (w ∷ ws) sv shorter few = few_step w ws sv shorter few (λ s fits_in few_there. yielding_few ws s fits_in few_there)

placed_few : (t : Tuple) (c : Conn) (sv : ServerOf) → FewWait sv → FewWait (takes_place t c sv).server
unfolding takes_place has_place
placed_few t c sv few = by (nat_lt (length sv.conns) sv.setting.places) (nat_lt (length sv.waiting) sv.setting.places) refl
  where
    by : (a b : Bool) → nat_lt (length sv.waiting) sv.setting.places ≡ b → FewWait (cond (a && b) (takes_free t c sv) (turns_away t sv)).server
    by true true e = let lt : length sv.waiting < sv.setting.places = grind (arith, nat_tests, e) in omega (arith, lt, length-append sv.waiting ((t, sv.counts.opened) ∷ []))
    by true false e = few
    by false b e = few

admitted_few : (now : ℕ) (s : Seg) (text : List ℕ) (sv : ServerOf) → FewWait sv → FewWait (admits now s text sv).server
unfolding admits
admitted_few now s text sv few = by (is_over fresh_conn)
  where
    fresh_conn : Conn
    fresh_conn = served now s text sv (new_conn (service_at sv.setting now s.dst_port) sv.setting.segment sv.setting.marking now)

    by : (b : Bool) → FewWait (cond b (sends_of (tuple_of s) fresh_conn sv) (takes_place (tuple_of s) fresh_conn (makes_place sv))).server
    by true = few
    by false = placed_few (tuple_of s) fresh_conn (makes_place sv) (yielding_few sv.waiting sv few few)

opened_few : (now : ℕ) (s : Seg) (text : List ℕ) (sv : ServerOf) → FewWait sv → FewWait (opens now s text sv).server
unfolding opens
opened_few now s text sv few = by sv.draining
  where
    by : (b : Bool) → FewWait (cond b (refuses now s sv) (admits now s text sv)).server
    by true = few
    by false = admitted_few now s text sv few

came_few : (now : ℕ) (s : Seg) (text : List ℕ) (sv : ServerOf) → FewWait sv → FewWait (comes now s text sv).server
unfolding comes goes_on becomes
came_few now s text sv few = by (place_of (tuple_of s) sv.conns)
  where
    by : (r : Option ℕ) → FewWait (option_map_or (λ place. goes_on now s text place sv) r (opens now s text sv)).server
    by None = opened_few now s text sv few
    by (Some i) = few

timed_setting : (now : ℕ) (t : Tuple) (sv : ServerOf) → (time_to now t sv).server.setting ≡ sv.setting
unfolding time_to becomes
timed_setting now t sv = by (place_of t sv.conns)
  where
    by : (r : Option ℕ) → (option_map_or (λ place. becomes place t (reached now (conn_at place sv.conns)) sv) r (sends_nothing sv)).server.setting ≡ sv.setting
    by None = refl
    by (Some i) = refl

pub segment_keeps_few : SegmentKeepsFew
unfolding on_segment heeds
segment_keeps_few now s text sv few =
    let first : ServerOf = (time_to now (tuple_of s) sv).server in
    let few_first : FewWait first = few_same sv first (timed_waiting now (tuple_of s) sv) (timed_setting now (tuple_of s) sv) few in
    came_few now (heeded s text first) (heeded_text text first) (noting text first) (noted (fits text first) first few_first)
  where
    noted : (b : Bool) (x : ServerOf) → FewWait x → FewWait (cond b (holding text x) (overfull x))
    noted true x h = h
    noted false x h = h

pub time_keeps_few : TimeKeepsFew
unfolding on_time
time_keeps_few now sv few = few
