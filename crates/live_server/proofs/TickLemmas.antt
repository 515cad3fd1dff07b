-- A table in time: what stands in it behind a tick.
use Rattle.std.proofs.Common.{◌≡◌, ℕ, ◌≤◌, Bool, true, false, cond, not, ◌||◌, [], ◌∷◌, length, filter, None, Some, refl, sym, ap, subst, ◌∙◌, arith}
use Rattle.std.specs.List.{IsDistinct}
use Rattle.std.specs.Map.{keys_of, lookup}
use Rattle.std.specs.Option.{option_map}
use Rattle.std.proofs.lemmas.Map.Entries.{lookup-filter-values, option_filter}
use Rattle.std.proofs.lemmas.Map.Made.{IsDistinct-keys_filter}
use Rattle.sq_base.specs.declared.kinds.Tuple.{Tuple}
use Rattle.live_server.specs.Acts.{emptied, is_over, ticked}
use Rattle.live_server.specs.Isolation.{IsTable, TimeKeepsTable, TimeLeaves, conn_of, is_shed, staying}
use Rattle.live_server.specs.Leaving.{is_leaving, without_leaving}
use Rattle.live_server.specs.Serving.{ServerOf, measures_of, on_time, timed}
use Rattle.live_server.specs.Table.{Conns, all_reached, tuple_eq, without_over}
use Rattle.live_server.specs.declared.conn.Conn.{Conn}
use Rattle.live_server.specs.declared.setting.Setting.{Setting}
use Rattle.live_server.specs.declared.measures.Measures.{Measures}
use Rattle.live_server.proofs.TableLemmas.{tuple_equivalence}
use Rattle.live_server.proofs.MeetLemmas.{emptied_over}
use Rattle.live_server.proofs.ShedLemmas.{look_shed, shed_once, shed_short}

pub keys_reached : (measures : Measures) (now : ℕ) (cs : Conns) → keys_of (all_reached measures now cs) ≡ keys_of cs
keys_reached measures now [] = refl
keys_reached measures now (c ∷ cs) = ap (λ ks. c.0 ∷ ks) (keys_reached measures now cs)

long_reached : (measures : Measures) (now : ℕ) (cs : Conns) → length (all_reached measures now cs) ≡ length cs
long_reached measures now [] = refl
long_reached measures now (c ∷ cs) = let more = long_reached measures now cs in omega (arith, more)

pub shorter : (p : Tuple × Conn → Bool) (cs : Conns) → length (filter p cs) ≤ length cs
shorter p [] = omega arith
shorter p (c ∷ cs) = by (p c) (shorter p cs)
  where
    by : (b : Bool) → length (filter p cs) ≤ length cs → length (cond b (c ∷ filter p cs) (filter p cs)) ≤ length (c ∷ cs)
    by true h = omega (arith, h)
    by false h = omega (arith, h)

pub look_reached : (measures : Measures) (now : ℕ) (q : Tuple) (cs : Conns) → lookup (tuple_eq q) (all_reached measures now cs) ≡ option_map (λ (c : Conn). emptied (ticked measures now c)) (lookup (tuple_eq q) cs)
look_reached measures now q [] = refl
look_reached measures now q (e ∷ cs) = by (tuple_eq q e.0) (look_reached measures now q cs)
  where
    by : (b : Bool) → lookup (tuple_eq q) (all_reached measures now cs) ≡ option_map (λ (c : Conn). emptied (ticked measures now c)) (lookup (tuple_eq q) cs)
        → cond b (Some (emptied (ticked measures now e.1))) (lookup (tuple_eq q) (all_reached measures now cs)) ≡ option_map (λ (c : Conn). emptied (ticked measures now c)) (cond b (Some e.1) (lookup (tuple_eq q) cs))
    by true h = refl
    by false h = h

pub here_once : (measures : Measures) (now : ℕ) (cs : Conns) → IsDistinct tuple_eq (keys_of cs) → IsDistinct tuple_eq (keys_of (without_over (all_reached measures now cs)))
unfolding without_over
here_once measures now cs once = IsDistinct-keys_filter tuple_eq _ (all_reached measures now cs) (subst (IsDistinct tuple_eq) (sym (keys_reached measures now cs)) once)

here_short : (measures : Measures) (now : ℕ) (cs : Conns) → length (without_over (all_reached measures now cs)) ≤ length cs
unfolding without_over
here_short measures now cs = omega (arith, shorter (λ (c : Tuple × Conn). not (is_over c.1)) (all_reached measures now cs), long_reached measures now cs)

left_once : (g : Setting) (now : ℕ) (cs : Conns) → IsDistinct tuple_eq (keys_of cs) → IsDistinct tuple_eq (keys_of (without_leaving g now cs))
unfolding without_leaving
left_once g now cs once = IsDistinct-keys_filter tuple_eq _ cs once

pub left_short : (g : Setting) (now : ℕ) (cs : Conns) → length (without_leaving g now cs) ≤ length cs
unfolding without_leaving
left_short g now cs = shorter _ cs

-- those that stay by every other rule
pub staying_once : (now : ℕ) (sv : ServerOf) → IsTable sv → IsDistinct tuple_eq (keys_of (staying now sv))
staying_once now sv table = left_once sv.setting now (without_over (all_reached (measures_of sv) now sv.conns)) (here_once (measures_of sv) now sv.conns table.once)

pub staying_bounded : (now : ℕ) (sv : ServerOf) → IsTable sv → length (staying now sv) ≤ sv.setting.places
staying_bounded now sv table = omega (arith, left_short sv.setting now (without_over (all_reached (measures_of sv) now sv.conns)), here_short (measures_of sv) now sv.conns, table.bounded)

pub time_keeps_table : TimeKeepsTable
unfolding on_time
time_keeps_table now sv table = record {
  once = shed_once sv.setting sv.turned (staying now sv) (staying_once now sv table);
  bounded = omega (arith, shed_short sv.setting sv.turned (staying now sv), staying_bounded now sv table);
}

module _ (now : ℕ) (q : Tuple) (x : Conn) where
  both_filters : (a l : Bool) (p : Conn → Bool) → p x ≡ not l → option_filter p (cond (not a) (Some x) None) ≡ cond (a || l) None (Some x)
  both_filters true l p is = refl
  both_filters false true p is = ap (λ (b : Bool). cond b (Some x) None) is
  both_filters false false p is = ap (λ (b : Bool). cond b (Some x) None) is

  and_shed : (a l s : Bool) → cond s None (cond (a || l) None (Some x)) ≡ cond (a || (l || s)) None (Some x)
  and_shed true l true = refl
  and_shed true l false = refl
  and_shed false true true = refl
  and_shed false true false = refl
  and_shed false false true = refl
  and_shed false false false = refl

-- who stays by every other rule is there as the time left it
look_staying : (now : ℕ) (q : Tuple) (sv : ServerOf) (c : Conn) → IsTable sv → conn_of q sv ≡ Some c
    → lookup (tuple_eq q) (staying now sv)
    ≡ cond (is_over (timed now sv c) || is_leaving sv.setting now (length (without_over (all_reached (measures_of sv) now sv.conns))) (emptied (timed now sv c))) None (Some (emptied (timed now sv c)))
unfolding without_over without_leaving
look_staying now q sv c table look =
    let reached_all = all_reached (measures_of sv) now sv.conns in
    let here = without_over reached_all in
    let x = emptied (timed now sv c) in
    let goes = is_leaving sv.setting now (length here) in
    let once = here_once (measures_of sv) now sv.conns table.once in
    let all_once : IsDistinct tuple_eq (keys_of reached_all) = subst (IsDistinct tuple_eq) (sym (keys_reached (measures_of sv) now sv.conns)) table.once in
    lookup-filter-values tuple_equivalence (λ (e : Conn). not (goes e)) q here once
    ∙ ap (option_filter (λ (e : Conn). not (goes e)))
    (lookup-filter-values tuple_equivalence (λ (e : Conn). not (is_over e)) q reached_all all_once
    ∙ ap (option_filter (λ (e : Conn). not (is_over e))) (look_reached (measures_of sv) now q sv.conns ∙ ap (option_map (λ (e : Conn). emptied (timed now sv e))) look)
    ∙ ap (λ (b : Bool). cond (not b) (Some x) None) (emptied_over (timed now sv c)))
    ∙ both_filters now q x (is_over (timed now sv c)) (goes x) (λ (e : Conn). not (goes e)) refl

pub time_leaves : TimeLeaves
unfolding on_time
time_leaves now q sv c table look =
    let x = emptied (timed now sv c) in
    look_shed sv.setting sv.turned (staying now sv) q (staying_once now sv table)
    ∙ ap (cond (is_shed now sv q) None) (look_staying now q sv c table look)
    ∙ and_shed now q x (is_over (timed now sv c)) (is_leaving sv.setting now (length (without_over (all_reached (measures_of sv) now sv.conns))) x) (is_shed now sv q)
