-- The time comes to each, those that are over leave, and those that are to leave.
use Rattle.std.proofs.Common.{◌≡◌, ℕ, Bool, true, false, cond, not, List, [], ◌∷◌, ◌++◌, length, Option, None, Some, refl, sym, ap, subst, ◌∙◌, append-nil, true≢false, is_some}
use Rattle.std.specs.List.{IsDistinct, flat_map}
use Rattle.std.specs.Map.{keys_of, lookup}
use Rattle.std.specs.Option.{option_map, option_map_or}
use Rattle.std.proofs.lemmas.Map.{lookup-none}
use Rattle.std.proofs.lemmas.Map.Entries.{lookup-filter-values, none_past_head, option_filter}
use Rattle.std.proofs.lemmas.Map.Keys.{IsDistinct-tail}
use Rattle.sq_base.specs.declared.kinds.Tuple.{Tuple}
use Rattle.live_server.specs.Acts.{emptied, is_over, sent_by, ticked}
use Rattle.live_server.specs.Isolation.{kept_as, staying, IsTable}
use Rattle.live_server.specs.Leaving.{is_leaving, shed_ends, without_leaving}
use Rattle.live_server.specs.Serving.{ServerOf, measures_of, on_time}
use Rattle.live_server.specs.Table.{Conns, all_reached, tuple_eq, without_over}
use Rattle.live_server.specs.declared.acting.Datagram.{Datagram}
use Rattle.live_server.specs.declared.conn.Conn.{Conn}
use Rattle.live_server.specs.declared.setting.Setting.{Setting}
use Rattle.live_server.specs.declared.measures.Measures.{Measures}
use Rattle.live_server.proofs.ShedLemmas.{look_shed}
use Rattle.live_server.proofs.TickLemmas.{here_once, keys_reached, look_reached, staying_once, time_keeps_table}
use Rattle.live_server.proofs.TableLemmas.{tuple_equivalence}
use Rattle.live_server.proofs.MeetLemmas.{emptied_over}
use Rattle.live_chats.specs.Chats.{Chats, Run, Said, becoming, chats_of, runs, time_said, with_chat}
use Rattle.live_chats.specs.Ways.{leaving_of, telling_leave, telling_shed, telling_time, way_time}
use Rattle.live_chats.proofs.RunLemmas.{IsRight, behind, runs_append}

-- what a look-up says of entries that the time came to
abbrev after_time : Measures → ℕ → Conn → Option Conn
after_time measures now c = kept_as (ticked measures now c)

abbrev told_of : Measures → ℕ → Tuple × Conn → List Datagram
told_of measures now c = sent_by c.0 (ticked measures now c.1)

-- those that are told have something to be told
abbrev Agrees : Conns → Chats → Type 0
Agrees cs all = (q : Tuple) (c : Conn) → lookup (tuple_eq q) cs ≡ Some c → all q ≡ Some c

some_none : (c : Conn) (o : Option Conn) → o ≡ Some c → o ≡ None → true ≡ false
some_none c o s n = sym (ap is_some s) ∙ ap is_some n

-- no later entry has the first one's ends
module _ (e : Tuple × Conn) (cs : Conns) (once : IsDistinct tuple_eq (keys_of (e ∷ cs))) where
  past : (q : Tuple) → tuple_eq q e.0 ≡ true → lookup (tuple_eq q) cs ≡ None
  past q at = lookup-none (tuple_eq q) cs (none_past_head tuple_equivalence q e cs once at)

  not_first : (q : Tuple) (c : Conn) → lookup (tuple_eq q) cs ≡ Some c → (b : Bool) → tuple_eq q e.0 ≡ b → b ≡ false
  not_first q c look true at = absurd (true≢false (some_none c (lookup (tuple_eq q) cs) look (past q at)))
  not_first q c look false at = refl

  module _ (all : Chats) (agrees : Agrees (e ∷ cs) all) (x : Option Conn) where
    agrees_tail : Agrees cs (with_chat e.0 x all)
    agrees_tail q c look =
        let apart : tuple_eq q e.0 ≡ false = let b = not_first q c look (tuple_eq q e.0) refl in b in
        ap (λ (b : Bool). cond b x (all q)) (tuple_equivalence.symm e.0 q ∙ apart) ∙ agrees q c (ap (λ (b : Bool). cond b (Some e.1) (lookup (tuple_eq q) cs)) apart ∙ look)

  agrees_head : (all : Chats) → Agrees (e ∷ cs) all → all e.0 ≡ Some e.1
  agrees_head all agrees = agrees e.0 e.1 (ap (λ (b : Bool). cond b (Some e.1) (lookup (tuple_eq e.0) cs)) (tuple_equivalence.refl e.0))

  -- the chats behind the first one's turn are those behind all turns
  turn_by : (all : Chats) (f : Conn → Option Conn) (q : Tuple) (b : Bool) → tuple_eq q e.0 ≡ b → (o : Option Conn) → lookup (tuple_eq q) cs ≡ o
      → option_map_or f o (cond b (f e.1) (all q)) ≡ option_map_or f (cond b (Some e.1) o) (all q)
  turn_by all f q true at None look = refl
  turn_by all f q true at (Some c) look = absurd (true≢false (some_none c (lookup (tuple_eq q) cs) look (past q at)))
  turn_by all f q false at None look = refl
  turn_by all f q false at (Some c) look = refl

  turned : (all : Chats) (f : Conn → Option Conn) (q : Tuple)
      → option_map_or f (lookup (tuple_eq q) cs) (with_chat e.0 (f e.1) all q) ≡ option_map_or f (lookup (tuple_eq q) (e ∷ cs)) (all q)
  turned all f q =
      ap (λ (b : Bool). option_map_or f (lookup (tuple_eq q) cs) (cond b (f e.1) (all q))) (tuple_equivalence.symm e.0 q)
      ∙ turn_by all f q (tuple_eq q e.0) refl (lookup (tuple_eq q) cs) refl

abbrev timed_run : Measures → ℕ → Conns → Chats → Run
timed_run measures now cs all = record { chats = λ q. option_map_or (after_time measures now) (lookup (tuple_eq q) cs) (all q); sent = flat_map (told_of measures now) cs }

all_timed : (g : Setting) (measures : Measures) (now : ℕ) (cs : Conns) (all : Chats) → IsDistinct tuple_eq (keys_of cs) → Agrees cs all → runs g (telling_time measures now cs) all ≡ timed_run measures now cs all
all_timed g measures now [] all once agrees = refl
all_timed g measures now (e ∷ cs) all once agrees =
    let step : Said → Run = λ s. behind s.sent (runs g (telling_time measures now cs) (with_chat e.0 s.conn all)) in
    let first : Said = becoming e.0 (ticked measures now e.1) in
    let next : Chats = with_chat e.0 (after_time measures now e.1) all in
    let heard : time_said e.0 measures now (all e.0) ≡ first = ap (λ (o : Option Conn). time_said e.0 measures now o) (agrees_head e cs once all agrees) in
    let rest : runs g (telling_time measures now cs) next ≡ timed_run measures now cs next =
    all_timed g measures now cs next (IsDistinct-tail tuple_eq e.0 (keys_of cs) once) (agrees_tail e cs once all agrees (after_time measures now e.1)) in
    let joined : ◌≡◌ {A = Run} (behind first.sent (timed_run measures now cs next)) (timed_run measures now (e ∷ cs) all) =
    λ j. record { chats = λ q. turned e cs once all (after_time measures now) q j; sent = flat_map (told_of measures now) (e ∷ cs) } in
    ap step heard ∙ ap (behind first.sent) rest ∙ joined

abbrev gone : Conn → Option Conn
gone c = None

abbrev left_run : Conns → Chats → Run
left_run cs all = record { chats = λ q. option_map_or gone (lookup (tuple_eq q) cs) (all q); sent = [] }

left_by : (e : Tuple × Conn) (cs : Conns) (all : Chats) (q : Tuple) (b : Bool) (o : Option Conn) → option_map_or gone o (cond b None (all q)) ≡ option_map_or gone (cond b (Some e.1) o) (all q)
left_by e cs all q true None = refl
left_by e cs all q true (Some c) = refl
left_by e cs all q false None = refl
left_by e cs all q false (Some c) = refl

all_left : (g : Setting) (cs : Conns) (all : Chats) → runs g (telling_leave cs) all ≡ left_run cs all
all_left g [] all = refl
all_left g (e ∷ cs) all =
    let next : Chats = with_chat e.0 None all in
    let rest : runs g (telling_leave cs) next ≡ left_run cs next = all_left g cs next in
    let joined : ◌≡◌ {A = Run} (behind [] (left_run cs next)) (left_run (e ∷ cs) all) =
    λ j. record { chats = λ q. (ap (λ (b : Bool). option_map_or gone (lookup (tuple_eq q) cs) (cond b None (all q))) (tuple_equivalence.symm e.0 q) ∙ left_by e cs all q (tuple_eq q e.0) (lookup (tuple_eq q) cs)) j; sent = [] } in
    ap (behind []) rest ∙ joined

-- ---- what the table has then
kept_by : (measures : Measures) (now : ℕ) (o : Option Conn) → option_filter (λ (c : Conn). not (is_over c)) (option_map (λ (c : Conn). emptied (ticked measures now c)) o) ≡ option_map_or (after_time measures now) o o
kept_by measures now None = refl
kept_by measures now (Some c) = ap (λ (b : Bool). cond (not b) (Some (emptied (ticked measures now c))) None) (emptied_over (ticked measures now c)) ∙ turn (is_over (ticked measures now c))
  where
    turn : (b : Bool) → cond (not b) (Some (emptied (ticked measures now c))) None ≡ cond b None (Some (emptied (ticked measures now c)))
    turn true = refl
    turn false = refl

module _ (measures : Measures) (now : ℕ) (cs : Conns) (once : IsDistinct tuple_eq (keys_of cs)) where
  abbrev here : Conns
  here = without_over (all_reached measures now cs)

  look_here : (q : Tuple) → lookup (tuple_eq q) here ≡ option_map_or (after_time measures now) (lookup (tuple_eq q) cs) (lookup (tuple_eq q) cs)
  unfolding without_over
  look_here q =
      lookup-filter-values tuple_equivalence (λ (c : Conn). not (is_over c)) q (all_reached measures now cs) (subst (IsDistinct tuple_eq) (sym (keys_reached measures now cs)) once)
      ∙ ap (option_filter (λ (c : Conn). not (is_over c))) (look_reached measures now q cs)
      ∙ kept_by measures now (lookup (tuple_eq q) cs)

leaving_by : (p : Conn → Bool) (o : Option Conn) → option_filter (λ (c : Conn). not (p c)) o ≡ option_map_or gone (option_filter p o) o
leaving_by p None = refl
leaving_by p (Some c) = by (p c)
  where
    by : (b : Bool) → cond (not b) (Some c) None ≡ option_map_or gone (cond b (Some c) None) (Some c)
    by true = refl
    by false = refl

look_leaving : (g : Setting) (now : ℕ) (cs : Conns) → IsDistinct tuple_eq (keys_of cs) → (q : Tuple)
    → lookup (tuple_eq q) (without_leaving g now cs) ≡ option_map_or gone (lookup (tuple_eq q) (leaving_of g now cs)) (lookup (tuple_eq q) cs)
unfolding without_leaving
look_leaving g now cs once q =
    let goes : Conn → Bool = is_leaving g now (length cs) in
    lookup-filter-values tuple_equivalence (λ (c : Conn). not (goes c)) q cs once
    ∙ leaving_by goes (lookup (tuple_eq q) cs)
    ∙ ap (λ (o : Option Conn). option_map_or gone o (lookup (tuple_eq q) cs)) (sym (lookup-filter-values tuple_equivalence goes q cs once))

shed_run : (g : Setting) (o : Option Tuple) (all : Chats)
    → runs g (telling_shed o) all ≡ record { chats = λ q. cond (option_map_or (λ t. tuple_eq t q) o false) None (all q); sent = [] }
shed_run g None all = refl
shed_run g (Some t) all = refl

pub time_right : (now : ℕ) (sv : ServerOf) → IsTable sv → IsRight sv (way_time now sv) (on_time now sv)
unfolding way_time on_time
time_right now sv table = record {
  shows = runs_append sv.setting (telling_time (measures_of sv) now sv.conns ++ telling_leave out) (telling_shed ends) (chats_of sv)
      ∙ ap third first ∙ ap (behind timed_sent) (shed_run sv.setting ends (λ q. lookup (tuple_eq q) (staying now sv))) ∙ last;
  setting = refl;
  table = time_keeps_table now sv table;
}
  where
    out : Conns
    out = leaving_of sv.setting now (without_over (all_reached (measures_of sv) now sv.conns))

    ends : Option Tuple
    ends = shed_ends sv.setting sv.turned (staying now sv)

    timed_sent : List Datagram
    timed_sent = flat_map (told_of (measures_of sv) now) sv.conns

    second : Run → Run
    second r = behind r.sent (runs sv.setting (telling_leave out) r.chats)

    third : Run → Run
    third r = behind r.sent (runs sv.setting (telling_shed ends) r.chats)

    timed : runs sv.setting (telling_time (measures_of sv) now sv.conns) (chats_of sv) ≡ timed_run (measures_of sv) now sv.conns (chats_of sv)
    timed = all_timed sv.setting (measures_of sv) now sv.conns (chats_of sv) table.once (λ q c look. look)

    left : runs sv.setting (telling_leave out) (timed_run (measures_of sv) now sv.conns (chats_of sv)).chats ≡ left_run out (timed_run (measures_of sv) now sv.conns (chats_of sv)).chats
    left = all_left sv.setting out (timed_run (measures_of sv) now sv.conns (chats_of sv)).chats

    looks : (q : Tuple) → option_map_or gone (lookup (tuple_eq q) out) (option_map_or (after_time (measures_of sv) now) (lookup (tuple_eq q) sv.conns) (lookup (tuple_eq q) sv.conns))
        ≡ lookup (tuple_eq q) (staying now sv)
    looks q =
        ap (λ (o : Option Conn). option_map_or gone (lookup (tuple_eq q) out) o) (sym (look_here (measures_of sv) now sv.conns table.once q))
        ∙ sym (look_leaving sv.setting now (without_over (all_reached (measures_of sv) now sv.conns)) (here_once (measures_of sv) now sv.conns table.once) q)

    -- who stays by every other rule
    staid : ◌≡◌ {A = Run} (behind timed_sent (left_run out (timed_run (measures_of sv) now sv.conns (chats_of sv)).chats)) (record { chats = λ q. lookup (tuple_eq q) (staying now sv); sent = timed_sent })
    staid = λ j. record { chats = λ q. looks q j; sent = append-nil timed_sent j }

    first : ◌≡◌ {A = Run} (runs sv.setting (telling_time (measures_of sv) now sv.conns ++ telling_leave out) (chats_of sv)) (record { chats = λ q. lookup (tuple_eq q) (staying now sv); sent = timed_sent })
    first = runs_append sv.setting (telling_time (measures_of sv) now sv.conns) (telling_leave out) (chats_of sv) ∙ ap second timed ∙ ap (behind timed_sent) left ∙ staid

    last : ◌≡◌ {A = Run} (behind timed_sent (record { chats = λ q. cond (option_map_or (λ t. tuple_eq t q) ends false) None (lookup (tuple_eq q) (staying now sv)); sent = [] }))
        (record { chats = chats_of (on_time now sv).server; sent = (on_time now sv).sent })
    last = λ j. record { chats = λ q. sym (look_shed sv.setting sv.turned (staying now sv) q (staying_once now sv table)) j; sent = append-nil timed_sent j }
