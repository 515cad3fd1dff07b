-- Urgent data: whom it is told, and what it changes.
use Rattle.std.proofs.Common.{◌≡◌, ℕ, ◌+◌, ◌<◌, ◌≤◌, nat_le, nat_lt, ◌&&◌, Bool, true, false, cond, List, [], inl, length, Option, None, Some, refl, sym, ap, subst, ◌∙◌, arith, true≢false}
use Rattle.std.specs.Map.{lookup}
use Rattle.std.specs.Option.{option_map_or}
use Rattle.std.proofs.lemmas.Bool.Decides.{nat_tests}
use Rattle.segment_codec.specs.Places.{word}
use Rattle.segment_codec.specs.Refusal.{tuple_of}
use Rattle.segment_codec.specs.declared.packet.Seg.{Seg}
use Rattle.sq_base.specs.declared.kinds.Tuple.{Tuple}
use Rattle.live_server.specs.Acts.{after, allowed, bared, challenged, is_allowed, judged, repaired, taken}
use Rattle.live_server.specs.Counting.{more}
use Rattle.live_server.specs.Isolation.{IsTable, KeepsRest, Loses, Stays, UrgentIsItsOwn, conn_of, kept_as}
use Rattle.live_server.specs.Promises.{Advances, SegmentRaisesNone, TimeRaisesNone, UnflaggedSaysNothing, UrgentAdvances}
use Rattle.live_server.specs.Serving.{Outcome, ServerOf, becomes, counting_urgent, sends_nothing, urges_at, urges_own}
use Rattle.live_server.specs.Table.{Conns, conn_at, place_of, tuple_eq}
use Rattle.live_server.specs.Urgent.{ahead_by, is_news, is_urging, tcp_at, urged, urgent_in, urges}
use Rattle.live_server.specs.declared.conn.Conn.{Conn}
use Rattle.live_server.specs.declared.conn.Judged.{Judged}
use Rattle.live_server.specs.declared.conn.Judged.TheVariants.{Challenged, Late, Taken, Unanswered}
use Rattle.live_server.specs.declared.conn.Met.{Met}
use Rattle.live_server.specs.declared.conn.Met.TheVariants.{Gone, Judged as judges}
use Rattle.live_server.proofs.LawLemmas.{become_look, become_table, chosen, lost_after, placed_at}
use Rattle.live_server.proofs.TableLemmas.{tuple_equivalence}

-- ---- the table
module _ (now p : ℕ) (s : Seg) (sv : ServerOf) where
  own_by : (r : Option ℕ) → place_of (tuple_of s) sv.conns ≡ r → urges_own now (Some p) s sv ≡ option_map_or (λ i. urges_at now p s i sv) r (sends_nothing sv)
  unfolding urges_own
  own_by r at = ap (λ (o : Option ℕ). option_map_or (λ i. urges_at now p s i sv) o (sends_nothing sv)) at

  counted_conns : (m : Met) → (counting_urgent m sv).conns ≡ sv.conns
  counted_conns Gone = refl
  counted_conns (judges j) = refl

  module _ (table : IsTable sv) where
    counted_table : (m : Met) → IsTable (counting_urgent m sv)
    counted_table Gone = table
    counted_table (judges j) = record { once = table.once; bounded = table.bounded }

    module _ (i : ℕ) (at : place_of (tuple_of s) sv.conns ≡ Some i) where
      abbrev its : Conn
      its = urged now p s (conn_at i sv.conns)

      abbrev met : Met
      met = (urges now p s (tuple_of s) (conn_at i sv.conns)).met

      still_at : place_of (tuple_of s) (counting_urgent met sv).conns ≡ Some i
      still_at = ap (place_of (tuple_of s)) (counted_conns met) ∙ at

      at_table : IsTable (urges_at now p s i sv).server
      unfolding urges_at
      at_table = become_table i (tuple_of s) its (counting_urgent met sv) still_at (counted_table met)

      at_look : (q : Tuple) → conn_of q (urges_at now p s i sv).server ≡ cond (tuple_eq (tuple_of s) q) (kept_as its) (conn_of q sv)
      unfolding urges_at
      at_look q =
          become_look i (tuple_of s) its (counting_urgent met sv) still_at (counted_table met) q
          ∙ ap (λ (l : Conns). cond (tuple_eq (tuple_of s) q) (kept_as its) (lookup (tuple_eq q) l)) (counted_conns met)

    own_table : (r : Option ℕ) → place_of (tuple_of s) sv.conns ≡ r → IsTable (urges_own now (Some p) s sv).server
    own_table None at = subst (λ (o : Outcome). IsTable o.server) (sym (own_by None at)) table
    own_table (Some i) at = subst (λ (o : Outcome). IsTable o.server) (sym (own_by (Some i) at)) (at_table i at)

    own_others : (q : Tuple) → tuple_eq (tuple_of s) q ≡ false → (r : Option ℕ) → place_of (tuple_of s) sv.conns ≡ r
        → conn_of q (urges_own now (Some p) s sv).server ≡ conn_of q sv
    own_others q apart None at = ap (λ (o : Outcome). conn_of q o.server) (own_by None at)
    own_others q apart (Some i) at =
        ap (λ (o : Outcome). conn_of q o.server) (own_by (Some i) at) ∙ at_look i at q ∙ chosen false (tuple_eq (tuple_of s) q) _ _ apart

    own_told : (c : Conn) → conn_of (tuple_of s) sv ≡ Some c → conn_of (tuple_of s) (urges_own now (Some p) s sv).server ≡ kept_as (urged now p s c)
    own_told c look =
        let here = placed_at (tuple_of s) sv.conns c look (place_of (tuple_of s) sv.conns) refl in
        ap (λ (o : Outcome). conn_of (tuple_of s) o.server) (own_by (Some here.0) here.1)
        ∙ at_look here.0 here.1 (tuple_of s)
        ∙ chosen true (tuple_eq (tuple_of s) (tuple_of s)) _ _ (tuple_equivalence.refl (tuple_of s))
        ∙ ap (λ (d : Conn). kept_as (urged now p s d)) here.2

    counted_so : (b : Bool) → (counting_urgent (cond b (judges Taken) Gone) sv).counts ≡ cond b (record sv.counts { urgent = more 1 sv.counts.urgent }) sv.counts
    counted_so true = refl
    counted_so false = refl

    at_counts : (i : ℕ) → (urges_at now p s i sv).server.counts ≡ (counting_urgent (urges now p s (tuple_of s) (conn_at i sv.conns)).met sv).counts
    unfolding urges_at becomes
    at_counts i = refl

    own_counts : (c : Conn) → conn_of (tuple_of s) sv ≡ Some c
        → (urges_own now (Some p) s sv).server.counts ≡ cond (is_news now p s c) (record sv.counts { urgent = more 1 sv.counts.urgent }) sv.counts
    own_counts c look =
        let here = placed_at (tuple_of s) sv.conns c look (place_of (tuple_of s) sv.conns) refl in
        ap (λ (o : Outcome). o.server.counts) (own_by (Some here.0) here.1)
        ∙ at_counts here.0
        ∙ counted_so (is_news now p s (conn_at here.0 sv.conns))
        ∙ ap (λ (d : Conn). cond (is_news now p s d) (record sv.counts { urgent = more 1 sv.counts.urgent }) sv.counts) here.2

pub urgent_own : UrgentIsItsOwn
urgent_own now p s sv table = record {
  table = own_table now p s sv table (place_of (tuple_of s) sv.conns) refl;
  own = own_told now p s sv table;
  others = λ q apart. own_others now p s sv table q apart (place_of (tuple_of s) sv.conns) refl;
  counts = own_counts now p s sv table;
}

-- ---- where memory was missing behind it
urging_step : (now : ℕ) (pointer : Option ℕ) (s : Seg) (sv : ServerOf) → IsTable sv
    → IsTable (urges_own now pointer s sv).server × ((q : Tuple) → tuple_eq (tuple_of s) q ≡ false → Stays q sv (urges_own now pointer s sv).server)
unfolding urges_own
urging_step now None s sv table = (table, λ q apart. inl refl)
urging_step now (Some p) s sv table =
    let h = urgent_own now p s sv table in
    (h.table, λ q apart. inl (h.others q apart))

pub lost_urged : (now : ℕ) (pointer : Option ℕ) (s : Seg) (sv b c : ServerOf) → b ≡ (urges_own now pointer s sv).server → Loses (tuple_of s) b c → Loses (tuple_of s) sv c
lost_urged now pointer s sv b c is loss =
    lost_after (tuple_of s) sv b c (λ table. subst (λ (x : ServerOf). IsTable x × ((q : Tuple) → tuple_eq (tuple_of s) q ≡ false → Stays q sv x)) (sym is)
    (urging_step now pointer s sv table)) loss

pub urged_rest : (now : ℕ) (pointer : Option ℕ) (s : Seg) (sv : ServerOf) → KeepsRest 0 sv (urges_own now pointer s sv).server
unfolding urges_own urges_at becomes
urged_rest now None s sv = (refl, omega arith, omega arith)
urged_rest now (Some p) s sv = by (place_of (tuple_of s) sv.conns)
  where
    counted : (i : ℕ) (c : Conn) (m : Met) → KeepsRest 0 sv (becomes i (tuple_of s) c (counting_urgent m sv)).server
    counted i c Gone = (refl, omega arith, omega arith)
    counted i c (judges j) = (refl, omega arith, omega arith)

    by : (r : Option ℕ) → KeepsRest 0 sv (option_map_or (λ place. urges_at now p s place sv) r (sends_nothing sv)).server
    by None = (refl, omega arith, omega arith)
    by (Some i) = counted i (urged now p s (conn_at i sv.conns)) (urges now p s (tuple_of s) (conn_at i sv.conns)).met

-- ---- one connection
urged_by : (now p : ℕ) (s : Seg) (c : Conn) (b : Bool) → is_news now p s c ≡ b → urged now p s c ≡ cond b (record c { urgent = ahead_by p s c.tcb }) c
unfolding urged
urged_by now p s c b e = ap (λ (v : Bool). cond v (record c { urgent = ahead_by p s c.tcb }) c) e

news_beyond : (now p : ℕ) (s : Seg) (c : Conn) → is_news now p s c ≡ true → c.urgent < ahead_by p s c.tcb
unfolding is_news
news_beyond now p s c e = grind (arith, nat_tests, second (is_urging now s c.tcb) (nat_lt c.urgent (ahead_by p s c.tcb)) e)
  where
    second : (a b : Bool) → a && b ≡ true → b ≡ true
    second true b h = h
    second false b h = absurd (true≢false (sym h))

pub urgent_advances : UrgentAdvances
urgent_advances now p s c = by (is_news now p s c) refl
  where
    by : (b : Bool) → is_news now p s c ≡ b → Advances now p s c
    by true e =
        let is = urged_by now p s c true e in
        record {
          rest = is ∙ ap (λ (d : Conn). record c { urgent = d.urgent }) (sym is);
          more = omega (arith, ap (λ (d : Conn). d.urgent) is, news_beyond now p s c e);
          least = λ news. omega (arith, ap (λ (d : Conn). d.urgent) is);
        }
    by false e =
        let is = urged_by now p s c false e in
        record {
          rest = is ∙ ap (λ (d : Conn). record c { urgent = d.urgent }) (sym is);
          more = omega (arith, ap (λ (d : Conn). d.urgent) is);
          least = λ news. absurd (true≢false (sym news ∙ e));
        }

taken_less : (now iss : ℕ) (s : Seg) (text : List ℕ) (c : Conn) → (taken now iss s text c).urgent ≤ c.urgent
unfolding taken repaired
taken_less now iss s text c = omega arith

allowed_less : (now iss : ℕ) (s : Seg) (c : Conn) → (allowed now iss s c).urgent ≤ c.urgent
unfolding allowed
allowed_less now iss s c = by (is_allowed s c.tcb)
  where
    by : (b : Bool) → (cond b (taken now iss (bared s c.tcb) [] c) c).urgent ≤ c.urgent
    by true = taken_less now iss (bared s c.tcb) [] c
    by false = omega arith

pub segment_raises : SegmentRaisesNone
unfolding after challenged
segment_raises now iss s text c = by (judged now s text c)
  where
    by : (j : Judged) → (after j now iss s text c).urgent ≤ c.urgent
    by Taken = taken_less now iss s text c
    by Challenged = allowed_less now iss s c
    by Unanswered = allowed_less now iss s c
    by Late = omega arith

pub time_raises : TimeRaisesNone
time_raises measures now c = refl

pub unflagged_nothing : UnflaggedSaysNothing
unfolding urgent_in
unflagged_nothing s ip e = ap (λ (b : Bool). cond (b && nat_le (tcp_at ip + 20) (length ip)) (Some (word ip (tcp_at ip + 18))) None) e
