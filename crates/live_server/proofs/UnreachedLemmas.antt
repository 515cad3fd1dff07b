-- A router's message that a segment didn't arrive ends no open connection.
use Rattle.std.proofs.Common.{◌≡◌, ℕ, ◌<◌, length, inl, inr, Bool, true, false, cond, not, Option, None, Some, IfSome, refl, sym, ap, subst, ◌∙◌, arith, true≢false}
use Rattle.std.specs.Map.{lookup}
use Rattle.std.specs.Option.{option_map_or}
use Rattle.std.proofs.lemmas.Option.{same_Some}
use Rattle.icmp_codec.specs.declared.unreachable.Cause.{Cause}
use Rattle.icmp_codec.specs.declared.unreachable.Cause.TheVariants.{Away, Parameter, Port, Prohibited, TimeExceeded}
use Rattle.icmp_codec.specs.declared.unreachable.Unreachable.{Unreachable}
use Rattle.sq_base.specs.declared.kinds.Tuple.{Tuple}
use Rattle.live_server.specs.Acts.{is_half_open}
use Rattle.live_server.specs.Addresses.{is_to_us}
use Rattle.live_server.specs.Isolation.{IsTable, ReportIsHarmless, Stays, conn_of}
use Rattle.live_server.specs.Serving.{ServerOf, caused, on_unreachable, passes_over, unreached, unreached_at}
use Rattle.live_server.specs.Table.{conn_at, place_of, tuple_eq, without}
use Rattle.live_server.specs.Unreached.{is_under_way, reported}
use Rattle.live_server.specs.declared.conn.Conn.{Conn}
use Rattle.live_server.specs.declared.unreached.Reported.{Reported}
use Rattle.live_server.specs.declared.unreached.Reported.TheVariants.{HalfOpen, Open, Stray}
use Rattle.live_server.proofs.LawLemmas.{chosen}
use Rattle.live_server.proofs.PlaceLemmas.{conn_looked}
use Rattle.live_server.proofs.TableLemmas.{distinct_without, first_at, length_without, look_without, same, within_at}

-- who leaves is half open
half_by : (a b : Bool) → cond (not a) Stray (cond b HalfOpen Open) ≡ HalfOpen → b ≡ true
half_by true true e = refl
half_by true false e = absurd (cc)
half_by false b e = absurd (cc)

module _ (x : Unreachable) (sv : ServerOf) (table : IsTable sv) where
  counted_table : (cause : Cause) → IsTable (caused cause sv)
  counted_table Away = record { once = table.once; bounded = table.bounded }
  counted_table Port = record { once = table.once; bounded = table.bounded }
  counted_table Prohibited = record { once = table.once; bounded = table.bounded }
  counted_table TimeExceeded = record { once = table.once; bounded = table.bounded }
  counted_table Parameter = record { once = table.once; bounded = table.bounded }

  module _ (i : ℕ) (at : place_of x.ends sv.conns ≡ Some i) where
    lt : i < length sv.conns
    lt = within_at x.ends sv.conns i at

    look : (q : Tuple) → lookup (tuple_eq q) (without i sv.conns) ≡ cond (tuple_eq x.ends q) None (lookup (tuple_eq q) sv.conns)
    look q = look_without sv.conns i x.ends (first_at x.ends sv.conns i at) lt table.once q

    met_table : (r : Reported) → IsTable (unreached r x.cause i sv)
    met_table Stray = record { once = table.once; bounded = table.bounded }
    met_table Open = counted_table x.cause
    met_table HalfOpen = record {
      once = distinct_without sv.conns i lt table.once;
      bounded = omega (arith, length_without sv.conns i lt, table.bounded);
    }

    met_others : (q : Tuple) → tuple_eq x.ends q ≡ false → (r : Reported) → conn_of q (unreached r x.cause i sv) ≡ conn_of q sv
    met_others q apart Stray = refl
    met_others q apart Open = refl
    met_others q apart HalfOpen = look q ∙ chosen false (tuple_eq x.ends q) None _ apart

    left_half : (q : Tuple) → is_half_open (conn_at i sv.conns) ≡ true → (v : Bool) → tuple_eq x.ends q ≡ v → Stays q sv (unreached HalfOpen x.cause i sv)
    left_half q half false e = inl (met_others q e HalfOpen)
    left_half q half true e =
        let own : place_of q sv.conns ≡ Some i = ap (λ t. place_of t sv.conns) (sym (same x.ends q e)) ∙ at in
        inr (look q ∙ chosen true (tuple_eq x.ends q) None _ e, subst (λ o. IfSome o (λ c. is_half_open c ≡ true)) (sym (conn_looked q sv.conns i own)) half)

    met_stays : (q : Tuple) (r : Reported) → reported x.seq (conn_at i sv.conns) ≡ r → Stays q sv (unreached r x.cause i sv)
    met_stays q Stray e = inl refl
    met_stays q Open e = inl refl
    met_stays q HalfOpen e = left_half q (half_by (is_under_way x.seq (conn_at i sv.conns)) (is_half_open (conn_at i sv.conns)) e) (tuple_eq x.ends q) refl

  heard_by : (b : Bool) (r : Option ℕ) → is_to_us sv.setting x.src x.dst ≡ b → place_of x.ends sv.conns ≡ r
      → on_unreachable x sv ≡ cond b (option_map_or (λ i. unreached_at x i sv) r (passes_over sv).server) (passes_over sv).server
  unfolding on_unreachable
  heard_by b r e at = λ j. cond (e j) (option_map_or (λ i. unreached_at x i sv) (at j) (passes_over sv).server) (passes_over sv).server

  -- what holds of each of the outcomes holds of it
  each : (P : ServerOf → Type 0) → P (passes_over sv).server
      → ((i : ℕ) → place_of x.ends sv.conns ≡ Some i → P (unreached (reported x.seq (conn_at i sv.conns)) x.cause i sv)) → P (on_unreachable x sv)
  unfolding unreached_at
  each P none met = by (is_to_us sv.setting x.src x.dst) (place_of x.ends sv.conns) refl refl
    where
      by : (b : Bool) (r : Option ℕ) → is_to_us sv.setting x.src x.dst ≡ b → place_of x.ends sv.conns ≡ r → P (on_unreachable x sv)
      by false r e at = subst P (sym (heard_by false r e at)) none
      by true None e at = subst P (sym (heard_by true None e at)) none
      by true (Some i) e at = subst P (sym (heard_by true (Some i) e at)) (met i at)

  harmless_table : IsTable (on_unreachable x sv)
  harmless_table = each IsTable (record { once = table.once; bounded = table.bounded }) (λ i at. met_table i at (reported x.seq (conn_at i sv.conns)))

  harmless_stays : (q : Tuple) → Stays q sv (on_unreachable x sv)
  harmless_stays q = each (Stays q sv) (inl refl) (λ i at. met_stays i at q (reported x.seq (conn_at i sv.conns)) refl)

  harmless_others : (q : Tuple) → tuple_eq x.ends q ≡ false → conn_of q (on_unreachable x sv) ≡ conn_of q sv
  harmless_others q apart = each (λ s. conn_of q s ≡ conn_of q sv) refl (λ i at. met_others i at q apart (reported x.seq (conn_at i sv.conns)))

  open_of : (q : Tuple) (c : Conn) → conn_of q sv ≡ Some c → is_half_open c ≡ false → Stays q sv (on_unreachable x sv) → conn_of q (on_unreachable x sv) ≡ Some c
  open_of q c here whole (inl stays) = stays ∙ here
  open_of q c here whole (inr left) =
      absurd (true≢false (sym (subst (λ o. IfSome o (λ (d : Conn). is_half_open d ≡ true)) here left.1) ∙ whole))

  stray_of : (c : Conn) → conn_of x.ends sv ≡ Some c → is_under_way x.seq c ≡ false → on_unreachable x sv ≡ (passes_over sv).server
  stray_of c here unsent = each (λ s. s ≡ (passes_over sv).server) refl (λ i at.
      let its : conn_at i sv.conns ≡ c = same_Some _ _ (sym (conn_looked x.ends sv.conns i at) ∙ here) in
      let stray : reported x.seq (conn_at i sv.conns) ≡ Stray =
      ap (λ (d : Conn). reported x.seq d) its ∙ ap (λ (b : Bool). cond (not b) Stray (cond (is_half_open c) HalfOpen Open)) unsent in
      ap (λ (r : Reported). unreached r x.cause i sv) stray)

pub report_harmless : ReportIsHarmless
report_harmless x sv table = record {
  table = harmless_table x sv table;
  kept = λ q c here whole. open_of x sv table q c here whole (harmless_stays x sv table q);
  stays = harmless_stays x sv table;
  others = harmless_others x sv table;
  stray = stray_of x sv table;
}
