-- Who leaves for others does so rightly, and one does where an address keeps others out.
use Rattle.std.proofs.Common.{◌≡◌, ◌≢◌, ℕ, zero, suc, ◌+◌, ◌*◌, ◌<◌, ◌≤◌, ◌⊎◌, inl, inr, Bool, true, false, cond, not, ◌&&◌, ◌||◌, ◌==◌, nat_le, nat_lt, Option, None, Some, [], ◌∷◌, length, slice_get, get_or, is_some, unwrap_or, true≢false, refl, sym, ap, subst, ◌∙◌, add-one, arith}
use Rattle.std.specs.List.{list_all}
use Rattle.std.specs.Map.{lookup}
use Rattle.std.specs.Option.{option_map_or}
use Rattle.std.proofs.lemmas.Bool.Decides.{nat_tests}
use Rattle.std.proofs.lemmas.List.Sums.{AllPass-from_list_all}
use Rattle.std.proofs.lemmas.Map.Entries.{lookup_from_place, place_from_lookup}
use Rattle.std.proofs.lemmas.Option.{get_or_from_slice_get, slice_get-get_or, slice_get_within}
use Rattle.sq_base.specs.declared.kinds.Tuple.{Tuple}
use Rattle.live_server.specs.Isolation.{IsTable, staying}
use Rattle.live_server.specs.Leaving.{blamed, is_crowding, keeps_out, most_blamed, share, shed_place, without_shed}
use Rattle.live_server.specs.Promises.{IsFair, IsShed, OneIsShed, PlaceIsFreed, ShedIsFair}
use Rattle.live_server.specs.Serving.{ServerOf, on_time}
use Rattle.live_server.specs.Table.{Conns, tuple_eq}
use Rattle.live_server.specs.declared.conn.Conn.{Conn}
use Rattle.live_server.specs.declared.crowding.TurnedAway.{TurnedAway}
use Rattle.live_server.proofs.CrowdingLemmas.{Earliest, any_entry, blame_at_most, blame_some, earliest_is, earliest_next, most_is_one, shared_more}
use Rattle.live_server.proofs.ShedLemmas.{IsNotShed, IsShedAt, look_shed, shed_or_not, shed_short}
use Rattle.live_server.proofs.TableLemmas.{length_without, same, tuple_equivalence}
use Rattle.live_server.proofs.TickLemmas.{staying_bounded, staying_once}

both : (v w : Bool) → (v && w) ≡ true → (v ≡ true) × (w ≡ true)
both true w e = (refl, e)
both false w e = absurd (true≢false (sym e))

abbrev heard_of : Tuple × Conn → ℕ
heard_of c = c.1.heard

-- which one that is
shed_one : (now : ℕ) (sv : ServerOf) (q : Tuple) → IsTable sv → IsShed now sv q → (o : IsShedAt sv.setting sv.turned (staying now sv)) × (o.entry.0 ≡ q)
unfolding on_time
shed_one now sv q table shed = by (shed_or_not sv.setting sv.turned (staying now sv))
  where
    cs : Conns
    cs = staying now sv

    by : IsNotShed sv.setting sv.turned (staying now sv) ⊎ IsShedAt sv.setting sv.turned (staying now sv)
        → (o : IsShedAt sv.setting sv.turned (staying now sv)) × (o.entry.0 ≡ q)
    by (inl all) = absurd (shed.stayed (ap (lookup (tuple_eq q)) (sym all.left) ∙ shed.gone))
    by (inr one) = (one, its (tuple_eq one.entry.0 q) refl)
      where
        look : lookup (tuple_eq q) (without_shed sv.setting sv.turned (staying now sv)) ≡ cond (tuple_eq one.entry.0 q) None (lookup (tuple_eq q) (staying now sv))
        look = look_shed sv.setting sv.turned (staying now sv) q (staying_once now sv table) ∙ ap (λ o. cond (option_map_or (λ t. tuple_eq t q) o false) None (lookup (tuple_eq q) (staying now sv))) one.ends

        its : (b : Bool) → tuple_eq one.entry.0 q ≡ b → one.entry.0 ≡ q
        its true e = same one.entry.0 q e
        its false e = absurd (shed.stayed (sym (look ∙ ap (λ b. cond b None (lookup (tuple_eq q) (staying now sv))) e) ∙ shed.gone))

pub one_is_shed : OneIsShed
one_is_shed now sv q r table here there =
    let a = shed_one now sv q table here in
    let b = shed_one now sv r table there in
    sym a.1 ∙ ap (λ o. unwrap_or o a.0.entry.0) (sym a.0.ends ∙ b.0.ends) ∙ b.1

module _ (now : ℕ) (sv : ServerOf) (table : IsTable sv) (o : IsShedAt sv.setting sv.turned (staying now sv)) where
  abbrev here : Conns
  here = staying now sv

  abbrev address_of : Tuple × Conn → ℕ
  address_of c = c.0.client.0

  abbrev its_address : ℕ
  its_address = o.entry.0.client.0

  passes : (is_crowding sv.turned here o.entry ≡ true) × (list_all (λ d. not (is_crowding sv.turned here d) || nat_le (heard_of o.entry) (heard_of d)) here ≡ true)
  passes = both (is_crowding sv.turned here o.entry) (list_all (λ d. not (is_crowding sv.turned here d) || nat_le (heard_of o.entry) (heard_of d)) here) o.passes

  crowds : (nat_lt (length here) (4 * blamed sv.turned here its_address) ≡ true) × (nat_le (most_blamed sv.turned here here) (blamed sv.turned here its_address) ≡ true)
  crowds = both (nat_lt (length here) (4 * blamed sv.turned here its_address)) (nat_le (most_blamed sv.turned here here) (blamed sv.turned here its_address)) passes.0

  large : length here < 4 * blamed sv.turned here its_address
  large = let e = crowds.0 in grind (arith, nat_tests)

  greatest : most_blamed sv.turned here here ≤ blamed sv.turned here its_address
  greatest = let e = crowds.1 in grind (arith, nat_tests)

  is_full : length here ≡ sv.setting.places
  is_full = omega (arith, o.full, staying_bounded now sv table)

  out : keeps_out sv.turned its_address ≡ true
  out = by (keeps_out sv.turned its_address) refl
    where
      by : (b : Bool) → keeps_out sv.turned its_address ≡ b → b ≡ true
      by true e = refl
      by false e = absurd (omega (arith, large, ap {B = ℕ} (λ b. cond b (share its_address here) 0) e))

  most_of : (address : ℕ) → keeps_out sv.turned address ≡ true → share address here ≤ share its_address here
  most_of address keeps =
      let all : blamed sv.turned here address ≡ share address here = ap {B = ℕ} (λ b. cond b (share address here) 0) keeps in
      omega (arith, all, blame_at_most sv.turned here address, greatest, blame_some sv.turned here its_address)

  earlier : (b v : Bool) (m n : ℕ) → b ≡ true → (not b || nat_le m n) ≡ true → m ≤ n
  earlier true v m n is test = grind (arith, nat_tests)
  earlier false v m n is test = absurd (true≢false (sym is))

  silent_of : (r : Tuple) (c d : Conn) → lookup (tuple_eq o.entry.0) here ≡ Some c → lookup (tuple_eq r) here ≡ Some d → r.client.0 ≡ its_address → c.heard ≤ d.heard
  silent_of r c d own other address =
      let there = place_from_lookup (tuple_eq r) here d other in
      let i = there.0 in
      let k = there.1 in
      let at : slice_get here i ≡ Some (k, d) = there.2 in
      let ends : r ≡ k = same r k there.3 in
      let mine : c ≡ o.entry.1 = ap (λ x. unwrap_or x c) (sym own ∙ lookup_from_place tuple_equivalence here o.place o.entry.0 o.entry.1 (staying_once now sv table) o.at) in
      let read : get_or here i (k, d) ≡ (k, d) = get_or_from_slice_get here i (k, d) (k, d) at in
      let test : (not (is_crowding sv.turned here (k, d)) || nat_le (heard_of o.entry) d.heard) ≡ true =
      ap (λ (e : Tuple × Conn). not (is_crowding sv.turned here e) || nat_le (heard_of o.entry) (heard_of e)) (sym read)
      ∙ AllPass-from_list_all (λ e. not (is_crowding sv.turned here e) || nat_le (heard_of o.entry) (heard_of e)) here passes.1 i (k, d) (slice_get_within here i (k, d) at) in
      let crowding : is_crowding sv.turned here (k, d) ≡ true =
      ap (λ a. nat_lt (length here) (4 * blamed sv.turned here a) && nat_le (most_blamed sv.turned here here) (blamed sv.turned here a)) (ap (λ (t : Tuple). t.client.0) (sym ends) ∙ address) ∙ passes.0 in
      let le = earlier (is_crowding sv.turned here (k, d)) true (heard_of o.entry) d.heard crowding test in
      omega (arith, le, ap (λ (x : Conn). x.heard) mine)

  fair_entry : IsFair now sv o.entry.0
  fair_entry = record {
    full = is_full;
    quarter = omega (arith, large, blame_some sv.turned here its_address, is_full);
    kept_out = out;
    most = most_of;
    silent = silent_of;
  }

pub shed_is_fair : ShedIsFair
shed_is_fair now sv q table shed =
    let one = shed_one now sv q table shed in
    subst (IsFair now sv) one.1 (fair_entry now sv table one.0)

-- ---- one leaves where an address keeps others out
module _ (w : TurnedAway) (cs : Conns) where
  search_all : (i : ℕ) → i ≤ length cs → (found : Option (ℕ × ℕ)) × Earliest (is_crowding w cs) heard_of cs i found
  search_all zero within = (None, λ k d lt. absurd (omega (arith, lt)))
  search_all (suc i) within =
      let before = search_all i (omega (arith, within)) in
      let at = slice_get-get_or cs i any_entry (omega (arith, within)) in
      let c = get_or cs i any_entry in
      let found : Option (ℕ × ℕ) = cond (is_crowding w cs c && option_map_or (λ b. nat_lt (heard_of c) b.1) before.0 true) (Some (i, heard_of c)) before.0 in
      (found, subst (λ n. Earliest (is_crowding w cs) heard_of cs n found) (add-one i) (earliest_next (is_crowding w cs) heard_of cs i before.0 c at before.1))

  shared_by : (a : ℕ) (es : Conns) → 0 < share a es → (i : ℕ) × (i < length es) × ((get_or es i any_entry).0.client.0 ≡ a)
  shared_by a [] some = absurd (omega (arith, some))
  shared_by a (c ∷ es) some = by (c.0.client.0 == a) refl (shared_more w cs a c es) (shared_by a es)
    where
      by : (b : Bool) → (c.0.client.0 == a) ≡ b → share a (c ∷ es) ≡ cond b 1 0 + share a es
          → (0 < share a es → (i : ℕ) × (i < length es) × ((get_or es i any_entry).0.client.0 ≡ a)) → (i : ℕ) × (i < length (c ∷ es)) × ((get_or (c ∷ es) i any_entry).0.client.0 ≡ a)
      by true is more others = (zero, omega arith, grind (arith, nat_tests))
      by false is more others = let later = others (omega (arith, some, more)) in (suc later.0, omega (arith, later.1), later.2)

  crowding_one : (a : ℕ) → keeps_out w a ≡ true → length cs < 4 * share a cs → (i : ℕ) × (i < length cs) × (is_crowding w cs (get_or cs i any_entry) ≡ true)
  crowding_one a keeps many = by (most_is_one w cs cs)
    where
      all : blamed w cs a ≡ share a cs
      all = ap {B = ℕ} (λ b. cond b (share a cs) 0) keeps

      by : (most_blamed w cs cs ≡ 0) ⊎ ((b : ℕ) × (most_blamed w cs cs ≡ blamed w cs b)) → (i : ℕ) × (i < length cs) × (is_crowding w cs (get_or cs i any_entry) ≡ true)
      by (inl none) = absurd (omega (arith, many, all, blame_at_most w cs a, none))
      by (inr its) =
          let b = its.0 in
          let more : length cs < 4 * blamed w cs b = omega (arith, many, all, blame_at_most w cs a, its.1) in
          let there = shared_by b cs (omega (arith, more, blame_some w cs b)) in
          let first : nat_lt (length cs) (4 * blamed w cs b) ≡ true = grind (arith, nat_tests) in
          let second : nat_le (most_blamed w cs cs) (blamed w cs b) ≡ true = (let is = its.1 in grind (arith, nat_tests)) in
          let tests : (nat_lt (length cs) (4 * blamed w cs b) && nat_le (most_blamed w cs cs) (blamed w cs b)) ≡ true = ap (λ v. v && nat_le (most_blamed w cs cs) (blamed w cs b)) first ∙ second in (
            there.0,
            there.1,
            ap (λ x. nat_lt (length cs) (4 * blamed w cs x) && nat_le (most_blamed w cs cs) (blamed w cs x)) there.2 ∙ tests,
          )

  somebody_leaves : (a : ℕ) → keeps_out w a ≡ true → length cs < 4 * share a cs → shed_place w cs ≢ None
  somebody_leaves a keeps many = by (search_all (length cs) (omega arith))
    where
      by : (found : Option (ℕ × ℕ)) × Earliest (is_crowding w cs) heard_of cs (length cs) found → shed_place w cs ≢ None
      by (None, none) none_leaves = let one = crowding_one a keeps many in true≢false (sym one.2 ∙ none one.0 any_entry one.1)
      by (Some found, its) none_leaves = true≢false (ap is_some (earliest_is (is_crowding w cs) heard_of cs (length cs) (Some found) any_entry refl its ∙ none_leaves))

pub place_is_freed : PlaceIsFreed
unfolding on_time
place_is_freed now address sv table keeps many = by (shed_or_not sv.setting sv.turned (staying now sv)) (nat_lt (length (staying now sv)) sv.setting.places) refl
  where
    by : IsNotShed sv.setting sv.turned (staying now sv) ⊎ IsShedAt sv.setting sv.turned (staying now sv)
        → (b : Bool) → nat_lt (length (staying now sv)) sv.setting.places ≡ b
        → length (without_shed sv.setting sv.turned (staying now sv)) < sv.setting.places
    by (inr one) b e = omega (arith, ap (λ (l : Conns). length l) one.left, length_without (staying now sv) one.place one.within, staying_bounded now sv table)
    by (inl all) true e = let room : length (staying now sv) < sv.setting.places = grind (arith, nat_tests) in omega (arith, room, shed_short sv.setting sv.turned (staying now sv))
    by (inl all) false e =
        let full : sv.setting.places ≤ length (staying now sv) = grind (arith, nat_tests) in
        absurd (somebody_leaves sv.turned (staying now sv) address keeps (omega (arith, many, staying_bounded now sv table)) (all.none full))
