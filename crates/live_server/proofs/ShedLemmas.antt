-- The one that leaves a full table for others.
use Rattle.std.proofs.Common.{◌≡◌, ℕ, zero, suc, ◌<◌, ◌≤◌, ◌⊎◌, inl, inr, Bool, true, false, cond, ◌&&◌, nat_le, nat_lt, Option, None, Some, [], ◌∷◌, length, slice_get, get_or, is_some, unwrap_or, true≢false, refl, sym, ap, subst, ◌∙◌, arith}
use Rattle.std.specs.Prelude.{option_and_then}
use Rattle.std.specs.List.{AllByRecursion, IsDistinct}
use Rattle.std.specs.Map.{keys_of, lookup}
use Rattle.std.specs.Option.{option_map, option_map_or}
use Rattle.std.proofs.lemmas.Bool.Decides.{nat_tests}
use Rattle.std.proofs.lemmas.List.Quantifiers.{position-Some}
use Rattle.std.proofs.lemmas.Map.Keys.{IsDistinct-head, IsDistinct-tail}
use Rattle.std.proofs.lemmas.Option.{slice_get-get_or}
use Rattle.std_collections.proofs.HashLookup.{IsFirst}
use Rattle.sq_base.specs.declared.kinds.Tuple.{Tuple}
use Rattle.live_server.specs.Leaving.{is_crowding, most_blamed, shed_ends, shed_place, without_shed}
use Rattle.live_server.specs.Table.{Conns, tuple_eq, without}
use Rattle.live_server.specs.declared.conn.Conn.{Conn}
use Rattle.live_server.specs.declared.crowding.TurnedAway.{TurnedAway}
use Rattle.live_server.specs.declared.crowding.TurnedAway.TheVariants.{Nobody}
use Rattle.live_server.specs.declared.setting.Setting.{Setting}
use Rattle.live_server.proofs.CrowdingLemmas.{any_entry, earliest_is, is_least_of}
use Rattle.live_server.proofs.TableLemmas.{distinct_without, length_without, look_without, same, tuple_equivalence}

-- the first entry of an end is its only one
apart_at : (k t : Tuple) (cs : Conns) (i : ℕ) (v : Conn) → AllByRecursion (λ y. tuple_eq k y ≡ false) (keys_of cs) → slice_get cs i ≡ Some (t, v) → tuple_eq k t ≡ false
apart_at k t [] i v apart at = absurd (true≢false (sym (ap is_some at)))
apart_at k t (c ∷ cs) zero v apart at = ap (λ (o : Option (Tuple × Conn)). tuple_eq k (unwrap_or o (t, v)).0) (sym at) ∙ apart.0
apart_at k t (c ∷ cs) (suc i) v apart at = apart_at k t cs i v apart.1 at

pub first_of : (t : Tuple) (cs : Conns) (i : ℕ) (v : Conn) → IsDistinct tuple_eq (keys_of cs) → slice_get cs i ≡ Some (t, v) → IsFirst (tuple_eq t) cs i
first_of t [] i v once at = absurd (true≢false (sym (ap is_some at)))
first_of t (c ∷ cs) zero v once at = ap (λ (o : Option (Tuple × Conn)). tuple_eq t (unwrap_or o (t, v)).0) at ∙ tuple_equivalence.refl t
first_of t (c ∷ cs) (suc i) v once at = (
  turned (tuple_eq t c.0) refl (apart_at c.0 t cs i v (IsDistinct-head tuple_eq c.0 (keys_of cs) once) at),
  first_of t cs i v (IsDistinct-tail tuple_eq c.0 (keys_of cs) once) at,
)
  where
    turned : (b : Bool) → tuple_eq t c.0 ≡ b → tuple_eq c.0 t ≡ false → tuple_eq t c.0 ≡ false
    turned true e apart = absurd (true≢false (sym (tuple_equivalence.refl c.0) ∙ ap (λ q. tuple_eq c.0 q) (sym (same t c.0 e)) ∙ apart))
    turned false e apart = e

module _ (g : Setting) (w : TurnedAway) (cs : Conns) where
  pub record IsNotShed : Type 0 where
    pub left : without_shed g w cs ≡ cs
    pub ends : shed_ends g w cs ≡ None
    pub none : g.places ≤ length cs → shed_place w cs ≡ None

  pub record IsShedAt : Type 0 where
    pub place : ℕ
    pub entry : Tuple × Conn
    pub is_place : shed_place w cs ≡ Some place
    pub within : place < length cs
    pub at : slice_get cs place ≡ Some entry
    pub passes : is_least_of (is_crowding w cs) (λ (c : Tuple × Conn). c.1.heard) cs entry ≡ true
    pub full : g.places ≤ length cs
    pub left : without_shed g w cs ≡ without place cs
    pub ends : shed_ends g w cs ≡ Some entry.0

  abbrev ends_of : ℕ → Option Tuple
  ends_of place = option_map (λ (c : Tuple × Conn). c.0) (slice_get cs place)

  shed_left : (b : Bool) (r : Option ℕ) → nat_le g.places (length cs) ≡ b → shed_place w cs ≡ r → without_shed g w cs ≡ cond b (option_map_or (λ place. without place cs) r cs) cs
  unfolding without_shed
  shed_left b r is at = λ j. cond (is j) (option_map_or (λ place. without place cs) (at j) cs) cs

  shed_told : (b : Bool) (r : Option ℕ) → nat_le g.places (length cs) ≡ b → shed_place w cs ≡ r → shed_ends g w cs ≡ cond b (option_and_then ends_of r) None
  shed_told b r is at = λ j. cond (is j) (option_and_then ends_of (at j)) None

  pub shed_or_not : IsNotShed ⊎ IsShedAt
  shed_or_not = by (nat_le g.places (length cs)) (shed_place w cs) refl refl
    where
      by : (b : Bool) (r : Option ℕ) → nat_le g.places (length cs) ≡ b → shed_place w cs ≡ r → IsNotShed ⊎ IsShedAt
      by false r is at = inl (record { left = shed_left false r is at; ends = shed_told false r is at; none = λ full. absurd (grind (arith, nat_tests)) })
      by true None is at = inl (record { left = shed_left true None is at; ends = shed_told true None is at; none = λ _. at })
      by true (Some i) is at =
          let found = position-Some (is_least_of (is_crowding w cs) (λ (c : Tuple × Conn). c.1.heard) cs) cs i any_entry at in
          let entry = slice_get-get_or cs i any_entry found.0 in
          inr (record {
            place = i;
            entry = get_or cs i any_entry;
            is_place = at;
            within = found.0;
            at = entry;
            passes = found.1;
            full = grind (arith, nat_tests);
            left = shed_left true (Some i) is at;
            ends = shed_told true (Some i) is at ∙ ap (option_map (λ (c : Tuple × Conn). c.0)) entry;
          })

  pub shed_once : IsDistinct tuple_eq (keys_of cs) → IsDistinct tuple_eq (keys_of (without_shed g w cs))
  shed_once once = by shed_or_not
    where
      by : IsNotShed ⊎ IsShedAt → IsDistinct tuple_eq (keys_of (without_shed g w cs))
      by (inl all) = subst (λ (l : Conns). IsDistinct tuple_eq (keys_of l)) (sym all.left) once
      by (inr one) = subst (λ (l : Conns). IsDistinct tuple_eq (keys_of l)) (sym one.left) (distinct_without cs one.place one.within once)

  pub shed_short : length (without_shed g w cs) ≤ length cs
  shed_short = by shed_or_not
    where
      by : IsNotShed ⊎ IsShedAt → length (without_shed g w cs) ≤ length cs
      by (inl all) = omega (arith, ap (λ (l : Conns). length l) all.left)
      by (inr one) = omega (arith, ap (λ (l : Conns). length l) one.left, length_without cs one.place one.within)

  -- each other one stays
  pub look_shed : (q : Tuple) → IsDistinct tuple_eq (keys_of cs)
      → lookup (tuple_eq q) (without_shed g w cs) ≡ cond (option_map_or (λ t. tuple_eq t q) (shed_ends g w cs) false) None (lookup (tuple_eq q) cs)
  look_shed q once = by shed_or_not
    where
      by : IsNotShed ⊎ IsShedAt
          → lookup (tuple_eq q) (without_shed g w cs) ≡ cond (option_map_or (λ t. tuple_eq t q) (shed_ends g w cs) false) None (lookup (tuple_eq q) cs)
      by (inl all) = ap (lookup (tuple_eq q)) all.left ∙ ap (λ o. cond (option_map_or (λ t. tuple_eq t q) o false) None (lookup (tuple_eq q) cs)) (sym all.ends)
      by (inr one) =
          ap (lookup (tuple_eq q)) one.left
          ∙ look_without cs one.place one.entry.0 (first_of one.entry.0 cs one.place one.entry.1 once one.at) one.within once q
          ∙ ap (λ o. cond (option_map_or (λ t. tuple_eq t q) o false) None (lookup (tuple_eq q) cs)) (sym one.ends)

-- where nobody was turned away, nobody leaves
nobody_crowds : (cs : Conns) (c : Tuple × Conn) → is_crowding Nobody cs c ≡ false
nobody_crowds cs c = let none : nat_lt (length cs) 0 ≡ false = grind (arith, nat_tests) in ap (λ b. b && nat_le (most_blamed Nobody cs cs) 0) none

pub not_for_nobody : (g : Setting) (w : TurnedAway) (cs : Conns) → w ≡ Nobody → without_shed g w cs ≡ cs
not_for_nobody g w cs is = ap (λ v. without_shed g v cs) is ∙ by (nat_le g.places (length cs)) refl
  where
    none : shed_place Nobody cs ≡ None
    none = sym (earliest_is (is_crowding Nobody cs) (λ (c : Tuple × Conn). c.1.heard) cs (length cs) None any_entry refl (λ k d lt. nobody_crowds cs (get_or cs k d)))

    by : (b : Bool) → nat_le g.places (length cs) ≡ b → without_shed g Nobody cs ≡ cs
    by true e = shed_left g Nobody cs true None e none
    by false e = shed_left g Nobody cs false None e none

-- nor from a table with room
pub not_with_room : (g : Setting) (w : TurnedAway) (cs : Conns) → length cs < g.places → without_shed g w cs ≡ cs
not_with_room g w cs room = let free : nat_le g.places (length cs) ≡ false = grind (arith, nat_tests) in shed_left g w cs false (shed_place w cs) free refl

-- else the one at its place
pub shed_from_full : (g : Setting) (w : TurnedAway) (cs : Conns) (r : Option ℕ) → g.places ≤ length cs → r ≡ shed_place w cs → without_shed g w cs ≡ option_map_or (λ place. without place cs) r cs
shed_from_full g w cs r full is = let e : nat_le g.places (length cs) ≡ true = grind (arith, nat_tests) in shed_left g w cs true r e (sym is)
