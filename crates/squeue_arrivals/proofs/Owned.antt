-- How places are dealt to rings.
use Rattle.std.proofs.Common.{◌≡◌, ◌≢◌, ℕ, ◌+◌, ◌%◌, ◌≤◌, inl, inr, Some, List, [], ◌∷◌, ◌++◌, length, slice_get, ap, sym, ◌∙◌, arith, length-append}
use Rattle.std.proofs.lemmas.Bool.{cases_eq}
use Rattle.stream_stays.specs.declared.place.Place.{Place}
use Rattle.stream_stays.specs.declared.place.Place.TheVariants.{Out}
use Rattle.squeue_arrivals.specs.Seating.{AreOwnPlaces}
use Rattle.squeue_arrivals.proofs.Seated.{get_more}

module _ {T S : Type 0} where
  -- what is here of so many places that were looked at, and what is left of all
  pub record IsTaken (rings ring n : ℕ) (all left own : List (Place T S)) : Type 0 where
    pub many : length own ≡ n
    pub here : (c : ℕ) (place : Place T S) → slice_get own c ≡ Some place → c % rings ≡ ring → slice_get all c ≡ Some place
    pub others : (c : ℕ) (place : Place T S) → slice_get own c ≡ Some place → c % rings ≢ ring → place ≡ Out
    pub ahead : (c : ℕ) → n ≤ c → slice_get left c ≡ slice_get all c
    pub kept : (c : ℕ) → c % rings ≢ ring → slice_get left c ≡ slice_get all c
    pub count : length left ≡ length all

  nothing : (c : ℕ) (place : Place T S) → slice_get {X = Place T S} [] c ≡ Some place → ⊥
  nothing c place is = cc is

  pub none_taken : (rings ring : ℕ) (all left own : List (Place T S)) → left ≡ all → own ≡ [] → IsTaken rings ring 0 all left own
  none_taken rings ring all left own same none =
      record {
        many = ap length none;
        here = λ c place is e. absurd (nothing c place (ap (λ (l : List (Place T S)). slice_get l c) (sym none) ∙ is));
        others = λ c place is e. absurd (nothing c place (ap (λ (l : List (Place T S)). slice_get l c) (sym none) ∙ is));
        ahead = λ c le. ap (λ (l : List (Place T S)). slice_get l c) same;
        kept = λ c e. ap (λ (l : List (Place T S)). slice_get l c) same;
        count = ap length same;
      }

  pub one_taken : (rings ring n : ℕ) (all left own next more : List (Place T S)) (place : Place T S) → IsTaken rings ring n all left own → more ≡ own ++ place ∷ [] → (n % rings ≡ ring → slice_get left n ≡ Some place)
      → (n % rings ≢ ring → (place ≡ Out) × (next ≡ left)) → ((d : ℕ) → d ≢ n → slice_get next d ≡ slice_get left d) → length next ≡ length left → IsTaken rings ring (n + 1) all next more
  one_taken rings ring n all left own next more place was is own_place out_place others count =
      record {
        many = ap length is ∙ (length-append own (place ∷ []) ∙ ap (λ (m : ℕ). m + 1) was.many);
        here = λ c x at mine. elim (get_more own place x c (ap (λ (l : List (Place T S)). slice_get l c) (sym is) ∙ at)) [
          | inl there ↦ was.here c x there mine
          | inr last ↦
              let c_is : n ≡ c = sym was.many ∙ sym last.0 in
              let now : slice_get left n ≡ Some place = own_place (ap (λ (m : ℕ). m % rings) c_is ∙ mine) in
              let le : n ≤ n = omega arith in
              ap (slice_get all) (sym c_is) ∙ (sym (was.ahead n le) ∙ (now ∙ ap (λ (y : Place T S). Some y) last.1))
        ];
        others = λ c x at other. elim (get_more own place x c (ap (λ (l : List (Place T S)). slice_get l c) (sym is) ∙ at)) [
          | inl there ↦ was.others c x there other
          | inr last ↦
              let c_is : n ≡ c = sym was.many ∙ sym last.0 in
              sym last.1 ∙ (out_place (λ e. other (ap (λ (m : ℕ). m % rings) (sym c_is) ∙ e))).0
        ];
        ahead = λ c le. others c (λ e. absurd (omega (arith, e, le))) ∙ was.ahead c (omega (arith, le));
        kept = λ c other. elim (cases_eq c n) [
          | inl e ↦
              let same = (out_place (λ r. other (ap (λ (m : ℕ). m % rings) e ∙ r))).1 in
              ap (λ (l : List (Place T S)). slice_get l c) same ∙ was.kept c other
          | inr d ↦ others c d ∙ was.kept c other
        ];
        count = count ∙ was.count;
      }

  -- when all places were looked at
  pub all_taken : (rings ring n : ℕ) (all left own : List (Place T S)) → n ≡ length all → IsTaken rings ring n all left own → AreOwnPlaces rings ring all own
  all_taken rings ring n all left own last is = record { many = is.many ∙ last; here = is.here; others = is.others }
