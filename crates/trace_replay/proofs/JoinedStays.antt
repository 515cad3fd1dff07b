-- What squeues kept of a connection, against the stays of their histories.
use Rattle.std.proofs.Common.{◌≡◌, ℕ, zero, suc, ◌+◌, ◌-◌, ◌/◌, ◌%◌, ◌<◌, ◌≤◌, ◌⊎◌, inl, inr, true, false, Option, Some, None, is_some, List, [], ◌∷◌, ◌++◌, length, refl, ap, sym, ◌∙◌, subst, add-zero, arith}
use Rattle.std.specs.Prelude.{nat_lt, slice_get}
use Rattle.std.specs.List.{AllByRecursion}
use Rattle.std.specs.Option.{option_map}
use Rattle.std.proofs.lemmas.Bool.{cases_lt}
use Rattle.std.proofs.lemmas.Bool.Decides.{nat_tests}
use Rattle.std.proofs.lemmas.Option.{none-some, slice_get-map, slice_get_within}
use Rattle.perimeter_core.specs.declared.entries.Act.{Act}
use Rattle.histories.specs.Endings.{Ending}
use Rattle.histories.specs.Stays.{Stay, all_in, stays, stays_in, stay, ended_stay, own_of, joined, AreLegal, AreOfAllStays}
use Rattle.squeue_replay.specs.Standing.{GuestOf, GuestStands, GuestsStand}
use Rattle.histories.proofs.ListPlaces.{some_at}
use Rattle.trace_replay.specs.Reasons.{MissesAnOut}
use Rattle.trace_replay.specs.Joining.{guest_among, did_at, has_left, acts_in, did_in, left_in, did_before, HasStays, IsNamed, LacksAStay}
use Rattle.trace_replay.proofs.EndedStays.{ended_count}
use Rattle.trace_replay.proofs.InStays.{is_stay}
use Rattle.trace_replay.proofs.NamedCalls.{stay_named}

some_below : {A : Type 0} (xs : List A) (i : ℕ) → nat_lt i (length xs) ≡ is_some (slice_get xs i)
some_below [] i = grind (arith, nat_tests)
some_below (x ∷ xs) zero = let lt : 0 < length (x ∷ xs) = omega arith in grind (arith, nat_tests)
some_below (x ∷ xs) (suc i) = let same : nat_lt (suc i) (suc (length xs)) ≡ nat_lt i (length xs) = grind (arith, nat_tests) in same ∙ some_below xs i

none_or : {A : Type 0} (o : Option A) → ((x : A) → o ≡ Some x → ⊥) → o ≡ None
none_or None h = refl
none_or (Some x) h = absurd (h x refl)

abbrev own : Stay → List Act
own v = v.own

-- a stay is there where what was done in it is
mapped : (o : Option Stay) (acts : List Act) → option_map own o ≡ Some acts → (v : Stay) × (o ≡ Some v) × (v.own ≡ acts)
mapped None acts e = absurd (none-some acts e)
mapped (Some v) acts e = (v, refl, cc e)

unmapped : (o : Option Stay) → option_map own o ≡ None → o ≡ None
unmapped None e = refl
unmapped (Some v) e = absurd (none-some v.own (sym e))

not_some : {A : Type 0} (o : Option A) → is_some o ≡ false → o ≡ None
not_some None e = refl
not_some (Some x) e = absurd (let no : true ≡ false = e in let bad : ⊥ = cc in bad)

module _ (hs : List Ending) (c : ℕ) where
  not_ended : (s : ℕ) → stay hs c s ≡ None → ended_stay hs c s ≡ None
  not_ended s none = none_or (ended_stay hs c s) (λ v at. none-some v (sym none ∙ is_stay hs c s v at))

  -- where a stay behind another is there, and the other one hasn't ended, an Out is missing between them
  between : (d s : ℕ) (v : Stay) → stay hs c (s + 1 + d) ≡ Some v → ended_stay hs c s ≡ None → MissesAnOut hs c
  between zero s v at unended = record { before = s; now = v; begun = subst (λ (n : ℕ). stay hs c n ≡ Some v) (add-zero (s + 1)) at; not_ended = unended }
  between (suc d) s v at unended =
      let n : s + 1 + suc d ≡ s + 1 + 1 + d = omega arith in
      by (stay hs c (s + 1)) refl (between d (s + 1) v (subst (λ (k : ℕ). stay hs c k ≡ Some v) n at))
    where
      by : (o : Option Stay) → stay hs c (s + 1) ≡ o → (ended_stay hs c (s + 1) ≡ None → MissesAnOut hs c) → MissesAnOut hs c
      by (Some w) e more = record { before = s; now = w; begun = e; not_ended = unended }
      by None e more = more (not_ended (s + 1) e)

module _ (hs : List Ending) (kept : List (List GuestOf)) (c : ℕ) (legal : AreLegal hs) (stand : GuestsStand hs kept)
    (there : (q : ℕ) (e : Ending) → slice_get hs q ≡ Some e → c < length e.setting.starts) where
  -- the guest at a squeue
  guest_there : (q : ℕ) (e : Ending) (gs : List GuestOf) → slice_get hs q ≡ Some e → slice_get kept q ≡ Some gs → (g : GuestOf) × (slice_get gs c ≡ Some g) × GuestStands e.setting e.history c g
  guest_there q e gs a b =
      let found = some_at gs c (omega (arith, there q e a, stand.all q e gs a b)) in (found.0, found.1, stand.each q e gs a b c found.0 found.1)

  did_there : (q i : ℕ) (o : Option Ending) (p : Option (List GuestOf)) → slice_get hs q ≡ o → slice_get kept q ≡ p
      → did_at (guest_among p c) i ≡ option_map own (slice_get (all_in (stays_in o c)) i)
  did_there q i (Some e) (Some gs) a b =
      let g = guest_there q e gs a b in
      ap (λ (o : Option GuestOf). did_at o i) g.1 ∙ (ap (λ (l : List (List Act)). slice_get l i) g.2.did ∙ slice_get-map own (all_in (stays e.setting e.history c)) i)
  did_there q i (Some e) None a b =
      let lt = slice_get_within hs q e a in let found = some_at kept q (omega (arith, lt, stand.count)) in absurd (none-some found.0 (sym b ∙ found.1))
  did_there q i None (Some gs) a b =
      let lt = slice_get_within kept q gs b in let found = some_at hs q (omega (arith, lt, stand.count)) in absurd (none-some found.0 (sym a ∙ found.1))
  did_there q i None None a b = refl

  left_there : (q i : ℕ) (o : Option Ending) (p : Option (List GuestOf)) → slice_get hs q ≡ o → slice_get kept q ≡ p
      → has_left (guest_among p c) i ≡ is_some (slice_get (stays_in o c).ended i)
  left_there q i (Some e) (Some gs) a b =
      let g = guest_there q e gs a b in
      ap (λ (o : Option GuestOf). has_left o i) g.1
      ∙ (ap (nat_lt i) (g.2.left ∙ sym (ended_count e.setting e.history c (legal q e a))) ∙ some_below (stays e.setting e.history c).ended i)
  left_there q i (Some e) None a b =
      let lt = slice_get_within hs q e a in let found = some_at kept q (omega (arith, lt, stand.count)) in absurd (none-some found.0 (sym b ∙ found.1))
  left_there q i None (Some gs) a b =
      let lt = slice_get_within kept q gs b in let found = some_at hs q (omega (arith, lt, stand.count)) in absurd (none-some found.0 (sym a ∙ found.1))
  left_there q i None None a b = refl

  same_did : (s : ℕ) → did_in (length hs) kept c s ≡ option_map own (stay hs c s)
  same_did s = did_there ((c + s) % length hs) (s / length hs) (slice_get hs ((c + s) % length hs)) (slice_get kept ((c + s) % length hs)) refl refl

  same_left : (s : ℕ) → left_in (length hs) kept c s ≡ is_some (ended_stay hs c s)
  same_left s = left_there ((c + s) % length hs) (s / length hs) (slice_get hs ((c + s) % length hs)) (slice_get kept ((c + s) % length hs)) refl refl

  no_stay : (s : ℕ) → did_in (length hs) kept c s ≡ None → stay hs c s ≡ None
  no_stay s e = unmapped (stay hs c s) (sym (same_did s) ∙ e)

  a_stay : (s : ℕ) (acts : List Act) → did_in (length hs) kept c s ≡ Some acts → (v : Stay) × (stay hs c s ≡ Some v) × (v.own ≡ acts)
  a_stay s acts e = mapped (stay hs c s) acts (sym (same_did s) ∙ e)

  lacking : (s : ℕ) → (did_in (length hs) kept c s ≡ None) ⊎ (left_in (length hs) kept c s ≡ false) → ended_stay hs c s ≡ None
  lacking s (inl e) = not_ended hs c s (no_stay s e)
  lacking s (inr e) = not_some (ended_stay hs c s) (sym (same_left s) ∙ e)

  pub misses : LacksAStay (length hs) kept c → MissesAnOut hs c
  misses l =
      let v = a_stay l.later l.acts l.there in
      let n : l.later ≡ l.before + 1 + (l.later - (l.before + 1)) = omega (arith, l.order) in
      between hs c (l.later - (l.before + 1)) l.before v.0 (subst (λ (k : ℕ). stay hs c k ≡ Some v.0) n v.1) (lacking l.before l.lacks)

  pub misses_none : (n : ℕ) → HasStays (length hs) kept c n → MissesAnOut hs c → ⊥
  misses_none n h m = by (cases_lt (m.before + 1) n)
    where
      by : (m.before + 1 < n) ⊎ (n ≤ m.before + 1) → ⊥
      by (inl lt) =
          let none : is_some (ended_stay hs c m.before) ≡ false = ap is_some m.not_ended in
          let yes : is_some (ended_stay hs c m.before) ≡ true = sym (same_left m.before) ∙ h.left m.before lt in
          cc (none, yes)
      by (inr le) = none-some m.now (sym (no_stay (m.before + 1) (h.none_else (m.before + 1) le)) ∙ m.begun)

  same_before : (n : ℕ) → did_before (length hs) kept c n ≡ joined hs c n
  same_before zero = refl
  same_before (suc n) = ap (λ (l : List Act). l ++ acts_in (did_in (length hs) kept c n)) (same_before n)
      ∙ ap (λ (l : List Act). joined hs c n ++ l) (ap acts_in (same_did n) ∙ by (stay hs c n))
    where
      by : (o : Option Stay) → acts_in (option_map own o) ≡ own_of o
      by None = refl
      by (Some v) = refl

  pub are_all : (n : ℕ) → HasStays (length hs) kept c n → AreOfAllStays hs c (did_before (length hs) kept c n)
  are_all n h = record {
    count = n;
    each = λ s lt. let d = h.each s lt in let v = a_stay s d.0 d.1 in (v.0, v.1);
    none_else = λ s le. no_stay s (h.none_else s le);
    are_joined = same_before n;
  }

  -- each call in what was done is one that the settings name
  pub named_in : (names : List (ℕ × ℕ × ℕ)) → ((q : ℕ) (e : Ending) → slice_get hs q ≡ Some e → e.setting.limits.calls ≡ names)
      → (s : ℕ) (acts : List Act) → did_in (length hs) kept c s ≡ Some acts → AllByRecursion (IsNamed names c) acts
  named_in names same s acts e =
      let v = a_stay s acts e in
      subst (λ (l : List Act). AllByRecursion (IsNamed names c) l) v.2 (by (slice_get hs ((c + s) % length hs)) refl v.0 v.1)
    where
      by : (o : Option Ending) → slice_get hs ((c + s) % length hs) ≡ o → (v : Stay) → slice_get (all_in (stays_in o c)) (s / length hs) ≡ Some v → AllByRecursion (IsNamed names c) v.own
      by None a v at = absurd (none-some v at)
      by (Some h) a v at =
          subst (λ (l : List (ℕ × ℕ × ℕ)). AllByRecursion (IsNamed l c) v.own) (same ((c + s) % length hs) h a)
          (stay_named h.setting h.history c (s / length hs) v (legal ((c + s) % length hs) h a) at)
