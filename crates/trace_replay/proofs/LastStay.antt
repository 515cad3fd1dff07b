-- Behind a stay that isn't there, where none of the next ones is, none is at all: the stays at each squeue have no gaps.
use Rattle.std.proofs.Common.{◌≡◌, ℕ, zero, suc, ◌+◌, ◌-◌, ◌*◌, ◌/◌, ◌%◌, ◌<◌, ◌≤◌, ◌⊎◌, inl, inr, Bool, true, false, MatchOption, Option, Some, None, is_some, List, [], ◌∷◌, refl, ap, sym, ◌∙◌, subst, arith}
use Rattle.std.specs.Prelude.{slice_get}
use Rattle.std.specs.Bool.{then_some}
use Rattle.std.specs.Option.{option_map}
use Rattle.std.proofs.lemmas.Bool.{cases_lt}
use Rattle.std.proofs.lemmas.Nat.{div-add-mod'}
use Rattle.std.proofs.lemmas.Option.{none-some}
use Rattle.std.proofs.Math.Nat.{add-mul-mod_self_right, add-mul-div_right, mod-lt}
use Rattle.perimeter_core.specs.declared.entries.Act.{Act}
use Rattle.squeue_replay.specs.Standing.{GuestOf}
use Rattle.trace_replay.specs.Joining.{HasStays, LacksAStay, did_at, did_in, guest_among, left_in}

past_none : {A : Type 0} (xs : List A) (i k : ℕ) → slice_get xs i ≡ None → slice_get xs (i + k) ≡ None
past_none [] i k e = refl
past_none (x ∷ xs) zero k e = absurd (none-some x (sym e))
past_none (x ∷ xs) (suc i) k e = let n : suc i + k ≡ suc (i + k) = omega arith in ap (slice_get (x ∷ xs)) n ∙ past_none xs i k e

did_past : (o : Option GuestOf) (i k : ℕ) → did_at o i ≡ None → did_at o (i + k) ≡ None
did_past None i k e = refl
did_past (Some g) i k e = past_none g.did i k e

module _ (squeues : ℕ) (kept : List (List GuestOf)) (c : ℕ) (some : 0 < squeues) where
  rounds_on : (s k : ℕ) → did_in squeues kept c s ≡ None → did_in squeues kept c (s + k * squeues) ≡ None
  rounds_on s k e =
      let place : (c + (s + k * squeues)) % squeues ≡ (c + s) % squeues =
      ap (λ (n : ℕ). n % squeues) (let n : c + (s + k * squeues) ≡ c + s + k * squeues = omega arith in n) ∙ add-mul-mod_self_right (c + s) k squeues in
      let number : (s + k * squeues) / squeues ≡ s / squeues + k = add-mul-div_right s k some in
      ap (λ (q : ℕ). did_at (guest_among (slice_get kept q) c) ((s + k * squeues) / squeues)) place
      ∙ (ap (did_at (guest_among (slice_get kept ((c + s) % squeues)) c)) number ∙ did_past (guest_among (slice_get kept ((c + s) % squeues)) c) (s / squeues) k e)

  pub none_behind : (n : ℕ) → did_in squeues kept c n ≡ None → ((s : ℕ) → n < s → s < n + squeues → did_in squeues kept c s ≡ None)
      → (s : ℕ) → n ≤ s → did_in squeues kept c s ≡ None
  none_behind n first next s le =
      let d : ℕ = s - n in
      let small : d % squeues < squeues = mod-lt d some in
      let parts : d / squeues * squeues + d % squeues ≡ d = div-add-mod' d squeues in
      let same : n + d % squeues + d / squeues * squeues ≡ s = omega (arith, parts, le) in
      subst (λ (k : ℕ). did_in squeues kept c k ≡ None) same (rounds_on (n + d % squeues) (d / squeues) (by (d % squeues) small))
    where
      by : (r : ℕ) → r < squeues → did_in squeues kept c (n + r) ≡ None
      by zero lt = let e : n ≡ n + 0 = omega arith in subst (λ (k : ℕ). did_in squeues kept c k ≡ None) e first
      by (suc r) lt = next (n + suc r) (omega arith) (omega (arith, lt))

-- where the first stay that isn't there is the end of all stays, or isn't
pub ended_at : (squeues : ℕ) (kept : List (List GuestOf)) (c : ℕ) → 0 < squeues → (n : ℕ) (b : Bool) (o : Option ℕ) → did_in squeues kept c n ≡ None
    → ((s : ℕ) → s < n → (acts : List Act) × (did_in squeues kept c s ≡ Some acts)) → ((s : ℕ) → s + 1 < n → left_in squeues kept c s ≡ true)
    → (b ≡ true → (s : ℕ) → n < s → s < n + squeues → did_in squeues kept c s ≡ None)
    → (b ≡ false → (s : ℕ) × (acts : List Act) × (n < s) × (did_in squeues kept c s ≡ Some acts))
    → o ≡ then_some b n → MatchOption o (LacksAStay squeues kept c) (λ k. HasStays squeues kept c k)
ended_at squeues kept c some n true o first each left last more e =
    subst (λ (x : Option ℕ). MatchOption x (LacksAStay squeues kept c) (λ k. HasStays squeues kept c k)) (sym e)
    (record { each = each; left = left; none_else = none_behind squeues kept c some n first (last refl) })
ended_at squeues kept c some n false o first each left last more e =
    let found = more refl in
    subst (λ (x : Option ℕ). MatchOption x (LacksAStay squeues kept c) (λ k. HasStays squeues kept c k)) (sym e)
    (record { before = n; later = found.0; order = found.2; acts = found.1; there = found.3; lacks = inl first })

-- what was read is there, or isn't
pub none_read : {A B : Type 0} (f : A → B) (o : Option A) (x : Option B) → is_some o ≡ false → option_map f o ≡ x → x ≡ None
none_read f None x none e = sym e
none_read f (Some y) x none e = absurd (let same : true ≡ false = none in let bad : ⊥ = cc in bad)

pub some_read : {A B : Type 0} (f : A → B) (o : Option A) (x : Option B) → is_some o ≡ true → option_map f o ≡ x → (y : B) × (x ≡ Some y)
some_read f None x some e = absurd (let same : false ≡ true = some in let bad : ⊥ = cc in bad)
some_read f (Some y) x some e = (f y, sym e)

-- one stay more, where it is the first or the one before was left
pub left_more : (L : ℕ → Bool) (n : ℕ) → ((s : ℕ) → s + 1 < n → L s ≡ true) → (n ≡ 0) ⊎ (L (n - 1) ≡ true) → (s : ℕ) → s + 1 < n + 1 → L s ≡ true
left_more L n old last s lt = by (cases_lt (s + 1) n) last
  where
    by : (s + 1 < n) ⊎ (n ≤ s + 1) → (n ≡ 0) ⊎ (L (n - 1) ≡ true) → L s ≡ true
    by (inl less) h = old s less
    by (inr le) (inl e) = absurd (let no : ⊥ = omega (arith, lt, e) in no)
    by (inr le) (inr e) = let same : n - 1 ≡ s = omega (arith, le, lt) in subst (λ (k : ℕ). L k ≡ true) same e
