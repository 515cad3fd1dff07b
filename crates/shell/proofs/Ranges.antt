-- A number that was asked for is in the range that its row of the table has.
use Rattle.std.proofs.Common.{◌≡◌, ◌∙◌, ℕ, ◌≤◌, Bool, true, false, cond, refl, sym, ap, subst, List, [], ◌∷◌, Option, Some, None}
use Rattle.std.specs.Prelude.{option_map}
use Rattle.std.specs.Str.{bytes_eq}
use Rattle.shell.specs.Asked.{GivenOf, ValueOf, given_as, given_by, givens, is_number, number_by, number_for, number_in, value_for}
use Rattle.shell.specs.Numbers.{number_between}
use Rattle.shell.specs.Table.{OptionOf, TakesOf, Text, number}
use Rattle.shell.specs.Words.{Use, text_of}
use Rattle.shell.proofs.Chains.{chained, mapped, number_within, some_is}

-- what the first option with a name takes
abbrev pub takes_for : Text → List OptionOf → Option TakesOf
takes_for name [] = None
takes_for name (o ∷ os) = cond (bytes_eq o.name name) (Some o.takes) (takes_for name os)

abbrev pub Within : ℕ → ℕ → ℕ → Type 0
Within least most n = (least ≤ n) × (n ≤ most)

-- a default lies in its range too
abbrev pub DefaultWithin : ℕ → ℕ → Option ℕ → Type 0
DefaultWithin least most None = Unit {0}
DefaultWithin least most (Some n) = Within least most n

module _ (least most : ℕ) where
  of_number : (default : Option ℕ) (o : Option Text) (v : Option ValueOf) (n : ℕ) → DefaultWithin least most default → number_by least most default o ≡ Some v → number_in v ≡ Some n
      → Within least most n
  of_number None None v n ok e found = absurd (let never : None ≡ Some n = ap number_in (some_is e) ∙ found in cc)
  of_number (Some d) None v n ok e found =
      let same : d ≡ n = some_is (ap number_in (some_is e) ∙ found) in
      subst (Within least most) same ok
  of_number default (Some t) v n ok e found =
      let m = mapped (λ k. Some (is_number k)) (number_between least most t) v e in
      let same : m.value ≡ n = some_is (ap number_in m.gives ∙ found) in
      subst (Within least most) same (number_within least most t m.value m.found)

  pub ranged : (name : Text) (default : Option ℕ) (n : ℕ) (us : List Use) (os : List OptionOf) (gs : List GivenOf) → DefaultWithin least most default
      → takes_for name os ≡ Some (number least most default) → givens os us ≡ Some gs → number_for name gs ≡ Some n → Within least most n
  ranged name default n us [] gs ok is e found = absurd (let never : ⊥ = cc in never)
  ranged name default n us (o ∷ os) gs ok is e found =
      let a = chained (λ v. option_map (λ others. record { name = o.name; value = v } ∷ others) (givens os us)) (given_by o us) gs e in
      let m = mapped (λ others. record { name = o.name; value = a.value } ∷ others) (givens os us) gs a.gives in
      by a.value m.value (bytes_eq o.name name) refl a.found (λ rest. ranged name default n us os m.value ok rest m.found) is
      (ap (number_for name) m.gives ∙ found)
    where
      by : (v : Option ValueOf) (others : List GivenOf) (b : Bool) → bytes_eq o.name name ≡ b → given_by o us ≡ Some v
          → (takes_for name os ≡ Some (number least most default) → number_for name others ≡ Some n → Within least most n)
          → cond b (Some o.takes) (takes_for name os) ≡ Some (number least most default)
          → number_in (cond b v (value_for name others)) ≡ Some n → Within least most n
      by v others true same given more is found =
          let takes : o.takes ≡ number least most default = some_is is in
          of_number default (text_of o.name us) v n ok (sym (ap (λ t. given_as t o.name us) takes) ∙ given) found
      by v others false same given more is found = more is found
