-- What is given of options, one option at a time.
use Rattle.std.proofs.Common.{◌≡◌, ◌∙◌, ℕ, ◌+◌, ◌<◌, ap, refl, sym, List, [], ◌∷◌, ◌++◌, Option, Some, None, length, take, drop, get_or, append_assoc, subst}
use Rattle.std.specs.Prelude.{option_map, option_and_then}
use Rattle.shell.specs.Asked.{GivenOf, ValueOf, given_by, given_is, given_named, givens, givens_of}
use Rattle.shell.specs.Table.{OptionOf, option_of, options_of}
use Rattle.shell.specs.declared.asked.Given.{Given}
use Rattle.shell.specs.declared.table.OptionRow.{OptionRow}
use Rattle.std.specs.List.{AllByRecursion}
use Rattle.std.proofs.lemmas.List.{map-append, take-append-drop, take_more}
use Rattle.shell.specs.Words.{Use}
use Rattle.shell.proofs.Chains.{chained, mapped, some_is}

abbrev pub one : OptionOf → Option ValueOf → GivenOf
one o v = given_named o.name v

module _ (us : List Use) where
  -- one more option
  pub givens_push : (os : List OptionOf) (o : OptionOf) (gs : List GivenOf) (v : Option ValueOf) → givens os us ≡ Some gs → given_by o us ≡ Some v
      → givens (os ++ o ∷ []) us ≡ Some (gs ++ one o v ∷ [])
  givens_push [] o gs v e f = ap (option_and_then (λ w. option_map (λ others. one o w ∷ others) (Some []))) f ∙ ap (λ (l : List GivenOf). Some (l ++ one o v ∷ [])) (some_is e)
  givens_push (p ∷ ps) o gs v e f =
      let a = chained (λ w. option_map (λ others. one p w ∷ others) (givens ps us)) (given_by p us) gs e in
      let m = mapped (λ others. one p a.value ∷ others) (givens ps us) gs a.gives in
      ap (option_and_then (λ w. option_map (λ others. one p w ∷ others) (givens (ps ++ o ∷ []) us))) a.found
      ∙ (ap (option_map (λ others. one p a.value ∷ others)) (givens_push ps o m.value v m.found f)
      ∙ ap (λ (l : List GivenOf). Some (l ++ one o v ∷ [])) m.gives)

  -- an option that isn't in range spoils all
  pub givens_bad : (os : List OptionOf) (o : OptionOf) (more : List OptionOf) → given_by o us ≡ None → givens (os ++ o ∷ more) us ≡ None
  givens_bad [] o more f = ap (option_and_then (λ w. option_map (λ others. one o w ∷ others) (givens more us))) f
  givens_bad (p ∷ ps) o more f =
      ap (λ (x : Option (List GivenOf)). option_and_then (λ w. option_map (λ others. one p w ∷ others) x) (given_by p us)) (givens_bad ps o more f) ∙ go (given_by p us)
    where
      go : (x : Option (Option ValueOf)) → option_and_then (λ w. option_map (λ others. one p w ∷ others) None) x ≡ None
      go None = refl
      go (Some w) = refl

-- ---- one more row of a table

options_more : (os : List OptionRow) (i : ℕ) (d : OptionRow) → i < length os → options_of (take (i + 1) os) ≡ options_of (take i os) ++ option_of (get_or os i d) ∷ []
options_more os i d within = ap options_of (take_more os i d within) ∙ map-append option_of (take i os) (get_or os i d ∷ [])

options_split : (os : List OptionRow) (i : ℕ) (d : OptionRow) → i < length os
    → options_of os ≡ options_of (take i os) ++ option_of (get_or os i d) ∷ options_of (drop (i + 1) os)
options_split os i d within =
    ap options_of (sym (take-append-drop (i + 1) os))
    ∙ (map-append option_of (take (i + 1) os) (drop (i + 1) os)
    ∙ (ap (λ (l : List OptionOf). l ++ options_of (drop (i + 1) os)) (options_more os i d within)
    ∙ append_assoc (options_of (take i os)) (option_of (get_or os i d) ∷ []) (options_of (drop (i + 1) os))))

behind : (P : OptionOf → Type 0) (xs : List OptionOf) (x : OptionOf) (ys : List OptionOf) → AllByRecursion P (xs ++ x ∷ ys) → P x
behind P [] x ys all = all.0
behind P (y ∷ xs) x ys all = behind P xs x ys all.1

pub row_holds : (P : OptionOf → Type 0) (os : List OptionRow) (i : ℕ) (d : OptionRow) → i < length os → AllByRecursion P (options_of os) → P (option_of (get_or os i d))
row_holds P os i d within all =
    behind P (options_of (take i os)) (option_of (get_or os i d)) (options_of (drop (i + 1) os)) (subst (AllByRecursion P) (options_split os i d within) all)

module _ (us : List Use) (os : List OptionRow) (i : ℕ) (d : OptionRow) (within : i < length os) where
  pub row_given : (gs new : List Given) (g : Given) → givens (options_of (take i os)) us ≡ Some (givens_of gs)
      → Some (given_is g) ≡ option_map (given_named (get_or os i d).name.now) (given_by (option_of (get_or os i d)) us) → new ≡ gs ++ g ∷ []
      → givens (options_of (take (i + 1) os)) us ≡ Some (givens_of new)
  row_given gs new g so_far given added =
      let m = mapped (given_named (get_or os i d).name.now) (given_by (option_of (get_or os i d)) us) (given_is g) (sym given) in
      ap (λ (l : List OptionOf). givens l us) (options_more os i d within)
      ∙ (givens_push us (options_of (take i os)) (option_of (get_or os i d)) (givens_of gs) m.value so_far m.found
      ∙ (ap (λ (x : GivenOf). Some (givens_of gs ++ x ∷ [])) m.gives
      ∙ ap (λ (l : List GivenOf). Some l) (sym (ap givens_of added ∙ map-append given_is gs (g ∷ [])))))

  pub row_spoils : None ≡ option_map (given_named (get_or os i d).name.now) (given_by (option_of (get_or os i d)) us) → givens (options_of os) us ≡ None
  row_spoils given =
      ap (λ (l : List OptionOf). givens l us) (options_split os i d within)
      ∙ givens_bad us (options_of (take i os)) (option_of (get_or os i d)) (options_of (drop (i + 1) os)) (none (given_by (option_of (get_or os i d)) us) (sym given))
    where
      none : (o : Option (Option ValueOf)) → option_map (given_named (get_or os i d).name.now) o ≡ None → o ≡ None
      none None e = refl
      none (Some v) e = absurd (let never : ⊥ = cc in never)
