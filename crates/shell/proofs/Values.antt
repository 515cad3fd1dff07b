-- What clap's calls give of an option, by what it takes.
use Rattle.std.proofs.Common.{◌≡◌, ◌∙◌, ℕ, Bool, true, false, ap, subst, sym, codes, List, Option, Some, Bor}
use Rattle.clap.specs.Walk.{Row, first_of, one_of}
use Rattle.shell.specs.Asked.{ValueOf, given_as, number_by, text_by, value_by}
use Rattle.shell.specs.Command.{HoldsAs}
use Rattle.shell.specs.Table.{Text, takes_of}
use Rattle.shell.specs.Words.{Use}
use Rattle.shell.specs.declared.table.Takes.{Takes}
use Rattle.shell.specs.declared.table.Takes.TheVariants as Takes'
use Rattle.std.specs.Prelude.{option_map}
use Rattle.shell.proofs.Answered.{flag_is}

module _ (takes : Takes) (name : Text) (rows : List Row) (us : List Use) (holds : HoldsAs (takes_of takes) name rows us) where
  abbrev Gives : Option (Option ValueOf) → Takes → Type 0
  Gives v t = HoldsAs (takes_of t) name rows us → v ≡ given_as (takes_of t) name us

  pub flag_given : (r : Bool) (v : Option ValueOf) → takes ≡ Takes'.Nothing → (one_of name rows ≡ Some (codes "true") → r ≡ true) → (one_of name rows ≡ Some (codes "false") → r ≡ false)
      → v ≡ value_by r → Some v ≡ given_as (takes_of takes) name us
  flag_given r v is on off given = subst (Gives (Some v)) (sym is) (λ h. ap (λ x. Some x) (given ∙ ap value_by (flag_is r _ (one_of name rows) h on off))) holds

  pub number_given : (least most : ℕ) (default : Option ℕ) (o : Option Text) (v : Option (Option ValueOf)) → takes ≡ Takes'.Number least most default → o ≡ first_of name rows
      → v ≡ number_by least most default o → v ≡ given_as (takes_of takes) name us
  number_given least most default o v is first given = subst (Gives v) (sym is) (λ h. given ∙ ap (number_by least most default) (first ∙ h)) holds

  pub text_given : (shown : Bor Text) (default : Option (Bor Text)) (o : Option Text) (v : Option ValueOf) → takes ≡ Takes'.Text shown default → o ≡ first_of name rows
      → v ≡ text_by (option_map (λ t. t.now) default) o → Some v ≡ given_as (takes_of takes) name us
  text_given shown default o v is first given =
      subst (Gives (Some v)) (sym is) (λ h. ap (λ x. Some x) (given ∙ ap (text_by (option_map (λ t. t.now) default)) (first ∙ h))) holds
