-- From the parts of what words ask to the whole.
use Rattle.std.proofs.Common.{◌≡◌, ◌∙◌, ℕ, ◌<◌, ◌≤◌, Bool, cond, true, false, ap, arith, List, length, Option, Some, None}
use Rattle.std.proofs.lemmas.Bool.Decides.{nat_tests}
use Rattle.std.specs.Prelude.{nat_le, option_map, option_and_then}
use Rattle.shell.specs.Asked.{AskedOf, GivenOf, asked, asked_by, calls_of, givens}
use Rattle.shell.specs.Table.{TableOf, Text}
use Rattle.shell.specs.Words.{Use, calls_in, uses_of}

pub is_over : (n most : ℕ) → most < n → nat_le n most ≡ false
is_over n most over = grind (arith, nat_tests)

pub is_few : (n most : ℕ) → n ≤ most → nat_le n most ≡ true
is_few n most few = grind (arith, nat_tests)

module _ {C : Type 0} (call_of : Text → Option C) (t : TableOf) (ws : List Text) where
  -- words that say nothing
  pub refused : uses_of t.options ws ≡ None → asked call_of t ws ≡ None
  refused e = ap (option_and_then (asked_by call_of t)) e

  abbrev joined : Option (List GivenOf) → Option (List C) → Bool → Option (AskedOf C)
  joined gs cs b = cond b (option_and_then (λ g. option_map (λ c. record { givens = g; calls = c }) cs) gs) None

  module _ (us : List Use) (said : uses_of t.options ws ≡ Some us) where
    by_uses : asked call_of t ws ≡ joined (givens t.options us) (calls_of call_of (calls_in us)) (nat_le (length (calls_in us)) t.most_calls)
    by_uses = ap (option_and_then (asked_by call_of t)) said

    pub too_many : nat_le (length (calls_in us)) t.most_calls ≡ false → asked call_of t ws ≡ None
    too_many e = by_uses ∙ ap (joined (givens t.options us) (calls_of call_of (calls_in us))) e

    module _ (few : nat_le (length (calls_in us)) t.most_calls ≡ true) where
      counted : asked call_of t ws ≡ joined (givens t.options us) (calls_of call_of (calls_in us)) true
      counted = by_uses ∙ ap (joined (givens t.options us) (calls_of call_of (calls_in us))) few

      pub no_givens : givens t.options us ≡ None → asked call_of t ws ≡ None
      no_givens e = counted ∙ ap (λ (gs : Option (List GivenOf)). joined gs (calls_of call_of (calls_in us)) true) e

      module _ (gs : List GivenOf) (given : givens t.options us ≡ Some gs) where
        with_givens : asked call_of t ws ≡ joined (Some gs) (calls_of call_of (calls_in us)) true
        with_givens = counted ∙ ap (λ (g : Option (List GivenOf)). joined g (calls_of call_of (calls_in us)) true) given

        pub no_calls : calls_of call_of (calls_in us) ≡ None → asked call_of t ws ≡ None
        no_calls e = with_givens ∙ ap (λ (cs : Option (List C)). joined (Some gs) cs true) e

        pub all_asked : (cs : List C) → calls_of call_of (calls_in us) ≡ Some cs → asked call_of t ws ≡ Some (record { givens = gs; calls = cs })
        all_asked cs e = with_givens ∙ ap (λ (c : Option (List C)). joined (Some gs) c true) e
