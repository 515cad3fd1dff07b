-- What words ask for: of each option of a table its value, where there is one, and the CALLs. Words are refused where a number isn't in its
-- range, where a CALL is none, and where there are too many of them.
use Rattle.std.specs.Prelude.{ℕ, nat_le, Bool, true, false, if◌then◌else◌, List, [], ◌∷◌, map, length, Option, None, Some, option_map, option_and_then}
use Rattle.std.specs.List.{list_any}
use Rattle.std.specs.Str.{bytes_eq}
use Rattle.shell.specs.declared.asked.Asked.{Asked}
use Rattle.shell.specs.declared.asked.Given.{Given}
use Rattle.shell.specs.declared.asked.NoCall.{NoCall}
use Rattle.shell.specs.declared.asked.Value.{Value}
use Rattle.shell.specs.declared.asked.Value.TheVariants as Value'
use Rattle.shell.specs.Numbers.{number_between}
use Rattle.shell.specs.Table.{OptionOf, TableOf, TakesOf, Text, nothing, number, text}
use Rattle.shell.specs.Words.{Use, calls_in, sets, text_of, uses_of}

-- the value of an option: its flag is there, or a number, or a text
pub data ValueOf : Type 0 where
  is_there : ValueOf
  is_number : ℕ → ValueOf
  is_text : Text → ValueOf

-- an option by its name, with its value where there is one
pub record GivenOf : Type 0 where
  pub name : Text
  pub value : Option ValueOf

pub record AskedOf (C : Type 0) : Type 0 where
  pub givens : List GivenOf
  pub calls : List C

-- what the code has of them
abbrev pub value_of : Value → ValueOf
value_of Value'.Set = is_there
value_of (Value'.Number n) = is_number n
value_of (Value'.Text t) = is_text t.now

abbrev pub given_is : Given → GivenOf
given_is g = record { name = g.name.now; value = option_map value_of g.value }

abbrev pub givens_of : List Given → List GivenOf
givens_of = map given_is

-- a flag's value; a number's and a text's, which is the default where none is given; a number is refused where it isn't in range
abbrev pub value_by : Bool → Option ValueOf
value_by is = if is then Some is_there else None

abbrev pub number_by : ℕ → ℕ → Option ℕ → Option Text → Option (Option ValueOf)
number_by least most default None = Some (option_map is_number default)
number_by least most default (Some t) = option_map (λ n. Some (is_number n)) (number_between least most t)

abbrev pub text_by : Option Text → Option Text → Option ValueOf
text_by default None = option_map is_text default
text_by default (Some t) = Some (is_text t)

-- an option's, by what it takes
abbrev pub given_as : TakesOf → Text → List Use → Option (Option ValueOf)
given_as nothing name us = Some (value_by (list_any (sets name) us))
given_as (number least most default) name us = number_by least most default (text_of name us)
given_as (text shown default) name us = Some (text_by default (text_of name us))

abbrev pub given_by : OptionOf → List Use → Option (Option ValueOf)
given_by o us = given_as o.takes o.name us

abbrev pub given_named : Text → Option ValueOf → GivenOf
given_named name v = record { name = name; value = v }

-- all options in the order of the table
abbrev pub givens : List OptionOf → List Use → Option (List GivenOf)
givens [] us = Some []
givens (o ∷ more) us = option_and_then (λ v. option_map (λ others. given_named o.name v ∷ others) (givens more us)) (given_by o us)

-- the value of the option with this name
abbrev pub value_for : Text → List GivenOf → Option ValueOf
value_for name [] = None
value_for name (g ∷ gs) = if bytes_eq g.name name then g.value else value_for name gs

abbrev pub set_of : Option ValueOf → Bool
set_of None = false
set_of (Some is_there) = true
set_of (Some (is_number n)) = false
set_of (Some (is_text t)) = false

abbrev pub number_in : Option ValueOf → Option ℕ
number_in None = None
number_in (Some is_there) = None
number_in (Some (is_number n)) = Some n
number_in (Some (is_text t)) = None

abbrev pub text_in : Option ValueOf → Option Text
text_in None = None
text_in (Some is_there) = None
text_in (Some (is_number n)) = None
text_in (Some (is_text t)) = Some t

abbrev pub is_set : Text → List GivenOf → Bool
is_set name gs = set_of (value_for name gs)

abbrev pub number_for : Text → List GivenOf → Option ℕ
number_for name gs = number_in (value_for name gs)

abbrev pub text_for : Text → List GivenOf → Option Text
text_for name gs = text_in (value_for name gs)

-- no word is a CALL
abbrev pub no_call : Text → Option NoCall
no_call word = None

module _ {C : Type 0} where
  abbrev pub asked_of : Asked C → AskedOf C
  asked_of a = record { givens = givens_of a.givens.items; calls = a.calls.items }

  -- the CALLs that words are, where each is one
  module _ (call_of : Text → Option C) where
    abbrev pub calls_of : List Text → Option (List C)
    calls_of [] = Some []
    calls_of (word ∷ more) = option_and_then (λ one. option_map (λ others. one ∷ others) (calls_of more)) (call_of word)

    abbrev pub asked_by : TableOf → List Use → Option (AskedOf C)
    asked_by t us =
        if nat_le (length (calls_in us)) t.most_calls
        then option_and_then (λ gs. option_map (λ cs. record { givens = gs; calls = cs }) (calls_of (calls_in us))) (givens t.options us)
        else None

    -- what the words ask for, where they aren't refused
    abbrev pub asked : TableOf → List Text → Option (AskedOf C)
    asked t words = option_and_then (asked_by t) (uses_of t.options words)
