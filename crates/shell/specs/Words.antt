-- The words of the command line, read from the front: what each word, or an option's two words, say; and which words are accepted.
use Rattle.std.specs.Prelude.{◌==◌, ◌&&◌, Bool, true, false, List, [], ◌∷◌, map, Option, Some, None, if◌then◌else◌, option_map, option_and_then}
use Rattle.std.specs.List.{list_all, list_any, before_first, after_first}
use Rattle.std.specs.Str.{bytes_eq}
use Rattle.shell.specs.Table.{OptionOf, Text, is_flag, is_option, stand_once}

-- what a word looks like: `--`, `--name=value`, `--name`, another word that begins with a hyphen (45) and goes on, or a plain word
pub data Look : Type 0 where
  end : Look
  valued : Text → Text → Look
  named : Text → Look
  dashed : Look
  plain : Look

-- a name ends before the first `=` (61), and a value begins behind it
abbrev pub name_in : Text → Text
name_in text = before_first (λ c. c == 61) text

abbrev pub look_of_name : Text → Look
look_of_name [] = end
look_of_name (x ∷ xs) =
    if list_any (λ c. c == 61) (x ∷ xs)
    then valued (name_in (x ∷ xs)) (after_first (λ c. c == 61) (x ∷ xs))
    else named (name_in (x ∷ xs))

abbrev pub look_after_hyphen : Text → Look
look_after_hyphen [] = plain
look_after_hyphen (x ∷ xs) = if x == 45 then look_of_name xs else dashed

abbrev pub look_of : Text → Look
look_of [] = plain
look_of (x ∷ xs) = if x == 45 then look_after_hyphen xs else plain

-- what words say: an option has this value, a flag is set, or a CALL
pub data Use : Type 0 where
  value : Text → Text → Use
  flag : Text → Use
  call : Text → Use

abbrev pub and_then_uses : Use → Option (List Use) → Option (List Use)
and_then_uses u more = option_map (λ us. u ∷ us) more

-- the names that are used, in order
abbrev pub names_of : List Use → List Text
names_of [] = []
names_of (value name v ∷ us) = name ∷ names_of us
names_of (flag name ∷ us) = name ∷ names_of us
names_of (call word ∷ us) = names_of us

-- the text that is given to an option
abbrev pub text_of : Text → List Use → Option Text
text_of name [] = None
text_of name (value n v ∷ us) = if bytes_eq n name then Some v else text_of name us
text_of name (flag n ∷ us) = text_of name us
text_of name (call word ∷ us) = text_of name us

-- whether a use sets this flag
abbrev pub sets : Text → Use → Bool
sets name (value n v) = false
sets name (flag n) = bytes_eq n name
sets name (call word) = false

abbrev pub calls_in : List Use → List Text
calls_in [] = []
calls_in (value name v ∷ us) = calls_in us
calls_in (flag name ∷ us) = calls_in us
calls_in (call word ∷ us) = word ∷ calls_in us

-- of a program with these options
module _ (options : List OptionOf) where
  -- one word, and what the words behind it say; where an option waits, this word is its value
  abbrev pub met : Option Text → Look → Text → List Text → (Option Text → Option (List Use)) → Option (List Use)
  met (Some name) plain word rest next = and_then_uses (value name word) (next None)
  met (Some name) _ word rest next = None
  met None end word rest next = Some (map call rest)
  met None (valued name v) word rest next = and_then_uses (value name v) (next None)
  met None (named name) word rest next = if is_flag options name then and_then_uses (flag name) (next None) else next (Some name)
  met None dashed word rest next = None
  met None plain word rest next = and_then_uses (call word) (next None)

  -- what the words say, where the option that waits for its value is given
  unfoldable pub uses_from : List Text → Option Text → Option (List Use)
  uses_from [] None = Some []
  uses_from [] (Some name) = None
  uses_from (word ∷ rest) waiting = met waiting (look_of word) word rest (uses_from rest)

  abbrev pub is_known : Use → Bool
  is_known (value name v) = is_option options name
  is_known (flag name) = is_flag options name
  is_known (call word) = true

  -- each name is an option's, and is used once
  abbrev pub accepted : List Use → Option (List Use)
  accepted us = if list_all is_known us && stand_once (names_of us) then Some us else None

  -- what accepted words say
  abbrev pub uses_of : List Text → Option (List Use)
  uses_of words = option_and_then accepted (uses_from words None)
