-- What a turn of clap's walk does, and what it finds wrong, by the look of the word.
use Rattle.std.proofs.Common.{◌≡◌, ◌∙◌, Bool, cond, true, false, refl, sym, ap, ap₂, codes, List, [], ◌∷◌, Option, Some, None, ◌&&◌, not}
use Rattle.std.specs.Prelude.{option_map}
use Rattle.std.specs.Option.{option_map_or}
use Rattle.std.specs.Str.{bytes_eq}
use Rattle.clap.specs.Words.{Kinds, Row}
use Rattle.clap.specs.Kinds.{or_else}
use Rattle.clap.specs.Lexer.{long_of, short_of}
use Rattle.clap.specs.Walk.{Held, Step, Waiting, Walk, after_step, arg_by_long, has_row, idle, long_or_other, long_word, option, positional, settled, short_or_plain, trailing, used_by_id, walked, word_met}
use Rattle.clap.specs.Simple.{filled}
use Rattle.clap.specs.Faults.{bundle_fault, flag_word_fault, long_fault, settle_fault, step_fault, turn_fault, use_fault, word_fault}
use Rattle.clap.specs.declared.error.kind.ErrorKind.TheVariants as kind
use Rattle.shell.specs.Command.{option_rule}
use Rattle.shell.specs.Table.{TableOf, is_table, Text, is_option}
use Rattle.shell.specs.Words.{Look, Use, value, flag, call, dashed, end, look_of, named, plain, valued}
use Rattle.shell.proofs.Names.{by_id, known_id}
use Rattle.shell.proofs.Looks.{end_is, is_end, long_in, long_is}
use Rattle.shell.proofs.Names.{rules_built, shape_built}
use Rattle.shell.proofs.Uses.{apply_all, fine, quiet}

-- the walk between two words, before and behind `--`
abbrev pub at : Held → Waiting → Bool → Walk
at h waiting behind = record { held = h; waiting = waiting; position = 1; is_trailing = behind; stopped = None }

-- a use that clap has read and not settled
abbrev pub pend : Use → Text × List Text
pend (value name v) = (name, v ∷ [])
pend (flag name) = (name, [])
pend (call word) = (codes "calls", word ∷ [])

abbrev pub hold : Option Use → List Row → Held
hold p rows = record { rows = rows; pending = option_map pend p; skip = 0 }

abbrev pub listed : Option Use → List Use
listed None = []
listed (Some u) = u ∷ []

-- an option that waits for its value
abbrev pub await : Text → List Row → Held
await name rows = record { rows = rows; pending = Some (name, []); skip = 0 }

abbrev pub once_fault : Text → List Row → Kinds
once_fault name rows = cond (has_row name rows) (kind.ArgumentConflict ∷ []) []

pub quiet-once : (name : Text) (rows : List Row) → quiet (once_fault name rows) ≡ not (has_row name rows)
quiet-once name rows = go (has_row name rows)
  where
    go : (b : Bool) → quiet (cond b (kind.ArgumentConflict ∷ []) []) ≡ not b
    go true = refl
    go false = refl

pub once_is : (name v : Text) (rows : List Row) → use_fault false (filled (option_rule name)) (v ∷ []) rows ≡ once_fault name rows
once_is name v rows = go (has_row name rows)
  where
    go : (b : Bool) → or_else (cond (b && true) (kind.ArgumentConflict ∷ []) []) [] ≡ cond b (kind.ArgumentConflict ∷ []) []
    go true = refl
    go false = refl

module _ (t : TableOf) (apart : is_table t ≡ true) where
  abbrev pub IsHeld : Option Use → Type 0
  IsHeld None = Unit {0}
  IsHeld (Some (value name v)) = (is_option t.options) name ≡ true
  IsHeld (Some (flag name)) = ⊥
  IsHeld (Some (call word)) = Unit {0}

  pub settles : (p : Option Use) (rows : List Row) → IsHeld p → settled (rules_built t apart) (hold p rows) ≡ hold None (apply_all (listed p) rows)
  settles None rows is = refl
  settles (Some (value name v)) rows is = ap (λ a. hold None (used_by_id a (v ∷ []) rows)) ((known_id t apart) name is)
  settles (Some (call word)) rows is = ap (λ a. hold None (used_by_id a (word ∷ []) rows)) (by_id t apart)
  settles (Some (flag name)) rows is = absurd is

  pub settles_quiet : (p : Option Use) (rows : List Row) → IsHeld p → quiet (settle_fault (rules_built t apart) false (hold p rows)) ≡ (fine t apart) (listed p) rows
  settles_quiet None rows is = refl
  settles_quiet (Some (value name v)) rows is =
      ap (λ a. quiet (option_map_or (λ r. use_fault false r (v ∷ []) rows) a [])) ((known_id t apart) name is)
      ∙ (ap quiet (once_is name v rows) ∙ (quiet-once name rows ∙ (go (not (has_row name rows)) ∙ ap (λ b. (b && not (has_row name rows)) && true) (sym is))))
    where
      go : (b : Bool) → b ≡ ((true && b) && true)
      go true = refl
      go false = refl
  settles_quiet (Some (call word)) rows is = ap (λ a. quiet (option_map_or (λ r. use_fault false r (word ∷ []) rows) a [])) (by_id t apart)
  settles_quiet (Some (flag name)) rows is = absurd is

  -- what the word is to clap, by its look and by what follows a single hyphen
  abbrev pub met_by : Waiting → Look → Option Text → Text → Held → Held × Step
  met_by waiting end short word h = (h, trailing 1)
  met_by waiting (valued name v) short word h = long_word (rules_built t apart) waiting word name (Some v) h
  met_by waiting (named name) short word h = long_word (rules_built t apart) waiting word name None h
  met_by waiting dashed short word h = short_or_plain (rules_built t apart) waiting word short h
  met_by waiting plain short word h = short_or_plain (rules_built t apart) waiting word short h

  abbrev pub fault_by : Look → Option Text → Held → Kinds
  fault_by end short h = []
  fault_by (valued name v) short h = long_fault (rules_built t apart) false (arg_by_long (rules_built t apart) name) (Some v) h
  fault_by (named name) short h = long_fault (rules_built t apart) false (arg_by_long (rules_built t apart) name) None h
  fault_by dashed short h = option_map_or (λ flags. bundle_fault (rules_built t apart) false flags h) short []
  fault_by plain short h = option_map_or (λ flags. bundle_fault (rules_built t apart) false flags h) short []

  met_is : (waiting : Waiting) (word : Text) (h : Held) → word_met (rules_built t apart) [] false waiting 1 word h ≡ met_by waiting (look_of word) (short_of word) word h
  met_is waiting word h = by_waiting waiting
    where
      by_look : (waiting : Waiting) (l : Look) → cond (is_end l) (h, trailing 1) (long_or_other (rules_built t apart) waiting word (long_in l) h) ≡ met_by waiting l (short_of word) word h
      by_look waiting end = refl
      by_look waiting (valued name v) = refl
      by_look waiting (named name) = refl
      by_look waiting dashed = refl
      by_look waiting plain = refl

      seen : (waiting : Waiting) → cond (bytes_eq word (45 ∷ 45 ∷ [])) (h, trailing 1) (long_or_other (rules_built t apart) waiting word (long_of word) h) ≡ met_by waiting (look_of word) (short_of word) word h
      seen waiting = ap₂ (λ b o. cond b (h, trailing 1) (long_or_other (rules_built t apart) waiting word o h)) (end_is word) (long_is word) ∙ by_look waiting (look_of word)

      by_waiting : (waiting : Waiting) → word_met (rules_built t apart) [] false waiting 1 word h ≡ met_by waiting (look_of word) (short_of word) word h
      by_waiting idle = seen idle
      by_waiting (option name) = seen (option name)
      by_waiting positional = seen positional

  word_fault_is : (waiting : Waiting) (word : Text) (h : Held) → word_fault (shape_built t apart) [] false waiting word h ≡ fault_by (look_of word) (short_of word) h
  word_fault_is waiting word h = by_waiting waiting
    where
      by_look : (l : Look) → cond (is_end l) [] (flag_word_fault (rules_built t apart) false (long_in l) word h) ≡ fault_by l (short_of word) h
      by_look end = refl
      by_look (valued name v) = refl
      by_look (named name) = refl
      by_look dashed = refl
      by_look plain = refl

      seen : cond (bytes_eq word (45 ∷ 45 ∷ [])) [] (flag_word_fault (rules_built t apart) false (long_of word) word h) ≡ fault_by (look_of word) (short_of word) h
      seen = ap₂ (λ b o. cond b [] (flag_word_fault (rules_built t apart) false o word h)) (end_is word) (long_is word) ∙ by_look (look_of word)

      by_waiting : (waiting : Waiting) → word_fault (shape_built t apart) [] false waiting word h ≡ fault_by (look_of word) (short_of word) h
      by_waiting idle = seen
      by_waiting (option name) = seen
      by_waiting positional = seen

  -- a turn's fault and its walk, of a word with this look
  abbrev pub fault_at : Waiting → Look → Option Text → Text → Held → Kinds
  fault_at waiting l short word h = or_else (fault_by l short h) (step_fault (shape_built t apart) 1 (met_by waiting l short word h).0 (met_by waiting l short word h).1)

  abbrev pub walk_at : Waiting → Look → Option Text → Text → Held → Walk
  walk_at waiting l short word h = after_step (rules_built t apart) word (at h waiting false) (met_by waiting l short word h).0 (met_by waiting l short word h).1

  pub turn_fault_is : (waiting : Waiting) (word : Text) (h : Held) → turn_fault (shape_built t apart) [] (at h waiting false) word ≡ fault_at waiting (look_of word) (short_of word) word h
  turn_fault_is waiting word h =
      ap₂ (λ (f : Kinds) (m : Held × Step). or_else f (step_fault (shape_built t apart) 1 m.0 m.1)) (word_fault_is waiting word h) (met_is waiting word h)

  pub walked_is : (waiting : Waiting) (word : Text) (h : Held) → walked (rules_built t apart) [] (at h waiting false) word ≡ walk_at waiting (look_of word) (short_of word) word h
  unfolding walked
  walked_is waiting word h = ap (λ (m : Held × Step). after_step (rules_built t apart) word (at h waiting false) m.0 m.1) (met_is waiting word h)
