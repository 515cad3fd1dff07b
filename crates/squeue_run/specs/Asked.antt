-- What the words of `sqrun` ask for: the setup, the number of a generated input, and CALLs.
use Rattle.std.specs.Prelude.{ℕ, ◌-◌, ◌==◌, ◌&&◌, ◌||◌, not, nat_lt, Bool, if◌then◌else◌, codes}
use Rattle.std.specs.Prelude.{List, length, Option, None, Some, is_some, option_map, option_and_then}
use Rattle.std.specs.Str.{bytes_eq}
use Rattle.shell.specs.Asked.{AskedOf, GivenOf, is_set, number_for, text_for}
use Rattle.shell.specs.Asked as shell
use Rattle.shell.specs.Numbers.{number_between}
use Rattle.shell.specs.Parts.{split_at}
use Rattle.squeue_run.specs.Words.{Text, sqrun_table}
use Rattle.conn_blocks.specs.Limits.{callers}
use Rattle.ring_quotas.specs.declared.setup.Setup.{Setup}
use Rattle.histories.specs.declared.mode.Mode.{Mode}
use Rattle.histories.specs.ModeWords.{mode_of}
use Rattle.tcb_machine.specs.Limits.{plain_space}
use Rattle.tcb_machine.specs.declared.kinds.Call.{Call}
use Rattle.tcb_machine.specs.declared.kinds.Call.TheVariants as call
use Rattle.squeue_run.specs.declared.calls.CallWord.{CallWord}
use Rattle.squeue_run.specs.declared.reading.Words.{Words}
use Rattle.conn_classifier.specs.Rules.{usual}
use Rattle.conn_classifier.specs.declared.rules.Rules.{Rules}

-- `status`, `close`, or `buffer=N` with the `=` (61)
abbrev pub buffer_by : Text × Text → Option Call
buffer_by parts = if bytes_eq parts.0 (codes "buffer") then option_map call.Buffer (number_between 0 plain_space parts.1) else None

abbrev pub asked_of : Text → Option Call
asked_of text =
    if bytes_eq text (codes "status") then Some call.Status
    else if bytes_eq text (codes "close") then Some call.Close
    else option_and_then buffer_by (split_at 61 text)

-- a CALL is a thread's digit, a connection's number and what is asked, with colons (58) between
abbrev pub call_by : Text → Text → Text → Option CallWord
call_by thread connection asked =
    if length thread == 1 then option_and_then (λ j. option_and_then (λ c. option_map (λ what.
    record { thread = j; connection = c; call = what }) (asked_of asked)) (number_between 0 4294967295 connection)) (number_between 0 (callers - 1) thread)
    else None

abbrev pub call_of : Text → Option CallWord
call_of text = option_and_then (λ first. option_and_then (λ second. call_by first.0 second.0 second.1) (split_at 58 first.1)) (split_at 58 text)

-- the setup that the options name
abbrev pub setup_by : Option ℕ → Option ℕ → Option Mode → Option ℕ → Option ℕ → Bool → Option Setup
setup_by squeues rings mode budget spread trace =
    option_and_then (λ q. option_and_then (λ r. option_and_then (λ m. option_and_then (λ b. option_map (λ s.
    record { squeues = q; rings = r; mode = m; budget = b; spread = s; trace = trace }) spread) budget) mode) rings) squeues

abbrev pub setup_of : List GivenOf → Option Setup
setup_of gs =
    setup_by (number_for (codes "squeues") gs) (number_for (codes "rings") gs) (option_and_then mode_of (text_for (codes "mode") gs))
    (number_for (codes "budget") gs) (number_for (codes "spread") gs) (is_set (codes "trace") gs)

-- beside a generated input no CALL, and no trace
abbrev pub go_together : Option ℕ → Bool → ℕ → Bool
go_together number trace calls = not (is_some number && (trace || nat_lt 0 calls))

-- what accepted words ask for: the CALLs are in word order
pub record Asked : Type 0 where
  pub setup : Setup
  pub verify : Bool
  pub number : Option ℕ
  pub calls : List CallWord

-- what the words ask, from what the program holds of them
abbrev pub asked_by_words : Words → Asked
asked_by_words w = record { setup = w.setup; verify = w.verify; number = w.number; calls = w.named.items }

-- by what the plan is made
abbrev pub rules_of : Asked → Rules
rules_of a = usual a.verify

abbrev pub asked_with : AskedOf CallWord → Option ℕ → Setup → Option Asked
asked_with a number setup =
    if go_together number setup.trace (length a.calls)
    then Some (record { setup = setup; verify = is_set (codes "verify") a.givens; number = number; calls = a.calls })
    else None

abbrev pub asked_by : AskedOf CallWord → Option Asked
asked_by a = option_and_then (asked_with a (number_for (codes "gen") a.givens)) (setup_of a.givens)

-- what the words ask for, where they aren't refused
abbrev pub asked : List Text → Option Asked
asked words = option_and_then asked_by (shell.asked call_of sqrun_table words)
