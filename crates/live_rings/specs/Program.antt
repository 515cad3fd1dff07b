-- The words of `sqlive`, how a run by rings is set up, and what it ends with.
use Rattle.std.specs.Prelude.{Bool, false, is_none, Option, Some, None, List, [], ◌∷◌, codes}
use Rattle.std.specs.Str.{bytes_eq}
use Rattle.live_server.specs.declared.initial.Secret.{Secret}
use Rattle.live_run.specs.declared.fault.Fault.{Fault}
use Rattle.shell.specs.Table.{Text}
use Rattle.live_rings.specs.declared.words.Layout.{Layout}
use Rattle.live_rings.specs.declared.words.RingWords.{RingWords}

-- several rings are asked for
abbrev pub are_for_rings : List Text → Bool
are_for_rings [] = false
are_for_rings (w ∷ ws) = bytes_eq w (codes "--rings")

-- a run that is set up as asked for, with this secret; it goes on where memory is missing, unless its secret was given
abbrev pub setup_by : RingWords → Secret → Layout
setup_by w secret = record {
  squeues = w.squeues;
  mode = w.mode;
  budget = w.budget;
  setting = w.setting;
  secret = secret;
  goes_on = is_none w.secret;
}

-- the fault of the first stream that has one
abbrev pub first_fault : List (Option Fault) → Option Fault
first_fault [] = None
first_fault (None ∷ fs) = first_fault fs
first_fault (Some fault ∷ fs) = Some fault
