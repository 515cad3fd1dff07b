-- What telling a line does to an end.
use Rattle.std.specs.Prelude.{◌⊎◌, ℕ, List, Result, OnOk, OnErr, ⊤}
use Rattle.std.specs.Io.KnownBytes.{Appends}
use Rattle.sq_base.specs.Ends.{AppendsProperly, End, IsUntouched, MetNoFault, Rose}
use Rattle.sq_base.specs.declared.ends.Failed.{Failed}

-- this line was appended; or a write failed, and a front of it was that isn't all of it
abbrev pub TellsLine : End → List ℕ → Type 0
TellsLine end text = (MetNoFault end × Appends end.was end.is text) ⊎ (Rose end.faults_were end.faults_are × AppendsProperly end.was end.is text)

-- nothing was written to `out`, and this line was told to `err`
abbrev pub OnlyTells : End → End → List ℕ → Type 0
OnlyTells out err text = IsUntouched out × TellsLine err text

-- a writer's answer says which of the two it was
abbrev pub WritesAll : Result ⊤ Failed → End → List ℕ → Type 0
WritesAll answer end text =
    OnOk answer (MetNoFault end × Appends end.was end.is text)
    × OnErr answer (Rose end.faults_were end.faults_are × AppendsProperly end.was end.is text)
