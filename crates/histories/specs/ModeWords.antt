-- The word of each mode of entering.
use Rattle.std.specs.Prelude.{ℕ, if◌then◌else◌, codes, List, Option, None, Some}
use Rattle.std.specs.Str.{bytes_eq}
use Rattle.histories.specs.declared.mode.Mode.{Mode}
use Rattle.histories.specs.declared.mode.Mode.TheVariants.{Process, NoDrain, Fill}

-- on a command line and in a report
unfoldable pub mode_word : Mode → List ℕ
mode_word Process = codes "process"
mode_word NoDrain = codes "nodrain"
mode_word Fill = codes "fill"

-- the mode whose word a text is
abbrev pub mode_of : List ℕ → Option Mode
mode_of text =
    if bytes_eq text (mode_word Process) then Some Process
    else if bytes_eq text (mode_word NoDrain) then Some NoDrain
    else if bytes_eq text (mode_word Fill) then Some Fill
    else None

-- the words, as a line of usage names them
abbrev pub mode_words : List ℕ
mode_words = codes "process|nodrain|fill"
