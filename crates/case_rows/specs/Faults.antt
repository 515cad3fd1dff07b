-- What is told of a row that fails.
use Rattle.std.specs.Prelude.{◌≡◌, ℕ, List, codes}
use Rattle.std.specs.String.{string_bytes}
use Rattle.case_rows.specs.declared.fault.RowFault.{RowFault}
use Rattle.case_rows.specs.declared.fault.RowFault.TheVariants.{NoMemory, Told}
use Rattle.case_rows.specs.declared.wrong.Wrong.{Wrong}
use Rattle.case_rows.specs.declared.wrong.Wrong.TheVariants.{Call, Memory, Word}

-- a fault's line is this one, if memory didn't fail
abbrev pub Tells : RowFault → List ℕ → Type 0
Tells NoMemory line = Unit {0}
Tells (Told told) line = string_bytes told ≡ line

-- what is said of a line that can't be run
abbrev pub text_of : Wrong → List ℕ
text_of Memory = codes "out of memory"
text_of Word = codes "a word isn't understood"
text_of Call = codes "this may not be done here"
