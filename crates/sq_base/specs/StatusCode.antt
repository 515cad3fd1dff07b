-- The status of the process.
use Rattle.std.specs.Prelude.{ℕ}
use Rattle.sq_base.specs.declared.kinds.Status.{Status}
use Rattle.sq_base.specs.declared.kinds.Status.TheVariants.{Ok, Usage, NoMemory, ReadFault, WriteFault, BadCapture, TooLarge, NoConnection}

abbrev pub code_of : Status → ℕ
code_of Ok = 0
code_of Usage = 2
code_of NoMemory = 3
code_of ReadFault = 4
code_of WriteFault = 5
code_of BadCapture = 6
code_of TooLarge = 7
code_of NoConnection = 8
