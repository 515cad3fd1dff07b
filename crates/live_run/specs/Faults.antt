-- The exit code of each fault.
use Rattle.std.specs.Prelude.{ℕ}
use Rattle.live_run.specs.declared.fault.Fault.{Fault}
use Rattle.live_run.specs.declared.fault.Fault.TheVariants as fault

abbrev pub code_of : Fault → ℕ
code_of fault.Words = 2
code_of fault.NoMemory = 3
code_of fault.Reading = 4
code_of fault.Writing = 5
code_of fault.Frames = 6
