-- The small perimeter of tests: its start, and the marks that it takes.
use Rattle.std.specs.Prelude.{ℕ, ◌+◌, ◌-◌, ◌<◌, ◌≤◌, true, false, [], length, replicate}
use Rattle.perimeter_core.specs.declared.marks.Own.TheVariants.{Free}
use Rattle.perimeter_core.specs.declared.marks.SynchAct.{SynchAct}
use Rattle.perimeter_core.specs.declared.marks.SynchAct.TheVariants as Done
use Rattle.perimeter_core.specs.declared.marks.Mark.{Mark}
use Rattle.perimeter_core.specs.declared.marks.Mark.TheVariants as On
use Rattle.perimeter_core.specs.Perimeter.{State}
use Rattle.perimeter_core.specs.History.{pass_of}
use Rattle.perimeter_core.specs.Deeds.{entries_of}

-- nobody has the perimeter, nothing is queued, all connections are here, no pass is closed
abbrev pub all_here : ℕ → ℕ → State
all_here passes conns =
    record {
      own = Free;
      chain = [];
      hand = [];
      wake = false;
      polling = false;
      here = replicate conns true;
      closed = replicate passes false;
    }

-- the worker's pass is the last
abbrev pub last_pass : State → ℕ
last_pass s = length s.closed - 1

-- hand, chain and what the mark enters are few together
abbrev pub HasRoom : State → Mark → Type 0
HasRoom s m = length s.hand + length s.chain + length (entries_of m) ≤ 32

-- the mark's pass, and the connection that its act moves, are among those of the state
abbrev pub ActInReach : State → SynchAct → Type 0
ActInReach s (Done.Out c) = c < length s.here
ActInReach s (Done.In c) = c < length s.here
ActInReach s _ = Unit {0}

abbrev pub InReach : State → Mark → Type 0
InReach s (On.Leave p rest act) = (p < length s.closed) × ActInReach s act
InReach s m = pass_of m < length s.closed
