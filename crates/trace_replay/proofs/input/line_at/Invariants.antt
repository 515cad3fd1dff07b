use Rattle.std.proofs.Common.{◌-◌, ◌≤◌, List, ℕ, length, take}
use Rattle.trace_replay.specs.Lines.{EndsLine, HasLine}
use Rattle.trace_replay.proofs.input.line_at.Given as goal

-- a line begins here, and none before here begins so
abbrev pub invariant-loop-rest : goal.invariant-loop-rest
invariant-loop-rest l =
    record {
      within : l.at ≤ length l.text;
      begins : EndsLine (take l.at l.text);
      none : (front : List ℕ) → HasLine l.word l.text front → l.at ≤ length front;
    }

abbrev pub decreases-loop-rest : goal.decreases-loop-rest
decreases-loop-rest l = length l.text - l.at
