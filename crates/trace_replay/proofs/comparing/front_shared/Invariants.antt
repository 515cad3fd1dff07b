use Rattle.std.proofs.Common.{◌≡◌, take}
use Rattle.trace_replay.proofs.comparing.front_shared.Given as goal

-- the texts are the same up to here
abbrev pub invariant-loop-i : goal.invariant-loop-i
invariant-loop-i l = take l.i l.one ≡ take l.i l.other
