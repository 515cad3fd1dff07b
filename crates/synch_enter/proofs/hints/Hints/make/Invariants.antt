use Rattle.std.proofs.Common.{◌≡◌, ◌≤◌}
use Rattle.std.specs.Prelude.{vec_len, vec_capacity}
use Rattle.synch_enter.proofs.hints.Hints.make.Given as goal

abbrev pub invariant-loop-c : goal.invariant-loop-c
invariant-loop-c l =
    record {
      count : vec_len l.words ≡ l.c;
      room : l.conns ≤ vec_capacity l.words;
    }
