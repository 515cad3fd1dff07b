use Rattle.std.proofs.Common.{◌≡◌, ◌≤◌, ◌<◌, ℕ, false, length, get_or, vec_capacity}
use Rattle.perimeter_core.specs.Blocks.{Blocks}
use Rattle.std.specs.Prelude.{is_some}
use Rattle.squeue_state.proofs.room.here_flags.Given as goal

abbrev pub invariant-loop-c : goal.invariant-loop-c
invariant-loop-c g l =
    record {
      count : length l.flags.items ≡ l.c;
      room : l.conns ≤ vec_capacity l.flags;
      here : (blocks : Blocks) (c : ℕ) → g.R.Resident.stands l.resident blocks → c < l.c → get_or l.flags.items c false ≡ is_some (blocks c);
    }
