use Rattle.std.proofs.Common.{◌≡◌, map}
use Rattle.std.specs.List.{range_with_len}
use Rattle.moving_bank.specs.Settling.{statement_of}
use Rattle.moving_bank.proofs.settling.settle.Given as goal

abbrev pub invariant-loop-c : goal.invariant-loop-c
invariant-loop-c g l =
    l.statements.items ≡ map (statement_of (map (λ row. row.items) l.deposits) (map (λ row. row.items) l.transfers)) (range_with_len 0 l.c)
