use Rattle.std.proofs.Common.{◌≡◌, ℕ, ◌++◌, ◌≤◌, List, map, drop}
use Rattle.std.specs.Prelude.{take_while}
use Rattle.perimeter_core.specs.declared.entries.Act.{Act}
use Rattle.perimeter_core.specs.declared.entries.Act.TheVariants as act
use Rattle.conn_blocks.specs.CallLists.{calls_of}
use Rattle.conn_blocks.specs.Orders.{call_numbers, numbers_from, numbers_on}
use Rattle.conn_blocks.specs.Holding.{is_held_back, stage_at, Fits, IsSettled}
use Rattle.conn_blocks.proofs.block.Block.let_go.Given as goal

abbrev pub invariant-loop-k : goal.invariant-loop-k
invariant-loop-k l = record {
  settled : IsSettled l.plan l.calls l.c l.self;
  next : numbers_on l.calls l.c l.j ≡ call_numbers l.j l.self.order ++ numbers_from l.k l.c (drop l.k (calls_of l.calls l.j));
  gone : l.self.order ++ map (act.Call l.j) (take_while (λ i. is_held_back (stage_at l.initial.self.stages l.j i)) (numbers_from l.k l.c (drop l.k (calls_of l.calls l.j))))
      ≡ l.initial.self.order ++ map (act.Call l.j) (take_while (λ i. is_held_back (stage_at l.initial.self.stages l.j i)) (numbers_from l.from l.c (drop l.from (calls_of l.calls l.j))));
  fits : (came : List Act) → Fits l.calls came l.initial.self → Fits l.calls came l.self;
  later : (m : ℕ) → l.k ≤ m → stage_at l.self.stages l.j m ≡ stage_at l.initial.self.stages l.j m;
}
