use Rattle.std.proofs.Common.{rules}
use Rattle.conn_blocks.proofs.Conns.{of_four}
use Rattle.conn_blocks.proofs.calls.Calls.conns.Goals as goal

pub returns : goal.returns
returns c =
    of_four c.args.self.now _ c.in_ok-first.first.items c.in_ok-second.second.items c.in_ok-third.third.items c.in_ok-fourth.fourth.items (search rules) (search rules)
    (search rules) (search rules) (search rules) (search rules) (search rules) (search rules) (search rules) (search rules)
