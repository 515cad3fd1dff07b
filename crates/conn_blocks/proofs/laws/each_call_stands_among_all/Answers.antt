use Rattle.conn_blocks.proofs.Named.{call_is_named}
use Rattle.conn_blocks.proofs.laws.each_call_stands_among_all.Goals as goal

pub returns : goal.returns
returns c = call_is_named
