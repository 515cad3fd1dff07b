use Rattle.conn_blocks.proofs.Held.{holds_back, serves_settled}
use Rattle.conn_blocks.proofs.laws.a_block_holds_back_what_settling_holds.Goals as goal

pub returns-clause-order : goal.returns-clause-order
returns-clause-order c = λ p calls c came b is. is.order

pub returns-clause-held : goal.returns-clause-held
returns-clause-held c = λ p calls c came b j k is. holds_back p calls c came b is j k

pub returns-clause-served : goal.returns-clause-served
returns-clause-served c = serves_settled
