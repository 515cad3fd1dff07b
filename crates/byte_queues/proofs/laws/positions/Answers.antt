use Rattle.byte_queues.proofs.WholeLemmas.{front-held, front-gap, over-cell}
use Rattle.byte_queues.proofs.laws.positions.Goals as goal

pub returns-clause-held : goal.returns-clause-held
returns-clause-held c = front-held

pub returns-clause-gap : goal.returns-clause-gap
returns-clause-gap c = front-gap

pub returns-clause-first : goal.returns-clause-first
returns-clause-first c = over-cell
