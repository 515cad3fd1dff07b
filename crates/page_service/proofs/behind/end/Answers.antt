use Rattle.std.proofs.Common.{ap, ◌∙◌, ◌+◌}
use Rattle.byte_queues.specs.ReceiveQueue.{next_of}
use Rattle.byte_queues.specs.SendQueue.{room_of}
use Rattle.tcb_machine.specs.BlockState.{Block, offered}
use Rattle.tcb_machine.specs.CallAnswers.{close_in}
use Rattle.tcb_machine.specs.Validity.{left_by}
use Rattle.page_service.proofs.CloseLemmas.{called_left, closes_next, closes_offered}
use Rattle.page_service.proofs.behind.end.Goals as goal

pub returns-clause-closed : goal.returns-clause-closed
returns-clause-closed c =
    called_left c.throw.new.tcb c.call.new.self c.in_ok-call.field-0.0 c.in_ok-call.field-0.1 c.in_ok-call.ensures.called
    ∙ ap (λ (x : Block). left_by (close_in x.state x).verdict) c.throw.ensures.thrown

pub returns-clause-next : goal.returns-clause-next
returns-clause-next c = ap (λ (x : Block). next_of x.recv) (returns-clause-closed c) ∙ closes_next c.args.tcb.now

pub returns-clause-offered : goal.returns-clause-offered
returns-clause-offered c = ap (λ (x : Block). offered x + room_of x.out) (returns-clause-closed c) ∙ closes_offered c.args.tcb.now
