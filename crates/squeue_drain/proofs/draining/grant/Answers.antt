use Rattle.std.proofs.Common.{ap, ◌∙◌, length, arith}
use Rattle.perimeter_core.specs.declared.entries.Entry.TheVariants as Entry'
use Rattle.squeue_state.specs.Clauses.{asker}
use Rattle.perimeter_core.specs.Perimeter.{State, polls}
use Rattle.squeue_drain.proofs.Deciding.{same_state, has_first}
use Rattle.squeue_drain.proofs.draining.grant.Goals as goal

pub returns-clause-polling : goal.returns-clause-polling
returns-clause-polling g c = λ es h. c.is_polling-polling.ensures es h ∙ ap (polls es) (c.polling.ensures ∙ ap (λ (s : State). s.polling) (same_state g.R.Resident.limits c.args.turn.squeue c.args.sq.now c.args.turn.found c.requires.squeue))

pub returns-clause-rest : goal.returns-clause-rest
returns-clause-rest g c =
    let queued = c.chain_len.ensures ∙ ap (λ (s : State). length s.chain) (same_state g.R.Resident.limits c.args.turn.squeue c.args.sq.now c.args.turn.found c.requires.squeue) in
    omega (arith, c.len.ensures, queued, has_first c.args.hand.left (Entry'.Ask (asker c.args.hand.left)) c.requires.first)
