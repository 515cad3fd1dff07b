use Rattle.std.proofs.Common.{◌++◌, ◌∷◌, [], ◌∙◌, ap, sym, append-nil}
use Rattle.squeue_arrivals.specs.Tasks.{ended_of}
use Rattle.squeue_arrivals.proofs.ring_squeue.add_ended.Goals as goal

pub returns-in-Served-clause-left : goal.returns-in-Served-clause-left
returns-in-Served-clause-left g c = c.push_reserved.ensures.items ∙ ap (λ t. c.args.left.now.items ++ ended_of (t ∷ [])) (sym c.in-Served.is)

pub returns-in-Serve-clause-left : goal.returns-in-Serve-clause-left
returns-in-Serve-clause-left g c = sym (append-nil c.args.left.now.items) ∙ ap (λ t. c.args.left.now.items ++ ended_of (t ∷ [])) (sym c.in-Serve.is)
