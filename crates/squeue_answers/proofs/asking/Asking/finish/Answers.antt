use Rattle.std.proofs.Common.{◌≡◌, ℕ, false, List, sym, subst}
use Rattle.squeue_answers.specs.Asking.{AskingOf, HasFinished, IsBehind}
use Rattle.squeue_answers.specs.declared.steps.Asked.{Asked}
use Rattle.squeue_answers.proofs.GivenOn.{finished}
use Rattle.squeue_answers.proofs.asking.Asking.finish.Goals as goal

pub returns-clause-finished : goal.returns-clause-finished
returns-clause-finished g c =
    let runs =
    subst (λ (v : AskingOf g.row.A.Denot g.row.K.Denot g.row.A-Item.Denot g.row.K-Answer.Denot). c.args.refused ≡ false → v.stopped ≡ false) (sym c.self.view_is) c.requires in
    subst
    (λ (v : AskingOf g.row.A.Denot g.row.K.Denot g.row.A-Item.Denot g.row.K-Answer.Denot). (all : List (ℕ × Asked g.row.A-Item.Denot g.row.K-Answer.Denot)) → IsBehind c.args.refused all v.given
    → HasFinished g.K.Sink.got all v.quiet c.hand_on_rest.new.sink c.hand_on_rest.new.self)
    c.self.view_is
    (λ all last. finished g.A.Arrivals.given g.A.Arrivals.is_over g.K.Sink.got _ _ _ _ _ _ all _ c.forget_refused.new.self _ _ c.args.refused runs c.self.invariant c.forget_refused.ensures.forgotten
    c.forget_refused.ensures.inputs c.hand_on_rest.ensures.answered c.hand_on_rest.ensures.none last)
