use Rattle.std.proofs.Common.{refl}
use Rattle.std.proofs.KnownBytes.{Keeps-refl}
use Rattle.squeue_run.specs.Asked.{asked_by_words}
use Rattle.squeue_run.proofs.Outputs.{generated_for, replayed_for}
use Rattle.squeue_run.proofs.run.output_for.Goals as goal

pub returns-in-Some-clause-ends : goal.returns-in-Some-clause-ends
returns-in-Some-clause-ends g c =
    generated_for (asked_by_words c.args.words.now) _ _ c.generated.result c.args.words.now.number c.in-Some.number c.in-Some.is (record { bytes = Keeps-refl _; faults = refl }) c.generated.ensures.ends

pub returns-in_ok-capture-in-Ok-clause-ends : goal.returns-in_ok-capture-in-Ok-clause-ends
returns-in_ok-capture-in-Ok-clause-ends g c =
    let met = c.in-Ok.ensures.kept (λ e. let no : ⊥ = cc in no) in
    replayed_for (asked_by_words c.args.words.now) _ _ c.replayed.result c.args.words.now.number c.in_ok-capture-in-Ok.capture c.in-Ok.bytes c.in-None.is met c.in-Ok.ensures.few
    c.in-Ok.ensures.ok.0 c.in_ok-capture-in-Ok.ensures.1 c.in_ok-capture-in-Ok.ensures.0 c.replayed.ensures.ends
