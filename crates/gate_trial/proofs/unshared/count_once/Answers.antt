use Rattle.std.proofs.Common.{rules, ◌≡◌, ◌+◌, ◌∙◌, ap, sym, Some}
use Rattle.gate_trial.specs.Jobs.{turns_in}
use Rattle.gate_trial.proofs.Turns.{one_turn}
use Rattle.gate_trial.proofs.unshared.count_once.Goals as goal

pub returns : goal.returns
returns g c =
    let had : c.args.job.now.pass ≡ Some c.in-Some.pass = search rules in
    let has : c.replace-old.new.self ≡ Some c.release_plain.result = search rules in
    (search rules, search rules, ap turns_in has ∙ (one_turn _ _ _ c.hold-held.ensures.steps c.release_plain.ensures.steps ∙ ap (λ o. turns_in o + 1) (sym had)))
