use Rattle.std.proofs.Common.{◌≡◌, ℕ, Some, ◌∷◌, [], length, take, get_or, false, sym, subst, ◌∙◌, arith, length-append}
use Rattle.std.proofs.lemmas.List.{take_more, length-take-le}
use Rattle.perimeter_core.specs.Blocks.{fresh}
use Rattle.perimeter_trial.specs.Logging.{LogAt}
use Rattle.perimeter_trial.proofs.LogSteps.{first_stand}
use Rattle.perimeter_trial.proofs.logs.Logs.make.Goals as goal

pub loop-c-preserved : goal.loop-c-preserved
loop-c-preserved c =
    let i = c.loop-c.c in
    let logs = c.loop-c.logs.items in
    let starts = c.args.starts.now in
    let done : length (take i starts) ≡ i = length-take-le i starts (omega (arith, c.loop-c-test.true)) in
    let same : length logs ≡ length (take i starts) = c.loop-c.invariant.count ∙ sym done in
    let first = subst (λ (n : ℕ). LogAt n (Some c.first.result) (fresh (get_or starts i false))) (sym c.loop-c.invariant.count) c.first.ensures in
    record {
      count = rw c.in_ok-push.ensures.items (omega (arith, length-append logs (c.first.result ∷ []), c.loop-c.invariant.count));
      stands = rw (c.in_ok-push.ensures.items, take_more starts i false c.loop-c-test.true)
          (first_stand logs (take i starts) c.first.result (get_or starts i false) same c.loop-c.invariant.stands first);
    }
