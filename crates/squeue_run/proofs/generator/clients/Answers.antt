use Rattle.std.proofs.Common.{◌≡◌, ◌∙◌, refl, arith}
use Rattle.squeue_run.proofs.GeneratorSteps.{no_draw}
use Rattle.squeue_run.proofs.GeneratorReady.{client_new, two_draws, new_more, ready_first}
use Rattle.squeue_run.proofs.generator.clients.Goals as goal

pub loop-c-init : goal.loop-c-init
loop-c-init c = record {
  list = c.in_ok-all.ensures.items;
  drawn = no_draw c.args.draws.now.state;
}

pub loop-c-preserved : goal.loop-c-preserved
loop-c-preserved c =
    let first = c.draw-isn.ensures in
    let second = c.draw-iss.ensures in
    let so_far = c.loop-c.invariant in
    let n = c.args.draws.now.state in
    record {
      list = c.in_ok-push.ensures.items ∙ new_more n c.loop-c.c _ c.loop-c.all.items so_far.list
          (client_new n c.loop-c.c _ _ _ _ _ _ so_far.drawn first.state first.value second.state second.value refl);
      drawn = two_draws n c.loop-c.c _ _ _ so_far.drawn first.state second.state;
    }

pub returns : goal.returns
returns c = ready_first c.args.draws.now.state c.loop-c.c _ _ (let e : c.loop-c.c ≡ 1000 = omega arith in e) c.loop-c.invariant.list c.loop-c.invariant.drawn
