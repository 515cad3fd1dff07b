use Rattle.std.proofs.Common.{◌≡◌, ◌+◌, ap, sym, ◌∙◌, arith, length}
use Rattle.std.proofs.lemmas.List.{length_push}
use Rattle.squeue_run.specs.GeneratedCapture.{state_at}
use Rattle.squeue_run.proofs.GeneratorSteps.{none_drawn}
use Rattle.squeue_run.proofs.GeneratorReady.{byte_more, state_step}
use Rattle.squeue_run.proofs.generator.text.Goals as goal

pub loop-init : goal.loop-init
loop-init c = record {
  count = ap length c.in_ok-bytes.ensures.items;
  few = c.text_len-len.ensures.short;
  room = c.in_ok-bytes.ensures.capacity;
  text = λ n from h. c.in_ok-bytes.ensures.items ∙ sym (none_drawn n from);
  drawn = λ n from h. h ∙ ap (state_at n) (let e : from ≡ from + 0 = omega arith in e);
}

pub loop-preserved : goal.loop-preserved
loop-preserved c = record {
  count = ap length c.push_reserved.ensures.items ∙ length_push c.loop.bytes.items _ ∙ ap (λ k. k + 1) c.loop.invariant.count;
  few = c.loop.invariant.few;
  room = omega (arith, c.loop.invariant.room, c.push_reserved.ensures.capacity);
  text = λ n from h. byte_more n from c.loop.counter _ _ _ _ _ (c.loop.invariant.drawn n from h) c.draw.ensures.state c.draw.ensures.value (c.loop.invariant.text n from h) c.push_reserved.ensures.items;
  drawn = λ n from h. state_step n from c.loop.counter _ _ (c.loop.invariant.drawn n from h) c.draw.ensures.state;
}
