use Rattle.std.proofs.Common.{arith, length-drop, List, ℕ, take, subst}
use Rattle.std.proofs.lemmas.List.{take_rest}
use Rattle.std.specs.Io.KnownBytes.{Appends}
use Rattle.sq_base.proofs.EndsLemmas.{Appends-front_more}
use Rattle.sq_base.proofs.ends.put.Goals as goal

pub loop-at-preserved : goal.loop-at-preserved
loop-at-preserved g c = record {
  within = omega (arith, c.in_ok-at.ensures.bound, length-drop c.loop-at.at c.args.bytes.now);
  written = Appends-front_more _ _ _ c.loop-at.at c.in_ok-at.field-0 c.args.bytes.now c.loop-at.invariant.written
      (subst (λ (ys : List ℕ). Appends (g.K.Sink.contents c.loop-at.sink) (g.K.Sink.contents c.write.new.self) (take c.in_ok-at.field-0 ys)) (take_rest c.args.bytes.now c.loop-at.at) c.in_ok-at.ensures.bytes);
  kept = omega (arith, c.in_ok-at.ensures.kept, c.loop-at.invariant.kept);
}
