use Rattle.std.proofs.Common.{◌≡◌, Some, [], ◌∷◌, ◌++◌, ap, refl, ◌∙◌}
use Rattle.std.specs.Prelude.{option_to_list}
use Rattle.squeue_bench.specs.Places.{HasPass}
use Rattle.squeue_bench.proofs.Places.{at_split}
use Rattle.squeue_bench.proofs.runs.take_back.Goals as goal

pub returns-clause-ring : goal.returns-clause-ring
returns-clause-ring g c =
    let left = c.pop-last.new.self.items in
    let o = Some c.in-Some-Some.pass in
    let popped : c.args.ring.now.passes.items ≡ left ++ o ∷ [] = c.pop-last.ensures.items ∙ ap (λ x. left ++ option_to_list x) (c.in-Some-Some.is ∙ ap Some c.in-Some-Some.field-0-is) in
    (at_split (HasPass c.args.k) (c.args.squeues.now ++ c.args.squeue.now ∷ []) c.args.squeues.now c.args.squeue.now c.args.ring.now.passes.items left o refl popped record { as_many = c.requires.as_many; each = c.requires.each }).0
