use Rattle.std.proofs.Common.{◌≤◌, ◌∙◌, ap, length, arith}
use Rattle.squeue_state.specs.Told.{Traced, marks_of}
use Rattle.squeue_state.proofs.Marks.{all_more, told_more}
use Rattle.squeue_state.proofs.trace.Trace.enter.Goals as goal

pub invariant_of-self : goal.invariant_of-self
invariant_of-self c =
    let grown : length c.self.inside.entries.items ≤ length c.push_reserved.new.self.items = omega (arith, c.push_reserved.ensures.len, c.self.inside.entries.ok.0, c.push_reserved.new.self.ok.0) in
    all_more _ _ _ grown c.self.invariant

pub returns-clause-told : goal.returns-clause-told
returns-clause-told c =
    told_more c.self.inside.entries.items c.push_reserved.new.self.items _ c.self.inside.marks.items c.self.invariant c.push_reserved.ensures.items ∙ ap (λ (t : Traced). marks_of t) c.self.view_is
