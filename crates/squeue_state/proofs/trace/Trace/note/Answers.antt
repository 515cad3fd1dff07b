use Rattle.std.proofs.Common.{◌≡◌, ◌∙◌, ◌++◌, ◌∷◌, [], ap, sym, subst, length}
use Rattle.perimeter_core.specs.Kinds.{mark_by}
use Rattle.squeue_state.specs.Told.{Traced, Within, AllWithin, marks_of, mark_of}
use Rattle.squeue_state.proofs.Marks.{all_push, marks_push}
use Rattle.squeue_state.proofs.trace.Trace.note.Goals as goal

pub invariant_of-self : goal.invariant_of-self
invariant_of-self c =
    let n = length c.self.inside.entries.items in
    let there = subst (λ (t : Traced). Within (length t.entries) c.told-mark.result) (sym c.self.view_is) c.told-mark.ensures.places in
    subst (AllWithin n) (sym c.push_reserved.ensures.items) (all_push n c.self.inside.marks.items c.told-mark.result c.self.invariant there)

pub returns-clause-noted : goal.returns-clause-noted
returns-clause-noted c =
    let said = mark_by c.args.p c.args.kind c.args.es.now in
    let is = subst (λ (t : Traced). mark_of t.entries c.told-mark.result ≡ said) (sym c.self.view_is) c.told-mark.ensures.mark in
    marks_push c.self.inside.entries.items c.self.inside.marks.items c.push_reserved.new.self.items c.told-mark.result said c.push_reserved.ensures.items is
    ∙ ap (λ xs. xs ++ said ∷ []) (ap (λ (t : Traced). marks_of t) c.self.view_is ∙ c.told-mark.ensures.told)
