use Rattle.std.proofs.Common.{◌≡◌, ◌++◌, ◌∷◌, [], ◌∙◌, ap, sym, subst}
use Rattle.turn_gate.specs.Helds.{held_seen, held_value, held_number}
use Rattle.turn_gate.specs.Gates.{first_of}
use Rattle.perimeter_core.specs.Kinds.{mark_by}
use Rattle.squeue_state.specs.declared.inner.Inner.{Inner}
use Rattle.squeue_state.specs.declared.guarded.Guarded.{Guarded}
use Rattle.squeue_state.specs.Behind.{Behind, Noted, given_of}
use Rattle.histories.specs.Elements.{element_of}
use Rattle.squeue_state.proofs.Bounds.{counts}
use Rattle.squeue_state.proofs.KeptMarks.{room_at}
use Rattle.squeue_state.proofs.release.end_turn.Goals as goal

pub note-requires : goal.note-requires
note-requires g c =
    room_at g.R.Resident.limits (given_of (first_of c.args.gate.now)) c.value.result.now (held_value c.args.held) (held_seen c.args.held) c.number-p.result (held_number c.args.held) c.args.kind c.args.es.now g.N.Notes.note c.value.ensures.value c.number-p.ensures c.requires.value.legal c.requires.noted

pub end_by-requires-clause-value : goal.end_by-requires-clause-value
end_by-requires-clause-value g c =
    let G = given_of (first_of c.args.gate.now) in
    let e = element_of (held_number c.args.held) c.args.kind c.args.es.now g.N.Notes.note in
    let inner : c.note.new.self.inner ≡ (held_value c.args.held).inner = ap (λ (v : Guarded g.row.R.Denot). v.inner) c.note.ensures.same ∙ ap (λ (v : Guarded g.row.R.Denot). v.inner) c.value.ensures.value in
    let noted = subst (λ (v : Guarded g.row.R.Denot). Noted G v.traced v.trace (held_seen c.args.held)) (sym c.value.ensures.value) c.requires.noted in (
      subst (λ (i : Inner g.row.R.Denot). Behind g.R.Resident G i (held_seen c.args.held ++ e ∷ [])) (sym inner) c.requires.value,
      c.note.ensures.noted G (held_seen c.args.held) e (ap (λ k. mark_by k c.args.kind c.args.es.now) (sym c.number-p.ensures)) noted,
    )

pub end_by-requires-clause-count : goal.end_by-requires-clause-count
end_by-requires-clause-count g c =
    counts g.R.Resident (given_of (first_of c.args.gate.now)) (held_value c.args.held).inner (held_seen c.args.held)
    (element_of (held_number c.args.held) c.args.kind c.args.es.now g.N.Notes.note) c.requires.value
