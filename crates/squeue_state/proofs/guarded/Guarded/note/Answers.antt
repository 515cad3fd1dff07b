use Rattle.perimeter_core.specs.Kinds.{mark_by}
use Rattle.squeue_state.proofs.KeptMarks.{noted_one, noted_none}
use Rattle.squeue_state.proofs.guarded.Guarded.note.Goals as goal

pub returns-then-self-clause-noted : goal.returns-then-self-clause-noted
returns-then-self-clause-noted g c = λ G H e is n.
    noted_one G c.args.self.now.trace c.note.new.self H e (mark_by c.args.p c.args.kind c.args.es.now) c.args.self.now.traced c.if-self.true is n c.note.ensures.noted c.note.ensures.entered c.note.ensures.room.0 c.note.ensures.room.1

pub returns-else-self-clause-noted : goal.returns-else-self-clause-noted
returns-else-self-clause-noted g c = λ G H e is n.
    noted_none G c.args.self.now.trace c.args.self.now.trace H e (mark_by c.args.p c.args.kind c.args.es.now) c.args.self.now.traced c.if-self.false n
