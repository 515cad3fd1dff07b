use Rattle.std.proofs.Common.{length, refl}
use Rattle.std.proofs.lemmas.Option.{slice_get_read}
use Rattle.squeue_replay.proofs.Places.{answered_at, answered_nowhere, none_past}
use Rattle.squeue_replay.proofs.squeue.ReplayedSqueue.answer.Goals as goal

pub returns-in-Some-clause-answered : goal.returns-in-Some-clause-answered
returns-in-Some-clause-answered c =
    let a = c.in-Some.ensures.item in
    answered_at _ c.args.self.now.passes.items c.args.p c.in-Some.pass.now _ (slice_get_read c.args.self.now.passes.items (length c.args.self.now.passes.items) c.args.p c.in-Some.pass.now refl a.3.0 a.1) refl

pub returns-in_default-clause-answered : goal.returns-in_default-clause-answered
returns-in_default-clause-answered c = answered_nowhere _ c.args.self.now.passes.items c.args.p (none_past _ _ _ c.get_mut.ensures.item.3 c.in_default.not-Some)
