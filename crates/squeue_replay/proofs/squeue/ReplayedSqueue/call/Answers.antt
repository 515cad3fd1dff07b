use Rattle.std.proofs.Common.{◌∙◌, sym, length, refl}
use Rattle.std.proofs.lemmas.Option.{slice_get_read}
use Rattle.perimeter_core.specs.declared.marks.SynchAct.TheVariants as Done
use Rattle.squeue_replay.specs.Standing.{guest_of}
use Rattle.squeue_replay.specs.Steps.{guest_acted}
use Rattle.squeue_replay.proofs.Places.{became_at, became_nowhere, none_past, other_call, own_call}
use Rattle.squeue_replay.proofs.squeue.ReplayedSqueue.call.Goals as goal

pub returns-in_ok-does-clause-called : goal.returns-in_ok-does-clause-called
returns-in_ok-does-clause-called c =
    let a = c.in-Some.ensures.item in
    became_at guest_of c.args.self.now.guests.items c.args.c (λ d. guest_acted d 0 (Done.Call c.args.c c.args.j c.args.k)) (λ d g. other_call c.args.c c.args.j c.args.k d 0 g) c.in-Some.guest.now c.does.new.self
    (slice_get_read c.args.self.now.guests.items (length c.args.self.now.guests.items) c.args.c c.in-Some.guest.now refl a.3.0 a.1)
    (c.in_ok-does.ensures ∙ sym (own_call c.args.c c.args.j c.args.k 0 (guest_of c.in-Some.guest.now)))

pub returns-in_default-clause-called : goal.returns-in_default-clause-called
returns-in_default-clause-called c =
    became_nowhere guest_of c.args.self.now.guests.items c.args.c (λ d. guest_acted d 0 (Done.Call c.args.c c.args.j c.args.k)) (λ d g. other_call c.args.c c.args.j c.args.k d 0 g)
    (none_past _ _ _ c.get_mut.ensures.item.3 c.in_default.not-Some)
