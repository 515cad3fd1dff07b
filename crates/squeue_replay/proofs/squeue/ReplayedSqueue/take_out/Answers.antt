use Rattle.std.proofs.Common.{◌∙◌, sym, length, refl}
use Rattle.std.proofs.lemmas.Option.{slice_get_read}
use Rattle.perimeter_core.specs.declared.marks.SynchAct.TheVariants as Done
use Rattle.squeue_replay.specs.Standing.{guest_of}
use Rattle.squeue_replay.specs.Steps.{guest_acted}
use Rattle.squeue_replay.proofs.Places.{became_at, became_nowhere, none_past, other_out, own_out}
use Rattle.squeue_replay.proofs.squeue.ReplayedSqueue.take_out.Goals as goal
use Rattle.histories.proofs.ListPlaces.{got_map}

pub returns-in-Some-clause-gone : goal.returns-in-Some-clause-gone
returns-in-Some-clause-gone c few =
    let a = c.in-Some.ensures.item in
    let at = slice_get_read c.args.self.now.guests.items (length c.args.self.now.guests.items) c.args.c c.in-Some.guest.now refl a.3.0 a.1 in
    became_at guest_of c.args.self.now.guests.items c.args.c (λ d. guest_acted d 0 (Done.Out c.args.c)) (λ d g. other_out c.args.c d 0 g) c.in-Some.guest.now c.take_out.new.self
    at (c.take_out.ensures (few c.args.c (guest_of c.in-Some.guest.now) (got_map guest_of c.args.self.now.guests.items c.args.c c.in-Some.guest.now at)).1 ∙ sym (own_out c.args.c 0 (guest_of c.in-Some.guest.now)))

pub returns-in_default-clause-gone : goal.returns-in_default-clause-gone
returns-in_default-clause-gone c few =
    became_nowhere guest_of c.args.self.now.guests.items c.args.c (λ d. guest_acted d 0 (Done.Out c.args.c)) (λ d g. other_out c.args.c d 0 g) (none_past _ _ _ c.get_mut.ensures.item.3 c.in_default.not-Some)
