use Rattle.std.proofs.Common.{◌≡◌, ◌≤◌, List, Some, true, length, refl, ap, subst, arith}
use Rattle.std.specs.Prelude.{slice_get}
use Rattle.std.proofs.lemmas.Option.{slice_get_read}
use Rattle.squeue_replay.specs.declared.guest.Guest.{Guest}
use Rattle.squeue_replay.specs.Standing.{GuestOf, guest_of}
use Rattle.squeue_replay.proofs.Places.{has_it, has_none, it_has}
use Rattle.squeue_replay.proofs.squeue.ReplayedSqueue.is_here.Goals as goal

pub returns-in-Some : goal.returns-in-Some
returns-in-Some c =
    let a = c.in-Some.ensures.lookup in
    let at : slice_get c.args.self.now.guests.items c.args.c ≡ Some c.in-Some.guest.now =
    subst (λ (xs : List Guest). slice_get xs c.args.c ≡ Some c.in-Some.guest.now) c.deref.ensures.value (slice_get_read c.deref.result.now (length c.deref.result.now) c.args.c c.in-Some.guest.now refl a.3.0 a.1) in (
      has_it guest_of c.args.self.now.guests.items c.args.c (λ (g : GuestOf). g.here ≡ true) c.in-Some.guest.now at,
      it_has guest_of c.args.self.now.guests.items c.args.c (λ (g : GuestOf). g.here ≡ true) c.in-Some.guest.now at,
    )

pub returns-in-None : goal.returns-in-None
returns-in-None c =
    let past : length c.deref.result.now ≤ c.args.c = c.in-None.ensures.lookup.3 in
    let same = ap (λ (xs : List Guest). length xs) c.deref.ensures.value in
    (λ no_one. absurd (cc no_one), λ h. absurd (has_none guest_of c.args.self.now.guests.items c.args.c (λ (g : GuestOf). g.here ≡ true) (omega (arith, past, same)) h))
