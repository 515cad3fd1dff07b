use Rattle.std.proofs.Common.{◌≡◌, ◌∙◌, ◌+◌, ◌*◌, ◌<◌, ◌^◌, ℕ, [], ◌∷◌, ◌++◌, true, ap, sym, length, min, refl, arith}
use Rattle.std.proofs.lemmas.Option.{slice_get_read}
use Rattle.perimeter_core.specs.declared.marks.SynchAct.TheVariants as Done
use Rattle.squeue_replay.specs.Histories.{stay_of}
use Rattle.squeue_replay.specs.Standing.{GuestOf, guest_of}
use Rattle.squeue_replay.specs.Steps.{guest_acted}
use Rattle.squeue_replay.proofs.Places.{became_at, became_nowhere, none_past, other_in, own_in}
use Rattle.squeue_replay.proofs.StayBounds.{stay_fits}
use Rattle.squeue_replay.proofs.squeue.ReplayedSqueue.put_in.Goals as goal
use Rattle.histories.proofs.ListPlaces.{got_map}

not_cut : (x : ℕ) → x < 2 ^ 64 → min x 18446744073709551615 ≡ x
not_cut x lt = omega arith

pub returns-in_ok-put_in-clause-come : goal.returns-in_ok-put_in-clause-come
returns-in_ok-put_in-clause-come c few =
    let a = c.in-Some.ensures.item in
    let s = c.args.self.now in
    let g : GuestOf = guest_of c.in-Some.guest.now in
    let at = slice_get_read s.guests.items (length s.guests.items) c.args.c c.in-Some.guest.now refl a.3.0 a.1 in
    let low = (few c.args.c g (got_map guest_of s.guests.items c.args.c c.in-Some.guest.now at)).0 in
    let stay : c.stay_of-stay.result ≡ stay_of s.run.setup.squeues s.number c.args.c g.came = c.stay_of-stay.ensures (omega (arith, low)) in
    let fits : stay_of s.run.setup.squeues s.number c.args.c g.came * s.run.setup.spread < 2 ^ 64 =
    stay_fits s.run.setup.squeues s.run.setup.spread s.number c.args.c g.came (omega (arith, s.run.range.squeues)) s.run.range.squeues.1 s.run.range.spread low in
    let fed : c.saturating_mul-fed.result ≡ stay_of s.run.setup.squeues s.number c.args.c g.came * s.run.setup.spread = c.saturating_mul-fed.ensures ∙ rw (stay, c.from.ensures) (not_cut _ fits) in
    became_at guest_of s.guests.items c.args.c (λ d h. guest_acted d (stay_of s.run.setup.squeues s.number d h.came * s.run.setup.spread) (Done.In c.args.c) h)
    (λ d h. other_in c.args.c d (stay_of s.run.setup.squeues s.number d h.came * s.run.setup.spread) h) c.in-Some.guest.now c.put_in.new.self at
    (c.in_ok-put_in.ensures (omega (arith, low)) ∙ (ap (λ (n : ℕ). record g { here = true; due = n; came = g.came + 1; did = g.did ++ [] ∷ [] }) fed
    ∙ sym (own_in c.args.c (stay_of s.run.setup.squeues s.number c.args.c g.came * s.run.setup.spread) g)))

pub returns-in_default-clause-come : goal.returns-in_default-clause-come
returns-in_default-clause-come c few =
    let s = c.args.self.now in
    became_nowhere guest_of s.guests.items c.args.c (λ d h. guest_acted d (stay_of s.run.setup.squeues s.number d h.came * s.run.setup.spread) (Done.In c.args.c) h)
    (λ d h. other_in c.args.c d (stay_of s.run.setup.squeues s.number d h.came * s.run.setup.spread) h) (none_past _ _ _ c.get_mut.ensures.item.3 c.in_default.not-Some)
