use Rattle.std.proofs.Common.{◌∙◌, ℕ, [], ◌∷◌, ap, sym, length, refl}
use Rattle.std.proofs.lemmas.Option.{slice_get_read}
use Rattle.perimeter_core.specs.declared.entries.Act.TheVariants as Did
use Rattle.perimeter_core.specs.declared.entries.Entry.TheVariants as Queued
use Rattle.squeue_replay.specs.Standing.{GuestOf, guest_of}
use Rattle.squeue_replay.specs.Steps.{guest_fed, last_longer}
use Rattle.squeue_replay.proofs.Places.{became_at, became_nowhere, none_past, other_fed, own_fed}
use Rattle.squeue_replay.proofs.squeue.ReplayedSqueue.feed.Goals as goal

pub returns-in_ok-does-clause-fed : goal.returns-in_ok-does-clause-fed
returns-in_ok-does-clause-fed c =
    let a = c.in-Some.ensures.item in
    let g : GuestOf = guest_of c.in-Some.guest.now in
    became_at guest_of c.args.self.now.guests.items c.args.c (λ d. guest_fed d (Queued.Feed c.args.c c.args.n ∷ [])) (λ d h. other_fed c.args.c c.args.n d h) c.in-Some.guest.now c.does.new.self
    (slice_get_read c.args.self.now.guests.items (length c.args.self.now.guests.items) c.args.c c.in-Some.guest.now refl a.3.0 a.1)
    (c.in_ok-does.ensures ∙ (ap (λ (q : ℕ). record g { queued = q; did = last_longer (Did.Feed c.args.n ∷ []) g.did }) c.saturating_sub-guest.ensures ∙ sym (own_fed c.args.c c.args.n g)))

pub returns-in_default-clause-fed : goal.returns-in_default-clause-fed
returns-in_default-clause-fed c =
    became_nowhere guest_of c.args.self.now.guests.items c.args.c (λ d. guest_fed d (Queued.Feed c.args.c c.args.n ∷ [])) (λ d h. other_fed c.args.c c.args.n d h)
    (none_past _ _ _ c.get_mut.ensures.item.3 c.in_default.not-Some)
