use Rattle.std.proofs.Common.{◌≡◌, ℕ, ◌+◌, ◌-◌, ◌^◌, map, min, ap, ◌∙◌, arith, slice_set}
use Rattle.std.proofs.lemmas.List.{map-set}
use Rattle.squeue_replay.specs.Replaying.{setting_of, squeue_of}
use Rattle.squeue_replay.specs.Standing.{guest_of}
use Rattle.squeue_replay.proofs.Reading.{kept, pass_at, queued_one, seat, seen}
use Rattle.squeue_replay.proofs.squeue.ReplayedSqueue.queue_one.Goals as goal

pub returns-clause-queued : goal.returns-clause-queued
returns-clause-queued c =
    let s = c.args.self.now in
    let x = c.index_mut.result.now in
    let g = c.index_mut-guest.result.now in
    let n = c.requires in
    let less = seat kept s.passes.items c.args.p n.pass n.was_pass in
    let place = seat guest_of s.guests.items c.args.feed.c n.guest n.was_guest in
    let top : c.saturating_add-guest.result ≡ min (g.queued + 1) (2 ^ 64 - 1) = omega (arith, c.saturating_add-guest.ensures) in
    queued_one (setting_of s) c.args.p c.args.feed (squeue_of s) (kept x) (guest_of g) _ _ _ n
    (pass_at s.passes.items c.args.p x less c.index_mut.ensures.value) (seen guest_of s.guests.items c.args.feed.c g place c.index_mut-guest.ensures.value)
    c.in_ok-push_back.ensures.items (map-set kept s.passes.items c.args.p (record x { feeds = x.feeds - 1 }))
    (map-set guest_of s.guests.items c.args.feed.c (record g { due = g.due + 1; queued = c.saturating_add-guest.result; inside = _ })
    ∙ ap (λ (m : ℕ). slice_set (map guest_of s.guests.items) c.args.feed.c (record (guest_of g) { due = g.due + 1; queued = m })) top)
