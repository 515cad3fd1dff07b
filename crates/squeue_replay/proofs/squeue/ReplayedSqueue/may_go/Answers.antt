use Rattle.std.proofs.Common.{◌≡◌, ◌∙◌, ◌<◌, sym, length, refl, arith}
use Rattle.std.specs.Prelude.{slice_index}
use Rattle.std.proofs.lemmas.Bool.Decides.{nat_tests}
use Rattle.std.proofs.lemmas.Option.{slice_get_read}
use Rattle.std.proofs.lemmas.List.{length-map}
use Rattle.std.proofs.lemmas.Bool.{ltb-true, lt-ltb}
use Rattle.squeue_replay.specs.Replaying.{setting_of}
use Rattle.squeue_replay.specs.Standing.{GuestOf, guest_of}
use Rattle.squeue_replay.proofs.Places.{has_it, it_has}
use Rattle.squeue_replay.proofs.SettingFacts.{leaves_at}
use Rattle.squeue_replay.proofs.squeue.ReplayedSqueue.may_go.Goals as goal

pub returns-then-guest-eq0 : goal.returns-then-guest-eq0
returns-then-guest-eq0 c =
    let s = c.args.self.now in
    let n = length-map s.guests.items guest_of in
    let lt : c.args.c < length s.guests.items = omega (arith, c.requires, n) in
    let within : c.args.c < length s.run.plan.now.tuples = omega (arith, lt, s.each_guest) in
    let at = slice_get_read s.guests.items (length s.guests.items) c.args.c c.index-guest.result.now refl lt c.index-guest.ensures in
    let most : c.from.result ≡ slice_index (setting_of s).limits.leaves c.args.c =
    c.from.ensures ∙ (c.leaving-most.ensures.value ∙ (rw (c.homes-homes.ensures.squeues, c.homes-homes.ensures.spread, c.items.ensures.value) refl
    ∙ sym (leaves_at s.run.plan.now s.run.calls.now s.run.setup.squeues s.run.setup.rings s.run.setup.spread s.number c.args.c within))) in (
      λ low. has_it guest_of s.guests.items c.args.c (λ (g : GuestOf). (g.left < slice_index (setting_of s).limits.leaves c.args.c) × (g.queued ≡ 0)) c.index-guest.result.now at
          (rw (← most) (ltb-true c.index-guest.result.now.left c.from.result low), c.if-guest-eq0.true),
      λ h. lt-ltb c.index-guest.result.now.left c.from.result
          (rw most (it_has guest_of s.guests.items c.args.c (λ (g : GuestOf). (g.left < slice_index (setting_of s).limits.leaves c.args.c) × (g.queued ≡ 0)) c.index-guest.result.now at h).0),
    )

pub returns-else-guest-eq0 : goal.returns-else-guest-eq0
returns-else-guest-eq0 c =
    let s = c.args.self.now in
    let n = length-map s.guests.items guest_of in
    let lt : c.args.c < length s.guests.items = omega (arith, c.requires, n) in
    let at = slice_get_read s.guests.items (length s.guests.items) c.args.c c.index-guest.result.now refl lt c.index-guest.ensures in (
      λ zero. absurd (let none : c.index-guest.result.now.queued ≡ 0 = grind (arith, nat_tests, zero) in c.if-guest-eq0.false none),
      λ h. absurd (c.if-guest-eq0.false (it_has guest_of s.guests.items c.args.c (λ (g : GuestOf). (g.left < slice_index (setting_of s).limits.leaves c.args.c) × (g.queued ≡ 0)) c.index-guest.result.now at h).1),
    )
