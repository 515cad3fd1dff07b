use Rattle.std.proofs.Common.{◌≡◌, ◌<◌, length, sym, ◌∙◌, arith}
use Rattle.std.proofs.lemmas.Bool.Decides.{nat_tests}
use Rattle.perimeter_core.specs.History.{Setting}
use Rattle.squeue_replay.specs.Replaying.{setting_of, squeue_of}
use Rattle.squeue_replay.specs.Standing.{guest_of}
use Rattle.squeue_replay.proofs.Reading.{kept, limit, next_guest, none_left, pass_at, seen, too_late}
use Rattle.squeue_replay.proofs.squeue.ReplayedSqueue.is_next.Goals as goal
use Rattle.squeue_replay.proofs.squeue.ReplayedSqueue.is_next.Goals.{then-index-eq0-via-then-index-eq0, then-index-eq0-via-else-index-eq0+then-feed-items}

pub returns-then-index-eq0 : goal.returns-then-index-eq0
returns-then-index-eq0 c =
    let s = c.args.self.now in
    let S : Setting = setting_of s in
    let most : c.args.feed.c < length s.run.plan.now.tuples = omega arith in
    let some = s.run.range.rings in
    let less : c.args.p < length s.passes.items = omega (arith, s.each_pass) in
    let at = pass_at s.passes.items c.args.p c.index.result.now less c.index.ensures in
    let top = limit s.run.plan.now s.run.calls.now s.number s.run.setup.squeues s.run.setup.spread c.args.feed.c most in (
      (λ t. absurd cc),
      λ n. absurd (elim c.then-index-eq0.branch [
        | then-index-eq0-via-then-index-eq0 w ↦ none_left S c.args.p c.args.feed (squeue_of s) (kept c.index.result.now) at w.if-index-eq0.true n
        | then-index-eq0-via-else-index-eq0+then-feed-items w ↦ too_late S c.args.p c.args.feed (squeue_of s) w.items.result (top ∙ sym w.items.ensures.value) w.if-feed-items.true n
      ]),
    )

pub returns-then-guest : goal.returns-then-guest
returns-then-guest c =
    let s = c.args.self.now in
    let S : Setting = setting_of s in
    let most : c.args.feed.c < length s.run.plan.now.tuples = omega arith in
    let some = s.run.range.rings in
    let less : c.args.p < length s.passes.items = omega (arith, s.each_pass) in
    let place : c.args.feed.c < length s.guests.items = omega (arith, s.each_guest) in
    let at = pass_at s.passes.items c.args.p c.index.result.now less c.index.ensures in
    let here = seen guest_of s.guests.items c.args.feed.c c.index-guest.result.now place c.index-guest.ensures in
    let top = limit s.run.plan.now s.run.calls.now s.number s.run.setup.squeues s.run.setup.spread c.args.feed.c most ∙ sym c.items.ensures.value in (
      (λ t. let due : c.index-guest.result.now.due ≡ c.args.feed.n = grind (arith, nat_tests, t, c.from.ensures) in
          record {
            pass = kept c.index.result.now;
            guest = guest_of c.index-guest.result.now;
            was_pass = at;
            was_guest = here;
            ring = c.if-p-feed.false;
            left = omega arith;
            here = c.if-guest.true;
            next = sym due;
            below = omega (arith, top);
          }),
      λ n. let due : c.index-guest.result.now.due ≡ c.args.feed.n = (next_guest S c.args.p c.args.feed (squeue_of s) (guest_of c.index-guest.result.now) here n).1 in grind (arith, nat_tests, due, c.from.ensures),
    )

pub returns-else-guest : goal.returns-else-guest
returns-else-guest c =
    let s = c.args.self.now in
    let S : Setting = setting_of s in
    let place : c.args.feed.c < length s.guests.items = omega (arith, s.each_guest) in
    let here = seen guest_of s.guests.items c.args.feed.c c.index-guest.result.now place c.index-guest.ensures in
    ((λ t. absurd (let gone = c.if-guest.false in let bad : ⊥ = cc in bad)), λ n. (next_guest S c.args.p c.args.feed (squeue_of s) (guest_of c.index-guest.result.now) here n).0)
