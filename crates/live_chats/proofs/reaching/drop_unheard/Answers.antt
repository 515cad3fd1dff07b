use Rattle.std.proofs.Common.{◌≡◌, ℕ, ◌+◌, ◌-◌, ◌<◌, length, subst, ◌∙◌, arith}
use Rattle.placed_parts.specs.Placing.{limits_of, origin_of}
use Rattle.live_chats.specs.Seating.{HasHeardSeats}
use Rattle.live_chats.proofs.ToldLemmas.{heard_all_seats, one_dropped}
use Rattle.live_chats.proofs.reaching.drop_unheard.Goals as goal

pub drop_one-pass-requires-clause-place : goal.drop_one-pass-requires-clause-place
drop_one-pass-requires-clause-place g c = λ e at. c.loop-n.invariant.seats.is_open (length c.args.heard.now - 1 - c.loop-n.n) e at

pub loop-n-preserved : goal.loop-n-preserved
loop-n-preserved g c =
    let s = c.args.line.now.squeue.now in
    let hs = c.args.heard.now in
    let inv = c.loop-n.invariant in
    let one = c.drop_one-pass.ensures in
    let i : ℕ = length c.args.heard.now - 1 - c.loop-n.n in
    let was = subst (λ (m : ℕ). HasHeardSeats limits_of c.args.line.now.squeue.now (origin_of c.args.line.now.squeue.now.given.first) c.args.heard.now m c.loop-n.pass c.loop-n.stays c.loop-n.seats.entries)
    (let same : length c.args.heard.now - c.loop-n.n ≡ (length c.args.heard.now - 1 - c.loop-n.n) + 1 = omega (arith, c.loop-n-test.true) in same) inv.seats in
    let lt : i < length c.loop-n.seats.entries = omega (arith, c.loop-n-test.true, inv.count) in
    let step = one_dropped limits_of s (origin_of s.given.first) hs i c.loop-n.pass c.drop_one-pass.result c.loop-n.stays c.drop_one-pass.new.stays c.loop-n.seats.entries was c.heard_at-one.result c.drop_one-pass.new.seats.entries
    c.heard_at-one.ensures lt one.settled one.stays one.leaves in
    record {
      seats = subst (λ (m : ℕ). HasHeardSeats limits_of c.args.line.now.squeue.now (origin_of c.args.line.now.squeue.now.given.first) c.args.heard.now m c.drop_one-pass.result c.drop_one-pass.new.stays c.drop_one-pass.new.seats.entries)
          (let same : length c.args.heard.now - 1 - c.loop-n.n ≡ length c.args.heard.now - (c.loop-n.n + 1) = omega arith in same) step.0;
      number = one.number ∙ inv.number;
      were = λ k e at. (let here = step.1 k e at in let first = inv.were here.0 here.1 here.2 in (first.0, first.1, first.2, here.3 ∙ first.3));
      count = omega (arith, step.2);
      all = inv.all;
    }

pub returns-clause-seats : goal.returns-clause-seats
returns-clause-seats g c =
    let s = c.args.line.now.squeue.now in
    heard_all_seats limits_of s (origin_of s.given.first) c.args.heard.now c.loop-n.pass c.loop-n.stays c.loop-n.seats.entries
    (subst (λ (m : ℕ). HasHeardSeats limits_of c.args.line.now.squeue.now (origin_of c.args.line.now.squeue.now.given.first) c.args.heard.now m c.loop-n.pass c.loop-n.stays c.loop-n.seats.entries)
    (let same : length c.args.heard.now - c.loop-n.n ≡ 0 = omega (arith, c.loop-n-test.false) in same) c.loop-n.invariant.seats)
