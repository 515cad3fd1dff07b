use Rattle.std.proofs.Common.{◌≡◌, ℕ, ◌+◌, ap, ◌∙◌, arith}
use Rattle.poll_ring.specs.Rings.{FeedCount}
use Rattle.squeue_rings.proofs.Fed.{its_end, its_full, its_size}
use Rattle.squeue_rings.proofs.feeding.feed_intake.Goals as goal

pub loop-init : goal.loop-init
loop-init g c = its_end c.args.intake.now c.in-Some.ring c.in-Some.is c.args.end.now c.requires.end

pub push-requires-clause-room : goal.push-requires-clause-room
push-requires-clause-room g c =
    let size = its_size c.args.intake.now c.in-Some.ring c.in-Some.is c.requires.intake in
    let put = ap (λ (e : FeedCount). e.put) c.loop.invariant in
    omega (arith, size, put, c.loop-test.true, c.len-end.ensures, c.args.intake.now.list.ok.0)

pub loop-preserved : goal.loop-preserved
loop-preserved g c = c.push.ensures ∙ ap (λ (e : FeedCount). record e { put = e.put + 1 }) c.loop.invariant

pub returns-after-loop : goal.returns-after-loop
returns-after-loop g c =
    let size = its_size c.args.intake.now c.in-Some.ring c.in-Some.is c.requires.intake in
    let all : c.loop.counter ≡ c.in-Some.ring.capacity = omega (arith, size, c.loop-test.false, c.loop.auto.counter-end, c.len-end.ensures, c.args.intake.now.list.ok.0) in
    its_full c.args.intake.now c.in-Some.ring c.in-Some.is c.loop.end (c.loop.invariant ∙ ap (λ (n : ℕ). record { ring = c.in-Some.ring.ring; put = n }) all)
