use Rattle.std.proofs.Common.{◌≡◌, ℕ, ◌+◌, List, drop, get_or, refl, sym, ◌∙◌, subst, arith}
use Rattle.perimeter_core.specs.declared.entries.Feed.{Feed}
use Rattle.perimeter_core.specs.History.{Setting}
use Rattle.squeue_replay.specs.Entering.{IsNext, Queues, QueuesOne}
use Rattle.squeue_replay.specs.Replaying.{setting_of, squeue_of}
use Rattle.squeue_replay.specs.Standing.{SqueueOf}
use Rattle.std.proofs.Math.Seq.{drop-cons}
use Rattle.std.proofs.Common.{suc, ◌↔◌}
use Rattle.std.proofs.lemmas.List.{drop_all}
use Rattle.squeue_replay.proofs.Reading.{queue_rest, queue_stops}
use Rattle.squeue_replay.proofs.SameSetting.{same_setting}
use Rattle.squeue_replay.proofs.squeue.ReplayedSqueue.queue.Goals as goal

pub returns-then-not-is_next-clause-queued : goal.returns-then-not-is_next-clause-queued
returns-then-not-is_next-clause-queued c =
    let s = c.args.self.now in
    let l = c.loop-feed.self in
    let p : ℕ = c.args.p in
    let feeds : List Feed = c.args.feeds.now in
    let i : ℕ = c.loop-feed.feed-index in
    let f : Feed = get_or feeds i (record { c = 0; n = 0 }) in
    let same = same_setting l s c.loop-feed.invariant.run c.loop-feed.invariant.number in
    let so_far = subst (λ (fs : List Feed). (t : SqueueOf) → Queues (setting_of s) p fs (squeue_of l) t ↔ Queues (setting_of s) p feeds (squeue_of s) t) (drop-cons feeds i (record { c = 0; n = 0 }) c.loop-feed-test.true) c.loop-feed.invariant.rest in
    queue_stops (setting_of s) p f (drop (suc i) feeds) feeds (squeue_of s) (squeue_of l) so_far
    (λ n. let not_next = c.if-not-is_next.ensures.1 (subst (λ (S : Setting). IsNext S p f (squeue_of l)) (sym same) n) in let bad : ⊥ = cc in bad)

pub loop-feed-preserved : goal.loop-feed-preserved
loop-feed-preserved c =
    let s = c.args.self.now in
    let l = c.loop-feed.self in
    let m = c.queue_one.new.self in
    let p : ℕ = c.args.p in
    let feeds : List Feed = c.args.feeds.now in
    let i : ℕ = c.loop-feed.feed-index in
    let f : Feed = get_or feeds i (record { c = 0; n = 0 }) in
    let same = same_setting l s c.loop-feed.invariant.run c.loop-feed.invariant.number in
    let so_far = subst (λ (fs : List Feed). (t : SqueueOf) → Queues (setting_of s) p fs (squeue_of l) t ↔ Queues (setting_of s) p feeds (squeue_of s) t) (drop-cons feeds i (record { c = 0; n = 0 }) c.loop-feed-test.true) c.loop-feed.invariant.rest in
    let one = subst (λ (S : Setting). QueuesOne S p f (squeue_of l) (squeue_of m)) same c.in_ok-queue_one.ensures.queued in
    let next : i + 1 ≡ suc i = omega arith in
    record {
      run = c.queue_one.ensures.same.0 ∙ c.loop-feed.invariant.run;
      number = c.queue_one.ensures.same.1 ∙ c.loop-feed.invariant.number;
      rest = subst (λ (k : ℕ). (t : SqueueOf) → Queues (setting_of s) p (drop k feeds) (squeue_of m) t ↔ Queues (setting_of s) p feeds (squeue_of s) t) (sym next) (queue_rest (setting_of s) p f (drop (suc i) feeds) feeds (squeue_of s) (squeue_of l) (squeue_of m) so_far one);
    }

pub returns-clause-queued : goal.returns-clause-queued
returns-clause-queued c =
    let s = c.args.self.now in
    let l = c.loop-feed.self in
    let feeds : List Feed = c.args.feeds.now in
    let none = drop_all c.loop-feed.feed-index feeds c.loop-feed-test.false in
    (c.loop-feed.invariant.rest (squeue_of l)).0 (subst (λ (fs : List Feed). Queues (setting_of s) c.args.p fs (squeue_of l) (squeue_of l)) (sym none) refl)
