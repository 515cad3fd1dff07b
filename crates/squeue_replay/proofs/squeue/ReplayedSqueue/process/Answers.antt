use Rattle.std.proofs.Common.{◌≡◌, ◌≤◌, ◌+◌, ◌∷◌, ◌++◌, ℕ, List, true, false, length, take, refl, ap, sym, ◌∙◌, subst, arith}
use Rattle.std.proofs.lemmas.List.{length-take}
use Rattle.perimeter_core.specs.declared.entries.Entry.{Entry}
use Rattle.perimeter_core.specs.declared.entries.Entry.TheVariants as Queued
use Rattle.perimeter_core.proofs.Quotas.{count_both}
use Rattle.squeue_replay.specs.Replaying.{squeue_of}
use Rattle.squeue_replay.specs.Steps.{Answered, Processed}
use Rattle.squeue_replay.proofs.AskSteps.{feeds_alone}
use Rattle.squeue_replay.proofs.ProcessLoop.{began, one_answered, one_fed, refused, taken_more}
use Rattle.squeue_replay.proofs.squeue.ReplayedSqueue.process.Goals as goal

pub loop-i-init : goal.loop-i-init
loop-i-init c = record { run = refl; number = refl; done = began c.args.asking (squeue_of c.args.self.now) }

pub overflow_add-feeds : goal.overflow_add-feeds
overflow_add-feeds c =
    let a = count_both (take c.loop-i.i c.args.self.now.hand.items) in
    let b = length-take c.loop-i.i c.args.self.now.hand.items in
    let n = c.loop-i.invariant.done.feeds in
    omega (arith, a, b, n, c.ranges.count.fits, c.loop-i-test.true)

pub returns-in-Some-Ask-clause-processed : goal.returns-in-Some-Ask-clause-processed
returns-in-Some-Ask-clause-processed c =
    let hand : c.loop-i.self.hand.items ≡ Queued.Ask c.args.asking ∷ c.pop_front.new.self.items =
    c.in-Some-Ask.ensures.items ∙ ap (λ (e : Entry). e ∷ c.pop_front.new.self.items) (c.in-Some-Ask.field-0-is ∙ ap Queued.Ask c.if-p-asking.true) in
    let le : c.loop-i.i ≤ length c.args.self.now.hand.items = omega (arith, c.loop-i-test.true, c.requires) in
    let all = taken_more c.loop-i.i c.args.self.now.hand.items c.pop_front.new.self.items (Queued.Ask c.args.asking) le
    (c.loop-i.invariant.done.hand ∙ ap (λ (l : List Entry). take c.loop-i.i c.args.self.now.hand.items ++ l) hand) in
    subst (λ (n : ℕ). Processed (take n c.args.self.now.hand.items) c.args.asking c.loop-i.feeds true (squeue_of c.args.self.now) (squeue_of c.answer.new.self)) c.if-i-count.true
    (subst (λ (es : List Entry). Processed es c.args.asking c.loop-i.feeds true (squeue_of c.args.self.now) (squeue_of c.answer.new.self)) (sym all)
    (one_answered (take c.loop-i.i c.args.self.now.hand.items) c.pop_front.new.self.items c.args.asking c.loop-i.feeds (squeue_of c.args.self.now) (squeue_of c.loop-i.self) (squeue_of c.answer.new.self) c.loop-i.invariant.done hand
    (subst (λ (q : ℕ). Answered true q (squeue_of c.loop-i.self).passes (squeue_of c.answer.new.self).passes) c.if-p-asking.true c.answer.ensures.answered)
    c.answer.ensures.others))

pub returns-in_default-clause-processed : goal.returns-in_default-clause-processed
returns-in_default-clause-processed c =
    let hand : c.loop-i.self.hand.items ≡ Queued.Ask c.in-Some-Ask.p ∷ c.pop_front.new.self.items =
    c.in-Some-Ask.ensures.items ∙ ap (λ (e : Entry). e ∷ c.pop_front.new.self.items) c.in-Some-Ask.field-0-is in
    let k = c.loop-i.invariant.done in
    refused c.loop-i.i c.args.count c.args.asking c.in-Some-Ask.p c.args.self.now.hand.items c.pop_front.new.self.items c.loop-i-test.true c.requires
    (k.hand ∙ ap (λ (l : List Entry). take c.loop-i.i c.args.self.now.hand.items ++ l) hand) (feeds_alone c.args.asking (take c.loop-i.i c.args.self.now.hand.items) k.right (sym k.asked))
    (λ same end. c.if-i-count.false end)

pub returns-in_default-2-clause-processed : goal.returns-in_default-2-clause-processed
returns-in_default-2-clause-processed c =
    let hand : c.loop-i.self.hand.items ≡ Queued.Ask c.in-Some-Ask.p ∷ c.pop_front.new.self.items =
    c.in-Some-Ask.ensures.items ∙ ap (λ (e : Entry). e ∷ c.pop_front.new.self.items) c.in-Some-Ask.field-0-is in
    let k = c.loop-i.invariant.done in
    refused c.loop-i.i c.args.count c.args.asking c.in-Some-Ask.p c.args.self.now.hand.items c.pop_front.new.self.items c.loop-i-test.true c.requires
    (k.hand ∙ ap (λ (l : List Entry). take c.loop-i.i c.args.self.now.hand.items ++ l) hand) (feeds_alone c.args.asking (take c.loop-i.i c.args.self.now.hand.items) k.right (sym k.asked))
    (λ same end. c.if-p-asking.false same)

pub loop-i-preserved : goal.loop-i-preserved
loop-i-preserved c =
    let e : Entry = Queued.Feed c.in-Some-Feed.c c.in-Some-Feed.n in
    let hand : c.loop-i.self.hand.items ≡ e ∷ c.pop_front.new.self.items =
    c.in-Some-Feed.ensures.items ∙ ap (λ (f : Entry). f ∷ c.pop_front.new.self.items) c.in-Some-Feed.field-0-is in
    let le : c.loop-i.i ≤ length c.args.self.now.hand.items = omega (arith, c.loop-i-test.true, c.requires) in
    let all = taken_more c.loop-i.i c.args.self.now.hand.items c.pop_front.new.self.items e le
    (c.loop-i.invariant.done.hand ∙ ap (λ (l : List Entry). take c.loop-i.i c.args.self.now.hand.items ++ l) hand) in
    record {
      run = c.feed.ensures.same.0 ∙ c.loop-i.invariant.run;
      number = c.feed.ensures.same.1 ∙ c.loop-i.invariant.number;
      done = subst (λ (es : List Entry). Processed es c.args.asking (c.loop-i.feeds + 1) false (squeue_of c.args.self.now) (squeue_of c.feed.new.self)) (sym all)
          (one_fed (take c.loop-i.i c.args.self.now.hand.items) c.pop_front.new.self.items c.args.asking c.loop-i.feeds (c.loop-i.feeds + 1) c.in-Some-Feed.c c.in-Some-Feed.n
          (squeue_of c.args.self.now) (squeue_of c.loop-i.self) (squeue_of c.feed.new.self) c.loop-i.invariant.done hand refl c.in_ok-feed-in-Some-Feed.ensures.fed c.feed.ensures.others);
    }
