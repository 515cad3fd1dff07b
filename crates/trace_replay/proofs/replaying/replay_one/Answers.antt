use Rattle.std.proofs.Common.{◌≡◌, ◌<◌, ◌∙◌, [], ap, arith, length}
use Rattle.std.specs.Option.{option_or}
use Rattle.std.proofs.lemmas.Bool.Decides.{nat_tests}
use Rattle.perimeter_core.specs.Kinds.{mark_by}
use Rattle.squeue_replay.specs.Marks.{HasItsFeeds}
use Rattle.squeue_replay.specs.Replaying.{squeue_of}
use Rattle.trace_replay.specs.declared.reason.Reason.TheVariants.{Illegal}
use Rattle.trace_replay.proofs.Adding.{its_stands}
use Rattle.trace_replay.proofs.Reaching.{begins, no_next, shorter}
use Rattle.trace_replay.proofs.Stepping.{gone, refused, stepped}
use Rattle.trace_replay.proofs.replaying.replay_one.Goals as goal

pub loop-rest-init : goal.loop-rest-init
loop-rest-init c =
    record {
      run = c.in_ok-squeue.ensures.same.0;
      number = c.in_ok-squeue.ensures.same.1;
      setup = c.make-pace.ensures.same.0;
      at = c.make-pace.ensures.same.1;
      few = omega arith;
      reached = λ ms printed lines.
          begins c.args.run.plan.now c.args.run.calls.now c.args.run.setup c.args.number ms c.args.lines.now (squeue_of c.in_ok-squeue.squeue) c.make-pace.result printed lines
          (its_stands c.args.run c.args.number c.in_ok-squeue.squeue c.make-pace.result c.in_ok-squeue.ensures.same.0 c.in_ok-squeue.ensures.same.1 c.make-pace.ensures.same.0 c.make-pace.ensures.same.1 [] (squeue_of c.in_ok-squeue.squeue) c.in_ok-squeue.ensures.stands)
          (c.make-pace.ensures.stands _);
    }

pub returns-in_default-clause-no : goal.returns-in_default-clause-no
returns-in_default-clause-no c =
    λ r e ms printed lines.
    let reached = c.loop-rest.invariant.reached ms printed lines in
    let some : 0 < length c.loop-rest.rest.now = grind (arith, nat_tests) in
    let a = c.in_default.is in
    let b = c.in_default.not-Some in
    absurd (no_next reached.more c.loop-rest.rest.now reached.printed reached.lines some (rw c.in_default.is at c.in_ok-others.ensures))

pub returns-in_default-2-clause-no : goal.returns-in_default-2-clause-no
returns-in_default-2-clause-no c =
    λ r e ms printed lines.
    let reached = c.loop-rest.invariant.reached ms printed lines in
    let read = rw c.in-Some.is at c.in_ok-others.ensures in
    let m = mark_by c.read_mark.new.mark.p c.read_mark.new.mark.kind c.read_mark.new.mark.feeds.items in
    let is : r ≡ Illegal c.args.number c.loop-rest.count = cc e in (
      c.loop-rest.count,
      is,
      refused c.args.run c.args.number c.loop-rest.squeue c.loop-rest.pace c.loop-rest.invariant.run c.loop-rest.invariant.number c.loop-rest.invariant.setup c.loop-rest.invariant.at ms c.loop-rest.rest.now c.loop-rest.count c.loop-rest.unfit reached m c.in-Some.others.now read.0 read.1 c.add.new.squeue c.add.new.pace
          (HasItsFeeds c.read_mark.new.mark.kind c.read_mark.new.mark.feeds.items) read.2 c.in_ok-keeps.field-0 c.in_ok-keeps.ensures.added c.in_default-2.is,
    )

pub loop-rest-smaller : goal.loop-rest-smaller
loop-rest-smaller c =
    let read = rw c.in-Some.is at c.in_ok-others.ensures in
    let m = mark_by c.read_mark.new.mark.p c.read_mark.new.mark.kind c.read_mark.new.mark.feeds.items in
    let less = shorter m c.loop-rest.rest.now c.in-Some.others.now read.1 in
    omega (arith, less)

pub loop-rest-preserved : goal.loop-rest-preserved
loop-rest-preserved c =
    let read = rw c.in-Some.is at c.in_ok-others.ensures in
    let m = mark_by c.read_mark.new.mark.p c.read_mark.new.mark.kind c.read_mark.new.mark.feeds.items in
    let less = shorter m c.loop-rest.rest.now c.in-Some.others.now read.1 in
    let few = c.loop-rest.invariant.few in
    record {
      run = c.add.ensures.same.0 ∙ c.loop-rest.invariant.run;
      number = c.add.ensures.same.1 ∙ c.loop-rest.invariant.number;
      setup = c.add.ensures.same.2 ∙ c.loop-rest.invariant.setup;
      at = c.add.ensures.same.3 ∙ c.loop-rest.invariant.at;
      few = omega (arith, less, few);
      reached = λ ms printed lines.
          stepped c.args.run c.args.number c.loop-rest.squeue c.loop-rest.pace c.loop-rest.invariant.run c.loop-rest.invariant.number c.loop-rest.invariant.setup c.loop-rest.invariant.at ms c.loop-rest.rest.now c.loop-rest.count c.loop-rest.unfit (c.loop-rest.invariant.reached ms printed lines) m c.in-Some.others.now read.0 read.1 c.add.new.squeue c.add.new.pace
          (HasItsFeeds c.read_mark.new.mark.kind c.read_mark.new.mark.feeds.items) read.2 c.in_ok-keeps.field-0 c.in_ok-keeps.ensures.added c.in-Some-2.keeps c.or-unfit.result c.in-Some-2.is (c.or-unfit.ensures ∙ ap (option_or c.loop-rest.unfit) c.then_some.ensures);
    }

pub returns-clause-gone : goal.returns-clause-gone
returns-clause-gone c =
    λ ms printed lines.
    let none : length c.loop-rest.rest.now ≡ 0 = grind (arith, nat_tests) in
    gone c.args.run c.args.number c.loop-rest.squeue c.loop-rest.pace c.loop-rest.invariant.run c.loop-rest.invariant.number c.loop-rest.invariant.setup c.loop-rest.invariant.at ms c.loop-rest.rest.now c.loop-rest.count c.loop-rest.unfit (c.loop-rest.invariant.reached ms printed lines) c.has_ended.result _ none c.into_guests.ensures c.has_ended.ensures
