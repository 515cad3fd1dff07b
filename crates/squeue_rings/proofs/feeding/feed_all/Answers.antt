use Rattle.std.proofs.Common.{ap, ◌∙◌, arith, length}
use Rattle.std.proofs.lemmas.List.{length-map}
use Rattle.squeue_rings.proofs.Fed.{all_fed, at_next, end_before, fed_count, fed_next, fed_none, none_fed, within}
use Rattle.squeue_rings.proofs.feeding.feed_all.Goals as goal
use Rattle.squeue_rings.proofs.feeding.feed_all.Goals.{in-Some, in_default}
use Rattle.squeue_rings.proofs.Slots.{got_at}

pub loop-i-init : goal.loop-i-init
loop-i-init g c = c.requires.ends ∙ none_fed c.args.intakes.now

pub index_mut-requires : goal.index_mut-requires
index_mut-requires g c =
    let so = ap length c.loop-i.invariant in
    let count = fed_count c.loop-i.i c.args.intakes.now in
    let first = ap length c.requires.ends in
    let mapped = length-map c.args.intakes.now end_before in
    omega (arith, so, count, first, mapped, c.loop-i-test.true, c.len-i-end.ensures, c.args.ends.now.ok.0, c.loop-i.ends.ok.0)

pub bounds-intakes-i : goal.bounds-intakes-i
bounds-intakes-i g c = within c.args.intakes.now c.args.ends.now.items c.loop-i.i c.requires.ends (omega (arith, c.loop-i-test.true, c.len-i-end.ensures, c.args.ends.now.ok.0))

pub feed_intake-requires-clause-intake : goal.feed_intake-requires-clause-intake
feed_intake-requires-clause-intake g c =
    let lt = within c.args.intakes.now c.args.ends.now.items c.loop-i.i c.requires.ends (omega (arith, c.loop-i-test.true, c.len-i-end.ensures, c.args.ends.now.ok.0)) in
    c.requires.intakes c.loop-i.i c.index-intakes-i.result (got_at c.args.intakes.now c.loop-i.i c.index-intakes-i.result lt c.index-intakes-i.is)

pub feed_intake-requires-clause-end : goal.feed_intake-requires-clause-end
feed_intake-requires-clause-end g c =
    let lt = within c.args.intakes.now c.args.ends.now.items c.loop-i.i c.requires.ends (omega (arith, c.loop-i-test.true, c.len-i-end.ensures, c.args.ends.now.ok.0)) in
    at_next c.loop-i.i c.args.intakes.now c.loop-i.ends.items c.loop-i.invariant c.index-intakes-i.result c.index_mut.result.now lt c.index-intakes-i.is c.index_mut.ensures.value ∙ c.in-Some.is

pub loop-i-preserved : goal.loop-i-preserved
loop-i-preserved g c =
    let lt = within c.args.intakes.now c.args.ends.now.items c.loop-i.i c.requires.ends (omega (arith, c.loop-i-test.true, c.len-i-end.ensures, c.args.ends.now.ok.0)) in
    elim c.match-index_mut.branch [
      | in-Some w ↦
          fed_next c.loop-i.i c.args.intakes.now c.loop-i.ends.items c.loop-i.invariant w.index-intakes-i.result c.index_mut.result.now lt w.index-intakes-i.is c.index_mut.ensures.value c.match-index_mut.ends.items w.feed_intake.new.end w.feed_intake.ensures (ap (λ v. v.items) w.ends-is)
      | in_default w ↦
          fed_none c.loop-i.i c.args.intakes.now c.loop-i.ends.items c.match-index_mut.ends.items c.index_mut.result.now c.loop-i.invariant lt c.index_mut.ensures.value w.in_default.is (ap (λ v. v.items) w.ends-is)
    ]

pub returns : goal.returns
returns g c =
    let first = ap length c.requires.ends in
    let mapped = length-map c.args.intakes.now end_before in
    c.loop-i.invariant ∙ all_fed c.loop-i.i c.args.intakes.now (omega (arith, first, mapped, c.loop-i-test.false, c.len-i-end.ensures, c.args.ends.now.ok.0))
