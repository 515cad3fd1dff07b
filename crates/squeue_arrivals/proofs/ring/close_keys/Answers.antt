use Rattle.std.proofs.Common.{◌≡◌, ◌∙◌, ◌≤◌, ◌<◌, length, sym, subst, arith}
use Rattle.histories.proofs.ListPlaces.{some_at}
use Rattle.placed_parts.specs.Placing.{limits_of, origin_of}
use Rattle.stream_stays.specs.Places.{IsOpen}
use Rattle.squeue_arrivals.specs.Keyed.{Tells}
use Rattle.squeue_arrivals.specs.Placed.{keys_in}
use Rattle.squeue_arrivals.proofs.KeysKept.{few_places}
use Rattle.squeue_arrivals.proofs.Closing.{all_closed, closing_first, closing_more}
use Rattle.squeue_arrivals.proofs.PlacesKept.{leaves_few}
use Rattle.squeue_arrivals.proofs.ring.close_keys.Goals as goal

pub loop-i-init : goal.loop-i-init
loop-i-init g c = record {
  settled = c.settle-pass.ensures.settled;
  same_pass = c.settle-pass.ensures.number;
  asks = omega (arith, c.settle-pass.ensures.asks, c.requires.asks);
  each = λ all has.
      let e = c.settle-pass.ensures in
      closing_first (Tells g.X.KeySteps.step) limits_of c.args.line.now.squeue.now (origin_of c.args.line.now.squeue.now.given.first) all c.args.pass c.settle-pass.result c.args.stays.now c.settle-pass.new.stays c.args.keys.now has
      e.settled.knows e.number e.grows e.keeps;
}

pub close_at-pass-requires-clause-knows : goal.close_at-pass-requires-clause-knows
close_at-pass-requires-clause-knows g c = c.loop-i.invariant.settled.knows

pub close_at-pass-requires-clause-open : goal.close_at-pass-requires-clause-open
close_at-pass-requires-clause-open g c =
    let i = c.loop-i.i in
    let lt : i < length (keys_in c.args.keys.now) = omega (arith, c.loop-i-test.true, c.len-i-end.ensures) in
    let le : i ≤ i = omega arith in
    let at = some_at (keys_in c.args.keys.now) i lt in
    let w = c.requires.keys in
    let o = (c.loop-i.invariant.each w.0 w.1).opens i at.0 le at.1 in
    subst (IsOpen c.loop-i.stays) (sym c.place.ensures) (o.stay, o.is_open)

pub close_at-pass-requires-clause-asks : goal.close_at-pass-requires-clause-asks
close_at-pass-requires-clause-asks g c =
    omega (arith, c.loop-i.invariant.asks, c.loop-i-test.true, c.len-i-end.ensures, c.requires.keys.1.table.few, few_places c.args.keys.now)

pub close_at-pass-requires-clause-entered : goal.close_at-pass-requires-clause-entered
close_at-pass-requires-clause-entered g c = c.loop-i.invariant.settled.entered

pub close_at-pass-requires-clause-settled : goal.close_at-pass-requires-clause-settled
close_at-pass-requires-clause-settled g c = c.loop-i.invariant.settled.settled

pub loop-i-preserved : goal.loop-i-preserved
loop-i-preserved g c =
    let i = c.loop-i.invariant in
    let e = c.close_at-pass.ensures in
    let a = c.loop-i.stays in
    let b = c.close_at-pass.new.stays in
    let k = c.args.keys.now in
    record {
      settled = record { knows = e.knows; entered = e.rest.0; settled = e.rest.1 };
      same_pass = e.number ∙ i.same_pass;
      asks = omega (arith, e.spent.1, i.asks);
      each = λ all has.
          closing_more limits_of c.args.line.now.squeue.now all c.loop-i.i c.place.result c.loop-i.pass c.close_at-pass.result a b k e.closed.0 e.closed.1 (i.each all has) c.place.ensures e.elsewhere e.closed.3 e.closed.4
          (leaves_few limits_of c.args.line.now.squeue.now (Tells g.X.KeySteps.step) (origin_of c.args.line.now.squeue.now.given.first) c.close_at-pass.result b e.knows) e.sent
          e.closed.2 e.out e.closed.5 e.number;
    }

pub returns-clause-number : goal.returns-clause-number
returns-clause-number g c = c.loop-i.invariant.same_pass

pub returns-clause-closed : goal.returns-clause-closed
returns-clause-closed g c = λ all has.
    let i = c.loop-i.invariant in
    let last : c.loop-i.i ≡ length (keys_in c.args.keys.now) = omega (arith, c.loop-i-test.false, c.loop-i.auto, c.len-i-end.ensures) in
    all_closed (Tells g.X.KeySteps.step) limits_of c.args.line.now.squeue.now (origin_of c.args.line.now.squeue.now.given.first) all c.loop-i.i c.loop-i.pass c.loop-i.stays c.args.keys.now (i.each all has) last i.settled.knows
