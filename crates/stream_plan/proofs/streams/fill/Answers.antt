use Rattle.std.proofs.Common.{◌<◌, [], length, map, take, ap, sym, ◌∙◌, arith}
use Rattle.std.proofs.lemmas.List.{get_or-map, length-map}
use Rattle.conn_classifier.specs.Items.{items_of}
use Rattle.stream_plan.proofs.StreamSteps.{fills, length-filled, none_filled}
use Rattle.stream_plan.proofs.streams.fill.Goals as goal

pub loop-c-init : goal.loop-c-init
loop-c-init c = sym (none_filled c.args.last c.args.streams.now.items)

pub index_mut-requires : goal.index_mut-requires
index_mut-requires c =
    omega (
      arith,
      c.loop-c-test.true,
      c.requires,
      ap length c.loop-c.invariant,
      length-filled c.args.last c.args.streams.now.items (take c.loop-c.c (map (λ v. v.items) c.args.segments.now)),
      c.loop-c.streams.ok.0,
    )

pub loop-c-preserved : goal.loop-c-preserved
loop-c-preserved c =
    let vs = c.args.segments.now in
    let v = c.index-segments-c.result in
    let lt : c.loop-c.c < length vs = c.loop-c-test.true in
    let inside : c.loop-c.c < length c.args.streams.now.items = omega (arith, lt, c.requires) in
    let mapped : c.loop-c.c < length (map (λ v. v.items) vs) = omega (arith, lt, length-map vs (λ v. v.items)) in
    let here = ap (λ v. v.items) c.index-segments-c.is ∙ sym (get_or-map (λ v. v.items) vs c.loop-c.c v [] lt) in
    let is = c.in_ok-enter.ensures ∙ ap (λ l. record (c.index_mut.result.now) { items = items_of c.args.last l }) c.as_slice.ensures.value in
    fills (λ v. v.items) c.args.last c.args.streams.now.items c.loop-c.streams.items vs c.loop-c.c v c.index_mut.result.now c.index_mut.result.now c.enter.new.self
    c.loop-c.invariant inside mapped here c.index_mut.ensures.value is
