use Rattle.std.proofs.Common.{◌<◌, [], ◌∷◌, length, arith}
use Rattle.conn_classifier.specs.Items.{items_of}
use Rattle.conn_classifier.specs.declared.kinds.Item.TheVariants.{Time}
use Rattle.conn_classifier.proofs.SlotLemmas.{turn_slots}
use Rattle.conn_classifier.proofs.slots.slots_in.Goals as goal

pub loop-i-preserved : goal.loop-i-preserved
loop-i-preserved c =
    let recs = c.args.recs.now in
    let i = c.loop-i.i in
    let lt : i < length recs = c.loop-i-test.true in (
      omega (arith, lt),
      λ ps xs is kept h. turn_slots c.args.capture.now.packets ps recs c.args.hints.now xs is kept i lt h _ c.rec.ensures.packet c.loop-i.at
          c.loop-i.slots.items c.push_gap.new.slots.items c.push-in-loop-i.new.self.items (Time c.args.last ∷ []) (items_of c.args.last xs) c.max-now.result
          (c.loop-i.invariant.1 ps xs is kept h) c.max-now.ensures c.in_ok-push_gap.ensures c.in_ok-push-2.ensures.items,
    )
