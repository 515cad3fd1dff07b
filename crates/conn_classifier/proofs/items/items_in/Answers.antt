use Rattle.std.proofs.Common.{◌≡◌, ◌<◌, length, get_or, ap, ◌∙◌, [], ◌∷◌, arith}
use Rattle.conn_classifier.specs.declared.kinds.Item.TheVariants.{Time}
use Rattle.conn_classifier.specs.Items.{items_of}
use Rattle.conn_classifier.proofs.ItemLemmas.{length_hints, hint_at, turn_made}
use Rattle.conn_classifier.proofs.items.items_in.Goals as goal

pub bounds-hints-i : goal.bounds-hints-i
bounds-hints-i c =
    let e : length c.args.hints.now ≡ length c.args.arrivals.now = ap length c.requires ∙ length_hints c.args.arrivals.now in
    omega (arith, e, c.loop-i-test.true)

pub loop-i-preserved : goal.loop-i-preserved
loop-i-preserved c =
    let xs = c.args.arrivals.now in
    let i = c.loop-i.i in
    let lt : i < length xs = c.loop-i-test.true in (
      omega (arith, lt),
      turn_made xs i _ c.loop-i.at c.loop-i.items.items (Time c.args.last ∷ []) (items_of c.args.last xs) _ lt c.loop-i.invariant.1
          (ap (λ l. get_or l i 0) c.requires ∙ hint_at xs i 0 _ lt)
          c.max-now.result c.push_gap.new.items.items c.push-in-loop-i.new.self.items c.max-now.ensures c.in_ok-push_gap.ensures c.in_ok-push-2.ensures.items,
    )
