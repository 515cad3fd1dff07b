use Rattle.std.proofs.Common.{◌≡◌, ◌+◌, ◌-◌, ◌<◌, length, refl, ◌∙◌, arith}
use Rattle.std.proofs.lemmas.List.{length-set}
use Rattle.conn_classifier.proofs.SlotLemmas.{ends_records, turn_records}
use Rattle.conn_classifier.proofs.ahead.hints_at.Goals as goal

pub loop-i-init : goal.loop-i-init
loop-i-init c =
    let recs = c.args.recs.now in
    let hs = c.in_ok-hints.hints.items in
    let long : length hs ≡ length recs = omega (arith, c.in_ok-hints.hints.ok, c.in_ok-hints.ensures.len) in
    (omega arith, long, λ rs xs is kept. ends_records rs c.args.packets.now recs hs xs is (length recs) refl long)

pub loop-i-preserved : goal.loop-i-preserved
loop-i-preserved c =
    let recs = c.args.recs.now in
    let hs = c.loop-i.hints.items in
    let inv = c.loop-i.invariant in
    let j = c.loop-i.i - 1 in
    let lt : j < length recs = omega (arith, inv.0, c.loop-i-test.true) in
    let on : c.loop-i.i ≡ j + 1 = omega (arith, c.loop-i-test.true) in (
      omega (arith, lt),
      length-set hs j c.before_record-now.result.1 ∙ inv.1,
      λ rs xs is kept. turn_records rs c.args.packets.now recs hs xs is kept j lt c.loop-i.i c.before_record-now.result.1 c.loop-i.ahead c.before_record-now.result.0 on inv.1
          c.before_record-now.ensures.hint c.before_record-now.ensures.ahead (inv.2 rs xs is kept),
    )
