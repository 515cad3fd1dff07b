use Rattle.std.proofs.Common.{◌≡◌, ℕ, ◌+◌, ◌-◌, ◌<◌, [], length, drop, refl, sym, ap, subst, ◌∙◌, arith}
use Rattle.std.proofs.lemmas.List.{length-set, drop_all}
use Rattle.conn_classifier.specs.Items.{looked}
use Rattle.conn_classifier.specs.Hints.{hints_of, IsAhead}
use Rattle.conn_classifier.proofs.HintLemmas.{looked_nil, turn_hints, turn_ahead}
use Rattle.conn_classifier.proofs.ahead.hints.Goals as goal

pub loop-i-init : goal.loop-i-init
loop-i-init c =
    let xs = c.args.arrivals.now in
    let hs = c.in_ok-hints.hints.items in
    let long : length hs ≡ length xs = omega (arith, c.in_ok-hints.hints.ok, c.in_ok-hints.ensures.len) in
    let end_xs : drop (length xs) xs ≡ [] = drop_all (length xs) xs (omega arith) in
    let end_hs : drop (length xs) hs ≡ [] = drop_all (length xs) hs (omega (arith, long)) in
    (omega arith, long, end_hs ∙ sym (ap hints_of end_xs), subst (λ l. (seq : ℕ) → 0 ≡ looked seq l) (sym end_xs) looked_nil)

pub loop-i-preserved : goal.loop-i-preserved
loop-i-preserved c =
    let xs = c.args.arrivals.now in
    let hs = c.loop-i.hints.items in
    let inv = c.loop-i.invariant in
    let j = c.loop-i.i - 1 in
    let lt : j < length xs = omega (arith, inv.0, c.loop-i-test.true) in
    let on : c.loop-i.i ≡ j + 1 = omega (arith, c.loop-i-test.true) in
    let so_far : drop (j + 1) hs ≡ hints_of (drop (j + 1) xs) = subst (λ n. drop n hs ≡ hints_of (drop n xs)) on inv.2 in
    let is : IsAhead c.loop-i.ahead (drop (j + 1) xs) = subst (λ n. IsAhead c.loop-i.ahead (drop n xs)) on inv.3 in
    let v = c.before-now.result.1 in (
      omega (arith, lt),
      length-set hs j v ∙ inv.1,
      turn_hints xs hs j _ lt inv.1 so_far c.loop-i.ahead is v (c.before-now.ensures.hint (drop (j + 1) xs) is),
      turn_ahead xs hs j _ lt inv.1 so_far c.loop-i.ahead is c.before-now.result.0 (c.before-now.ensures.ahead _ (drop (j + 1) xs) refl is),
    )
