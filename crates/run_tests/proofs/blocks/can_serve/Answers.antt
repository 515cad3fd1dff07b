use Rattle.std.proofs.Common.{rules, ◌≡◌, ◌<◌, ◌++◌, ◌∷◌, [], true, length, take, sym, ap, subst, ◌∙◌, arith}
use Rattle.std.specs.List.{AllByRecursion}
use Rattle.std.proofs.lemmas.List.{take_all, take_more}
use Rattle.perimeter_core.specs.declared.entries.Act.TheVariants as act
use Rattle.conn_classifier.specs.Plan.{items_in}
use Rattle.conn_blocks.specs.ServeOrder.{FeedsRise, IsActOf}
use Rattle.run_tests.proofs.FeedsInOrder.{RisesTo, rises, rises_feed, rises_call}
use Rattle.run_tests.proofs.blocks.can_serve.Goals.{in-Feed+else-n-least+else-n-items, in-Call+else-not-is_call}
use Rattle.run_tests.proofs.blocks.can_serve.Goals as goal
use Rattle.capture_reader.proofs.Pieces.{all_push}

pub loop-act-preserved : goal.loop-act-preserved
loop-act-preserved c =
    let xs = c.args.order.now in
    let i = c.loop-act.act-index in
    let P = IsActOf c.args.plan.now c.args.calls.now 0 in
    let so_far = c.loop-act.invariant in
    elim c.match-act.branch [
      | in-Feed+else-n-least+else-n-items w ↦
          let n = w.in-Feed.n in
          let e = take_more xs i _ c.loop-act-test.true ∙ ap (λ a. take i xs ++ a ∷ []) w.in-Feed.is in
          let inside : n < length (items_in c.args.plan.now 0) = omega (arith, w.if-n-items.false, w.items.ensures.value) in
          record {
            acts = subst (AllByRecursion P) (sym e) (all_push P (take i xs) (act.Feed n) so_far.acts inside);
            rising = subst (λ l. RisesTo 0 c.match-act.least l) (sym e)
                (subst (λ k. RisesTo 0 k (take i xs ++ act.Feed n ∷ [])) (sym w.least-is) (rises_feed 0 c.loop-act.least n (take i xs) w.if-n-least.false so_far.rising));
          }
      | in-Call+else-not-is_call w ↦
          let j = w.in-Call.j in
          let k = w.in-Call.k in
          let e = take_more xs i _ c.loop-act-test.true ∙ ap (λ a. take i xs ++ a ∷ []) w.in-Call.is in
          let yes : w.is_call.result ≡ true = search rules in
          record {
            acts = subst (AllByRecursion P) (sym e) (all_push P (take i xs) (act.Call j k) so_far.acts (w.is_call.ensures yes));
            rising = subst (λ l. RisesTo 0 c.match-act.least l) (sym e)
                (subst (λ m. RisesTo 0 m (take i xs ++ act.Call j k ∷ [])) (sym w.least-is) (rises_call 0 c.loop-act.least j k (take i xs) so_far.rising));
          }
    ]

pub returns-clause-rising : goal.returns-clause-rising
returns-clause-rising c = λ yes.
    subst (FeedsRise 0) (take_all c.loop-act.act-index c.args.order.now c.loop-act-test.false) (rises 0 c.loop-act.least (take c.loop-act.act-index c.args.order.now) c.loop-act.invariant.rising)
