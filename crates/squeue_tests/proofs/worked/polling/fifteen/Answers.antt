use Rattle.std.proofs.Common.{◌≡◌, ℕ, suc, ◌+◌, ◌<◌, [], ◌∷◌, ◌++◌, length, take, slice_set, ap, sym, ◌∙◌, subst, arith}
use Rattle.std.proofs.lemmas.List.{length-set}
use Rattle.squeue_tests.specs.Rows.{in_order}
use Rattle.squeue_tests.proofs.Ordered.{order_more, set_more}
use Rattle.squeue_tests.proofs.worked.polling.fifteen.Goals as goal

pub loop-n-preserved : goal.loop-n-preserved
loop-n-preserved c =
    let n = c.loop-n.n in
    let f = c.feed.result in
    let next : suc n ≡ n + 1 = omega arith in
    let below : n < length c.loop-n.chain = omega (arith, c.loop-n.invariant.size, c.loop-n-test.true) in
    let from_zero : n ≡ 0 + n = omega arith in
    let same : f ≡ record { c = 0; n = 0 + n } = c.feed.ensures ∙ ap (λ (m : ℕ). record { c = 0; n = m }) from_zero in
    let set = set_more c.loop-n.chain n f below ∙ (ap (λ fs. fs ++ f ∷ []) c.loop-n.invariant.front ∙ (ap (λ e. in_order 0 0 n ++ e ∷ []) same ∙ sym (order_more 0 0 n))) in
    record {
      size = length-set c.loop-n.chain n f ∙ c.loop-n.invariant.size;
      front = subst (λ (k : ℕ). take k (slice_set c.loop-n.chain n f) ≡ in_order 0 0 k) next set;
    }
