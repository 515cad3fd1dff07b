use Rattle.std.proofs.Common.{◌≤◌, ◌^◌, ◌<◌, ◌≡◌, ℕ, Some, List, length, slice_get, sum, refl, ap, sym, ◌∙◌, subst, arith}
use Rattle.std.proofs.lemmas.List.{length-map}
use Rattle.std.proofs.lemmas.List.Sums.{sum-map}
use Rattle.std.proofs.lemmas.Result.{IfOk-weaker}
use Rattle.histories.specs.Limits.{most_feeds}
use Rattle.squeue_pool.specs.Keys.{key_work}
use Rattle.squeue_pool.specs.Works.{WorkOf, work_of}
use Rattle.datagram_services.specs.declared.blocks.StreamBlocks.{StreamBlocks}
use Rattle.stream_plan.specs.Streams.{MorePlanOf, item_count}
use Rattle.datagram_services.specs.Fits.{counts_of}
use Rattle.datagram_services.specs.Work.{IsFirst, IsWorkFor}
use Rattle.datagram_services.proofs.work.work_for.Goals as goal

pub work_by_key-requires-clause-counts : goal.work_by_key-requires-clause-counts
work_by_key-requires-clause-counts c =
    let p = c.args.plan.now in
    let sound = c.is_sound.ensures in
    let are : c.deref.result.now ≡ counts_of p = c.deref.ensures.value ∙ c.in_ok-counts.ensures in
    subst (λ (ns : List ℕ). (length ns < 2 ^ 32) × (sum ns ≤ most_feeds)) (sym are)
    (omega (arith, length-map p.streams item_count, sound.few), omega (arith, sum-map item_count p.streams, sound.together))

-- work by key of these residents and these counts is that of the plan
is_work : (p : MorePlanOf) (squeues rings : ℕ) (residents : List StreamBlocks) (counts : List ℕ) (w : WorkOf StreamBlocks)
    → counts ≡ counts_of p → length residents ≡ squeues → ((q : ℕ) (r : StreamBlocks) → slice_get residents q ≡ Some r → IsFirst p squeues q r)
    → w ≡ key_work squeues rings counts residents → IsWorkFor p squeues rings w
is_work p squeues rings residents counts w are count first is =
    let same : key_work squeues rings counts residents ≡ key_work squeues rings (counts_of p) residents = ap (λ (ns : List ℕ). key_work squeues rings ns residents) are in
    let whole : IsWorkFor p squeues rings (key_work squeues rings (counts_of p) residents) = record { count = count; first = first; by_key = refl } in
    subst (IsWorkFor p squeues rings) (sym (is ∙ same)) whole

pub returns : goal.returns
returns c =
    IfOk-weaker c.work_by_key.result _ _
    (λ w is. is_work c.args.plan.now c.args.setup.now.squeues c.args.setup.now.rings c.in_ok-residents.residents.items c.deref.result.now (work_of w)
    (c.deref.ensures.value ∙ c.in_ok-counts.ensures) c.in_ok-residents.ensures.count c.in_ok-residents.ensures.each is)
    c.work_by_key.ensures
