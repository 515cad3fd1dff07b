use Rattle.std.proofs.Common.{◌≡◌, ℕ, ◌∷◌, ◌++◌, [], List, Vec, map, ap, ◌∙◌, arith}
use Rattle.std.specs.List.{range_with_len}
use Rattle.std.specs.declared.alloc.Global.{Global}
use Rattle.std.proofs.lemmas.List.{map-append}
use Rattle.perimeter_core.specs.declared.entries.Feed.{Feed}
use Rattle.histories.specs.Quotas.{pairs}
use Rattle.histories.specs.declared.quota.Quota.{Quota}
use Rattle.squeue_rings.proofs.Tasked.{numbers_more}
use Rattle.squeue_pool.specs.Keys.{quotas_at}
use Rattle.squeue_pool.proofs.keys.key_quotas.Goals as goal

pub loop-q-init : goal.loop-q-init
loop-q-init c = ap (map (λ (quotas : Vec Quota Global). pairs quotas.items)) c.new-quotas.ensures.items

pub loop-q-preserved : goal.loop-q-preserved
loop-q-preserved c =
    let lists : List (List Feed) = map (λ list. list.items) c.args.lists.now in
    let old = map (λ (quotas : Vec Quota Global). pairs quotas.items) c.loop-q.quotas.items in
    let new = c.in_ok-quotas_at.field-0 in
    numbers_more (quotas_at c.args.squeues lists) c.loop-q.q [] old (map (λ (quotas : Vec Quota Global). pairs quotas.items) c.push.new.self.items) c.loop-q.invariant
    (ap (map (λ (quotas : Vec Quota Global). pairs quotas.items)) c.in_ok-push.ensures.items ∙ (map-append (λ (quotas : Vec Quota Global). pairs quotas.items) c.loop-q.quotas.items (new ∷ [])
    ∙ ap (λ (l : List (ℕ × ℕ)). old ++ l ∷ []) c.in_ok-quotas_at.ensures))

pub returns : goal.returns
returns c =
    let lists : List (List Feed) = map (λ list. list.items) c.args.lists.now in
    let all : c.loop-q.q ≡ c.args.squeues = omega (arith, c.loop-q-test.false, c.loop-q.auto.q-end) in
    c.loop-q.invariant ∙ ap (λ n. map (quotas_at c.args.squeues lists) (range_with_len 0 n)) all
