use Rattle.std.proofs.Common.{◌≡◌, ℕ, ◌∷◌, ◌++◌, [], List, Vec, map, ap, ◌∙◌, arith}
use Rattle.std.specs.List.{range_with_len}
use Rattle.std.specs.declared.alloc.Global.{Global}
use Rattle.std.proofs.lemmas.List.{map-append}
use Rattle.perimeter_core.specs.declared.entries.Feed.{Feed}
use Rattle.histories.specs.Quotas.{pairs}
use Rattle.histories.specs.declared.quota.Quota.{Quota}
use Rattle.squeue_rings.proofs.Tasked.{numbers_more}
use Rattle.squeue_pool.specs.Quotas.{quotas_of}
use Rattle.squeue_pool.proofs.quotas.call_quotas.Goals as goal

pub loop-q-init : goal.loop-q-init
loop-q-init c = ap (map (λ (quotas : Vec Quota Global). pairs quotas.items)) c.new-quotas.ensures.items

pub loop-q-preserved : goal.loop-q-preserved
loop-q-preserved c =
    let lists : List (List Feed) = map (λ list. list.items) c.args.lists.now in
    let calls : List (List ℕ) = map (λ called. called.items) c.args.calls.now in
    let old = map (λ (quotas : Vec Quota Global). pairs quotas.items) c.loop-q.quotas.items in
    let new = c.in_ok-quotas_of.field-0 in
    numbers_more (λ q. quotas_of lists c.args.counts.now calls) c.loop-q.q [] old (map (λ (quotas : Vec Quota Global). pairs quotas.items) c.push.new.self.items) c.loop-q.invariant
    (ap (map (λ (quotas : Vec Quota Global). pairs quotas.items)) c.in_ok-push.ensures.items ∙ (map-append (λ (quotas : Vec Quota Global). pairs quotas.items) c.loop-q.quotas.items (new ∷ [])
    ∙ ap (λ (l : List (ℕ × ℕ)). old ++ l ∷ []) c.in_ok-quotas_of.ensures))

pub returns : goal.returns
returns c =
    let lists : List (List Feed) = map (λ list. list.items) c.args.lists.now in
    let calls : List (List ℕ) = map (λ called. called.items) c.args.calls.now in
    let all : c.loop-q.q ≡ c.args.squeues = omega (arith, c.loop-q-test.false, c.loop-q.auto.q-end) in
    c.loop-q.invariant ∙ ap (λ n. map (λ (q : ℕ). quotas_of lists c.args.counts.now calls) (range_with_len 0 n)) all
