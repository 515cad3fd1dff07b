use Rattle.std.proofs.Common.{◌≡◌, ◌^◌, ◌<◌, All, List, Vec, length, map, refl, ap, sym, ◌∙◌, subst}
use Rattle.std.specs.declared.alloc.Global.{Global}
use Rattle.perimeter_core.specs.declared.entries.Feed.{Feed}
use Rattle.histories.specs.Quotas.{pairs}
use Rattle.squeue_pool.specs.declared.work.Work.{Work}
use Rattle.squeue_pool.specs.Keys.{key_quotas}
use Rattle.squeue_pool.proofs.ByKey.{all_short, same_work}
use Rattle.squeue_pool.proofs.by_key.work_by_key.Goals as goal

pub key_quotas-requires : goal.key_quotas-requires
key_quotas-requires g c =
    subst (λ (ls : List (Vec Feed Global)). All (λ list. length list.items < 2 ^ 32) ls) (sym c.deref.ensures.value)
    (all_short c.in_ok-lists.lists.items c.args.rings c.args.counts.now c.in_ok-lists.ensures c.requires.counts.1)

pub returns : goal.returns
returns g c =
    let counts = c.args.counts.now in
    let lists = c.in_ok-lists.lists in
    let it : Work g.row.R.Denot = record { conns = length counts; residents = c.args.residents; quotas = c.in_ok-quotas.quotas; lists = lists; calls = c.new.result } in
    let quotas : map (λ v. pairs v.items) c.in_ok-quotas.quotas.items ≡ key_quotas c.args.squeues (map (λ list. list.items) lists.items) =
    c.in_ok-quotas.ensures ∙ ap (λ (ls : List (Vec Feed Global)). key_quotas c.args.squeues (map (λ list. list.items) ls)) c.deref.ensures.value in
    same_work it c.args.squeues c.args.rings counts refl quotas c.in_ok-lists.ensures c.new.ensures.items
