use Rattle.std.proofs.Common.{◌≡◌, ℕ, ◌<◌, ◌≤◌, ◌^◌, All, IfOk, List, Vec, length, map, refl, ap, sym, ◌∙◌, subst, arith}
use Rattle.std.specs.declared.alloc.Global.{Global}
use Rattle.std.proofs.lemmas.Result.{IfOk-weaker}
use Rattle.std.proofs.lemmas.List.{length-map}
use Rattle.std.proofs.lemmas.List.Elements.{All-weaker}
use Rattle.perimeter_core.specs.declared.entries.Feed.{Feed}
use Rattle.perimeter_core.specs.History.{Limits}
use Rattle.perimeter_core.specs.Residing.{IsWithin}
use Rattle.placed_parts.specs.declared.places.Places.{Places}
use Rattle.histories.specs.Quotas.{pairs}
use Rattle.squeue_pool.specs.declared.work.Work.{Work}
use Rattle.squeue_pool.specs.Placed.{as_resident}
use Rattle.squeue_pool.specs.Works.{Suits, WorkOf, work_of}
use Rattle.squeue_pool.proofs.ByKey.{all_short}
use Rattle.squeue_pool.proofs.Placed.{new_by, new_have}
use Rattle.squeue_pool.specs.Finishing.{HasFinished}
use Rattle.squeue_pool.specs.Calls.{HaveHadAll, WasDoneBy, called_work}
use Rattle.squeue_pool.specs.Quotas.{call_quotas}
use Rattle.squeue_pool.proofs.AllHad.{all_had}
use Rattle.squeue_pool.proofs.CallsSuit.{calls_suit, same_work}
use Rattle.squeue_pool.proofs.Named.{all_mapped, limits_within}
use Rattle.squeue_pool.proofs.serving.serve_called.Goals as goal

pub places_of-requires-clause-rows : goal.places_of-requires-clause-rows
places_of-requires-clause-rows g c = ap (λ (l : Limits). length l.feeds) c.requires.limits

pub places_of-requires-clause-within : goal.places_of-requires-clause-within
places_of-requires-clause-within g c =
    subst (IsWithin (length c.args.counts.now)) (sym c.requires.limits) (limits_within c.args.counts.now (map (λ called. called.items) c.args.calls.items) c.requires.range)

pub call_quotas-requires-clause-lists : goal.call_quotas-requires-clause-lists
call_quotas-requires-clause-lists g c =
    subst (λ (ls : List (Vec Feed Global)). All (λ list. length list.items < 2 ^ 32) ls) (sym c.deref.ensures.value)
    (all_short c.in_ok-lists.lists.items c.args.pool.now.rings c.args.counts.now c.in_ok-lists.ensures (omega (arith, c.requires.few.feeds)))

pub call_quotas-requires-clause-short : goal.call_quotas-requires-clause-short
call_quotas-requires-clause-short g c =
    subst (λ (ls : List (Vec ℕ Global)). All (λ called. length called.items < 2 ^ 32) ls) (sym c.deref-2.ensures.value)
    (all_mapped (λ (called : List ℕ). length called < 2 ^ 32) (λ (called : Vec ℕ Global). called.items) c.args.calls.items
    (All-weaker (λ (called : List ℕ). length called ≤ 2 ^ 12) (λ (called : List ℕ). length called < 2 ^ 32) (λ called le. omega (arith, le)) (map (λ called. called.items) c.args.calls.items) c.requires.few.called))

pub call_quotas-requires-clause-range : goal.call_quotas-requires-clause-range
call_quotas-requires-clause-range g c =
    subst (λ (ls : List (Vec ℕ Global)). All (λ called. All (λ d. d < length c.args.counts.now) called.items) ls) (sym c.deref-2.ensures.value)
    (all_mapped (λ (called : List ℕ). All (λ d. d < length c.args.counts.now) called) (λ (called : Vec ℕ Global). called.items) c.args.calls.items c.requires.range)

pub run_for_parts-requires-clause-work : goal.run_for_parts-requires-clause-work
run_for_parts-requires-clause-work g c κs within =
    let p = c.args.pool.now in
    let counts = c.args.counts.now in
    let calls : List (List ℕ) = map (λ called. called.items) c.args.calls.items in
    let rs = c.in_ok-residents.residents.items in
    let lists = c.in_ok-lists.lists in
    let it : Work (Places g.row.S.Denot g.row.S-Part.Denot g.row.S-Origin.Denot g.S.Parts) =
    record { conns = length counts; residents = c.in_ok-residents.residents; quotas = c.in_ok-quotas.quotas; lists = lists; calls = c.args.calls } in
    let quotas : map (λ v. pairs v.items) c.in_ok-quotas.quotas.items ≡ call_quotas p.pace.homes.squeues (map (λ list. list.items) lists.items) counts calls =
    c.in_ok-quotas.ensures
    ∙ (λ i. call_quotas (c.squeues-2.ensures i) (map (λ list. list.items) (c.deref.ensures.value i)) counts (map (λ called. called.items) (c.deref-2.ensures.value i))) in
    let same : work_of it ≡ called_work p.pace.homes.squeues p.rings counts calls rs = same_work it p.pace.homes.squeues p.rings counts refl quotas c.in_ok-lists.ensures in
    let new = new_by c.args.shared (length counts) (length counts) c.squeues.result p.pace.homes.squeues rs refl c.squeues.ensures c.in_ok-residents.ensures in
    subst (λ (w : WorkOf (Places g.row.S.Denot g.row.S-Part.Denot g.row.S-Origin.Denot g.S.Parts)). Suits (as_resident g.S.Parts) p w) (sym same)
    (calls_suit (as_resident g.S.Parts) p counts calls rs
    (c.requires.pool.0, omega (arith, c.requires.pool.1, length-map c.args.calls.items (λ called. called.items)))
    c.requires.few
    (new_have g.S.Parts c.args.shared counts p rs new (ap (λ (l : Limits). l.feeds) c.requires.limits))
    c.requires.range
    (λ q first at. ap g.S.Parts.limits (new.each q first at).shared_is ∙ c.requires.limits))

pub returns-clause-ran : goal.returns-clause-ran
returns-clause-ran g c =
    let p = c.args.pool.now in
    let counts = c.args.counts.now in
    let calls : List (List ℕ) = map (λ called. called.items) c.args.calls.items in
    let rs = c.in_ok-residents.residents.items in
    let lists = c.in_ok-lists.lists in
    let it : Work (Places g.row.S.Denot g.row.S-Part.Denot g.row.S-Origin.Denot g.S.Parts) =
    record { conns = length counts; residents = c.in_ok-residents.residents; quotas = c.in_ok-quotas.quotas; lists = lists; calls = c.args.calls } in
    let quotas : map (λ v. pairs v.items) c.in_ok-quotas.quotas.items ≡ call_quotas p.pace.homes.squeues (map (λ list. list.items) lists.items) counts calls =
    c.in_ok-quotas.ensures
    ∙ (λ i. call_quotas (c.squeues-2.ensures i) (map (λ list. list.items) (c.deref.ensures.value i)) counts (map (λ called. called.items) (c.deref-2.ensures.value i))) in
    let same : work_of it ≡ called_work p.pace.homes.squeues p.rings counts calls rs = same_work it p.pace.homes.squeues p.rings counts refl quotas c.in_ok-lists.ensures in
    let new = new_by c.args.shared (length counts) (length counts) c.squeues.result p.pace.homes.squeues rs refl c.squeues.ensures c.in_ok-residents.ensures in
    IfOk-weaker c.run_for_parts.result (λ f. HasFinished (as_resident g.S.Parts) p (called_work p.pace.homes.squeues p.rings counts calls rs) f) (λ f. WasDoneBy g.S.Parts c.args.shared counts calls p f)
    (λ f finished. record { residents = rs; new = new; finished = finished })
    (subst (λ (w : WorkOf (Places g.row.S.Denot g.row.S-Part.Denot g.row.S-Origin.Denot g.S.Parts)). IfOk c.run_for_parts.result (λ f. HasFinished (as_resident g.S.Parts) p w f)) same c.run_for_parts.ensures)

pub returns-clause-had : goal.returns-clause-had
returns-clause-had g c =
    let p = c.args.pool.now in
    let counts = c.args.counts.now in
    let calls : List (List ℕ) = map (λ called. called.items) c.args.calls.items in
    IfOk-weaker c.run_for_parts.result (λ f. WasDoneBy g.S.Parts c.args.shared counts calls p f) (λ f. HaveHadAll g.S.Parts c.args.shared counts calls f)
    (λ f done. all_had g.S.Parts c.args.shared counts calls p done.residents c.requires.pool.0 done.new f done.finished)
    (returns-clause-ran g c)
