use Rattle.std.proofs.Common.{◌≡◌, ◌∙◌, [], ◌∷◌, subst, arith}
use Rattle.std.specs.Prelude.{All}
use Rattle.ring_groups.specs.Groups.{AllOfGroups}
use Rattle.squeue_arrivals.specs.Arriving.{IsServedIn}
use Rattle.squeue_arrivals.specs.Watching.{SawLast}
use Rattle.squeue_arrivals.specs.declared.watching.WatchedEnd.{WatchedEnd}
use Rattle.endless_counters.specs.declared.totals.Total.{Total}
use Rattle.endless_counters.specs.Counting.{AreSummed, held_at}
use Rattle.endless_counters.specs.Serving.{Begins, Step, brought_by, total_by}
use Rattle.endless_counters.specs.Sources.{amounts_by, stint_of}
use Rattle.endless_counters.proofs.Brought.{Over, all_done, as_many, each_total, one_group, only_one}
use Rattle.endless_counters.proofs.Looked.{saw_totals}
use Rattle.endless_counters.proofs.Sums.{totals}
use Rattle.endless_counters.proofs.serving.sum_for.Given.{Over as OverAll}
use Rattle.endless_counters.proofs.serving.sum_for.Goals.{After-drop-squeues-2}
use Rattle.endless_counters.proofs.serving.sum_for.Goals as goal

pub returns-clause-rings : goal.returns-clause-rings
returns-clause-rings g c =
    let new = c.in_ok-sources.ensures in
    let served = c.in_ok-served.ensures.served in
    (as_many (record {}) c.args.size.stint.rounds _ _ served ∙ new.many, all_done (record {}) c.args.size.stint.rounds _ _ new.each served)

pub returns-clause-end : goal.returns-clause-end
returns-clause-end g c =
    let new = c.in_ok-sources.ensures in
    let summed = subst (λ rings. AreSummed total_by rings c.total_of-end.result) c.deref.ensures.value c.total_of-end.ensures in
    totals total_by brought_by _ c.total_of-end.result (each_total (record {}) c.args.size.stint.rounds _ _ new.each c.in_ok-served.ensures.served) summed

-- there is one squeue
one : (g : OverAll) (c : After-drop-squeues-2 g) → c.in_ok-served.served.squeues.items ≡ c.in-Some.squeue ∷ []
one g c =
    let many = c.in_ok-served.ensures.squeues in
    let new = c.in_ok-sources.ensures.many in
    only_one _ _ _ c.in-Some.ensures.items (omega (arith, many, new, c.requires.rings.0))

pub returns-clause-histories : goal.returns-clause-histories
returns-clause-histories g c =
    let P = λ (e : WatchedEnd Total). IsServedIn Begins Step stint_of amounts_by Over (record {}) 1 e.end in
    record {
      firsts = c.in_ok-sources.sources.items;
      new = c.in_ok-sources.ensures.each;
      served =
          one_group P c.in-Some.squeue c.in_ok-sources.sources.items c.in_ok-served.served.sources.items
          (subst (λ zs. AllOfGroups P zs c.in_ok-sources.sources.items c.in_ok-served.served.sources.items) (one g (goal.at.returns-clause-histories g c).After-drop-squeues-2) c.in_ok-served.ensures.histories);
    }

pub returns-clause-last : goal.returns-clause-last
returns-clause-last g c =
    let P = λ (e : WatchedEnd Total). SawLast Begins Step (record {}) (AreSummed held_at) e.end.setting e.end.setting.rings c.args.size.stint.seconds e.end.history e.last in
    let saw : P c.in-Some.squeue = subst (All P) (one g (goal.at.returns-clause-last g c).After-drop-squeues-2) c.in_ok-served.ensures.seen 0 c.in-Some.squeue (omega arith) in
    saw_totals (record {}) _ _ _ _ c.in-Some.squeue.last saw
