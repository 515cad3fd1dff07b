use Rattle.std.proofs.Common.{◌-◌, ◌≤◌, ◌++◌, length, slice_get, take, drop, slice_index_or, sym, ap, ◌∙◌, subst, arith}
use Rattle.std.proofs.lemmas.List.{length-map}
use Rattle.std.proofs.lemmas.Option.{slice_get_within}
use Rattle.squeue_serve.specs.Lending.{holder, tasks_in}
use Rattle.squeue_serve.proofs.Lent.{lent_none, none_lent_to}
use Rattle.placed_parts.specs.Placing.{limits_of, origin_of}
use Rattle.squeue_state.specs.Naming.{setting_of}
use Rattle.squeue_arrivals.specs.Arriving.{IsServedAt}
use Rattle.squeue_arrivals.specs.Keyed.{AreBegun, Tells, work_of}
use Rattle.squeue_arrivals.specs.Tasks.{IsReady}
use Rattle.squeue_arrivals.specs.Watching.{HasWatched}
use Rattle.squeue_arrivals.specs.declared.ring.RingTask.TheVariants.{Served, Watched}
use Rattle.squeue_serve.proofs.Coming.{one_only}
use Rattle.squeue_arrivals.proofs.RingJobs.{all_ready}
use Rattle.squeue_arrivals.proofs.RingRun.{CameBack, Lends, are_done, came_back, end_ended, end_setting, is_it, known_by_end, known_own, lends, nothing_left}
use Rattle.squeue_arrivals.proofs.RingTasks.{has_watched, none_long}
use Rattle.squeue_arrivals.proofs.Looking.{looked_whole}
use Rattle.histories.proofs.ListPlaces.{some_at}
use Rattle.squeue_arrivals.proofs.ring_squeue.run_to_end.Given.{Over}
use Rattle.squeue_arrivals.proofs.ring_squeue.run_to_end.Goals.{After-deref_mut, After-run_rings}
use Rattle.squeue_arrivals.proofs.ring_squeue.run_to_end.Goals as goal

-- the squeue is lent to the jobs
lent : (g : Over) (c : After-deref_mut g) → Lends (Tells g.X.KeySteps.step) c.args.pool.now.places c.args.squeue c.deref_mut.result.now c.len-count.result c.lend.new.squeues.all.items
lent g c =
    let r = c.requires in
    let l = c.lend.ensures in
    lends (Tells g.X.KeySteps.step) c.args.pool.now.places c.args.squeue r.squeue c.args.jobs.items c.lend.new.jobs.items c.deref_mut.result.now c.len-count.result c.args.squeues.all.items c.lend.new.squeues.all.items c.args.passes.items
    (omega (arith, c.len-count.ensures, c.args.jobs.ok)) r.tasks r.jobs.0 l.tasks c.deref_mut.ensures.value r.squeues.0 l.squeues l.handed r.passes.1

-- each job has done its task
did : (g : Over) (c : After-run_rings g) → Lends (Tells g.X.KeySteps.step) c.args.pool.now.places c.args.squeue c.deref_mut.result.now c.len-count.result c.lend.new.squeues.all.items
    → CameBack (IsServedAt g.X.KeySteps.begins g.X.KeySteps.step g.A.Arrivals.origin g.A.Arrivals.given g.A.Arrivals.is_over (work_of (origin_of c.args.squeue.given.first)) c.args.pool.now.places (setting_of limits_of c.args.squeue.given))
    (HasWatched g.X.KeySteps.begins g.X.KeySteps.step (work_of (origin_of c.args.squeue.given.first)) (g.V.Watches.says c.args.watcher.now) (setting_of limits_of c.args.squeue.given) (g.V.Watches.many c.args.watcher.now)) c.args.squeue c.len-count.result c.lend.new.squeues.all.items c.deref_mut.result.now
    (take c.lend.new.jobs.len (c.run_rings.new.jobs ++ drop (length c.run_rings.new.jobs) c.lend.new.jobs.items)) c.run_rings.new.jobs
did g c l =
    let jobs = c.lend.new.jobs in
    came_back (Tells g.X.KeySteps.step) c.args.pool.now.places c.args.squeue (λ s. IsServedAt g.X.KeySteps.begins g.X.KeySteps.step g.A.Arrivals.origin g.A.Arrivals.given g.A.Arrivals.is_over (work_of (origin_of s.given.first)) c.args.pool.now.places (setting_of limits_of s.given))
    (λ s. HasWatched g.X.KeySteps.begins g.X.KeySteps.step (work_of (origin_of s.given.first)) (g.V.Watches.says c.args.watcher.now) (setting_of limits_of s.given) (g.V.Watches.many c.args.watcher.now)) jobs.items c.run_rings.new.jobs jobs.len c.index.result.now l c.deref_mut.ensures.value jobs.ok.0 (omega (arith, c.run_rings.auto.jobs))
    c.index.ensures c.run_rings.ensures

pub lend-requires-clause-fit : goal.lend-requires-clause-fit
lend-requires-clause-fit g c p le =
    let e = ap length (lent_none c.args.jobs.items c.requires.jobs.0 (holder 0 (c.len-count.result - 1) (length c.args.squeues.all.items) p)) in
    omega (arith, e)

pub lend-requires-clause-places : goal.lend-requires-clause-places
lend-requires-clause-places g c k d lt = omega (arith, c.requires.jobs.1 k d lt, ap length c.requires.squeues.0)

pub lend-requires-clause-passes : goal.lend-requires-clause-passes
lend-requires-clause-passes g c = omega (arith, c.requires.passes.0, c.requires.tasks.count, length-map c.args.jobs.items (λ j. j.task), c.len-count.ensures, c.args.jobs.ok.0)

pub run_rings-requires-clause-jobs : goal.run_rings-requires-clause-jobs
run_rings-requires-clause-jobs g c κs within k d lt =
    let at = goal.at.run_rings-requires-clause-jobs g c in
    let l = lent g at.After-deref_mut in
    let it = is_it c.args.squeue c.lend.new.squeues.all.items c.index.result.now l.single c.index.ensures in
    subst (λ t. IsReady (Tells g.X.KeySteps.step) t c.args.pool.now.places (slice_index_or c.deref_mut.result.now k d)) (sym it) (all_ready (Tells g.X.KeySteps.step) c.args.squeue c.args.pool.now.places c.deref_mut.result.now l.are k d lt)

pub end_last-requires-clause-jobs : goal.end_last-requires-clause-jobs
end_last-requires-clause-jobs g c =
    let at = goal.at.end_last-requires-clause-jobs g c in
    let l = lent g at.After-deref_mut in
    let d = did g at.After-run_rings l in
    omega (arith, ap length l.single, ap length d.same, d.many)

pub end_last-requires-clause-lent : goal.end_last-requires-clause-lent
end_last-requires-clause-lent g c =
    let at = goal.at.end_last-requires-clause-lent g c in
    (did g at.After-run_rings (lent g at.After-deref_mut)).ends

pub destroy_empty-requires-clause-all : goal.destroy_empty-requires-clause-all
destroy_empty-requires-clause-all g c =
    let at = goal.at.destroy_empty-requires-clause-all g c in
    let l = lent g at.After-deref_mut in
    let some = c.in-Some.ensures.some in
    (one_only c.end_last.new.squeues.all.items some.0 c.args.squeue (sym some.1 ∙ l.single)).0

pub destroy_empty-requires-clause-rooms : goal.destroy_empty-requires-clause-rooms
destroy_empty-requires-clause-rooms g c =
    let at = goal.at.destroy_empty-requires-clause-rooms g c in
    let l = lent g at.After-deref_mut in
    let some = c.in-Some.ensures.some in
    let all = (one_only c.end_last.new.squeues.all.items some.0 c.args.squeue (sym some.1 ∙ l.single)).0 in
    none_long c.end_last.new.squeues.rooms.items (c.end_last.ensures.rooms.0 ∙ ap length all)

pub returns-clause-empty : goal.returns-clause-empty
returns-clause-empty g c =
    let at = goal.at.returns-clause-empty g c in
    let l = lent g at.After-deref_mut in
    let some = c.in-Some.ensures.some in
    none_lent_to c.end_last.new.jobs.items (nothing_left _ c.args.squeue c.end_last.new.squeues.all.items l.single some.1 some.2 (did g at.After-run_rings l).ends)

pub returns-clause-done : goal.returns-clause-done
returns-clause-done g c =
    let at = goal.at.returns-clause-done g c in
    let d = did g at.After-run_rings (lent g at.After-deref_mut) in
    are_done (tasks_in c.args.jobs.items) (tasks_in c.deref_mut.result.now) (tasks_in c.run_rings.new.jobs) (tasks_in c.end_last.new.jobs.items) (ap tasks_in c.deref_mut.ensures.value ∙ c.lend.ensures.tasks)
    (c.end_last.ensures.tasks ∙ ap tasks_in d.same) d.as_many d.did

pub run_rings-requires-clause-begun : goal.run_rings-requires-clause-begun
run_rings-requires-clause-begun g c κs within =
    let at = goal.at.run_rings-requires-clause-begun g c in
    let l = lent g at.After-deref_mut in
    let it = is_it c.args.squeue c.lend.new.squeues.all.items c.index.result.now l.single c.index.ensures in
    subst (λ t. AreBegun g.X.KeySteps.begins (origin_of t.given.first)) (sym it) c.requires.begun

pub returns-clause-setting : goal.returns-clause-setting
returns-clause-setting g c =
    let at = goal.at.returns-clause-setting g c in
    let l = lent g at.After-deref_mut in
    let some = c.in-Some.ensures.some in
    end_setting _ c.args.squeue c.end_last.new.squeues.all.items l.single some.1 some.2

pub returns-clause-seen : goal.returns-clause-seen
returns-clause-seen g c = λ k d is.
    let at = goal.at.returns-clause-seen g c in
    let l = lent g at.After-deref_mut in
    let some = c.in-Some.ensures.some in
    let back = did g at.After-run_rings l in
    let there = ap (λ ts. slice_get ts k) (sym (c.end_last.ensures.tasks ∙ ap tasks_in back.same)) ∙ is in
    let known = back.passes k d there in
    let le : k ≤ c.len-count.result - 1 =
    omega (arith, slice_get_within (tasks_in c.run_rings.new.jobs) k (Served d) there, length-map c.run_rings.new.jobs (λ j. j.task), back.many) in
    let knows = known_by_end _ c.args.squeue c.end_last.new.squeues.all.items l.single some.1 some.2 back.ends k d.pass.value le known.0 in
    known_own k _ d.pass.value known.1.is_number known.1.pass.2 knows

pub returns-clause-watched : goal.returns-clause-watched
returns-clause-watched g c = λ k w is.
    let at = goal.at.returns-clause-watched g c in
    let l = lent g at.After-deref_mut in
    let some = c.in-Some.ensures.some in
    let back = did g at.After-run_rings l in
    let there = ap (λ ts. slice_get ts k) (sym (c.end_last.ensures.tasks ∙ ap tasks_in back.same)) ∙ is in
    let known = back.watched k w there in
    let within = slice_get_within (tasks_in c.run_rings.new.jobs) k (Watched w) there in
    let le : k ≤ c.len-count.result - 1 = omega (arith, within, length-map c.run_rings.new.jobs (λ j. j.task), back.many) in
    let knows = known_by_end _ c.args.squeue c.end_last.new.squeues.all.items l.single some.1 some.2 back.ends k w.pass.value le known.0 in
    let task = some_at (tasks_in c.deref_mut.result.now) k (omega (arith, within, back.as_many)) in
    looked_whole g.X.KeySteps.begins g.X.KeySteps.step (work_of (origin_of c.args.squeue.given.first)) (g.V.Watches.says c.args.watcher.now) (g.V.Watches.many c.args.watcher.now) (setting_of limits_of c.args.squeue.given) _
    (end_setting _ c.args.squeue c.end_last.new.squeues.all.items l.single some.1 some.2) k _ w.pass.value w.last known.1.is_number known.1.pass.2 knows (has_watched _ _ task.0 w (back.did k task.0 (Watched w) task.1 there))

pub returns-clause-ended : goal.returns-clause-ended
returns-clause-ended g c =
    let at = goal.at.returns-clause-ended g c in
    let l = lent g at.After-deref_mut in
    let some = c.in-Some.ensures.some in
    end_ended _ c.args.squeue c.end_last.new.squeues.all.items l.single some.1 some.2
