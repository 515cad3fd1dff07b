use Rattle.std.proofs.Common.{Bool, true, false, ◌≤◌, ◌≡◌, ◌∙◌, ◌+◌, ◌*◌, ℕ, length, replicate, sym, ap, subst, arith}
use Rattle.std.proofs.lemmas.List.{length-map}
use Rattle.placed_parts.specs.Placing.{limits_of, origin_of}
use Rattle.squeue_serve.specs.Lending.{tasks_in}
use Rattle.squeue_streams.specs.Taking.{most_feeds, most_leaves}
use Rattle.squeue_arrivals.specs.Keyed.{AreBegun, first_of, work_of}
use Rattle.ring_groups.specs.Groups.{AllBecameFrom}
use Rattle.squeue_state.specs.Naming.{setting_of}
use Rattle.squeue_arrivals.specs.Seating.{ServesPlaces, lookers_of, room_of}
use Rattle.squeue_arrivals.specs.Arriving.{IsServedAt, IsServedIn}
use Rattle.squeue_arrivals.specs.Tasks.{AreDone, AreNewTasks, tasks_for}
use Rattle.squeue_arrivals.specs.Watching.{HasWatched, SawLast}
use Rattle.std.specs.Prelude.{IfSome}
use Rattle.squeue_arrivals.proofs.Seated.{lives_long}
use Rattle.squeue_arrivals.proofs.RingTasks.{DidEach, all_ended_from, are_tasks, as_many, tasks_long, was_watched}
use Rattle.squeue_arrivals.proofs.Whole.{served_in}
use Rattle.squeue_arrivals.proofs.ring_squeue.serve_squeue.Given.{Over}
use Rattle.squeue_arrivals.proofs.ring_squeue.serve_squeue.Goals.{After-run_to_end-jobs}
use Rattle.squeue_arrivals.proofs.ring_squeue.serve_squeue.Goals as goal

pub new_squeue-requires-clause-rings : goal.new_squeue-requires-clause-rings
new_squeue-requires-clause-rings g c =
    let counted : c.len-count.result ≡ length c.args.sources.items = omega (arith, c.len-count.ensures, c.args.sources.ok.0) in
    (omega (arith, counted, c.requires.sources.0), omega (arith, counted, c.requires.sources.1))

pub new_squeue-requires-clause-feeds : goal.new_squeue-requires-clause-feeds
new_squeue-requires-clause-feeds g c = c.in_ok-parts.ensures.feeds ∙ ap (λ (n : ℕ). replicate n most_feeds) (sym c.in_ok-parts.ensures.count)

pub new_squeue-requires-clause-leaves : goal.new_squeue-requires-clause-leaves
new_squeue-requires-clause-leaves g c = c.in_ok-parts.ensures.leaves ∙ ap (λ (n : ℕ). replicate n most_leaves) (sym c.in_ok-parts.ensures.count)

pub run_to_end-jobs-requires-clause-squeue : goal.run_to_end-jobs-requires-clause-squeue
run_to_end-jobs-requires-clause-squeue g c κs within =
    let made = c.in-Ok-new_squeue.ensures in
    let first = ap (λ r. first_of (origin_of r)) made.first ∙ ap first_of c.in_ok-parts.ensures.origin in
    let many = c.in_ok-keyed.ensures.many in
    let counted : c.len-count.result ≡ length c.args.sources.items = omega (arith, c.len-count.ensures, c.args.sources.ok.0) in
    let count = c.in_ok-parts.ensures.count ∙ (c.in_ok-all.ensures.0 ∙ (ap (λ (n : ℕ). n * c.args.pool.now.places) counted ∙ (sym many ∙ ap length (sym first)))) in
    subst (λ (n : ℕ). ServesPlaces limits_of c.in-Ok-new_squeue.squeue.given n (length (first_of (origin_of c.in-Ok-new_squeue.squeue.given.first)))) (sym made.serves.its_rings)
    (subst (λ (n : ℕ). ServesPlaces limits_of c.in-Ok-new_squeue.squeue.given c.len-count.result n) count made.serves)

pub run_to_end-jobs-requires-clause-tasks : goal.run_to_end-jobs-requires-clause-tasks
run_to_end-jobs-requires-clause-tasks g c κs within =
    let made = c.in-Ok-new_squeue.ensures in
    let given = c.in-Ok-new_squeue.squeue.given in
    let lookers = lookers_of c.args.watched in
    let passes : c.len-count.result + lookers ≡ length given.quotas = sym (ap length made.lives ∙ lives_long c.len-count.result lookers) in
    let first = ap (λ r. first_of (origin_of r)) made.first ∙ ap first_of c.in_ok-parts.ensures.origin in
    let counted : c.len-count.result ≡ length c.args.sources.items = omega (arith, c.len-count.ensures, c.args.sources.ok.0) in
    let tasks = are_tasks {Z = g.row.V-Seen.Denot} c.len-count.result lookers c.args.pool.now.places c.args.pool.now.room (first_of c.in_ok-keyed.keyed) c.args.sources.items c.in_ok-keyed.rings.items counted c.in_ok-keyed.ensures.rings in
    let here = subst (λ parts. AreNewTasks {Z = g.row.V-Seen.Denot} c.len-count.result (c.len-count.result + lookers) c.args.pool.now.places c.args.pool.now.room parts (tasks_for lookers c.in_ok-keyed.rings.items)) (sym first) tasks in
    let many = subst (λ (n : ℕ). AreNewTasks {Z = g.row.V-Seen.Denot} c.len-count.result n c.args.pool.now.places c.args.pool.now.room (first_of (origin_of given.first)) (tasks_for lookers c.in_ok-keyed.rings.items)) passes here in
    let rings = subst (λ (n : ℕ). AreNewTasks {Z = g.row.V-Seen.Denot} n (length given.quotas) c.args.pool.now.places c.args.pool.now.room (first_of (origin_of given.first)) (tasks_for lookers c.in_ok-keyed.rings.items)) (sym made.serves.its_rings) many in
    let room = subst (λ (n : ℕ). AreNewTasks {Z = g.row.V-Seen.Denot} given.rings (length given.quotas) c.args.pool.now.places n (first_of (origin_of given.first)) (tasks_for lookers c.in_ok-keyed.rings.items)) (sym made.room) rings in
    subst (AreNewTasks given.rings (length given.quotas) c.args.pool.now.places (room_of given) (first_of (origin_of given.first))) (sym (c.in_ok-jobs.ensures.tasks ∙ c.in_ok-tasks.ensures)) room

few : (b : Bool) → lookers_of b ≤ 1
few true = omega arith
few false = omega arith

pub gather-served-requires-clause-room : goal.gather-served-requires-clause-room
gather-served-requires-clause-room g c =
    let rings = c.in_ok-keyed.rings.items in
    let lookers = lookers_of c.args.watched in
    let tasks = c.in_ok-jobs.ensures.tasks ∙ c.in_ok-tasks.ensures in
    let jobs = length-map c.in_ok-jobs.jobs.items (λ j. j.task) in
    let now = length-map c.run_to_end-jobs.result.0.items (λ j. j.task) in
    let long = tasks_long g.row.V-Seen.Denot lookers rings in
    let many = as_many c.args.pool.now.places c.args.pool.now.room (first_of c.in_ok-keyed.keyed) c.args.sources.items rings c.in_ok-keyed.ensures.rings in
    (c.in_ok-room.ensures.items, omega (arith, c.in_ok-room.ensures.exact, c.len.ensures, c.args.sources.ok.0, jobs, now, c.run_to_end-jobs.ensures.done.many, ap length tasks, long, few c.args.watched, many))

-- what all tasks have done
done : (g : Over) (c : After-run_to_end-jobs g) → DidEach (IsServedAt g.X.KeySteps.begins g.X.KeySteps.step g.A.Arrivals.origin g.A.Arrivals.given g.A.Arrivals.is_over c.args.steps c.args.pool.now.places (setting_of limits_of c.in-Ok-new_squeue.squeue.given))
    (HasWatched g.X.KeySteps.begins g.X.KeySteps.step c.args.steps (g.V.Watches.says c.args.watcher.now) (setting_of limits_of c.in-Ok-new_squeue.squeue.given) (g.V.Watches.many c.args.watcher.now))
    (tasks_for (lookers_of c.args.watched) c.in_ok-keyed.rings.items) (tasks_in c.run_to_end-jobs.result.0.items)
done g c =
    let setting = setting_of limits_of c.in-Ok-new_squeue.squeue.given in
    let begun = c.in_ok-jobs.ensures.tasks ∙ c.in_ok-tasks.ensures in
    let news = tasks_in c.run_to_end-jobs.result.0.items in
    let work = ap work_of (ap origin_of c.in-Ok-new_squeue.ensures.first ∙ c.in_ok-parts.ensures.origin) ∙ c.in_ok-keyed.ensures.steps in
    let P = λ (w : g.row.X.Denot). IsServedAt g.X.KeySteps.begins g.X.KeySteps.step g.A.Arrivals.origin g.A.Arrivals.given g.A.Arrivals.is_over w c.args.pool.now.places setting in
    let L = λ (w : g.row.X.Denot). HasWatched g.X.KeySteps.begins g.X.KeySteps.step w (g.V.Watches.says c.args.watcher.now) setting (g.V.Watches.many c.args.watcher.now) in
    let ran = subst (λ w. AreDone (P w) (L w) (tasks_in c.in_ok-jobs.jobs.items) news) work c.run_to_end-jobs.ensures.done in
    (subst (λ ts. AreDone (P c.args.steps) (L c.args.steps) ts news) begun ran).each

as_long : (g : Over) (c : After-run_to_end-jobs g) → length (tasks_in c.run_to_end-jobs.result.0.items) ≡ length (tasks_for {Z = g.row.V-Seen.Denot} (lookers_of c.args.watched) c.in_ok-keyed.rings.items)
as_long g c = c.run_to_end-jobs.ensures.done.many ∙ ap length (c.in_ok-jobs.ensures.tasks ∙ c.in_ok-tasks.ensures)

pub returns-in-Ok-new_squeue-clause-served : goal.returns-in-Ok-new_squeue-clause-served
returns-in-Ok-new_squeue-clause-served g c =
    let at = (goal.at.returns-in-Ok-new_squeue-clause-served g c).After-run_to_end-jobs in
    let setting = setting_of limits_of c.in-Ok-new_squeue.squeue.given in
    let end = c.run_to_end-jobs.result.1 in
    let P = IsServedAt g.X.KeySteps.begins g.X.KeySteps.step g.A.Arrivals.origin g.A.Arrivals.given g.A.Arrivals.is_over c.args.steps c.args.pool.now.places setting in
    let L = HasWatched g.X.KeySteps.begins g.X.KeySteps.step c.args.steps (g.V.Watches.says c.args.watcher.now) setting (g.V.Watches.many c.args.watcher.now) in
    let Q = IsServedIn g.X.KeySteps.begins g.X.KeySteps.step g.A.Arrivals.origin g.A.Arrivals.given g.A.Arrivals.is_over c.args.steps c.args.pool.now.places end in
    let news = tasks_in c.run_to_end-jobs.result.0.items in
    let counted : c.len-count.result ≡ length c.args.sources.items = omega (arith, c.len-count.ensures, c.args.sources.ok.0) in
    let rings : end.setting.rings ≡ length c.in_ok-keyed.rings.items = ap (λ s. s.rings) c.run_to_end-jobs.ensures.setting ∙ (c.in-Ok-new_squeue.ensures.serves.its_rings
    ∙ (counted ∙ sym (as_many c.args.pool.now.places c.args.pool.now.room (first_of c.in_ok-keyed.keyed) c.args.sources.items c.in_ok-keyed.rings.items c.in_ok-keyed.ensures.rings))) in
    let all = all_ended_from P L Q (lookers_of c.args.watched) c.in_ok-keyed.rings.items news 0 (as_long g at) (done g at)
    (λ k e d lt is h. let seen = c.run_to_end-jobs.ensures.seen k d is in
    let same : 0 + k ≡ k = omega arith in
    subst (λ n. Q n e d) (sym same) (served_in g.X.KeySteps.begins g.X.KeySteps.step g.A.Arrivals.origin g.A.Arrivals.given g.A.Arrivals.is_over c.args.steps c.args.pool.now.places setting end k e d
    c.run_to_end-jobs.ensures.ended c.run_to_end-jobs.ensures.setting (omega (arith, lt, rings)) seen.0 seen.1 seen.2 h)) in
    let here = subst (λ es. AllBecameFrom Q 0 es c.gather-served.result.0.items) c.in_ok-keyed.ensures.rings.sources_are (subst (AllBecameFrom Q 0 _) (sym c.gather-served.ensures.served) all) in
    subst (λ e. AllBecameFrom (IsServedIn g.X.KeySteps.begins g.X.KeySteps.step g.A.Arrivals.origin g.A.Arrivals.given g.A.Arrivals.is_over c.args.steps c.args.pool.now.places e) 0 c.args.sources.items c.gather-served.result.0.items) (sym c.watched_end.ensures.end) here

pub returns-in-Ok-new_squeue-clause-watched : goal.returns-in-Ok-new_squeue-clause-watched
returns-in-Ok-new_squeue-clause-watched g c =
    let at = (goal.at.returns-in-Ok-new_squeue-clause-watched g c).After-run_to_end-jobs in
    let counted : c.len-count.result ≡ length c.args.sources.items = omega (arith, c.len-count.ensures, c.args.sources.ok.0) in
    let end = c.watched_end.ensures.end in
    let rings = ap (λ e. e.setting.rings) end ∙ (ap (λ s. s.rings) c.run_to_end-jobs.ensures.setting ∙ (c.in-Ok-new_squeue.ensures.serves.its_rings
    ∙ (counted ∙ sym (as_many c.args.pool.now.places c.args.pool.now.room (first_of c.in_ok-keyed.keyed) c.args.sources.items c.in_ok-keyed.rings.items c.in_ok-keyed.ensures.rings)))) in
    let work = ap work_of (ap origin_of c.in-Ok-new_squeue.ensures.first ∙ c.in_ok-parts.ensures.origin) ∙ c.in_ok-keyed.ensures.steps in
    was_watched g.X.KeySteps.begins g.X.KeySteps.step c.args.steps (g.V.Watches.says c.args.watcher.now) (g.V.Watches.many c.args.watcher.now) c.args.watched _ _ c.in_ok-keyed.rings.items (tasks_in c.run_to_end-jobs.result.0.items)
    (as_long g at) (done g at) c.watched_end.result rings
    (λ k w there.
    subst (λ e. SawLast g.X.KeySteps.begins g.X.KeySteps.step c.args.steps (g.V.Watches.says c.args.watcher.now) e.setting k (g.V.Watches.many c.args.watcher.now) e.history w.last) (sym end)
    (subst (λ x. SawLast g.X.KeySteps.begins g.X.KeySteps.step x (g.V.Watches.says c.args.watcher.now) c.run_to_end-jobs.result.1.setting k (g.V.Watches.many c.args.watcher.now) c.run_to_end-jobs.result.1.history w.last) work
    (c.run_to_end-jobs.ensures.watched k w there)))
    (subst (λ o. IfSome o (λ w. c.watched_end.result.last ≡ w.last)) c.gather-served.ensures.watched c.watched_end.ensures.last)

pub run_to_end-jobs-requires-clause-begun : goal.run_to_end-jobs-requires-clause-begun
run_to_end-jobs-requires-clause-begun g c κs within =
    subst (AreBegun g.X.KeySteps.begins) (sym (ap origin_of c.in-Ok-new_squeue.ensures.first ∙ c.in_ok-parts.ensures.origin)) c.in_ok-keyed.ensures.begun
