use Rattle.std.proofs.Common.{◌≡◌, ◌∙◌, ◌+◌, ◌*◌, ℕ, length, replicate, sym, ap, subst, arith, length-append, ◌∷◌, [], map}
use Rattle.std.proofs.lemmas.List.{length-map}
use Rattle.placed_parts.specs.Placing.{limits_of, origin_of}
use Rattle.squeue_serve.specs.Lending.{tasks_in}
use Rattle.squeue_streams.specs.Taking.{most_feeds, most_leaves}
use Rattle.live_chats.specs.Telling.{first_of}
use Rattle.live_rings.specs.declared.ring.ServerTask.TheVariants as Task'
use Rattle.ring_groups.specs.Groups.{AllBecameFrom}
use Rattle.live_rings.specs.Seating.{ServesPlaces}
use Rattle.squeue_state.specs.Naming.{setting_of}
use Rattle.live_rings.specs.Served.{EndedAt, EndedIn}
use Rattle.live_rings.proofs.Lives.{ended_in}
use Rattle.live_rings.specs.Tasks.{AreDone, AreNewTasks, tasks_for}
use Rattle.live_rings.proofs.Seated.{lives_long}
use Rattle.live_rings.proofs.RingTasks.{all_ended_from, are_tasks, as_many}
use Rattle.live_rings.proofs.ring_squeue.serve_squeue.Goals as goal

pub new_squeue-requires-clause-feeds : goal.new_squeue-requires-clause-feeds
new_squeue-requires-clause-feeds g c = c.in_ok-parts.ensures.feeds ∙ ap (λ (n : ℕ). replicate n most_feeds) (sym c.in_ok-parts.ensures.count)

pub new_squeue-requires-clause-leaves : goal.new_squeue-requires-clause-leaves
new_squeue-requires-clause-leaves g c = c.in_ok-parts.ensures.leaves ∙ ap (λ (n : ℕ). replicate n most_leaves) (sym c.in_ok-parts.ensures.count)

pub run_to_end-jobs-requires-clause-squeue : goal.run_to_end-jobs-requires-clause-squeue
run_to_end-jobs-requires-clause-squeue g c κs within =
    let made = c.in-Ok-new_squeue.ensures in
    let rings : length c.in-Ok-new_squeue.squeue.given.quotas ≡ c.len-count.result = ap length made.serves.quotas ∙ lives_long c.len-count.result in
    let first = ap (λ r. first_of (origin_of r)) made.first ∙ ap first_of c.in_ok-parts.ensures.origin in
    let many = c.in_ok-chats.ensures.many in
    let counted : c.len-count.result ≡ length c.args.ends.items = omega (arith, c.len-count.ensures, c.args.ends.ok.0) in
    let count = c.in_ok-parts.ensures.count ∙ (ap (λ (n : ℕ). n * c.in_ok-own.own) counted ∙ (sym many ∙ ap length (sym first))) in
    subst (λ (n : ℕ). ServesPlaces limits_of c.in-Ok-new_squeue.squeue.given n (length (first_of (origin_of c.in-Ok-new_squeue.squeue.given.first)))) (sym rings)
    (subst (λ (n : ℕ). ServesPlaces limits_of c.in-Ok-new_squeue.squeue.given c.len-count.result n) count made.serves)

pub run_to_end-jobs-requires-clause-tasks : goal.run_to_end-jobs-requires-clause-tasks
run_to_end-jobs-requires-clause-tasks g c κs within =
    let made = c.in-Ok-new_squeue.ensures in
    let rings : length c.in-Ok-new_squeue.squeue.given.quotas ≡ c.len-count.result = ap length made.serves.quotas ∙ lives_long c.len-count.result in
    let first = ap (λ r. first_of (origin_of r)) made.first ∙ ap first_of c.in_ok-parts.ensures.origin in
    let counted : c.len-count.result ≡ length c.args.ends.items = omega (arith, c.len-count.ensures, c.args.ends.ok.0) in
    let own = c.in_ok-own.ensures.set in
    let tasks = are_tasks c.len-count.result c.in_ok-own.own (first_of c.in_ok-chats.chats) c.args.ends.items c.in_ok-chats.rings.items counted c.in_ok-chats.ensures.rings in
    let set = subst (λ (n : ℕ). AreNewTasks c.len-count.result n (first_of c.in_ok-chats.chats) (tasks_for c.in_ok-chats.rings.items)) own tasks in
    let here = subst (λ parts. AreNewTasks c.len-count.result c.args.setup.now.setting.places parts (tasks_for c.in_ok-chats.rings.items)) (sym first) set in
    let many = subst (λ (n : ℕ). AreNewTasks n c.args.setup.now.setting.places (first_of (origin_of c.in-Ok-new_squeue.squeue.given.first)) (tasks_for c.in_ok-chats.rings.items)) (sym rings) here in
    subst (AreNewTasks (length c.in-Ok-new_squeue.squeue.given.quotas) c.args.setup.now.setting.places (first_of (origin_of c.in-Ok-new_squeue.squeue.given.first))) (sym (c.in_ok-jobs.ensures.tasks ∙ c.in_ok-tasks.ensures)) many

pub gather-requires-clause-room : goal.gather-requires-clause-room
gather-requires-clause-room g c =
    let rings = c.in_ok-chats.rings.items in
    let tasks = c.in_ok-jobs.ensures.tasks ∙ c.in_ok-tasks.ensures in
    let jobs = length-map c.in_ok-jobs.jobs.items (λ j. j.task) in
    let now = length-map c.run_to_end-jobs.result.0.items (λ j. j.task) in
    let front = length-map rings (λ r. Task'.Serve r) in
    let many = as_many c.in_ok-own.own (first_of c.in_ok-chats.chats) c.args.ends.items rings c.in_ok-chats.ensures.rings in (
      c.in_ok-room.ensures.items,
      omega (arith, c.in_ok-room.ensures.exact, c.len.ensures, c.args.ends.ok.0, jobs, now, c.run_to_end-jobs.ensures.done.many, ap length tasks, length-append (map (λ r. Task'.Serve r) rings) (Task'.Work ∷ []), front, many),
    )

pub returns-in-Ok-new_squeue : goal.returns-in-Ok-new_squeue
returns-in-Ok-new_squeue g c =
    let at = setting_of limits_of c.in-Ok-new_squeue.squeue.given in
    let P = EndedAt g.S.Source.rest g.S.Source.read_faults g.K.Sink.contents g.K.Sink.write_faults at c.args.setup.now in
    let Q = EndedIn g.S.Source.rest g.S.Source.read_faults g.K.Sink.contents g.K.Sink.write_faults c.args.setup.now c.run_to_end-jobs.result.1 in
    let begun = c.in_ok-jobs.ensures.tasks ∙ c.in_ok-tasks.ensures in
    let news = tasks_in c.run_to_end-jobs.result.0.items in
    let done = subst (λ ts. AreDone P ts news) begun c.run_to_end-jobs.ensures.done in
    let counted : c.len-count.result ≡ length c.args.ends.items = omega (arith, c.len-count.ensures, c.args.ends.ok.0) in
    let rings : c.run_to_end-jobs.result.1.setting.rings ≡ length c.in_ok-chats.rings.items = ap (λ s. s.rings) c.run_to_end-jobs.ensures.setting ∙ (c.in-Ok-new_squeue.ensures.serves.its_rings
    ∙ (counted ∙ sym (as_many c.in_ok-own.own (first_of c.in_ok-chats.chats) c.args.ends.items c.in_ok-chats.rings.items c.in_ok-chats.ensures.rings))) in
    let all = all_ended_from P Q c.in_ok-chats.rings.items news 0 done.many done.each
    (λ k e d lt is h. let seen = c.run_to_end-jobs.ensures.seen k d is in
    let same : 0 + k ≡ k = omega arith in
    subst (λ n. Q n e d) (sym same) (ended_in g.S.Source.rest g.S.Source.read_faults g.K.Sink.contents g.K.Sink.write_faults c.args.setup.now at c.run_to_end-jobs.result.1 k e d
    c.run_to_end-jobs.ensures.setting (omega (arith, lt, rings)) seen.0 seen.1 h)) in
    subst (λ es. AllBecameFrom Q 0 es c.gather.result.items) c.in_ok-chats.ensures.rings.ends_are (subst (AllBecameFrom Q 0 _) (sym c.gather.ensures) all)
