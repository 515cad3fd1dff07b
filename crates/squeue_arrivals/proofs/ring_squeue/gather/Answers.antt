use Rattle.std.proofs.Common.{◌≡◌, ◌∙◌, ◌+◌, ◌++◌, ◌∷◌, [], Some, refl, sym, ap, arith, length, length-append, append_assoc, append-nil, rules}
use Rattle.std.specs.Prelude.{reverse}
use Rattle.std.proofs.lemmas.List.Elements.{All-pop}
use Rattle.squeue_serve.specs.declared.jobs.Job.{Job}
use Rattle.squeue_serve.specs.Lending.{tasks_in}
use Rattle.squeue_serve.proofs.Coming.{all_less}
use Rattle.squeue_arrivals.specs.declared.ring.RingTask.{RingTask}
use Rattle.squeue_arrivals.specs.Tasks.{ended_of, watched_in, watched_of}
use Rattle.squeue_arrivals.proofs.RingTasks.{one_at_most, ended_left}
use Rattle.squeue_arrivals.proofs.ring_squeue.gather.Goals as goal

pub jobs-init : goal.jobs-init
jobs-init g c = record {
  gone = [];
  all = sym (append-nil c.args.jobs.items);
  empty = c.requires.empty;
  left = sym (ap reverse c.requires.room.0);
  watched = refl;
  room = omega (arith, ap length c.requires.room.0, c.requires.room.1);
}

pub destroy_empty-requires : goal.destroy_empty-requires
destroy_empty-requires g c =
    let none =
    (All-pop (λ (j : Job (RingTask g.row.T.Denot g.row.S.Denot g.row.A.Denot g.row.Z.Denot)). j.places.items ≡ []) c.jobs.jobs.items c.pop.new.self.items (Some c.in-Some.job) c.in-Some.ensures.items c.jobs.invariant.empty).1 in
    omega (arith, ap length none, c.in-Some.job.places.ok)

pub add_ended-watched-requires : goal.add_ended-watched-requires
add_ended-watched-requires g c = omega (arith, c.jobs.invariant.room, ap length c.in-Some.ensures.items, length-append c.pop.new.self.items (c.in-Some.job ∷ []))

pub jobs-preserved : goal.jobs-preserved
jobs-preserved g c =
    let i = c.jobs.invariant in
    let left = c.pop.new.self.items in
    let job = c.in-Some.job in
    let is = c.in-Some.ensures.items in
    let w = c.add_ended-watched.ensures in
    let n : length c.jobs.jobs.items ≡ length left + 1 = ap length is ∙ length-append left (job ∷ []) in
    record {
      gone = job ∷ i.gone;
      all = i.all ∙ (ap (λ l. l ++ i.gone) is ∙ append_assoc left (job ∷ []) i.gone);
      empty = all_less (λ j. j.places.items ≡ []) left c.jobs.jobs.items job is i.empty;
      left = ended_left job.task (tasks_in i.gone) c.jobs.left.items c.add_ended-watched.new.left.items w.left i.left;
      watched = w.watched ∙ ap (watched_of job.task) i.watched;
      room = omega (arith, i.room, n, ap length w.left, length-append c.jobs.left.items (ended_of (job.task ∷ [])), one_at_most job.task, w.room);
    }

pub returns-clause-served : goal.returns-clause-served
returns-clause-served g c =
    let i = c.jobs.invariant in
    let none : c.jobs.jobs.items ≡ [] = search rules in
    let all : i.gone ≡ c.args.jobs.items = sym (i.all ∙ ap (λ l. l ++ i.gone) none) in
    c.reverse.ensures.items ∙ (sym i.left ∙ ap (λ js. ended_of (tasks_in js)) all)

pub returns-clause-watched : goal.returns-clause-watched
returns-clause-watched g c =
    let i = c.jobs.invariant in
    let none : c.jobs.jobs.items ≡ [] = search rules in
    let all : i.gone ≡ c.args.jobs.items = sym (i.all ∙ ap (λ l. l ++ i.gone) none) in
    i.watched ∙ ap (λ js. watched_in (tasks_in js)) all
