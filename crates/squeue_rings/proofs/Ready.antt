-- Jobs with the passes of new squeues are ready.
use Rattle.std.proofs.Common.{◌≡◌, ℕ, ◌+◌, ◌-◌, ◌<◌, ◌≤◌, ◌^◌, Option, Some, List, [], inl, inr, length, slice_get, ap, sym, ◌∙◌, subst, arith}
use Rattle.std.proofs.lemmas.Bool.{cases_lt}
use Rattle.std.proofs.lemmas.List.{length-map}
use Rattle.turn_gate.specs.History.{Each}
use Rattle.turn_gate.specs.declared.pass.Pass.{Pass}
use Rattle.perimeter_core.specs.History.{Element, Limits}
use Rattle.squeue_state.specs.Naming.{Named}
use Rattle.squeue_serve.specs.declared.jobs.Job.{Job}
use Rattle.squeue_serve.specs.Lending.{AreLent, lent_to, tasks_in}
use Rattle.squeue_serve.specs.Places.{AtEach, Holds, IsNew}
use Rattle.squeue_serve.proofs.Coming.{each_got}
use Rattle.squeue_serve.proofs.Lent.{lent_got}
use Rattle.histories.proofs.ListPlaces.{some_at, got_map}
use Rattle.squeue_serve.proofs.Unused.{each_at}
use Rattle.squeue_rings.specs.Bringing.{AreAt, AreOneRun, MayBringAll}
use Rattle.squeue_rings.specs.Calling.{MayMakeEach}
use Rattle.squeue_rings.specs.Starts.{StartAtHome}
use Rattle.squeue_rings.proofs.NewCallers.{new_callers}
use Rattle.squeue_rings.proofs.Starting.{none_brought}
use Rattle.squeue_rings.specs.declared.intake.Intake.{Intake}
use Rattle.squeue_rings.specs.declared.task.RingTask.{RingTask}
use Rattle.squeue_rings.specs.declared.task.Task.{Task}
use Rattle.squeue_rings.specs.declared.task.Task.TheVariants as Task'
use Rattle.squeue_rings.specs.Doing.{MayBringIntake, MayCallAll, MayDo, MayDoAll, called_by}
use Rattle.squeue_rings.specs.Tasks.{AreTasks, IsRingTask}
use Rattle.squeue_rings.proofs.Closes.{both}
use Rattle.squeue_rings.proofs.Works.{got_or}

-- the jobs of so many rings, callers and squeues, by number
module _ (rings callers count squeues : ℕ) (all : rings + callers ≡ count) (intakes : List Intake) (jobs : List (Job Task)) (tasks : AreTasks rings callers squeues intakes (tasks_in jobs)) where
  pub how_many : length jobs ≡ 1 + count + squeues
  how_many = let e = tasks.count in let m = length-map jobs (λ (j : Job Task). j.task) in omega (arith, e, m, all)

  -- the task of an intake's ring
  pub ring_task : (r : ℕ) → r < rings → (l : Intake) × (t : RingTask) × (slice_get intakes r ≡ Some l) × (slice_get (tasks_in jobs) (1 + r) ≡ Some (Task'.Bring t)) × IsRingTask squeues r l t
  ring_task r lt = let n = tasks.intakes_are in let l = some_at intakes r (omega (arith, lt, n)) in let t = tasks.rings_are r l.0 l.1 in (l.0, t.0, l.1, t.1, t.2)

  pub worker_task : (q : ℕ) → q < squeues → slice_get (tasks_in jobs) (1 + count + q) ≡ Some (Task'.Drain q)
  worker_task q lt = ap (λ (n : ℕ). slice_get (tasks_in jobs) (1 + n + q)) (sym all) ∙ tasks.workers q lt

  module _ {R O : Type 0} (limits : R → Limits) (origin : R → O) (spread : ℕ) (calls : List (List ℕ)) (ss : List (Named R)) (one : AreOneRun origin squeues ss) (some : 1 ≤ squeues) (lent : AreLent IsNew 1 count ss (lent_to jobs))
      (their_rings : Each (λ (s : Named R). s.given.rings ≡ rings) ss) (starts : StartAtHome limits squeues ss) (may_bring : (r : ℕ) (l : Intake) → r < rings → slice_get intakes r ≡ Some l → MayBringAll limits squeues spread r l.list.items ss)
      (few : callers ≤ length calls) (short : (j : ℕ) → length (called_by calls j) < 2 ^ 32) (may_make : (j : ℕ) → j < callers → MayMakeEach limits j (called_by calls j) ss) where
    abbrev May : Task → List (Option (Pass Element)) → Type 0
    May t places = MayDo limits squeues spread calls intakes ss t places

    ring_ready : (r : ℕ) (lt : r < rings) → MayBringIntake limits squeues spread intakes ss (ring_task r lt).1 (lent_to jobs (1 + r))
    ring_ready r lt =
        let t = ring_task r lt in
        let places = lent_to jobs (1 + r) in
        record {
          intake = t.0;
          is_intake = ap (slice_get intakes) t.4.number ∙ t.2;
          ring = tasks.have r t.0 t.2;
          task = subst (λ (k : ℕ). IsRingTask squeues k t.0 t.1) (sym t.4.number) t.4;
          may = subst (λ (k : ℕ). MayBringAll limits squeues spread k t.0.list.items ss) (sym t.4.number) (may_bring r t.0 lt t.2);
          new = subst (λ (k : ℕ). AtEach (λ s o. Holds (IsNew k s) o) ss places) (sym t.4.number) (lent.others r (omega (arith, lt, all)));
          at = subst (λ (k : ℕ). AreAt limits squeues spread k ss [] [] places) (sym t.4.number)
              (none_brought limits squeues spread r ss places some one.count one.numbered starts (lent.others r (omega (arith, lt, all))));
        }

    caller_ready : (j : ℕ) → j < callers → MayCallAll limits calls ss j (lent_to jobs (1 + (rings + j)))
    caller_ready j lt =
        let places = lent_to jobs (1 + (rings + j)) in
        record {
          thread = omega (arith, lt, few);
          few = short j;
          no_worker = each_got (λ (s : Named R). s.given.rings + j < length s.given.quotas) ss
              (λ q s at.
              let n = each_at (λ (s : Named R). length s.given.quotas ≡ count) ss q s lent.counts at in
              let r = each_at (λ (s : Named R). s.given.rings ≡ rings) ss q s their_rings at in
              omega (arith, lt, n, r, all));
          may = may_make j lt;
          at = new_callers limits j ss places
              (both (λ (s : Named R). s.given.rings ≡ rings) (λ s o. Holds (IsNew (rings + j) s) o) (λ s o. Holds (IsNew (s.given.rings + j) s) o)
              (λ s o e h. subst (λ (k : ℕ). Holds (IsNew (k + j) s) o) (sym e) h) ss places their_rings (lent.others (rings + j) (omega (arith, lt, all))));
        }

    worker_ready : (q : ℕ) → q < squeues → May (Task'.Drain q) (lent_to jobs (1 + count + q))
    worker_ready q lt =
        let n = one.count in
        let s = some_at ss q (omega (arith, lt, n)) in
        let w = lent.workers q s.0 s.1 in
        (s.0, w.0, s.1, w.1, (w.2.pass, w.2.is_number ∙ sym (each_at (λ (s : Named R). length s.given.quotas ≡ count) ss q s.0 lent.counts s.1)))

    -- the job whose number that is
    job_at : (k m : ℕ) (j : Job Task) (t : Task) → k ≡ m → slice_get jobs k ≡ Some j → slice_get (tasks_in jobs) m ≡ Some t → May t (lent_to jobs m) → May j.task j.places.items
    job_at k m j t e is at may =
        let same : Some j.task ≡ Some t = sym (got_map (λ (j : Job Task). j.task) jobs k j is) ∙ (ap (λ (n : ℕ). slice_get (tasks_in jobs) n) e ∙ at) in
        let task : j.task ≡ t = cc same in
        let places : lent_to jobs m ≡ j.places.items = sym (ap (λ (n : ℕ). lent_to jobs n) e) ∙ lent_got jobs k j is in
        subst (λ (u : Task). May u j.places.items) (sym task) (subst (May t) places may)

    ready : (k : ℕ) (j : Job Task) → k < length jobs → slice_get jobs k ≡ Some j → May j.task j.places.items
    ready k j within is =
        elim (cases_lt k 1) [
          | inl first ↦ job_at k 0 j (Task'.Feed tasks.feeder.0) (omega (arith, first)) is tasks.feeder.1 tasks.feeder.2
          | inr behind ↦ elim (cases_lt k (1 + rings)) [
            | inl ring ↦
                let lt : k - 1 < rings = omega (arith, behind, ring) in
                job_at k (1 + (k - 1)) j (Task'.Bring (ring_task (k - 1) lt).1) (omega (arith, behind)) is (ring_task (k - 1) lt).3 (ring_ready (k - 1) lt)
            | inr past ↦ elim (cases_lt k (1 + count)) [
              | inl caller ↦
                  let lt : k - (1 + rings) < callers = omega (arith, past, caller, all) in
                  job_at k (1 + (rings + (k - (1 + rings)))) j (Task'.Call (k - (1 + rings))) (omega (arith, past)) is (tasks.callers_are (k - (1 + rings)) lt) (caller_ready (k - (1 + rings)) lt)
              | inr end ↦
                  let n = how_many in
                  let lt : k - (1 + count) < squeues = omega (arith, end, within, n) in
                  job_at k (1 + count + (k - (1 + count))) j (Task'.Drain (k - (1 + count))) (omega (arith, end)) is (worker_task (k - (1 + count)) lt) (worker_ready (k - (1 + count)) lt)
            ]
          ]
        ]

    pub all_ready : MayDoAll limits squeues spread calls intakes ss jobs
    all_ready k d lt = let j = some_at jobs k lt in subst (λ (i : Job Task). May i.task i.places.items) (sym (got_or jobs k j.0 d j.1)) (ready k j.0 lt j.1)
