-- What the jobs of new squeues may do, and what is known when they have done it.
use Rattle.std.proofs.Common.{◌≡◌, ◌⊎◌, ℕ, ◌+◌, ◌-◌, ◌<◌, ◌≤◌, Option, Some, None, List, [], ◌∷◌, ◌++◌, All, inl, inr, drop, take, length, zero, suc, slice_get, slice_index_or, refl, ap, sym, ◌∙◌, subst, arith}
use Rattle.std.proofs.lemmas.Bool.{cases_lt}
use Rattle.std.proofs.lemmas.List.{length-map}
use Rattle.std.proofs.lemmas.Option.{slice_get_within}
use Rattle.turn_gate.specs.Passes.{IsPassOf, number, seen}
use Rattle.turn_gate.specs.declared.pass.Pass.{Pass}
use Rattle.perimeter_core.specs.History.{Element, Limits, run}
use Rattle.perimeter_core.specs.Ending.{IsOver}
use Rattle.squeue_state.specs.Naming.{Named, setting_of}
use Rattle.histories.specs.Elements.{number_of}
use Rattle.histories.proofs.ListPlaces.{got_map, some_at}
use Rattle.squeue_serve.specs.declared.jobs.Job.{Job}
use Rattle.squeue_serve.specs.Lending.{AreLent, lent_to, tasks_in}
use Rattle.squeue_serve.specs.Places.{AtEach, Holds, IsNew, MayEnd}
use Rattle.squeue_serve.proofs.Lent.{lent_got, past_jobs}
use Rattle.squeue_serve.proofs.Unused.{each_at}
use Rattle.squeue_rings.proofs.Slots.{at_made}
use Rattle.squeue_rings.proofs.Works.{got_or}
use Rattle.shard_rings.specs.declared.run.RingTask.{RingTask}
use Rattle.shard_rings.specs.declared.run.Task.{Task}
use Rattle.shard_rings.specs.declared.run.Task.TheVariants.{Ring, Work}
use Rattle.shard_rings.specs.Columns.{rings_in}
use Rattle.shard_rings.specs.Jobs.{AllServe, HasBroughtOf, HasDone, HaveDone, MayDo}
use Rattle.shard_rings.specs.Knowing.{Serves, sent_of}
use Rattle.shard_rings.specs.Making.{AreTasks, IsNewRing}
use Rattle.shard_rings.specs.Tasks.{HasBrought, HasFed, HasWorkedAt, IsReady}
use Rattle.shard_rings.proofs.Apart.{rings_are}
use Rattle.shard_rings.proofs.Finishing.{at_all}

is_some_of : {A : Type 0} {x y : A} → Some x ≡ Some y → x ≡ y
is_some_of is = cc is

module _ {B R T : Type 0} (limits : R → Limits) (squeues : List (Named R)) (Did : B → List (List T) → List (List T) → B → Type 0) where
  got_ring : (a : RingTask B T) (old : List (Option (Pass Element))) (t : Task B T) (new : List (Option (Pass Element))) → HasDone limits squeues Did (Ring a) old t new → (b : RingTask B T) × (t ≡ Ring b) × HasBrought limits squeues Did new a b
  got_ring a old (Ring b) new h = (b, refl, h)
  got_ring a old (Work q) new h = absurd h

  got_work : (q : ℕ) (old : List (Option (Pass Element))) (t : Task B T) (new : List (Option (Pass Element))) → HasDone limits squeues Did (Work q) old t new → (t ≡ Work q) × HasWorkedAt limits squeues q old new
  got_work q old (Ring b) new h = absurd h
  got_work q old (Work r) new h = (ap (λ (n : ℕ). Work n) h.0, h.1)

module _ {B R T : Type 0} (limits : R → Limits) (squeues : List (Named R)) (count : ℕ) (jobs : List (Job (Task B T))) (tasks : AreTasks count (length squeues) (IsNewRing (length squeues)) (tasks_in jobs)) (lent : AreLent IsNew 0 count squeues (lent_to jobs)) where
  how_many : length jobs ≡ count + length squeues
  how_many = sym (length-map jobs (λ j. j.task)) ∙ tasks.many

  -- the task of a job by its number
  task_at : (k : ℕ) (j : Job (Task B T)) → slice_get jobs k ≡ Some j → slice_get (tasks_in jobs) k ≡ Some j.task
  task_at k j at = got_map (λ (j : Job (Task B T)). j.task) jobs k j at

  ring_may : AllServe limits squeues count → (k : ℕ) (j : Job (Task B T)) → k < count → slice_get jobs k ≡ Some j → MayDo limits squeues j.task j.places.items
  ring_may serve k j lt at =
      let h = tasks.rings k lt in
      let it : j.task ≡ Ring h.0 = is_some_of (sym (task_at k j at) ∙ h.1) in
      let z : 0 + k ≡ k = omega arith in
      let places : lent_to jobs (0 + k) ≡ j.places.items = ap (lent_to jobs) z ∙ lent_got jobs k j at in
      let ready : IsReady limits squeues j.places.items h.0 = record {
        passes = subst (λ (n : ℕ). AtEach (λ s o. Holds (IsNew n s) o) squeues j.places.items) (sym h.2.number) (subst (AtEach (λ s o. Holds (IsNew k s) o) squeues) places (lent.others k lt));
        cells = h.2.cells;
        new = h.2.new;
        serves = λ q s there. subst (Serves limits s) (sym h.2.number) (serve q k s lt there);
      } in
      subst (λ (t : Task B T). MayDo limits squeues t j.places.items) (sym it) ready

  work_may : (k : ℕ) (j : Job (Task B T)) → count ≤ k → slice_get jobs k ≡ Some j → MayDo limits squeues j.task j.places.items
  work_may k j le at =
      let q : ℕ = k - count in
      let within = slice_get_within jobs k j at in
      let less : q < length squeues = omega (arith, within, how_many, le) in
      let e : count + q ≡ k = omega (arith, le) in
      let f : 0 + count + q ≡ k = omega (arith, le) in
      let it : j.task ≡ Work q = is_some_of (sym (task_at k j at) ∙ (ap (slice_get (tasks_in jobs)) (sym e) ∙ tasks.works q less)) in
      let s = some_at squeues q less in
      let w = lent.workers q s.0 s.1 in
      let c = each_at (λ (s : Named R). length s.given.quotas ≡ count) squeues q s.0 lent.counts s.1 in
      let places : j.places.items ≡ Some w.0 ∷ [] = sym (ap (lent_to jobs) f ∙ lent_got jobs k j at) ∙ w.1 in
      subst (λ (t : Task B T). MayDo limits squeues t j.places.items) (sym it) (s.0, w.0, s.1, places, (w.2.pass, w.2.is_number ∙ sym c))

  -- all jobs may do what they have to do
  pub all_may : AllServe limits squeues count → All (λ j. MayDo limits squeues j.task j.places.items) jobs
  all_may serve = at_all (λ (j : Job (Task B T)). MayDo limits squeues j.task j.places.items) jobs (λ k j at. by k j at (cases_lt k count))
    where
      by : (k : ℕ) (j : Job (Task B T)) → slice_get jobs k ≡ Some j → (k < count) ⊎ (count ≤ k) → MayDo limits squeues j.task j.places.items
      by k j at (inl lt) = ring_may serve k j lt at
      by k j at (inr le) = work_may k j le at

  module _ (Did : B → List (List T) → List (List T) → B → Type 0) (new : List (Job (Task B T))) (same : length new ≡ length jobs) (done : HaveDone limits squeues Did jobs new) where
    -- what the job at a number has done, where its task was this
    done_at : (k : ℕ) (t : Task B T) → k < length jobs → slice_get (tasks_in jobs) k ≡ Some t
        → (n : Job (Task B T)) × (slice_get new k ≡ Some n) × HasDone limits squeues Did t (lent_to jobs k) n.task (lent_to new k)
    done_at k t lt at =
        let j = some_at jobs k lt in
        let n = some_at new k (omega (arith, lt, same)) in
        let it : j.0.task ≡ t = is_some_of (sym (task_at k j.0 j.1) ∙ at) in
        let ran : HasDone limits squeues Did j.0.task j.0.places.items n.0.task n.0.places.items =
        subst (λ (y : Job (Task B T)). HasDone limits squeues Did j.0.task j.0.places.items y.task y.places.items) (got_or new k n.0 j.0 n.1)
        (subst (λ (x : Job (Task B T)). HasDone limits squeues Did x.task x.places.items (slice_index_or new k j.0).task (slice_index_or new k j.0).places.items) (got_or jobs k j.0 j.0 j.1) (done k j.0 lt)) in (
          n.0,
          n.1,
          subst (λ (l : List (Option (Pass Element))). HasDone limits squeues Did t l n.0.task (lent_to new k)) (sym (lent_got jobs k j.0 j.1))
              (subst (λ (l : List (Option (Pass Element))). HasDone limits squeues Did t j.0.places.items n.0.task l) (sym (lent_got new k n.0 n.1))
              (subst (λ (u : Task B T). HasDone limits squeues Did u j.0.places.items n.0.task n.0.places.items) it ran)),
        )

    ring_done : (p : ℕ) → p < count → (b : RingTask B T) × (slice_get (tasks_in new) p ≡ Some (Ring b)) × HasBroughtOf limits squeues Did (tasks_in jobs) (lent_to new) p b
    ring_done p lt =
        let h = tasks.rings p lt in
        let d = done_at p (Ring h.0) (omega (arith, lt, how_many)) h.1 in
        let r = got_ring limits squeues Did h.0 (lent_to jobs p) d.0.task (lent_to new p) d.2 in
        (r.0, got_map (λ (j : Job (Task B T)). j.task) new p d.0 d.1 ∙ ap Some r.1, record { a = h.0; was = h.1; brought = r.2 })

    work_done : (q : ℕ) (s : Named R) → slice_get squeues q ≡ Some s
        → (slice_get (tasks_in new) (count + q) ≡ Some (Work q)) × ((y : Pass Element) × (lent_to new (0 + count + q) ≡ Some y ∷ []) × MayEnd limits count s y)
    work_done q s at =
        let lt = slice_get_within squeues q s at in
        let d = done_at (count + q) (Work q) (omega (arith, lt, how_many)) (tasks.works q lt) in
        let r = got_work limits squeues Did q (lent_to jobs (count + q)) d.0.task (lent_to new (count + q)) d.2 in
        let w = r.1 in
        let f : 0 + count + q ≡ count + q = omega arith in
        let first = lent.workers q s at in
        let it : w.0 ≡ s = is_some_of (sym w.3 ∙ at) in
        let from : w.1 ≡ first.0 = one_only w.1 first.0 (sym w.4 ∙ (ap (lent_to jobs) (sym f) ∙ first.1)) in
        let ended : MayEnd limits count s w.2 = record {
          pass = subst (λ (s : Named R). IsPassOf number_of s.gate w.2) it w.6.0.goes_on.is_pass;
          is_number = w.6.0.goes_on.same_number ∙ (ap number from ∙ first.2.is_number);
          over = λ _. subst (λ (s : Named R). IsOver (setting_of limits s.given) (run (setting_of limits s.given) (seen w.2))) it w.6.1;
        } in
        (got_map (λ (j : Job (Task B T)). j.task) new (count + q) d.0 d.1 ∙ ap Some r.0, (w.2, ap (lent_to new) f ∙ w.5, ended))
      where
        one_only : (x y : Pass Element) → Some x ∷ [] ≡ Some y ∷ [] → x ≡ y
        one_only x y e = cc e

    -- the tasks have become these
    pub tasks_after : AreTasks count (length squeues) (HasBroughtOf limits squeues Did (tasks_in jobs) (lent_to new)) (tasks_in new)
    tasks_after =
        record {
          many = length-map new (λ j. j.task) ∙ (same ∙ how_many);
          rings = ring_done;
          works = λ q lt. let s = some_at squeues q lt in (work_done q s.0 s.1).0;
        }

    may_end : (p n a : ℕ) (s : Named R) (o : Option (Pass Element)) → a ≡ p → Holds (HasFed limits a n s) o → Holds (MayEnd limits p s) o
    may_end p n a s None e h = absurd h
    may_end p n a s (Some x) e h = subst (λ (k : ℕ). MayEnd limits k s x) e h.end

    -- and all passes may come back
    pub lent_after : AreLent (MayEnd limits) 0 count squeues (lent_to new)
    lent_after =
        record {
          counts = lent.counts;
          others = λ p lt. (let z : p ≡ 0 + p = omega arith in subst (λ (k : ℕ). AtEach (λ s o. Holds (MayEnd limits p s) o) squeues (lent_to new k)) z (of_ring p lt));
          workers = λ q s at. (work_done q s at).1;
          first_none = λ i lt. absurd (omega (arith, lt));
          last_none = λ i le. past_jobs new i (omega (arith, le, same, how_many));
        }
      where
        of_ring : (p : ℕ) → p < count → AtEach (λ s o. Holds (MayEnd limits p s) o) squeues (lent_to new p)
        of_ring p lt =
            let r = ring_done p lt in
            let b = r.2 in
            let first = tasks.rings p lt in
            let it : b.a ≡ first.0 = ring_is b.a first.0 (is_some_of (sym b.was ∙ first.1)) in
            let n = b.brought.ends.count in
            let m = ap (λ (t : RingTask B T). length t.cells.items) it ∙ first.2.cells in
            let number : b.a.number ≡ p = ap (λ (t : RingTask B T). t.number) it ∙ first.2.number in
            at_made (λ s o. Holds (MayEnd limits p s) o) squeues (lent_to new p) b.brought.count
            (λ q s o at there.
            (let less = slice_get_within squeues q s at in
            let c = some_at r.0.cells.items q (omega (arith, less, n, m)) in
            may_end p (length (sent_of c.0)) b.a.number s o number (b.brought.fed q s o c.0 at there c.1)))
          where
            ring_is : (x y : RingTask B T) → Ring x ≡ Ring y → x ≡ y
            ring_is x y e = cc e

    -- what a slice of all jobs gives back are all jobs
    module _ (len : ℕ) (long : length jobs ≡ len) where
      back : take len (new ++ drop (length new) jobs) ≡ new
      back = take_front new (drop (length new) jobs) len (same ∙ long) (none_left jobs (length new) (omega (arith, same)))
        where
          none_left : {A : Type 0} (xs : List A) (n : ℕ) → length xs ≤ n → drop n xs ≡ []
          none_left [] zero le = refl
          none_left [] (suc n) le = refl
          none_left (x ∷ xs) zero le = absurd (omega (arith, le))
          none_left (x ∷ xs) (suc n) le = none_left xs n (omega (arith, le))

          take_front : {A : Type 0} (xs ys : List A) (n : ℕ) → length xs ≡ n → ys ≡ [] → take n (xs ++ ys) ≡ xs
          take_front [] ys zero e none = refl
          take_front [] ys (suc n) e none = absurd (omega (arith, e))
          take_front (x ∷ xs) ys zero e none = absurd (omega (arith, e))
          take_front (x ∷ xs) ys (suc n) e none = ap (λ l. x ∷ l) (take_front xs ys n (omega (arith, e)) none)

      pub all_done : AreTasks count (length squeues) (HasBroughtOf limits squeues Did (tasks_in jobs) (lent_to (take len (new ++ drop (length new) jobs)))) (tasks_in (take len (new ++ drop (length new) jobs)))
      all_done = subst (λ (l : List (Job (Task B T))). AreTasks count (length squeues) (HasBroughtOf limits squeues Did (tasks_in jobs) (lent_to l)) (tasks_in l)) (sym back) tasks_after

      pub all_ended : AreLent (MayEnd limits) 0 count squeues (lent_to (take len (new ++ drop (length new) jobs)))
      all_ended = subst (λ (l : List (Job (Task B T))). AreLent (MayEnd limits) 0 count squeues (lent_to l)) (sym back) lent_after

      pub all_rings : length (rings_in (tasks_in (take len (new ++ drop (length new) jobs)))) ≡ count
      all_rings =
          ap (λ (l : List (Job (Task B T))). length (rings_in (tasks_in l))) back
          ∙ (rings_are count (length squeues) (HasBroughtOf limits squeues Did (tasks_in jobs) (lent_to new)) (tasks_in new) tasks_after).0
