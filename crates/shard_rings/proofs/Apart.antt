-- Jobs that are taken apart, the last one first.
use Rattle.std.proofs.Common.{◌≡◌, ℕ, zero, suc, ◌+◌, ◌<◌, Some, List, [], ◌∷◌, ◌++◌, length, length-append, map, reverse, append_assoc, slice_get, refl, ap, sym, ◌∙◌, subst, arith}
use Rattle.std.proofs.lemmas.List.{map-append, reverse-append}
use Rattle.squeue_serve.specs.declared.jobs.Job.{Job}
use Rattle.squeue_serve.specs.Lending.{tasks_in}
use Rattle.shard_rings.specs.declared.run.RingTask.{RingTask}
use Rattle.shard_rings.specs.declared.run.Task.{Task}
use Rattle.shard_rings.specs.declared.run.Task.TheVariants.{Ring, Work}
use Rattle.shard_rings.specs.Columns.{rings_in}
use Rattle.shard_rings.specs.Making.{AreTasks}

module _ {B T : Type 0} where
  pub rings-append : (a b : List (Task B T)) → rings_in (a ++ b) ≡ rings_in a ++ rings_in b
  rings-append [] b = refl
  rings-append (Ring t ∷ a) b = ap (λ l. t ∷ l) (rings-append a b)
  rings-append (Work q ∷ a) b = rings-append a b

  module _ {Y : Type 0} (f : RingTask B T → Y) where
    one_turned : (t : Task B T) → reverse (map f (rings_in (t ∷ []))) ≡ map f (rings_in (t ∷ []))
    one_turned (Ring a) = refl
    one_turned (Work q) = refl

    -- what was taken of the last jobs, the last first, with what the others have
    pub kept_more : (all got : List Y) (left jobs : List (Job (Task B T))) (j : Job (Task B T)) → jobs ≡ left ++ j ∷ [] → map f (rings_in (tasks_in jobs)) ++ reverse got ≡ all
        → map f (rings_in (tasks_in left)) ++ reverse (got ++ map f (rings_in (j.task ∷ []))) ≡ all
    kept_more all got left jobs j split so =
        ap (λ l. map f (rings_in (tasks_in left)) ++ l) (reverse-append got (map f (rings_in (j.task ∷ []))) ∙ ap (λ l. l ++ reverse got) (one_turned j.task))
        ∙ (sym (append_assoc (map f (rings_in (tasks_in left))) (map f (rings_in (j.task ∷ []))) (reverse got)) ∙ (ap (λ l. l ++ reverse got) (sym parts) ∙ so))
      where
        parts : map f (rings_in (tasks_in jobs)) ≡ map f (rings_in (tasks_in left)) ++ map f (rings_in (j.task ∷ []))
        parts =
            ap (λ (l : List (Job (Task B T))). map f (rings_in (tasks_in l))) split
            ∙ (ap (λ l. map f (rings_in l)) (map-append (λ (k : Job (Task B T)). k.task) left (j ∷ []))
            ∙ (ap (map f) (rings-append (tasks_in left) (j.task ∷ [])) ∙ map-append f (rings_in (tasks_in left)) (rings_in (j.task ∷ []))))

    pub kept_all : (all got : List Y) (left : List (Job (Task B T))) → left ≡ [] → map f (rings_in (tasks_in left)) ++ reverse got ≡ all → reverse got ≡ all
    kept_all all got left none so = ap (λ (l : List (Job (Task B T))). map f (rings_in (tasks_in l)) ++ reverse got) (sym none) ∙ so

  -- so many rings are left
  pub rings_more : (left jobs : List (Job (Task B T))) (j : Job (Task B T)) → jobs ≡ left ++ j ∷ [] → length (rings_in (tasks_in jobs)) ≡ length (rings_in (tasks_in left)) + length (rings_in (j.task ∷ []))
  rings_more left jobs j split =
      ap (λ (l : List (Job (Task B T))). length (rings_in (tasks_in l))) split
      ∙ (ap (λ l. length (rings_in l)) (map-append (λ (k : Job (Task B T)). k.task) left (j ∷ []))
      ∙ (ap length (rings-append (tasks_in left) (j.task ∷ [])) ∙ length-append (rings_in (tasks_in left)) (rings_in (j.task ∷ []))))

  no_rings : (tasks : List (Task B T)) (n : ℕ) → ((q : ℕ) → q < length tasks → slice_get tasks q ≡ Some (Work (n + q))) → rings_in tasks ≡ []
  no_rings [] n each = refl
  no_rings (Ring a ∷ tasks) n each = absurd (let e = each 0 (omega arith) in cc e)
  no_rings (Work q ∷ tasks) n each =
      no_rings tasks (n + 1) (λ k lt. (let e : n + suc k ≡ (n + 1) + k = omega arith in each (suc k) (omega (arith, lt)) ∙ ap (λ (m : ℕ). Some (Work m)) e))

  tail : (count squeues : ℕ) (P : ℕ → RingTask B T → Type 0) (a : Task B T) (tasks : List (Task B T)) → AreTasks (suc count) squeues P (a ∷ tasks) → AreTasks count squeues (λ p t. P (suc p) t) tasks
  tail count squeues P a tasks are =
      record {
        many = let n = are.many in omega (arith, n);
        rings = λ p lt. are.rings (suc p) (omega (arith, lt));
        works = λ q lt. (let e : suc (count + q) ≡ suc count + q = omega arith in ap (slice_get (a ∷ tasks)) e ∙ are.works q lt);
      }

  ring_each : (P : ℕ → RingTask B T → Type 0) (a : RingTask B T) (tasks : List (Task B T)) → P 0 a → ((p : ℕ) (t : RingTask B T) → slice_get (rings_in tasks) p ≡ Some t → (slice_get tasks p ≡ Some (Ring t)) × P (suc p) t)
      → (p : ℕ) (t : RingTask B T) → slice_get (a ∷ rings_in tasks) p ≡ Some t → (slice_get (Ring a ∷ tasks) p ≡ Some (Ring t)) × P p t
  ring_each P a tasks here rest zero t at = let one : a ≡ t = cc at in (ap (λ (b : RingTask B T). Some (Ring b)) one, subst (P 0) one here)
  ring_each P a tasks here rest (suc p) t at = rest p t at

  first_ring : (P : ℕ → RingTask B T → Type 0) (a : RingTask B T) (tasks : List (Task B T)) → (t : RingTask B T) × (slice_get (Ring a ∷ tasks) 0 ≡ Some (Ring t)) × P 0 t → P 0 a
  first_ring P a tasks h = let i = h.1 in let one : h.0 ≡ a = cc (sym i) in subst (P 0) one h.2

  -- the rings' tasks, by number
  pub rings_are : (count squeues : ℕ) (P : ℕ → RingTask B T → Type 0) (tasks : List (Task B T)) → AreTasks count squeues P tasks
      → (length (rings_in tasks) ≡ count) × ((p : ℕ) (t : RingTask B T) → slice_get (rings_in tasks) p ≡ Some t → (slice_get tasks p ≡ Some (Ring t)) × P p t)
  rings_are zero squeues P tasks are =
      let n = are.many in
      let none = no_rings tasks 0 (λ q lt. (let e : q ≡ 0 + q = omega arith in ap (slice_get tasks) e ∙ (are.works q (omega (arith, lt, n)) ∙ ap (λ (m : ℕ). Some (Work m)) e))) in
      (ap length none, λ p t at. cc (sym (ap (λ l. slice_get l p) none) ∙ at))
  rings_are (suc count) squeues P [] are = absurd (let n = are.many in omega (arith, n))
  rings_are (suc count) squeues P (Work q ∷ tasks) are = absurd (let h = are.rings 0 (omega arith) in let e = h.1 in cc e)
  rings_are (suc count) squeues P (Ring a ∷ tasks) are =
      let rest = rings_are count squeues (λ p t. P (suc p) t) tasks (tail count squeues P (Ring a) tasks are) in
      (ap suc rest.0, ring_each P a tasks (first_ring P a tasks (are.rings 0 (omega arith))) rest.1)
