-- One squeue is lent to the jobs of its passes, and comes back when all are done.
use Rattle.std.proofs.Common.{◌≡◌, ℕ, ◌+◌, ◌-◌, ◌<◌, ◌≤◌, inl, inr, Option, List, [], ◌∷◌, ◌++◌, All, length, slice_get, slice_index_or, take, drop, ap, sym, ◌∙◌, subst, arith}
use Rattle.std.proofs.lemmas.List.{length-map}
use Rattle.std.proofs.lemmas.Option.{slice_get_within}
use Rattle.std.specs.Prelude.{Some}
use Rattle.turn_gate.specs.History.{Begins, only}
use Rattle.turn_gate.specs.Passes.{AreFresh, mine, number, seen}
use Rattle.turn_gate.specs.declared.pass.Pass.{Pass}
use Rattle.perimeter_core.specs.History.{Element}
use Rattle.perimeter_core.specs.declared.resident.Resident.{Ghosts}
use Rattle.squeue_state.specs.Told.{Traced}
use Rattle.squeue_state.specs.Naming.{Named, setting_of}
use Rattle.squeue_state.specs.Clauses.{Knows}
use Rattle.histories.specs.Endings.{Ending, HasEnded}
use Rattle.histories.specs.Elements.{number_of}
use Rattle.squeue_serve.specs.declared.jobs.Job.{Job}
use Rattle.squeue_serve.specs.Places.{MayEnd}
use Rattle.squeue_serve.specs.Lending.{AreHanded, AreLent, HasCome, holder, lent_to, tasks_in}
use Rattle.squeue_serve.proofs.Lent.{lent_none}
use Rattle.squeue_serve.proofs.Coming.{holds_last, holds_other, less_lent, none_lent_at_all, one_only}
use Rattle.squeue_serve.proofs.Unused.{each_at}
use Rattle.std.proofs.lemmas.Bool.{cases_eq}
use Rattle.placed_parts.specs.declared.parts.Parts.{Ghosts as PartGhosts}
use Rattle.placed_parts.specs.declared.places.Places.{Places}
use Rattle.placed_parts.specs.Placing.{limits_of}
use Rattle.squeue_arrivals.specs.declared.steps.Keyed.{Keyed}
use Rattle.squeue_arrivals.specs.declared.served.ServedSource.{ServedSource}
use Rattle.squeue_arrivals.specs.declared.watching.Watched.{Watched}
use Rattle.squeue_arrivals.specs.Seating.{ServesPlaces, room_of}
use Rattle.squeue_arrivals.specs.declared.ring.RingTask.{RingTask}
use Rattle.squeue_arrivals.specs.Tasks.{AreDone, AreNewTasks, HasDone, Ran}
use Rattle.ring_groups.proofs.Grouped.{whole_back}
use Rattle.squeue_arrivals.specs.declared.ring.RingTask.TheVariants as Task'
use Rattle.squeue_arrivals.proofs.RingJobs.{ReadyAt, all_new, done_lent, known_pass, known_watch, parts_of, tasks_done}

-- the squeue is lent to these jobs, one for each of its passes, and each is ready
pub record Lends {X P W T S A Z : Type 0} {G : PartGhosts X P (Keyed W T S)} (step : Keyed W T S → S → T → S → Type 0) (most : ℕ) (s : Named (Places X P (Keyed W T S) G)) (jobs : List (Job (RingTask T S A Z))) (n : ℕ) (all : List (Named (Places X P (Keyed W T S) G))) : Type 0 where
  pub passes : length s.given.quotas ≡ n - 1
  pub many : length jobs ≡ (n - 1) + 1
  pub are : (k : ℕ) (j : Job (RingTask T S A Z)) → slice_get jobs k ≡ Some j → ReadyAt step s most k j
  pub single : all ≡ s ∷ []

module _ {X P W T S A Z : Type 0} {G : PartGhosts X P (Keyed W T S)} (step : Keyed W T S → S → T → S → Type 0) (most : ℕ) (s : Named (Places X P (Keyed W T S) G)) where
  -- so it is where each pass of a new squeue went to a job without places
  pub lends : ServesPlaces limits_of s.given s.given.rings (length (parts_of s)) → (first items jobs : List (Job (RingTask T S A Z))) (n : ℕ) (old all : List (Named (Places X P (Keyed W T S) G))) (passes : List (Pass Element)) → n ≡ length first
      → AreNewTasks s.given.rings (length s.given.quotas) most (room_of s.given) (parts_of s) (tasks_in first) → All (λ j. j.places.items ≡ []) first → tasks_in items ≡ tasks_in first → jobs ≡ items → old ≡ [] → all ≡ old ++ s ∷ []
      → AreHanded 0 (n - 1) (length old) passes (lent_to first) (lent_to items) → AreFresh number_of s.gate 0 passes → Lends step most s jobs n all
  lends serves first items jobs n old all passes counted tasks empty kept same none is handed fresh =
      let stays : tasks_in jobs ≡ tasks_in first = ap tasks_in same ∙ kept in
      let count : length s.given.quotas ≡ n - 1 = omega (arith, counted, tasks.count, length-map first (λ (j : Job (RingTask T S A Z)). j.task)) in
      let many : length jobs ≡ (n - 1) + 1 =
      omega (arith, counted, tasks.count, length-map first (λ (j : Job (RingTask T S A Z)). j.task), ap length stays, length-map jobs (λ (j : Job (RingTask T S A Z)). j.task)) in
      let none_yet = subst (λ (q : ℕ). AreHanded 0 (n - 1) q passes (lent_to first) (lent_to items)) (ap length none) handed in
      let each = subst (λ (l : List (Job (RingTask T S A Z))). AreHanded 0 (n - 1) 0 passes (lent_to first) (lent_to l)) (sym same) none_yet in
      let now = subst (AreNewTasks s.given.rings (length s.given.quotas) most (room_of s.given) (parts_of s)) (sym stays) tasks in
      record {
        passes = count;
        many = many;
        are = λ k j got.
            all_new step s most s.given.rings serves (n - 1) jobs passes (lent_to first) now each (lent_none first empty) fresh k j
            (let lt = slice_get_within jobs k j got in omega (arith, lt, many)) got;
        single = is ∙ ap (λ l. l ++ s ∷ []) none;
      }

module _ {R : Type 0} (s : Named R) where
  pub is_it : (all : List (Named R)) (t : Named R) → all ≡ s ∷ [] → t ≡ slice_index_or all 0 t → t ≡ s
  is_it all t is at = at ∙ ap (λ l. slice_index_or l 0 t) is

-- the jobs ran, and are again the vector that was lent
pub record CameBack {X P W T S A Z : Type 0} {G : PartGhosts X P (Keyed W T S)} (Q : A → ServedSource A T S → Type 0) (L : Watched Z → Type 0) (s : Named (Places X P (Keyed W T S) G)) (n : ℕ) (all : List (Named (Places X P (Keyed W T S) G))) (old back new : List (Job (RingTask T S A Z))) : Type 0 where
  pub same : back ≡ new
  pub many : length new ≡ (n - 1) + 1
  pub as_many : length (tasks_in new) ≡ length (tasks_in old)
  pub ends : AreLent (MayEnd limits_of) 0 (n - 1) all (lent_to back)
  pub passes : (k : ℕ) (d : ServedSource A T S) → slice_get (tasks_in new) k ≡ Some (Task'.Served d) → (lent_to back k ≡ Some d.pass.value ∷ []) × MayEnd limits_of k s d.pass.value
  pub watched : (k : ℕ) (w : Watched Z) → slice_get (tasks_in new) k ≡ Some (Task'.Watched w) → (lent_to back k ≡ Some w.pass.value ∷ []) × MayEnd limits_of k s w.pass.value
  pub did : (k : ℕ) (t u : RingTask T S A Z) → slice_get (tasks_in old) k ≡ Some t → slice_get (tasks_in new) k ≡ Some u → HasDone Q L t u

module _ {X P W T S A Z : Type 0} {G : PartGhosts X P (Keyed W T S)} (step : Keyed W T S → S → T → S → Type 0) (most : ℕ) (s : Named (Places X P (Keyed W T S) G)) where
  pub came_back : {jobs : List (Job (RingTask T S A Z))} {n : ℕ} {all : List (Named (Places X P (Keyed W T S) G))} (Q : Named (Places X P (Keyed W T S) G) → A → ServedSource A T S → Type 0) (L : Named (Places X P (Keyed W T S) G) → Watched Z → Type 0) (items new : List (Job (RingTask T S A Z))) (m : ℕ) (t : Named (Places X P (Keyed W T S) G)) → Lends step most s jobs n all → jobs ≡ items → m ≡ length items → length new ≡ length jobs
      → t ≡ slice_index_or all 0 t → ((k : ℕ) (d : Job (RingTask T S A Z)) → k < length jobs → Ran limits_of t (Q t) (L t) (slice_index_or jobs k d) (slice_index_or new k d))
      → CameBack (Q s) (L s) s n all jobs (take m (new ++ drop (length new) items)) new
  came_back {jobs} {n} {all} Q L items new m t l same long count at ran =
      let many : length new ≡ (n - 1) + 1 = omega (arith, l.many, count) in
      let back : take m (new ++ drop (length new) items) ≡ new = whole_back m items new (omega (arith, count, long, ap length same)) (sym long) in
      let did = subst (λ (t : Named (Places X P (Keyed W T S) G)). (k : ℕ) (d : Job (RingTask T S A Z)) → k < length jobs → Ran limits_of t (Q t) (L t) (slice_index_or jobs k d) (slice_index_or new k d)) (is_it s all t l.single at) ran in
      let ends : AreLent (MayEnd limits_of) 0 (n - 1) (s ∷ []) (lent_to new) = done_lent step s most (Q s) (L s) jobs new (sym count) did l.are (n - 1) l.passes many in
      record {
        same = back;
        many = many;
        as_many = length-map new (λ (j : Job (RingTask T S A Z)). j.task) ∙ (count ∙ sym (length-map jobs (λ (j : Job (RingTask T S A Z)). j.task)));
        ends = subst (λ (ss : List (Named (Places X P (Keyed W T S) G))). AreLent (MayEnd limits_of) 0 (n - 1) ss (lent_to (take m (new ++ drop (length new) items)))) (sym l.single)
            (subst (λ (xs : List (Job (RingTask T S A Z))). AreLent (MayEnd limits_of) 0 (n - 1) (s ∷ []) (lent_to xs)) (sym back) ends);
        passes = λ k d is.
            let known = known_pass step s most (Q s) (L s) jobs new (sym count) did l.are k d is in
            (ap (λ (xs : List (Job (RingTask T S A Z))). lent_to xs k) back ∙ known.0, known.1);
        watched = λ k w is.
            let known = known_watch step s most (Q s) (L s) jobs new (sym count) did l.are k w is in
            (ap (λ (xs : List (Job (RingTask T S A Z))). lent_to xs k) back ∙ known.0, known.1);
        did = tasks_done step s most (Q s) (L s) jobs new (sym count) did;
      }

-- the tasks of all are done
pub are_done : {T S A Z : Type 0} {Q : A → ServedSource A T S → Type 0} {L : Watched Z → Type 0} (first olds news last : List (RingTask T S A Z)) → olds ≡ first → last ≡ news → length news ≡ length olds
    → ((k : ℕ) (t u : RingTask T S A Z) → slice_get olds k ≡ Some t → slice_get news k ≡ Some u → HasDone Q L t u) → AreDone Q L first last
are_done {T = T} {S = S} {A = A} {Z = Z} {Q = Q} {L = L} first olds news last begun same n did =
    let all : AreDone Q L olds news = record { many = n; each = did } in
    subst (λ (ts : List (RingTask T S A Z)). AreDone Q L ts last) begun (subst (λ (ts : List (RingTask T S A Z)). AreDone Q L olds ts) (sym same) all)

-- a pass that knows the history's end has seen all of its own
pub known_own : (k : ℕ) (H : List Element) (p : Pass Element) → number p ≡ k → only number_of (number p) (seen p) ≡ mine p → Knows H p → (number p ≡ k) × Begins (seen p) H × (only number_of k H ≡ only number_of k (seen p))
known_own k H p is own knows = (is, knows.0, subst (λ (n : ℕ). only number_of n H ≡ only number_of n (seen p)) is (knows.1 ∙ sym own))

module _ {R P O : Type 0} (G : Ghosts R P O) (s : Named R) {count : ℕ} {all : List (Named R)} (left : List (Named R)) {t : Named R} {having without : ℕ → List (Option (Pass Element))} {r : R} {e : Ending} {trace : Traced}
    (is : all ≡ s ∷ []) (split : all ≡ left ++ t ∷ []) (come : HasCome G 0 count (length left) t having without r e trace) where
  both : (left ≡ []) × (t ≡ s)
  both = one_only left t s (sym split ∙ is)

  its : HasCome G 0 count 0 s having without r e trace
  its =
      subst (λ (x : Named R). HasCome G 0 count 0 x having without r e trace) both.1
      (subst (λ (l : List (Named R)). HasCome G 0 count (length l) t having without r e trace) both.0 come)

  pub nothing_left : AreLent (MayEnd G.limits) 0 count all having → (i : ℕ) → without i ≡ []
  nothing_left lent =
      none_lent_at_all (MayEnd G.limits) 0 count without
      (less_lent (MayEnd G.limits) 0 count [] s its.passes without having its.handed (subst (λ (ss : List (Named R)). AreLent (MayEnd G.limits) 0 count ss having) is lent))

  -- each pass that was lent has seen a beginning of the squeue's history, and all that is there of itself
  pub known_by_end : AreLent (MayEnd G.limits) 0 count all having → (k : ℕ) (v : Pass Element) → k ≤ count → having k ≡ Some v ∷ [] → Knows e.history v
  known_by_end lent k v le there =
      let at : holder 0 count 0 k ≡ k = elim (cases_eq k count) [
        | inl e ↦ ap (holder 0 count 0) e ∙ (holds_last 0 count 0 ∙ (let e : 0 + count + 0 ≡ k = omega (arith, e) in e))
        | inr n ↦ holds_other 0 count 0 k (omega (arith, le, n)) ∙ (let e : 0 + k ≡ k = omega arith in e)
      ] in
      let r = its.handed.each k le in
      let gone = nothing_left lent (holder 0 count 0 k) in
      let same : v ≡ r.0 = one (sym there ∙ (ap having (sym at) ∙ (r.2 ∙ ap (λ (l : List (Option (Pass Element))). l ++ Some r.0 ∷ []) gone))) in
      subst (Knows e.history) (sym same) (each_at (Knows e.history) its.passes k r.0 its.knows r.1)
    where
      one : {x y : Pass Element} → Some x ∷ [] ≡ Some y ∷ [] → x ≡ y
      one e = cc e

  pub end_setting : e.setting ≡ setting_of G.limits s.given
  end_setting = its.its_setting

  pub end_ended : HasEnded e
  end_ended = its.ended
