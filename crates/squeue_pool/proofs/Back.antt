-- What the squeues that have come back leave behind.
use Rattle.std.proofs.Common.{◌≡◌, ◌≢◌, ℕ, ◌+◌, ◌<◌, ◌≤◌, ◌==◌, suc, Bool, true, false, if◌then◌else◌, Option, Some, List, [], ◌∷◌, ◌++◌, length, length-append, slice_get, refl, ap, sym, ◌∙◌, subst, arith}
use Rattle.std.proofs.lemmas.Bool.Decides.{nat_tests}
use Rattle.turn_gate.specs.declared.pass.Pass.{Pass}
use Rattle.perimeter_core.specs.declared.resident.Resident.{Ghosts}
use Rattle.perimeter_core.specs.History.{Element}
use Rattle.squeue_state.specs.Naming.{Named}
use Rattle.squeue_state.specs.Clauses.{Knows}
use Rattle.squeue_serve.specs.Lending.{AreLent, HasCome, holder}
use Rattle.squeue_serve.specs.Places.{MayEnd}
use Rattle.squeue_serve.proofs.Coming.{holds_last, one_only}
use Rattle.squeue_serve.proofs.Lent.{get_end}
use Rattle.squeue_serve.proofs.Unused.{each_at}
use Rattle.squeue_rings.proofs.ComesBack.{AreBack, all_came, came_knows, each_behind, none_came, one_came}
use Rattle.squeue_pool.specs.declared.work.Left.{Left}
use Rattle.squeue_pool.specs.Leftovers.{HaveLeft, Leaves}

-- a worker before isn't among those that hold passes of squeue q
not_held : (front count q k p : ℕ) → k < q → p ≤ count → front + count + k ≢ holder front count q p
not_held front count q k p lt le e = by (p == count) refl e
  where
    by : (b : Bool) → (p == count) ≡ b → front + count + k ≡ (if b then front + count + q else front + p) → ⊥
    by true is e = absurd (omega (arith, e, lt))
    by false is e = let d : p ≢ count = grind (arith, nat_tests) in absurd (omega (arith, e, le, d))

module _ {R P O : Type 0} (G : Ghosts R P O) (front count : ℕ) (ss : List (Named R)) (lent0 : ℕ → List (Option (Pass Element))) where
  -- those behind `rest` have come back, and left this
  pub record SoFar (rest : List (Named R)) (lent : ℕ → List (Option (Pass Element))) (vs : List (Left R)) : Type 0 where
    pub back : List (Named R)
    pub are : AreBack G.limits front count ss lent0 rest back lent
    pub as_many : length vs ≡ length back
    pub workers : (q : ℕ) → q < length rest → lent (front + count + q) ≡ lent0 (front + count + q)
    pub each : (i : ℕ) (s : Named R) (v : Left R) → slice_get back i ≡ Some s → slice_get vs i ≡ Some v → Leaves G front count lent0 (length rest + i) s v

  pub none_back : (vs : List (Left R)) → vs ≡ [] → AreLent (MayEnd G.limits) front count ss lent0 → SoFar ss lent0 vs
  none_back vs none lent = record { back = []; are = none_came G.limits front count ss lent0 lent; as_many = ap length none; workers = λ q lt. refl; each = λ i s v is at. cc is }

  module _ (all rest : List (Named R)) (s : Named R) (having without : ℕ → List (Option (Pass Element))) (vs : List (Left R)) (v : Left R) (split : all ≡ rest ++ s ∷ []) (h : SoFar all having vs)
      (come : HasCome G front count (length rest) s having without v.resident v.end v.trace) where
    one_less : length all ≡ length rest + 1
    one_less = ap length split ∙ length-append rest (s ∷ [])

    -- the worker's pass is the only one that its job was lent
    worker_came : (x : Pass Element) × (lent0 (front + count + length rest) ≡ Some x ∷ []) × Knows v.end.history x
    worker_came =
        let its = h.are.still.workers (length rest) s (ap (λ (l : List (Named R)). slice_get l (length rest)) split ∙ get_end rest [] s (length rest) refl) in
        let back = come.handed.each count (omega arith) in
        let there : having (front + count + length rest) ≡ without (front + count + length rest) ++ Some back.0 ∷ [] =
        subst (λ (i : ℕ). having i ≡ without i ++ Some back.0 ∷ []) (holds_last front count (length rest)) back.2 in
        let same : Some back.0 ≡ Some its.0 = (one_only (without (front + count + length rest)) (Some back.0) (Some its.0) (sym there ∙ its.1)).1 in
        (back.0, sym (h.workers (length rest) (omega (arith, one_less))) ∙ (its.1 ∙ ap (λ o. o ∷ []) (sym same)), each_at (Knows v.end.history) come.passes count back.0 come.knows back.1)

    leaves : Leaves G front count lent0 (length rest) s v
    leaves =
        record {
          its_number = come.its_number;
          its_setting = come.its_setting;
          ended = come.ended;
          knows = came_knows G front count ss lent0 all rest h.back s having without v.resident v.end v.trace split h.are come;
          worker = worker_came;
          resident = come.resident;
          trace = come.trace;
        }

    pub one_back : SoFar rest without (v ∷ vs)
    one_back =
        record {
          back = s ∷ h.back;
          are = one_came G front count ss lent0 all rest h.back s having without v.resident v.end v.trace split h.are come;
          as_many = ap suc h.as_many;
          workers = λ q lt. sym (come.handed.rest (front + count + q) (λ p le. not_held front count (length rest) q p lt le)) ∙ h.workers q (omega (arith, lt, one_less));
          each = each_behind (Leaves G front count lent0) all rest h.back s vs v split leaves h.each;
        }

  -- at the end all have
  pub all_back : (rest : List (Named R)) (lent : ℕ → List (Option (Pass Element))) (vs : List (Left R)) → rest ≡ [] → SoFar rest lent vs → HaveLeft G front count lent0 ss vs
  all_back rest lent vs none h =
      let same : ss ≡ h.back = all_came G.limits front count ss lent0 rest h.back lent none h.are in
      subst (λ (l : List (Named R)). HaveLeft G front count lent0 l vs) (sym same)
      (record {
        as_many = h.as_many;
        each = λ q s v is at. let n : length rest + q ≡ q = (let z = ap length none in omega (arith, z)) in subst (λ (q : ℕ). Leaves G front count lent0 q s v) n (h.each q s v is at);
      })
