-- Passes and jobs in order of their numbers.
use Rattle.std.proofs.Common.{◌≡◌, ℕ, ◌+◌, ◌<◌, ◌≤◌, inl, inr, List, [], ◌∷◌, ◌++◌, length, slice_index_or, arith, ap, sym, refl, ◌∙◌, length-append}
use Rattle.std.proofs.Math.ListN.{get_or-append}
use Rattle.std.proofs.Math.Seq.{get_or-append_seam}
use mathlib.Core.Logic.{dite}
use native.Mathlib.Decide.{ℕ_discrete}
use Rattle.atomic_table.specs.Seated.{TableId}
use Rattle.turn_gate.specs.History.{Each, Has}
use Rattle.turn_gate.specs.Passes.{IsPassOf, AreAll, AreFresh, number}
use Rattle.turn_gate.specs.declared.pass.Pass.{Pass}
use Rattle.gate_trial.specs.Counted.{AreFrom, CountDown}
use Rattle.gate_trial.specs.Jobs.{job_number}
use Rattle.gate_trial.specs.declared.jobs.Job.{Job}

module _ {E : Type 0} (num : E → ℕ) (id : TableId) where
  from_at : (k c : ℕ) (ps : List (Pass E)) (p : Pass E) → AreFrom num id k ps → IsPassOf num id p → number p ≡ c → k + length ps ≡ c → AreFrom num id k (ps ++ p ∷ [])
  from_at k c [] p f at is long = ((at, (let e : number p ≡ c = is in omega arith)), tt)
  from_at k c (x ∷ xs) p f at is long = (f.0, from_at (k + 1) c xs p f.1 at is (omega arith))

  pub from_more : (k : ℕ) (ps : List (Pass E)) (p : Pass E) → AreFrom num id k ps → IsPassOf num id p → number p ≡ k + length ps → AreFrom num id k (ps ++ p ∷ [])
  from_more k ps p f at is = from_at k (k + length ps) ps p f at is refl

  each_from : (k : ℕ) (ps : List (Pass E)) → AreFrom num id k ps → Each (IsPassOf num id) ps
  each_from k [] f = tt
  each_from k (p ∷ ps) f = (f.0.0, each_from (k + 1) ps f.1)

  has_from : (k q : ℕ) (ps : List (Pass E)) → AreFrom num id k ps → k ≤ q → q < k + length ps → Has (λ (p : Pass E). number p ≡ q) ps
  has_from k q [] f a b = absurd (omega arith)
  has_from k q (p ∷ ps) f a b = dite (ℕ_discrete k q) (λ is. inl (f.0.1 ∙ is)) (λ not. inr (has_from (k + 1) q ps f.1 (omega arith) (omega arith)))

  pub all_from : (n : ℕ) (ps : List (Pass E)) → AreFrom num id 0 ps → length ps ≡ n → AreAll num id n ps
  all_from n ps f long = (each_from 0 ps f, λ q l. has_from 0 q ps f (omega arith) (omega arith))

  pub from_fresh : (k : ℕ) (ps : List (Pass E)) → AreFresh num id k ps → AreFrom num id k ps
  from_fresh k [] f = tt
  from_fresh k (p ∷ ps) f = ((f.0.0, f.0.1), from_fresh (k + 1) ps f.1)

  -- the last pass of a list, and those before it
  pub last_from : (k : ℕ) (ps : List (Pass E)) (p : Pass E) → AreFrom num id k (ps ++ p ∷ []) → AreFrom num id k ps × IsPassOf num id p × (number p ≡ k + length ps)
  last_from k [] p f = (tt, f.0.0, (let e : number p ≡ k = f.0.1 in omega arith))
  last_from k (x ∷ xs) p f = let t = last_from (k + 1) xs p f.1 in ((f.0, t.0), t.1, (let e : number p ≡ (k + 1) + length xs = t.2 in omega arith))

module _ {E : Type 0} where
  -- one job more, with the next number down
  pub count_more : (n : ℕ) (js : List (Job E)) (j : Job E) → CountDown n js → job_number j + length js + 1 ≡ n → CountDown n (js ++ j ∷ [])
  count_more n js j c is k d within = dite (ℕ_discrete k (length js))
      (λ last. let e : slice_index_or (js ++ j ∷ []) k d ≡ j = ap (λ (i : ℕ). slice_index_or (js ++ j ∷ []) i d) last ∙ get_or-append_seam js j [] d in ap (λ (z : Job E). job_number z + k + 1) e ∙ (ap (λ (i : ℕ). job_number j + i + 1) last ∙ is))
      (λ not. let l : length (js ++ j ∷ []) ≡ length js + 1 = length-append js (j ∷ []) in let before : k < length js = omega arith in ap (λ (z : Job E). job_number z + k + 1) (get_or-append js (j ∷ []) d k before) ∙ c k d before)

  -- the last job, and those before it
  pub count_less : (n : ℕ) (js : List (Job E)) (j : Job E) → CountDown n (js ++ j ∷ []) → CountDown n js × (job_number j + length js + 1 ≡ n)
  count_less n js j c = let l : length (js ++ j ∷ []) ≡ length js + 1 = length-append js (j ∷ []) in (
    (λ k d before. ap (λ (z : Job E). job_number z + k + 1) (sym (get_or-append js (j ∷ []) d k before)) ∙ c k d (omega arith)),
    ap (λ (z : Job E). job_number z + length js + 1) (sym (get_or-append_seam js j [] j)) ∙ c (length js) j (omega arith),
  )
