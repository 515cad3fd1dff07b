-- The marks that make a call, in a legal history.
use Rattle.std.proofs.Common.{◌≡◌, ◌≢◌, ℕ, ◌+◌, ◌<◌, ◌≤◌, ◌==◌, ◌&&◌, Bool, true, false, if◌then◌else◌, Contains, List, [], ◌∷◌, ◌++◌, refl, ap, sym, ◌∙◌, subst, arith}
use Rattle.std.proofs.lemmas.Bool.{eqb-true, eqb-false}
use Rattle.perimeter_core.specs.declared.marks.SynchAct.TheVariants as Done
use Rattle.perimeter_core.specs.declared.marks.Mark.{Mark}
use Rattle.perimeter_core.specs.declared.marks.Mark.TheVariants as On
use Rattle.perimeter_core.specs.History.{Element, Setting, made_by, pass_of, run, worker}
use Rattle.perimeter_core.specs.Legal.{ActsFit, InRange, Legal, May, WorkerOnly}
use Rattle.perimeter_core.proofs.OneMore.{legal_front, legal_ind}
use Rattle.squeue_state.proofs.Makers.{made-append}
use Rattle.squeue_rings.specs.Made.{makes_call, times_made}

pub made_more : (c j k : ℕ) (xs ys : List Element) → times_made c j k (xs ++ ys) ≡ times_made c j k xs + times_made c j k ys
made_more c j k [] ys = omega arith
made_more c j k (x ∷ xs) ys = let r = made_more c j k xs ys in omega (arith, r)

-- all three numbers of the call are the mark's
three : (a b d : Bool) → (a && (b && d)) ≡ true → (a ≡ true) × (b ≡ true) × (d ≡ true)
three true true true is = (refl, refl, refl)
three true true false is = cc is
three true false d is = cc is
three false b d is = cc is

-- a mark that makes a call is a Leave with it
is_call : (c j k : ℕ) (m : Mark) → makes_call c j k m ≡ true → (p : ℕ) × (rest : ℕ) × (m ≡ On.Leave p rest (Done.Call c j k))
is_call c j k (On.Leave p rest (Done.Call d i n)) is =
    let t = three (d == c) (i == j) (n == k) is in
    let ed = eqb-true d c t.0 in
    let ei = eqb-true i j t.1 in
    let en = eqb-true n k t.2 in (
      p,
      rest,
      ap (λ (x : ℕ). On.Leave p rest (Done.Call x i n)) ed ∙ (ap (λ (x : ℕ). On.Leave p rest (Done.Call c x n)) ei
          ∙ ap (λ (x : ℕ). On.Leave p rest (Done.Call c j x)) en),
    )
is_call c j k (On.Leave p rest Done.None) is = absurd (let no : false ≡ true = is in let bad : ⊥ = cc in bad)
is_call c j k (On.Leave p rest Done.Away) is = absurd (let no : false ≡ true = is in let bad : ⊥ = cc in bad)
is_call c j k (On.Leave p rest (Done.Out d)) is = absurd (let no : false ≡ true = is in let bad : ⊥ = cc in bad)
is_call c j k (On.Leave p rest (Done.In d)) is = absurd (let no : false ≡ true = is in let bad : ⊥ = cc in bad)
is_call c j k (On.Fill p es) is = absurd (let no : false ≡ true = is in let bad : ⊥ = cc in bad)
is_call c j k (On.Fast p e) is = absurd (let no : false ≡ true = is in let bad : ⊥ = cc in bad)
is_call c j k (On.Claim p es) is = absurd (let no : false ≡ true = is in let bad : ⊥ = cc in bad)
is_call c j k (On.Take p) is = absurd (let no : false ≡ true = is in let bad : ⊥ = cc in bad)
is_call c j k (On.Ask p) is = absurd (let no : false ≡ true = is in let bad : ⊥ = cc in bad)
is_call c j k (On.Grant p i rest) is = absurd (let no : false ≡ true = is in let bad : ⊥ = cc in bad)
is_call c j k (On.Accept i) is = absurd (let no : false ≡ true = is in let bad : ⊥ = cc in bad)
is_call c j k (On.Work p) is = absurd (let no : false ≡ true = is in let bad : ⊥ = cc in bad)
is_call c j k (On.Close p) is = absurd (let no : false ≡ true = is in let bad : ⊥ = cc in bad)

-- who makes a call is its thread, which isn't the worker, and the limits have the call
record Fits (S : Setting) (c j k p : ℕ) : Type 0 where
  thread : p ≡ S.rings + j
  exists : Contains S.limits.calls (c, j, k)
  no_worker : p < worker S

call_fits : (S : Setting) (H : List Element) (c j k : ℕ) (e : Element) → May S H e → makes_call c j k e.mark ≡ true → Fits S c j k (pass_of e.mark)
call_fits S H c j k e m is = at (is_call c j k e.mark is)
  where
    at : ((p : ℕ) × (rest : ℕ) × (e.mark ≡ On.Leave p rest (Done.Call c j k))) → Fits S c j k (pass_of e.mark)
    at (p, rest, it) =
        let act : ActsFit S H (run S H) (On.Leave p rest (Done.Call c j k)) = subst (ActsFit S H (run S H)) it m.act in
        let range : InRange S (On.Leave p rest (Done.Call c j k)) = subst (InRange S) it m.range in
        let only : WorkerOnly (worker S) (On.Leave p rest (Done.Call c j k)) = subst (WorkerOnly (worker S)) it m.worker_only in
        let apart : p ≢ worker S = λ w. let n = only w in cc n in
        let its : pass_of e.mark ≡ p = ap pass_of it in
        record { thread = its ∙ act.0; exists = act.2; no_worker = omega (arith, its, range.0, apart) }

-- a call that no mark of a legal history can make isn't made
none_fit : (S : Setting) (c j k : ℕ) → ((p : ℕ) → Fits S c j k p → ⊥) → (H : List Element) → Legal S H → times_made c j k H ≡ 0
none_fit S c j k none H l = legal_ind S (λ (G : List Element). times_made c j k G ≡ 0) refl (λ G e l i m. step G e i m) H l
  where
    step : (G : List Element) (e : Element) → times_made c j k G ≡ 0 → May S G e → times_made c j k (G ++ e ∷ []) ≡ 0
    step G e i m = by (makes_call c j k e.mark) refl (made_more c j k G (e ∷ []))
      where
        by : (b : Bool) → makes_call c j k e.mark ≡ b → times_made c j k (G ++ e ∷ []) ≡ times_made c j k G + ((if b then 1 else 0) + 0)
            → times_made c j k (G ++ e ∷ []) ≡ 0
        by true is more = absurd (none (pass_of e.mark) (call_fits S G c j k e m is))
        by false is more = omega (arith, more, i)

-- only the calls that the limits have are made
pub no_others : (S : Setting) (H : List Element) (c j k : ℕ) → Legal S H → ¬ Contains S.limits.calls (c, j, k) → times_made c j k H ≡ 0
no_others S H c j k l other = none_fit S c j k (λ p f. other f.exists) H l

-- and only by threads whose passes there are
pub none_beyond : (S : Setting) (H : List Element) (c j k : ℕ) → Legal S H → worker S ≤ S.rings + j → times_made c j k H ≡ 0
none_beyond S H c j k l beyond = none_fit S c j k (λ p f. let t = f.thread in let n = f.no_worker in omega (arith, t, n, beyond)) H l

-- the calls of a thread are in its own elements
pub own_calls : (S : Setting) (H : List Element) (c j k : ℕ) → Legal S H → times_made c j k H ≡ times_made c j k (made_by (S.rings + j) H)
own_calls S H c j k l =
    legal_ind S (λ (G : List Element). times_made c j k G ≡ times_made c j k (made_by (S.rings + j) G)) refl (λ G e l i m. step G e i m) H l
  where
    step : (G : List Element) (e : Element) → times_made c j k G ≡ times_made c j k (made_by (S.rings + j) G) → May S G e
        → times_made c j k (G ++ e ∷ []) ≡ times_made c j k (made_by (S.rings + j) (G ++ e ∷ []))
    step G e i m =
        let more = made_more c j k G (e ∷ []) in
        let own = ap (times_made c j k) (made-append (S.rings + j) G (e ∷ [])) ∙ made_more c j k (made_by (S.rings + j) G) (made_by (S.rings + j) (e ∷ [])) in
        let one = at (pass_of e.mark == S.rings + j) refl (makes_call c j k e.mark) refl in
        omega (arith, more, own, one, i)
      where
        at : (b : Bool) → (pass_of e.mark == S.rings + j) ≡ b → (t : Bool) → makes_call c j k e.mark ≡ t → (if t then 1 else 0) + 0 ≡ times_made c j k (if b then e ∷ [] else [])
        at true same t is = ap (λ (b : Bool). (if b then 1 else 0) + 0) (sym is)
        at false same false is = refl
        at false same true is = absurd (eqb-false (pass_of e.mark) (S.rings + j) same (call_fits S G c j k e m is).thread)

-- what others do changes none of them
pub calls_kept : (S : Setting) (H K : List Element) (c j k : ℕ) → Legal S (H ++ K) → made_by (S.rings + j) K ≡ []
    → times_made c j k (H ++ K) ≡ times_made c j k H
calls_kept S H K c j k l none =
    let all = own_calls S (H ++ K) c j k l in
    let front = own_calls S H c j k (legal_front S H K l) in
    let parts = ap (times_made c j k) (made-append (S.rings + j) H K) ∙ made_more c j k (made_by (S.rings + j) H) (made_by (S.rings + j) K) in
    let rest : times_made c j k (made_by (S.rings + j) K) ≡ 0 = ap (times_made c j k) none in
    omega (arith, all, front, parts, rest)
