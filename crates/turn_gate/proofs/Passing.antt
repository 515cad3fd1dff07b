-- Passes and lists of them.
use Rattle.std.proofs.Common.{◌/◌, ◌*◌, append_assoc, append-nil, ◌≡◌, ℕ, ◌+◌, List, [], ◌∷◌, ◌++◌, length, Option, Some, None, false, arith, sym, ap, subst, refl, ◌∙◌}
use Rattle.atomic_table.specs.Seated.{TableId}
use Rattle.turn_gate.specs.Passes.{IsPassOf, AreFresh, hit, missed, turns_of, waited, number, seen, mine, steps, own, view_in}
use Rattle.atomic_table.specs.Table.{Me}
use Rattle.turn_gate.specs.Rule.{row, view, Took, Stays}
use Rattle.turn_gate.specs.declared.kept.Kept.{Kept}
use Rattle.turn_gate.specs.declared.views.View.{View}
use Rattle.turn_gate.specs.declared.views.LockStep.{LockStep}
use Rattle.turn_gate.specs.declared.views.LockStep.TheVariants.{Draw, Load, Exchange, Serve}
use Rattle.turn_gate.specs.History.{Each, only}
use Rattle.turn_gate.proofs.Histories.{each_first, each_last}
use Rattle.turn_gate.specs.declared.pass.Pass.{Pass}
use Rattle.turn_gate.specs.declared.pass.Missed.{Missed}

module _ {E : Type 0} (num : E → ℕ) (id : TableId) where
  pub fresh_more : (k c : ℕ) (ps : List (Pass E)) (p : Pass E) → AreFresh num id k ps → k + length ps ≡ c → IsPassOf num id p × (number p ≡ c) × (seen p ≡ []) × (mine p ≡ []) × (steps p ≡ []) → AreFresh num id k (ps ++ p ∷ [])
  fresh_more k c [] p f at one = ((one.0, (let e : number p ≡ c = one.1 in omega arith), one.2, one.3, one.4), tt)
  fresh_more k c (x ∷ xs) p f at one = (f.0, fresh_more (k + 1) c xs p f.1 (omega arith) one)

  pub pass_is : (k : ℕ) (s m : List E) (st : List LockStep) (p : Pass E) → p.badge.table_id ≡ id → p.badge.views ≡ view (row k s m ∷ []) None false st ∷ [] → only num k s ≡ m → p.number ≡ k
      → IsPassOf num id p × (number p ≡ k) × (seen p ≡ s) × (mine p ≡ m) × (steps p ≡ st)
  pass_is k s m st p here e right n = let known = subst (λ (vs : List (View E)). (vs ≡ view (row k (own (view_in vs).rows).seen (own (view_in vs).rows).mine ∷ []) None false (view_in vs).steps ∷ []) × (only num k (own (view_in vs).rows).seen ≡ (own (view_in vs).rows).mine)) (sym e) (refl, right) in (
    (
      here,
      subst (λ (q : ℕ). p.badge.views ≡ view (row q (seen p) (mine p) ∷ []) None false (steps p) ∷ []) (sym n) known.0,
      subst (λ (q : ℕ). only num q (seen p) ≡ mine p) (sym n) known.1,
    ),
    n,
    ap (λ vs. (own (view_in vs).rows).seen) e,
    ap (λ vs. (own (view_in vs).rows).mine) e,
    ap (λ vs. (view_in vs).steps) e,
  )

  pub fresh_pass : (k : ℕ) (p : Pass E) → p.badge.table_id ≡ id → p.badge.views ≡ view (row k [] [] ∷ []) None false [] ∷ [] → p.number ≡ k → IsPassOf num id p × (number p ≡ k) × (seen p ≡ []) × (mine p ≡ []) × (steps p ≡ [])
  fresh_pass k p here e n = pass_is k [] [] [] p here e refl n

module _ {E : Type 0} (num : E → ℕ) (id : TableId) (all rest : List (Pass E)) (p : Pass E) (popped : all ≡ rest ++ p ∷ []) (each : Each (IsPassOf num id) all) where
  pub popped_is : IsPassOf num id p
  popped_is = (each_last (Pass E) (IsPassOf num id) rest (p ∷ []) (subst (Each (IsPassOf num id)) popped each)).0

  pub rest_are : Each (IsPassOf num id) rest
  rest_are = each_first (Pass E) (IsPassOf num id) rest (p ∷ []) (subst (Each (IsPassOf num id)) popped each)

module _ {T E : Type 0} (stands : T → List E → Type 0) (num : E → ℕ) where
  -- what a seat took, it took from where it stood before some steps that changed nothing else
  pub took_still : (t : ℕ) (m n w : Me (Option (Kept T)) (View E)) → Stays m n → Took stands num t n w → Took stands num t m w
  took_still t m n w still took r one = let k = took r (still.0 ∙ one) in (k.0, k.1, k.2, k.3, k.4, k.5 ∙ ap (λ (l : List (ℕ × Option (Kept T))). (0, Some k.0) ∷ l) still.3, k.6, k.7, k.8, k.9)

pub turns_of-append : (xs ys : List LockStep) → turns_of (xs ++ ys) ≡ turns_of xs + turns_of ys
turns_of-append [] ys = omega arith
turns_of-append (Draw w ∷ xs) ys = turns_of-append xs ys
turns_of-append (Load w ∷ xs) ys = turns_of-append xs ys
turns_of-append (Exchange e w ∷ xs) ys = turns_of-append xs ys
turns_of-append (Serve w ∷ xs) ys = let r = turns_of-append xs ys in omega (arith, r)

pub waited_not : (xs : List LockStep) → waited xs xs
waited_not xs = ([], sym (append-nil xs), refl)

pub waited_more : (xs ys zs : List LockStep) → waited xs ys → waited ys zs → waited xs zs
waited_more xs ys zs a b = (a.0 ++ b.0, b.1 ∙ (ap (λ l. l ++ b.0) a.1 ∙ append_assoc xs a.0 b.0), (let r = turns_of-append a.0 b.0 in let p = a.2 in let q = b.2 in omega (arith, r, p, q)))

pub load_waits : (xs ys zs : List LockStep) (x : ℕ) → waited xs ys → zs ≡ ys ++ Load x ∷ [] → waited xs zs
load_waits xs ys zs x a e = waited_more xs ys zs a (Load x ∷ [], e, refl)

pub hit_waits : (xs ys zs : List LockStep) → waited xs ys → hit ys zs → waited xs zs
hit_waits xs ys zs a h = waited_more xs ys zs a (Load h.0 ∷ Exchange (h.0 / 256 * 256) (h.0 / 256 * 256) ∷ [], h.1, refl)

pub miss_waits : {E : Type 0} (xs ys : List LockStep) (m : Missed E) → waited xs ys → missed ys m → waited xs (steps m.pass)
miss_waits xs ys m a h = waited_more xs ys (steps m.pass) a (Load h.0 ∷ Exchange m.expected m.found ∷ [], h.1, refl)
