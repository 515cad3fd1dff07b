-- The jobs of a list, the last of them apart.
use Rattle.std.proofs.Common.{◌≡◌, ◌⊎◌, ℕ, Bool, true, false, ◌<◌, ◌≤◌, List, [], ◌∷◌, ◌++◌, inl, inr, length, slice_index_or, ap, refl, sym, ◌∙◌, subst, arith}
use Rattle.std.specs.List.{IsLastAndRest}
use Rattle.std.proofs.lemmas.Bool.{cases_lt}
use Rattle.std.proofs.lemmas.List.{get_or_append_left, length-append}
use Rattle.std.proofs.Math.Seq.{get_or-append_seam}
use Rattle.squeue_serve.specs.Numbering.{BecameByNumber, EachByNumber, IsDoneIf}

module _ {X : Type 0} (P : ℕ → X → Type 0) where
  pub last_of : (xs rest : List X) (x : X) → IsLastAndRest xs x rest → EachByNumber P xs → P (length rest) x
  last_of xs rest x last from =
      subst (λ (y : X). P (length rest) y) (ap (λ (l : List X). slice_index_or l (length rest) x) last.0 ∙ get_or-append_seam rest x [] x)
      (from.each (length rest) x (omega (arith, last.1)))

  pub others_of : (xs rest : List X) (x : X) → IsLastAndRest xs x rest → EachByNumber P xs → EachByNumber P rest
  others_of xs rest x last from = record {
    each = λ k d below. (
        subst (λ (y : X). P k y) (ap (λ (l : List X). slice_index_or l k d) last.0 ∙ get_or_append_left rest (x ∷ []) d k below) (from.each k d (omega (arith, below, last.1))));
  }

module _ {X : Type 0} (Q : ℕ → X → X → Type 0) where
  both_parts : (all rest : List X) (x y : X) (ys : List X) → IsLastAndRest all x rest → Q (length rest) x y → BecameByNumber Q rest ys
      → (k : ℕ) (d : X) → (k < length rest) ⊎ (length rest ≤ k) → k < length all → Q k (slice_index_or all k d) (slice_index_or (ys ++ y ∷ []) k d)
  both_parts all rest x y ys last one from k d (inl lt) below =
      subst (λ (a : X). Q k a (slice_index_or (ys ++ y ∷ []) k d)) (sym (ap (λ (l : List X). slice_index_or l k d) last.0 ∙ get_or_append_left rest (x ∷ []) d k lt))
      (subst (λ (b : X). Q k (slice_index_or rest k d) b) (sym (get_or_append_left ys (y ∷ []) d k (omega (arith, lt, from.same)))) (from.each k d lt))
  both_parts all rest x y ys last one from k d (inr ge) below =
      let at : k ≡ length rest = omega (arith, ge, below, last.1) in
      let mine : slice_index_or all k d ≡ x = ap (λ (l : List X). slice_index_or l k d) last.0 ∙ (ap (λ (n : ℕ). slice_index_or (rest ++ x ∷ []) n d) at ∙ get_or-append_seam rest x [] d) in
      let new : slice_index_or (ys ++ y ∷ []) k d ≡ y = ap (λ (n : ℕ). slice_index_or (ys ++ y ∷ []) n d) (at ∙ sym from.same) ∙ get_or-append_seam ys y [] d in
      subst (λ (a : X). Q k a (slice_index_or (ys ++ y ∷ []) k d)) (sym mine) (subst (λ (b : X). Q k x b) (sym new) (subst (λ (n : ℕ). Q n x y) (sym at) one))

  pub both : (all rest : List X) (x y : X) (ys : List X) → IsLastAndRest all x rest → Q (length rest) x y → BecameByNumber Q rest ys → BecameByNumber Q all (ys ++ y ∷ [])
  both all rest x y ys last one from = record {
    same = omega (arith, length-append ys (y ∷ []), from.same, last.1);
    each = λ k d below. both_parts all rest x y ys last one from k d (cases_lt k (length rest)) below;
  }

  -- a job alone
  pub alone : (all rest : List X) (x y : X) → IsLastAndRest all x rest → length rest ≡ 0 → Q 0 x y → BecameByNumber Q all (rest ++ y ∷ [])
  alone all rest x y last none one =
      both all rest x y rest last (subst (λ (n : ℕ). Q n x y) (sym none) one) (record { same = refl; each = λ k d below. absurd (omega (arith, none, below)) })

module _ {X : Type 0} (Q : X → X → Type 0) where
  -- a job that was done in its thread
  pub done_there : (done : Bool) (x y : X) → done ≡ true → IsDoneIf done Q x y → Q x y
  done_there done x y is h = subst (λ (b : Bool). IsDoneIf b Q x y) is h

  -- and one that wasn't, and is done afterwards
  pub done_after : (done : Bool) (x y z : X) → Q y z → done ≡ false → IsDoneIf done Q x y → Q x z
  done_after done x y z one is h =
      let same : y ≡ x = subst (λ (b : Bool). IsDoneIf b Q x y) is h in
      subst (λ (a : X). Q a z) same one
