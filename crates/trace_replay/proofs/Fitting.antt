-- One more mark: whether a history's marks still keep homes, mode and budget.
use Rattle.std.proofs.Common.{◌≡◌, ℕ, zero, suc, ◌+◌, ◌<◌, ◌≤◌, inl, inr, IfSome, Some, List, [], ◌∷◌, ◌++◌, length, slice_get, take, refl, ap, sym, ◌∙◌, subst, append_assoc, arith}
use Rattle.std.proofs.lemmas.Bool.{cases_eq}
use Rattle.std.proofs.lemmas.List.{append-nil, take-append-le, length_push}
use Rattle.std.proofs.lemmas.Option.{slice_get_within}
use Rattle.std.proofs.Math.Seq.{take-append_seam, take-length}
use Rattle.perimeter_core.specs.declared.marks.Mark.TheVariants as On
use Rattle.perimeter_core.specs.Deeds.{done}
use Rattle.perimeter_core.specs.History.{Element, Setting, pass_of}
use Rattle.perimeter_core.specs.Legal.{feed_count}
use Rattle.histories.specs.declared.mode.Mode.{Mode}
use Rattle.histories.specs.Endings.{Ending}
use Rattle.histories.specs.Keeping.{Keeps, KeepsFrom, taken}
use Rattle.ring_quotas.specs.declared.setup.Setup.{Setup}
use Rattle.squeue_replay.specs.Pacing.{KeepsAt}
use Rattle.trace_replay.specs.Reasons.{AreFit, IsUnfitAt, TakesFew}
use Rattle.placed_parts.proofs.PlaceSteps.{get_seam}

-- ---- one element behind others

take_front : {A : Type 0} (xs : List A) (y : A) (n : ℕ) → n ≤ length xs → take n (xs ++ y ∷ []) ≡ take n xs
take_front xs y n most = take-append-le n xs (y ∷ []) most

take_all : {A : Type 0} (xs : List A) (y : A) → take (length xs) (xs ++ y ∷ []) ≡ xs
take_all xs y = take-append_seam xs (y ∷ [])

get_before : {A : Type 0} (xs : List A) (y : A) (n : ℕ) → n < length xs → slice_get (xs ++ y ∷ []) n ≡ slice_get xs n
get_before [] y n there = absurd (omega (arith, there))
get_before (x ∷ xs) y zero there = refl
get_before (x ∷ xs) y (suc n) there = get_before xs y n (omega (arith, there))

-- ---- the pace

module _ (squeues spread : ℕ) (mode : Mode) (budget q : ℕ) (S : Setting) (r : ℕ) (e : Element) where
  keeps_push : (past H : List Element) → KeepsFrom squeues spread mode budget q S r past H → (pass_of e.mark ≡ r → Keeps squeues spread mode budget q S r (past ++ H) e) → KeepsFrom squeues spread mode budget q S r past (H ++ e ∷ [])
  keeps_push past [] before one = (λ mine. subst (λ (P : List Element). Keeps squeues spread mode budget q S r P e) (append-nil past) (one mine), tt)
  keeps_push past (x ∷ H) before one =
      (before.0, keeps_push (past ++ x ∷ []) H before.1 (λ mine. subst (λ (P : List Element). Keeps squeues spread mode budget q S r P e) (sym (append_assoc past (x ∷ []) H)) (one mine)))

  keeps_last : (past H : List Element) → KeepsFrom squeues spread mode budget q S r past (H ++ e ∷ []) → pass_of e.mark ≡ r → Keeps squeues spread mode budget q S r (past ++ H) e
  keeps_last past [] all mine = subst (λ (P : List Element). Keeps squeues spread mode budget q S r P e) (sym (append-nil past)) (all.0 mine)
  keeps_last past (x ∷ H) all mine = subst (λ (P : List Element). Keeps squeues spread mode budget q S r P e) (append_assoc past (x ∷ []) H) (keeps_last (past ++ x ∷ []) H all.1 mine)

-- ---- a history, as an ending

module _ (setup : Setup) (q : ℕ) (number : ℕ) (S : Setting) where
  abbrev pub with : List Element → Ending
  with H = record { number = number; setting = S; history = H }

  takes_more : (r : ℕ) (H : List Element) (e : Element) → TakesFew setup.budget r (with H) → (e.mark ≡ On.Take r → IfSome (taken S r H) (λ had. feed_count (done S (H ++ e ∷ [])) ≤ had + setup.budget)) → TakesFew setup.budget r (with (H ++ e ∷ []))
  takes_more r H e before one n m is took =
      elim (cases_eq n (length H)) [
        | inl last ↦
            let same : e ≡ m = (let h : Some e ≡ Some m = sym (get_seam H e) ∙ (ap (slice_get (H ++ e ∷ [])) (sym last) ∙ is) in cc h) in
            let front : take n (H ++ e ∷ []) ≡ H = ap (λ (k : ℕ). take k (H ++ e ∷ [])) last ∙ take_all H e in
            let whole : take (n + 1) (H ++ e ∷ []) ≡ H ++ e ∷ [] = ap (λ (k : ℕ). take k (H ++ e ∷ [])) (ap (λ (k : ℕ). k + 1) last ∙ sym (length_push H e)) ∙ take-length (H ++ e ∷ []) in
            subst (λ (G : List Element). IfSome (taken S r G) (λ had. feed_count (done S (take (n + 1) (H ++ e ∷ []))) ≤ had + setup.budget)) (sym front)
            (subst (λ (G : List Element). IfSome (taken S r H) (λ had. feed_count (done S G) ≤ had + setup.budget)) (sym whole) (one (ap (λ (x : Element). x.mark) same ∙ took)))
        | inr other ↦
            let within = slice_get_within (H ++ e ∷ []) n m is in
            let longer = length_push H e in
            let there : n < length H = omega (arith, within, longer, other) in
            let fits : n ≤ length H = omega (arith, there) in
            let next : n + 1 ≤ length H = omega (arith, there) in
            subst (λ (G : List Element). IfSome (taken S r G) (λ had. feed_count (done S (take (n + 1) (H ++ e ∷ []))) ≤ had + setup.budget)) (sym (take_front H e n fits))
            (subst (λ (G : List Element). IfSome (taken S r (take n H)) (λ had. feed_count (done S G) ≤ had + setup.budget)) (sym (take_front H e (n + 1) next)) (before n m (sym (get_before H e n there) ∙ is) took))
      ]

  takes_last : (r : ℕ) (H : List Element) (e : Element) → TakesFew setup.budget r (with (H ++ e ∷ [])) → e.mark ≡ On.Take r → IfSome (taken S r H) (λ had. feed_count (done S (H ++ e ∷ [])) ≤ had + setup.budget)
  takes_last r H e all took =
      let whole : take (length H + 1) (H ++ e ∷ []) ≡ H ++ e ∷ [] = ap (λ (k : ℕ). take k (H ++ e ∷ [])) (sym (length_push H e)) ∙ take-length (H ++ e ∷ []) in
      subst (λ (G : List Element). IfSome (taken S r G) (λ had. feed_count (done S (H ++ e ∷ [])) ≤ had + setup.budget)) (take_all H e)
      (subst (λ (G : List Element). IfSome (taken S r (take (length H) (H ++ e ∷ []))) (λ had. feed_count (done S G) ≤ had + setup.budget)) whole (all (length H) e (get_seam H e) took))

  pub fit_none : AreFit setup q (with [])
  fit_none = record { pace = λ r ring. tt; takes = λ r ring n m is. cc is }

  pub fit_more : (H : List Element) (e : Element) → AreFit setup q (with H) → KeepsAt setup q S H e → AreFit setup q (with (H ++ e ∷ []))
  fit_more H e fit one =
      record {
        pace = λ r ring.
            keeps_push setup.squeues setup.spread setup.mode setup.budget q S r e [] H (fit.pace r ring)
            (λ mine. subst (λ (p : ℕ). Keeps setup.squeues setup.spread setup.mode setup.budget q S p H e) mine (one.keeps (subst (λ (p : ℕ). p < setup.rings) (sym mine) ring)));
        takes = λ r ring. takes_more r H e (fit.takes r ring) (one.takes r ring);
      }

  fit_last : (H : List Element) (e : Element) → AreFit setup q (with (H ++ e ∷ [])) → KeepsAt setup q S H e
  fit_last H e fit =
      record {
        keeps = λ ring. keeps_last setup.squeues setup.spread setup.mode setup.budget q S (pass_of e.mark) e [] H (fit.pace (pass_of e.mark) ring) refl;
        takes = λ r ring. takes_last r H e (fit.takes r ring);
      }

  -- the first marks of longer histories
  first_same : (G H : List Element) → G ≡ H → with G ≡ with H
  first_same G H e = ap (λ (K : List Element). with K) e

  pub unfit_here : (H : List Element) (e : Element) → AreFit setup q (with H) → (KeepsAt setup q S H e → ⊥) → IsUnfitAt setup q (with (H ++ e ∷ [])) (length H)
  unfit_here H e fit broken =
      let longer = length_push H e in
      let whole : take (length H + 1) (H ++ e ∷ []) ≡ H ++ e ∷ [] = ap (λ (k : ℕ). take k (H ++ e ∷ [])) (sym longer) ∙ take-length (H ++ e ∷ []) in
      record {
        there = omega (arith, longer);
        before = subst (AreFit setup q) (sym (first_same (take (length H) (H ++ e ∷ [])) H (take_all H e))) fit;
        unfit = λ all. broken (fit_last H e (subst (AreFit setup q) (first_same (take (length H + 1) (H ++ e ∷ [])) (H ++ e ∷ []) whole) all));
      }

  pub unfit_on : (H : List Element) (e : Element) (n : ℕ) → IsUnfitAt setup q (with H) n → IsUnfitAt setup q (with (H ++ e ∷ [])) n
  unfit_on H e n was =
      let longer = length_push H e in
      let there = was.there in
      let fits : n ≤ length H = omega (arith, there) in
      let next : n + 1 ≤ length H = omega (arith, there) in
      record {
        there = omega (arith, longer, there);
        before = subst (AreFit setup q) (sym (first_same (take n (H ++ e ∷ [])) (take n H) (take_front H e n fits))) was.before;
        unfit = λ all. was.unfit (subst (AreFit setup q) (first_same (take (n + 1) (H ++ e ∷ [])) (take (n + 1) H) (take_front H e (n + 1) next)) all);
      }
