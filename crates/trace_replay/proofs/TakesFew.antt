-- A ring that took the perimeter with feeds leaves or grants it before the history is over, so its Takes too are within the budget.
use Rattle.std.proofs.Common.{◌≡◌, ◌≢◌, ℕ, zero, suc, ◌+◌, ◌≤◌, ◌⊎◌, inl, inr, Bool, true, if◌then◌else◌, Option, Some, None, List, [], ◌∷◌, ◌++◌, take, drop, refl, ap, sym, ◌∙◌, subst, append_assoc, arith, eq-eqb}
use Rattle.std.specs.Prelude.{IfSome, slice_get}
use Rattle.std.proofs.lemmas.Bool.{cases_eq, ne_eqb}
use Rattle.std.proofs.lemmas.List.{append-nil}
use Rattle.perimeter_core.specs.declared.marks.Own.TheVariants.{Free, Out}
use Rattle.perimeter_core.specs.declared.marks.Mark.{Mark}
use Rattle.perimeter_core.specs.declared.marks.Mark.TheVariants as On
use Rattle.perimeter_core.specs.Perimeter.{State, Can, after}
use Rattle.perimeter_core.specs.History.{Element, Setting, pass_of, run, start, worker}
use Rattle.perimeter_core.specs.Deeds.{done, done_by}
use Rattle.perimeter_core.specs.Legal.{IdleFirst, Legal, LegalFrom, May, feed_count}
use Rattle.perimeter_core.proofs.OneMore.{done_push, legal_from_back, legal_front, legal_more, legal_next, run_push}
use Rattle.perimeter_core.proofs.PassKept.{pass_kept}
use Rattle.perimeter_core.proofs.Quotas.{feed_count-append}
use Rattle.histories.specs.declared.mode.Mode.{Mode}
use Rattle.histories.specs.Endings.{Ending}
use Rattle.trace_replay.specs.Reasons.{TakesFew}
use Rattle.histories.proofs.Keeping.{taken_join}
use Rattle.histories.specs.Keeping.{KeepsFrom, KeepsPace, gives_it_up, taken, taken_after}

pub does_more : (S : Setting) (H : List Element) (e : Element) → feed_count (done S H) ≤ feed_count (done S (H ++ e ∷ []))
does_more S H e =
    let d = ap feed_count (done_push (start S) H e) in
    let b = feed_count-append (done S H) (done_by (run S H) e.mark) in
    omega (arith, d, b)

pub taken_own : (S : Setting) (r : ℕ) (H : List Element) (e : Element) → pass_of e.mark ≡ r → taken S r (H ++ e ∷ []) ≡ taken_after S H (taken S r H) e.mark
taken_own S r H e own =
    taken_join S r [] None H (e ∷ []) ∙ ap (λ (b : Bool). if b then taken_after S H (taken S r H) e.mark else taken S r H) (eq-eqb (pass_of e.mark) r own)

pub taken_other : (S : Setting) (r : ℕ) (H : List Element) (e : Element) → pass_of e.mark ≢ r → taken S r (H ++ e ∷ []) ≡ taken S r H
taken_other S r H e other =
    taken_join S r [] None H (e ∷ []) ∙ ap (λ (b : Bool). if b then taken_after S H (taken S r H) e.mark else taken S r H) (ne_eqb (pass_of e.mark) r other)

-- what an owner makes: it gives the perimeter up, or takes the queue
record TakesIt (S : Setting) (H : List Element) (r : ℕ) (e : Element) : Type 0 where
  still : (run S (H ++ e ∷ [])).own ≡ Out r
  same : (o : Option ℕ) → taken_after S H o e.mark ≡ o

owner_makes : (S : Setting) (H : List Element) (r : ℕ) (e : Element) (m : Mark) → e.mark ≡ m → May S H e → (run S H).own ≡ Out r → pass_of m ≡ r → (gives_it_up e.mark ≡ true) ⊎ TakesIt S H r e
owner_makes S H r e (On.Leave p rest act) is may out own = inl (ap gives_it_up is)
owner_makes S H r e (On.Grant p j rest) is may out own = inl (ap gives_it_up is)
owner_makes S H r e (On.Take p) is may out own =
    inr (record {
      still = ap (λ (s : State). s.own) (run_push (start S) H e) ∙ (ap (λ (m : Mark). (after (run S H) m).own) is ∙ out);
      same = λ o. ap (taken_after S H o) is;
    })
owner_makes S H r e (On.Fill p es) is may out own = absurd ((subst (λ (m : Mark). IdleFirst (run S H) m) is may.idle).no_owner (out ∙ ap Out (sym own)))
owner_makes S H r e (On.Fast p x) is may out own = absurd ((subst (λ (m : Mark). IdleFirst (run S H) m) is may.idle).no_owner (out ∙ ap Out (sym own)))
owner_makes S H r e (On.Claim p es) is may out own = absurd ((subst (λ (m : Mark). IdleFirst (run S H) m) is may.idle).no_owner (out ∙ ap Out (sym own)))
owner_makes S H r e (On.Ask p) is may out own = absurd ((subst (λ (m : Mark). IdleFirst (run S H) m) is may.idle).no_owner (out ∙ ap Out (sym own)))
owner_makes S H r e (On.Close p) is may out own = absurd ((subst (λ (m : Mark). IdleFirst (run S H) m) is may.idle).no_owner (out ∙ ap Out (sym own)))
owner_makes S H r e (On.Accept j) is may out own = absurd (let g = subst (λ (m : Mark). Can (worker S) (run S H) m) is may.step in let no : ⊥ = cc (out, g) in no)
owner_makes S H r e (On.Work p) is may out own = absurd (let g = subst (λ (m : Mark). Can (worker S) (run S H) m) is may.step in let f : (run S H).own ≡ Free = g.0 in let no : ⊥ = cc (out, f) in no)

module _ (squeues spread : ℕ) (mode : Mode) (budget q : ℕ) (S : Setting) (r had : ℕ) where
  within : (past K : List Element) → Legal S past → LegalFrom S past K → KeepsFrom squeues spread mode budget q S r past K → (run S past).own ≡ Out r → taken S r past ≡ Some had
      → (run S (past ++ K)).own ≡ Free → feed_count (done S past) ≤ had + budget
  within past [] l ls k out took free = absurd (let f : (run S past).own ≡ Free = subst (λ (H : List Element). (run S H).own ≡ Free) (append-nil past) free in let no : ⊥ = cc (out, f) in no)
  within past (e ∷ K) l ls k out took free =
      let last : (run S ((past ++ e ∷ []) ++ K)).own ≡ Free = subst (λ (H : List Element). (run S H).own ≡ Free) (sym (append_assoc past (e ∷ []) K)) free in
      let more = does_more S past e in
      let goes_on : (run S (past ++ e ∷ [])).own ≡ Out r → taken S r (past ++ e ∷ []) ≡ Some had → feed_count (done S past) ≤ had + budget = λ out took.
      (let rest = within (past ++ e ∷ []) K (legal_more S past e l ls.0) ls.1 k.1 out took last in omega (arith, rest, more)) in
      elim (cases_eq (pass_of e.mark) r) [
        | inl own ↦
            elim (owner_makes S past r e e.mark refl ls.0 out own) [
              | inl gives ↦
                  let few : feed_count (done S (past ++ e ∷ [])) ≤ had + budget = subst (λ (o : Option ℕ). IfSome o (λ n. feed_count (done S (past ++ e ∷ [])) ≤ n + budget)) took ((k.0 own).few gives) in
                  omega (arith, few, more)
              | inr takes ↦ goes_on takes.still (taken_own S r past e own ∙ (takes.same (taken S r past) ∙ took))
            ]
        | inr other ↦ goes_on ((pass_kept S past e r l ls.0 other).owner out).0 (taken_other S r past e other ∙ took)
      ]

keeps_back : (squeues spread : ℕ) (mode : Mode) (budget q : ℕ) (S : Setting) (r : ℕ) (past H K : List Element)
    → KeepsFrom squeues spread mode budget q S r past (H ++ K) → KeepsFrom squeues spread mode budget q S r (past ++ H) K
keeps_back squeues spread mode budget q S r past [] K k = subst (λ (P : List Element). KeepsFrom squeues spread mode budget q S r P K) (sym (append-nil past)) k
keeps_back squeues spread mode budget q S r past (e ∷ H) K k =
    subst (λ (P : List Element). KeepsFrom squeues spread mode budget q S r P K) (append_assoc past (e ∷ []) H) (keeps_back squeues spread mode budget q S r (past ++ e ∷ []) H K k.1)

pub parted : {A : Type 0} (xs : List A) (n : ℕ) (x : A) → slice_get xs n ≡ Some x → (xs ≡ take n xs ++ x ∷ drop (suc n) xs) × (take (n + 1) xs ≡ take n xs ++ x ∷ [])
parted [] n x at = absurd (let no : ⊥ = cc at in no)
parted (y ∷ xs) zero x at = let same : y ≡ x = cc at in (ap (λ (z : _). z ∷ xs) same, ap (λ (z : _). z ∷ []) same)
parted (y ∷ xs) (suc n) x at =
    let rest = parted xs n x at in
    let z : suc n + 1 ≡ suc (n + 1) = omega arith in
    (ap (λ (l : List _). y ∷ l) rest.0, ap (λ (k : ℕ). take k (y ∷ xs)) z ∙ ap (λ (l : List _). y ∷ l) rest.1)

pub takes_few : (squeues spread : ℕ) (mode : Mode) (budget q r : ℕ) (e : Ending) → Legal e.setting e.history → (run e.setting e.history).own ≡ Free
    → KeepsPace squeues spread mode budget q e.setting r e.history → TakesFew budget r e
takes_few squeues spread mode budget q r e l free k n m at is =
    let S : Setting = e.setting in
    let F : List Element = take n e.history in
    let K : List Element = drop (suc n) e.history in
    let parts = parted e.history n m at in
    let whole : e.history ≡ (F ++ m ∷ []) ++ K = parts.0 ∙ sym (append_assoc F (m ∷ []) K) in
    let legal : Legal S ((F ++ m ∷ []) ++ K) = subst (Legal S) whole l in
    let paced : KeepsPace squeues spread mode budget q S r ((F ++ m ∷ []) ++ K) = subst (KeepsPace squeues spread mode budget q S r) whole k in
    let last : (run S ((F ++ m ∷ []) ++ K)).own ≡ Free = subst (λ (H : List Element). (run S H).own ≡ Free) whole free in
    let may : May S F m = legal_next S F [] m (legal_front S (F ++ m ∷ []) K legal) in
    let can = subst (λ (x : Mark). Can (worker S) (run S F) x) is may.step in
    let own : pass_of m.mark ≡ r = ap pass_of is in
    let still : (run S (F ++ m ∷ [])).own ≡ Out r = ap (λ (s : State). s.own) (run_push (start S) F m) ∙ (ap (λ (x : Mark). (after (run S F) x).own) is ∙ can.0) in
    subst (λ (H : List Element). IfSome (taken S r F) (λ had. feed_count (done S H) ≤ had + budget)) (sym parts.1)
    (by (taken S r F) refl (λ had took.
    within squeues spread mode budget q S r had (F ++ m ∷ []) K (legal_front S (F ++ m ∷ []) K legal) (legal_from_back S [] (F ++ m ∷ []) K legal)
    (keeps_back squeues spread mode budget q S r [] (F ++ m ∷ []) K paced) still
    (taken_own S r F m own ∙ (ap (taken_after S F (taken S r F)) is ∙ took)) last))
  where
    by : (o : Option ℕ) → taken e.setting r (take n e.history) ≡ o → ((had : ℕ) → taken e.setting r (take n e.history) ≡ Some had → feed_count (done e.setting (take n e.history ++ m ∷ [])) ≤ had + budget)
        → IfSome o (λ had. feed_count (done e.setting (take n e.history ++ m ∷ [])) ≤ had + budget)
    by None e go = tt
    by (Some had) e go = go had e
