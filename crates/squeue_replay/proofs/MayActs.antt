-- What an act needs, by what is tested of it.
use Rattle.std.proofs.Common.{◌≡◌, ◌≢◌, ℕ, ◌+◌, ◌<◌, ◌≤◌, inl, inr, Bool, true, false, not, Option, Some, List, length, refl, ap, sym, ◌∙◌, subst, arith}
use Rattle.std.proofs.Common.{◌%◌}
use Rattle.std.proofs.Math.Nat.{mod-lt}
use Rattle.std.specs.Prelude.{IfSome, slice_get}
use Rattle.std.proofs.lemmas.Option.{slice_get_cases}
use Rattle.tcb_machine.specs.declared.kinds.Call.{Call}
use Rattle.perimeter_core.specs.declared.marks.SynchAct.TheVariants as Done
use Rattle.perimeter_core.specs.History.{worker}
use Rattle.conn_classifier.specs.Plan.{PlanOf}
use Rattle.conn_blocks.specs.CallLists.{CallLists, call_at, calls_of}
use Rattle.conn_blocks.proofs.Named.{call_is_named}
use Rattle.conn_blocks.proofs.PlaceSteps.{is_call_on}
use Rattle.ring_quotas.specs.Quotas.{setting_at}
use Rattle.squeue_replay.specs.Standing.{GuestOf}
use Rattle.squeue_replay.specs.Steps.{ActMay, HasGuest}
use Rattle.squeue_replay.proofs.SettingFacts.{worker_is}

module _ (p : PlanOf) (calls : CallLists) (squeues rings spread q : ℕ) (gs : List GuestOf) (pass c j k : ℕ) where
  -- there is no such thread, no such call of it, or it is on another connection
  pub no_thread : 4 ≤ j → ActMay (setting_at p calls squeues rings spread q) gs pass (Done.Call c j k) → ⊥
  no_thread far a = let w = worker_is p calls squeues rings spread q in omega (arith, far, a.0, a.1, w)

  pub no_call : length calls ≡ 4 → length (calls_of calls j) ≤ k → ActMay (setting_at p calls squeues rings spread q) gs pass (Done.Call c j k) → ⊥
  no_call four far a = let there = is_call_on calls c j k four a.3 in let lt = there.1 in omega (arith, far, lt)

  pub other_conn : length calls ≡ 4 → (x : ℕ × Call) → call_at calls j k ≡ Some x → x.0 ≢ c → ActMay (setting_at p calls squeues rings spread q) gs pass (Done.Call c j k) → ⊥
  other_conn four x at other a =
      let there = is_call_on calls c j k four a.3 in
      other (subst (λ (o : Option (ℕ × Call)). IfSome o (λ y. y.0 ≡ c)) at there.2)

  pub call_may : j < 4 → pass ≡ rings + j → (x : ℕ × Call) → call_at calls j k ≡ Some x → x.0 ≡ c → HasGuest gs c (λ g. g.here ≡ true) → ActMay (setting_at p calls squeues rings spread q) gs pass (Done.Call c j k)
  call_may low is x at on here =
      let w = worker_is p calls squeues rings spread q in
      (omega (arith, low, is, w), is, here, call_is_named calls c j k x.1 (at ∙ ap (λ (d : ℕ). Some (d, x.1)) on))

-- a connection that is among these is here or isn't
pub is_away : (gs : List GuestOf) (c : ℕ) (r : Bool) → c < length gs → (r ≡ true → HasGuest gs c (λ g. g.here ≡ true)) → (HasGuest gs c (λ g. g.here ≡ true) → r ≡ true)
    → (not r ≡ true → HasGuest gs c (λ g. g.here ≡ false)) × (HasGuest gs c (λ g. g.here ≡ false) → not r ≡ true)
is_away gs c r lt to from = (there, away r to)
  where
    found : (g : GuestOf) × (slice_get gs c ≡ Some g)
    found = elim (slice_get_cases gs c).1 [ inl w ↦ (w.0, w.2) | inr w ↦ absurd (let far = w.0 in omega (arith, lt, far)) ]

    by : (b r : Bool) → (b ≡ true → r ≡ true) → not r ≡ true → b ≡ false
    by false r f n = refl
    by true true f n = absurd (let no : ⊥ = cc n in no)
    by true false f n = absurd (let no : ⊥ = cc (f refl) in no)

    there : not r ≡ true → HasGuest gs c (λ g. g.here ≡ false)
    there n = (found.0, found.1, by found.0.here r (λ here. from (found.0, found.1, here)) n)

    two : (g h : GuestOf) → slice_get gs c ≡ Some g → slice_get gs c ≡ Some h → g ≡ h
    two g h a b = let e : Some g ≡ Some h = sym a ∙ b in cc e

    away : (r : Bool) → (r ≡ true → HasGuest gs c (λ g. g.here ≡ true)) → HasGuest gs c (λ g. g.here ≡ false) → not r ≡ true
    away false to h = refl
    away true to h =
        let t = to refl in
        let same = two t.0 h.0 t.1 h.1 in
        absurd (let no : true ≡ false = sym t.2 ∙ (ap (λ (g : GuestOf). g.here) same ∙ h.2) in cc no)

-- two facts of one connection
pub both_of : (gs : List GuestOf) (c : ℕ) (A B : GuestOf → Type 0) → HasGuest gs c (λ g. g.here ≡ true) → HasGuest gs c (λ g. A g × B g) → HasGuest gs c (λ g. (g.here ≡ true) × A g × B g)
both_of gs c A B a b =
    let same : Some a.0 ≡ Some b.0 = sym a.1 ∙ b.1 in
    let one : a.0 ≡ b.0 = cc same in
    (b.0, b.1, (subst (λ (g : GuestOf). g.here ≡ true) one a.2, b.2.0, b.2.1))

-- a connection's ring is a pass before the worker's
pub ring_low : (p : PlanOf) (calls : CallLists) (squeues rings spread q pass c : ℕ) → 1 ≤ rings → pass ≡ c % rings → pass < worker (setting_at p calls squeues rings spread q)
ring_low p calls squeues rings spread q pass c some is = let w = worker_is p calls squeues rings spread q in let lt = mod-lt c some in omega (arith, w, lt, is)
