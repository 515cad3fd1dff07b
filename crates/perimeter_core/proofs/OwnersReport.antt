-- Only the owner reports that something was processed, and nothing of a block that is elsewhere.
use Rattle.std.proofs.Common.{◌≡◌, ◌≢◌, ℕ, ◌==◌, Bool, true, false, if◌then◌else◌, inl, inr, List, [], ◌∷◌, ◌++◌, refl, sym, ap, ◌∙◌, subst, arith}
use Rattle.std.proofs.lemmas.Bool.Decides.{nat_tests}
use Rattle.perimeter_core.specs.declared.entries.Act.{Act}
use Rattle.perimeter_core.specs.declared.entries.Entry.{Entry}
use Rattle.perimeter_core.specs.declared.entries.Entry.TheVariants.{Feed, Ask}
use Rattle.perimeter_core.specs.declared.marks.Own.TheVariants.{Out, Granted}
use Rattle.perimeter_core.specs.declared.marks.SynchAct.TheVariants as Done
use Rattle.perimeter_core.specs.declared.marks.Mark.{Mark}
use Rattle.perimeter_core.specs.declared.marks.Mark.TheVariants as On
use Rattle.perimeter_core.specs.Perimeter.{State, Can, is_here}
use Rattle.perimeter_core.specs.History.{Element, Setting, worker, run, pass_of}
use Rattle.perimeter_core.specs.Deeds.{done_by, feeds_of, feed_acts, call_act, reported}
use Rattle.perimeter_core.specs.Legal.{May, Legal, ActsFit}
use Rattle.perimeter_core.specs.Knowledge.{HasIt}
use Rattle.perimeter_core.proofs.Elsewhere.{none_processed}

-- who has it is one pass
one_has_it : (s : State) (p q : ℕ) → HasIt s p → s.own ≡ Out q → q ≡ p
one_has_it s p q (inl out) is = let same : Out q ≡ Out p = sym is ∙ out in cc
one_has_it s p q (inr granted) is = absurd (let same : Out q ≡ Granted p = sym is ∙ granted in let no : ⊥ = cc in no)

nothing_done : (w : ℕ) (s : State) (m : Mark) (p : ℕ) → Can w s m → HasIt s p → pass_of m ≢ p → (done_by s m ≡ []) × ((c : ℕ) → call_act c m ≡ [])
nothing_done w s (On.Take q) p can has other = absurd (other (one_has_it s p q has can.0))
nothing_done w s (On.Leave q rest act) p can has other = absurd (other (one_has_it s p q has can.0))
nothing_done w s (On.Grant q j rest) p can has other = absurd (other (one_has_it s p q has can.0))
nothing_done w s (On.Fill q es) p can has other = (refl, λ c. refl)
nothing_done w s (On.Fast q e) p can has other = (refl, λ c. refl)
nothing_done w s (On.Claim q es) p can has other = (refl, λ c. refl)
nothing_done w s (On.Ask q) p can has other = (refl, λ c. refl)
nothing_done w s (On.Accept j) p can has other = (refl, λ c. refl)
nothing_done w s (On.Work q) p can has other = (refl, λ c. refl)
nothing_done w s (On.Close q) p can has other = (refl, λ c. refl)

pub others_report_nothing : (S : Setting) (H : List Element) (e : Element) (p : ℕ) → May S H e → HasIt (run S H) p → pass_of e.mark ≢ p
    → (done_by (run S H) e.mark ≡ []) × ((c : ℕ) → call_act c e.mark ≡ [])
others_report_nothing S H e p m has other = nothing_done (worker S) (run S H) e.mark p m.step has other

-- where no number of a feed stands, no feed does
no_feed_acts : (c : ℕ) (es : List Entry) → feeds_of c es ≡ [] → feed_acts c es ≡ []
no_feed_acts c [] none = refl
no_feed_acts c (Feed d n ∷ es) none = by (d == c) refl none (λ nil. no_feed_acts c es nil)
  where
    by : (b : Bool) → (d == c) ≡ b → (if b then n ∷ feeds_of c es else feeds_of c es) ≡ [] → (feeds_of c es ≡ [] → feed_acts c es ≡ []) → feed_acts c (Feed d n ∷ es) ≡ []
    by true is nil rest = absurd (let bad : ⊥ = cc in bad)
    by false is nil rest = rw is (rest nil)
no_feed_acts c (Ask p ∷ es) none = no_feed_acts c es none

-- a call is on a block that is here
no_call : (S : Setting) (H : List Element) (s : State) (c : ℕ) (m : Mark) → ActsFit S H s m → is_here s c ≡ false → call_act c m ≡ []
no_call S H s c (On.Leave p rest (Done.Call d j k)) fits away = by (d == c) refl
  where
    by : (b : Bool) → (d == c) ≡ b → call_act c (On.Leave p rest (Done.Call d j k)) ≡ []
    by true is = let same : d ≡ c = grind (arith, nat_tests, is) in absurd (let here : is_here s c ≡ true = subst (λ (x : ℕ). is_here s x ≡ true) same fits.1 in let no : ⊥ = cc in no)
    by false is = rw is refl
no_call S H s c (On.Leave p rest Done.None) fits away = refl
no_call S H s c (On.Leave p rest Done.Away) fits away = refl
no_call S H s c (On.Leave p rest (Done.Out d)) fits away = refl
no_call S H s c (On.Leave p rest (Done.In d)) fits away = refl
no_call S H s c (On.Fill p es) fits away = refl
no_call S H s c (On.Fast p e) fits away = refl
no_call S H s c (On.Claim p es) fits away = refl
no_call S H s c (On.Take p) fits away = refl
no_call S H s c (On.Ask p) fits away = refl
no_call S H s c (On.Grant p j rest) fits away = refl
no_call S H s c (On.Accept j) fits away = refl
no_call S H s c (On.Work p) fits away = refl
no_call S H s c (On.Close p) fits away = refl

pub none_reported : (S : Setting) (H : List Element) (e : Element) (c : ℕ) → Legal S H → May S H e → is_here (run S H) c ≡ false → reported c (run S H) e.mark ≡ []
none_reported S H e c l m away =
    ap (λ (had : List Act). had ++ call_act c e.mark) (no_feed_acts c (done_by (run S H) e.mark) (none_processed S H e c l m away)) ∙ no_call S H (run S H) c e.mark m.act away
