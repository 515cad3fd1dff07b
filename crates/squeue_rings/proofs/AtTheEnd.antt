-- What rings and application threads knew by their passes holds of the histories at the end.
use Rattle.std.proofs.Common.{◌≡◌, ℕ, ◌+◌, ◌/◌, ◌%◌, zero, suc, Option, Some, None, List, [], ◌∷◌, ◌++◌, length, slice_get, refl, ap, sym, ◌∙◌, subst, arith}
use Rattle.std.proofs.lemmas.Option.{slice_get_within}
use Rattle.turn_gate.specs.History.{only}
use Rattle.turn_gate.specs.Passes.{IsPassOf, mine, number, seen}
use Rattle.turn_gate.specs.declared.pass.Pass.{Pass}
use Rattle.perimeter_core.specs.declared.marks.Mark.{Mark}
use Rattle.perimeter_core.specs.Perimeter.{is_here}
use Rattle.perimeter_core.specs.History.{Element, Limits, Setting, made_by, run}
use Rattle.perimeter_core.specs.Deeds.{due, fed}
use Rattle.perimeter_core.specs.Legal.{Legal}
use Rattle.squeue_state.specs.Naming.{Named, setting_of}
use Rattle.histories.specs.Endings.{Ending}
use Rattle.histories.specs.Elements.{number_of}
use Rattle.squeue_state.specs.Clauses.{Knows}
use Rattle.histories.proofs.ListPlaces.{some_at}
use Rattle.squeue_state.proofs.Makers.{others_made}
use Rattle.squeue_enter.proofs.Carrying.{due_carried, here_carried}
use Rattle.histories.specs.Stays.{AreSameStays, IsLinked, Stay, Stays, all_in, as_list, note_of, stays, stays_at, stays_in}
use Rattle.histories.proofs.StaysKept.{same_stays}
use Rattle.histories.specs.declared.mode.Mode.{Mode}
use Rattle.histories.specs.Keeping.{KeepsPace}
use Rattle.squeue_rings.specs.Made.{times_made}
use Rattle.histories.specs.Noted.{AreNoted}
use Rattle.squeue_rings.specs.Seen.{seen_ends, seen_in}
use Rattle.squeue_rings.proofs.CallMarks.{calls_kept}
use Rattle.squeue_rings.specs.OwnMarks.{EachOwn}
use Rattle.squeue_rings.proofs.OwnMarks.{own_on}
use Rattle.squeue_rings.proofs.Pacing.{keeps_on}

-- a pass that has seen a beginning of a legal history, and made what there carries its number
module _ {R : Type 0} (limits : R → Limits) (s : Named R) (x : Pass Element) (H : List Element) (is : IsPassOf number_of s.gate x) (legal : Legal (setting_of limits s.given) H) (knows : Knows H x) where
  abbrev S : Setting
  S = setting_of limits s.given

  others : made_by (number x) knows.0.0 ≡ []
  others = others_made (number x) (seen x) knows.0.0 (mine x) is.2 (subst (λ (K : List Element). only number_of (number x) K ≡ mine x) knows.0.1 knows.1)

  parts : Legal S (seen x ++ knows.0.0)
  parts = subst (λ (K : List Element). Legal S K) knows.0.1 legal

  pub end_due : (c : ℕ) → number x ≡ c % s.given.rings → due H c ≡ due (seen x) c
  end_due c ring = ap (λ (K : List Element). due K c) knows.0.1 ∙ sym (due_carried S (number x) (seen x) knows.0.0 parts others c ring)

  pub end_here : (c : ℕ) → number x ≡ c % s.given.rings → is_here (run S H) c ≡ is_here (run S (seen x)) c
  end_here c ring = ap (λ (K : List Element). is_here (run S K) c) knows.0.1 ∙ sym (here_carried S (number x) (seen x) knows.0.0 parts others c ring)

  pub end_stays : (c : ℕ) → number x ≡ c % s.given.rings → AreSameStays (stays S (seen x) c) (stays S H c)
  end_stays c ring =
      subst (λ (K : List Element). AreSameStays (stays S (seen x) c) (stays S K c)) (sym knows.0.1)
      (same_stays S (seen x) knows.0.0 c parts (subst (λ (r : ℕ). made_by r knows.0.0 ≡ []) ring others))

  pub end_made : (c j k : ℕ) → number x ≡ s.given.rings + j → times_made c j k H ≡ times_made c j k (seen x)
  end_made c j k thread =
      ap (times_made c j k) knows.0.1 ∙ calls_kept S (seen x) knows.0.0 c j k parts (subst (λ (r : ℕ). made_by r knows.0.0 ≡ []) thread others)

  -- what it kept it keeps, since the others' marks don't count
  pub end_paced : (squeues spread : ℕ) (mode : Mode) (budget q r : ℕ) → number x ≡ r → KeepsPace squeues spread mode budget q S r (seen x) → KeepsPace squeues spread mode budget q S r H
  end_paced squeues spread mode budget q r is_number keeps =
      subst (λ (K : List Element). KeepsPace squeues spread mode budget q S r K) (sym knows.0.1)
      (keeps_on squeues spread mode budget q S r (seen x) knows.0.0 keeps (subst (λ (r : ℕ). made_by r knows.0.0 ≡ []) is_number others))

  -- and what was so of each of its marks
  pub end_exact : (P : List Element → Mark → Type 0) (n : ℕ) → number x ≡ n → EachOwn P n [] (seen x) → EachOwn P n [] H
  end_exact P n is_number exact =
      subst (λ (K : List Element). EachOwn P n [] K) (sym knows.0.1) (own_on P n (seen x) knows.0.0 exact (subst (λ (r : ℕ). made_by r knows.0.0 ≡ []) is_number others))

-- the ends that passes have seen
pub seen_count : {R : Type 0} (limits : R → Limits) (ss : List (Named R)) (os : List (Option (Pass Element))) → length os ≡ length ss → length (seen_ends limits ss os) ≡ length ss
seen_count limits [] os n = refl
seen_count limits (s ∷ ss) [] n = absurd (omega (arith, n))
seen_count limits (s ∷ ss) (o ∷ os) n = ap suc (seen_count limits ss os (omega (arith, n)))

pub seen_got : {R : Type 0} (limits : R → Limits) (ss : List (Named R)) (os : List (Option (Pass Element))) (q : ℕ) (s : Named R) (o : Option (Pass Element)) (h : Ending) → slice_get ss q ≡ Some s → slice_get os q ≡ Some o
    → slice_get (seen_ends limits ss os) q ≡ Some h → record { number = s.given.number; setting = setting_of limits s.given; history = seen_in o } ≡ h
seen_got limits [] os q s o h is it at = cc is
seen_got limits (t ∷ ss) [] q s o h is it at = cc it
seen_got {R = R} limits (t ∷ ss) (x ∷ os) zero s o h is it at =
    let a : t ≡ s = cc is in
    let b : x ≡ o = cc it in
    let c : record { number = t.given.number; setting = setting_of limits t.given; history = seen_in x } ≡ h = cc at in
    subst (λ (s : Named R). record { number = s.given.number; setting = setting_of limits s.given; history = seen_in o } ≡ h) a (subst (λ (o : Option (Pass Element)). record { number = t.given.number; setting = setting_of limits t.given; history = seen_in o } ≡ h) b c)
seen_got limits (t ∷ ss) (x ∷ os) (suc q) s o h is it at = seen_got limits ss os q s o h is it at

-- the stays of two rows, of which as many have ended, and go on from the same notes
note_at : (xs : List Stay) (a b : Stay) (i : ℕ) (v : Stay) → a.note ≡ b.note → slice_get (xs ++ b ∷ []) i ≡ Some v → (w : Stay) × (slice_get (xs ++ a ∷ []) i ≡ Some w) × (v.note ≡ w.note)
note_at [] a b zero v e at = let same : b ≡ v = cc at in (a, refl, ap (λ (u : Stay). u.note) (sym same) ∙ sym e)
note_at [] a b (suc i) v e at = cc at
note_at (x ∷ xs) a b zero v e at = (v, at, refl)
note_at (x ∷ xs) a b (suc i) v e at = note_at xs a b i v e at

row_at : (a b : Stays) (i : ℕ) (v : Stay) → AreSameStays a b → slice_get (all_in b) i ≡ Some v → (w : Stay) × (slice_get (all_in a) i ≡ Some w) × (v.note ≡ w.note)
row_at a b i v same at = by a.now b.now same.note (subst (λ (l : List Stay). slice_get (l ++ as_list b.now) i ≡ Some v) same.ended at)
  where
    by : (x y : Option Stay) → note_of y ≡ note_of x → slice_get (a.ended ++ as_list y) i ≡ Some v → (w : Stay) × (slice_get (a.ended ++ as_list x) i ≡ Some w) × (v.note ≡ w.note)
    by None None e at = (v, at, refl)
    by None (Some y) e at = cc e
    by (Some x) None e at = cc e
    by (Some x) (Some y) e at = let n : x.note ≡ y.note = cc (sym e) in note_at a.ended x y i v n at

module _ (hs gs : List Ending) (c : ℕ) (count : length gs ≡ length hs)
    (same : (q : ℕ) (h g : Ending) → slice_get hs q ≡ Some h → slice_get gs q ≡ Some g → AreSameStays (stays h.setting h.history c) (stays g.setting g.history c)) where
  same_in : (q : ℕ) → AreSameStays (stays_in (slice_get hs q) c) (stays_in (slice_get gs q) c)
  same_in q = by (slice_get hs q) (slice_get gs q) refl refl
    where
      by : (x y : Option Ending) → slice_get hs q ≡ x → slice_get gs q ≡ y → AreSameStays (stays_in x c) (stays_in y c)
      by None None a b = record { ended = refl; note = refl }
      by None (Some g) a b = let o = some_at hs q (omega (arith, slice_get_within gs q g b, count)) in let e : None ≡ Some o.0 = sym a ∙ o.1 in cc e
      by (Some h) None a b = let o = some_at gs q (omega (arith, slice_get_within hs q h a, count)) in let e : None ≡ Some o.0 = sym b ∙ o.1 in cc e
      by (Some h) (Some g) a b = same q h g a b

  at_same : (s : ℕ) → AreSameStays (stays_at hs c s) (stays_at gs c s)
  at_same s = subst (λ (m : ℕ). AreSameStays (stays_in (slice_get hs ((c + s) % m)) c) (stays_at gs c s)) count (same_in ((c + s) % length gs))

  pub linked_same : IsLinked hs c → IsLinked gs c
  linked_same linked s v at =
      let w = row_at (stays_at hs c (s + 1)) (stays_at gs c (s + 1)) ((s + 1) / length gs) v (at_same (s + 1)) at in
      let u = linked s w.0 (subst (λ (m : ℕ). slice_get (all_in (stays_at hs c (s + 1))) ((s + 1) / m) ≡ Some w.0) count w.1) in
      let there : slice_get (stays_at gs c s).ended (s / length gs) ≡ Some u.0 = subst (λ (m : ℕ). slice_get (stays_at gs c s).ended (s / m) ≡ Some u.0) (sym count) (ap (λ (l : List Stay). slice_get l (s / length hs)) (at_same s).ended ∙ u.1) in
      (u.0, there, w.2 ∙ u.2)

  pub noted_same : (spread : ℕ) → AreNoted spread hs c → AreNoted spread gs c
  noted_same spread noted s v at =
      let w = row_at (stays_at hs c s) (stays_at gs c s) (s / length gs) v (at_same s) at in
      ap fed w.2 ∙ noted s w.0 (subst (λ (m : ℕ). slice_get (all_in (stays_at hs c s)) (s / m) ≡ Some w.0) count w.1)
