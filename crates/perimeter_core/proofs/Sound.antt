-- Kept by each mark: the hand is empty unless a pass is out, a wake is recorded exactly where the chain waits for nobody, and no entry is lost.
use Rattle.std.proofs.Common.{◌≡◌, ◌≢◌, ℕ, ◌-◌, Bool, true, false, not, ◌&&◌, ◌||◌, List, [], ◌∷◌, ◌++◌, length, take, drop, refl, ap, sym, ◌∙◌, append_assoc}
use Rattle.std.proofs.lemmas.List.{append-nil, take-append-drop}
use Rattle.perimeter_core.specs.declared.entries.Entry.{Entry}
use Rattle.perimeter_core.specs.declared.marks.Own.{Own}
use Rattle.perimeter_core.specs.declared.marks.Own.TheVariants.{Free, Out, Granted}
use Rattle.perimeter_core.specs.declared.marks.Mark.{Mark}
use Rattle.perimeter_core.specs.declared.marks.Mark.TheVariants as On
use Rattle.perimeter_core.specs.Perimeter.{State, is_empty, is_free, is_out, Can, after}
use Rattle.perimeter_core.specs.Deeds.{entries_of, done_by}

pub record Sound (s : State) : Type 0 where
  pub hand : is_out s.own ≡ false → s.hand ≡ []
  pub wake : s.wake ≡ (is_free s.own && not (is_empty s.chain))

pub not_free : (o : Own) → o ≢ Free → is_free o ≡ false
not_free Free h = absurd (h refl)
not_free (Out p) h = refl
not_free (Granted p) h = refl

pub is_empty-nonempty : {A : Type 0} (xs : List A) → xs ≢ [] → is_empty xs ≡ false
is_empty-nonempty [] h = absurd (h refl)
is_empty-nonempty (x ∷ xs) h = refl

pub is_empty-append : {A : Type 0} (xs ys : List A) → ys ≢ [] → is_empty (xs ++ ys) ≡ false
is_empty-append [] ys h = is_empty-nonempty ys h
is_empty-append (x ∷ xs) ys h = refl

woken : (f w e : Bool) → w ≡ (f && e) → (f || w) ≡ (f && true)
woken true w e h = refl
woken false w e h = h

pub sound_after : (w : ℕ) (s : State) (m : Mark) → Can w s m → Sound s → Sound (after s m)
sound_after w s (On.Fill p es) c k =
    record { hand = k.hand; wake = rw (is_empty-append s.chain es c) (woken (is_free s.own) s.wake (not (is_empty s.chain)) k.wake) }
sound_after w s (On.Fast p e) c k = record { hand = λ h. absurd cc; wake = rw (c.0, c.1) at k.wake }
sound_after w s (On.Claim p es) c k = record { hand = λ h. absurd cc; wake = refl }
sound_after w s (On.Take p) c k = record { hand = λ h. absurd (cc (rw c.0 at h)); wake = rw c.0 (rw c.0 at k.wake) }
sound_after w s (On.Leave p rest act) c k = record { hand = λ h. refl; wake = refl }
sound_after w s (On.Ask p) c k =
    let busy = not_free s.own c in record { hand = k.hand; wake = rw busy (rw busy at k.wake) }
sound_after w s (On.Grant p j rest) c k = record { hand = λ h. refl; wake = rw c.0 at k.wake }
sound_after w s (On.Accept j) c k = record { hand = λ h. absurd cc; wake = rw c at k.wake }
sound_after w s (On.Work p) c k = record { hand = λ h. absurd cc; wake = refl }
sound_after w s (On.Close p) c k = record { hand = k.hand; wake = k.wake }

-- where nobody is out, the hand is empty
pub hand_free : (s : State) → Sound s → s.own ≡ Free → s.hand ≡ []
hand_free s k h = k.hand (ap is_out h)

pub hand_granted : (s : State) (j : ℕ) → Sound s → s.own ≡ Granted j → s.hand ≡ []
hand_granted s j k h = k.hand (ap is_out h)

cut : (D hand chain : List Entry) (n : ℕ) → (D ++ take n hand) ++ (drop n hand ++ chain) ≡ D ++ (hand ++ chain)
cut D hand chain n =
    append_assoc D (take n hand) (drop n hand ++ chain)
    ∙ ap (λ xs. D ++ xs) (sym (append_assoc (take n hand) (drop n hand) chain) ∙ ap (λ xs. xs ++ chain) (take-append-drop n hand))

pub order_after : (w : ℕ) (s : State) (m : Mark) (E D : List Entry) → Can w s m → Sound s → E ≡ D ++ (s.hand ++ s.chain)
    → E ++ entries_of m ≡ (D ++ done_by s m) ++ ((after s m).hand ++ (after s m).chain)
order_after w s (On.Fill p es) E D c k h = rw h (simp (append_assoc, append-nil))
order_after w s (On.Fast p e) E D c k h = rw (h, hand_free s k c.0, c.1) (simp (append_assoc, append-nil))
order_after w s (On.Claim p es) E D c k h = rw (h, hand_free s k c.0) (simp (append_assoc, append-nil))
order_after w s (On.Take p) E D c k h = rw h (simp (append_assoc, append-nil))
order_after w s (On.Leave p rest act) E D c k h = append-nil E ∙ (h ∙ sym (cut D s.hand s.chain (length s.hand - rest)))
order_after w s (On.Ask p) E D c k h = rw h (simp (append_assoc, append-nil))
order_after w s (On.Grant p j rest) E D c k h = append-nil E ∙ (h ∙ sym (cut D s.hand s.chain (length s.hand - rest)))
order_after w s (On.Accept j) E D c k h = rw (h, hand_granted s j k c) (simp append-nil)
order_after w s (On.Work p) E D c k h = rw (h, hand_free s k c.0) (simp append-nil)
order_after w s (On.Close p) E D c k h = rw h (simp append-nil)
