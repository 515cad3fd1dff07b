-- The order of entries, and the wake.
use Rattle.std.proofs.Common.{◌≡◌, ◌≢◌, ℕ, true, false, not, List, [], ◌∷◌, refl, sym, ◌∙◌, subst}
use Rattle.std.proofs.lemmas.Bool.{and_parts}
use Rattle.perimeter_core.specs.declared.marks.Own.{Own}
use Rattle.perimeter_core.specs.declared.marks.Own.TheVariants.{Free, Out, Granted}
use Rattle.perimeter_core.specs.Perimeter.{State, is_empty, is_free, is_out}
use Rattle.perimeter_core.specs.History.{Element, Setting, start, run, worker}
use Rattle.perimeter_core.specs.Deeds.{entered, done}
use Rattle.perimeter_core.specs.Legal.{Legal}
use Rattle.perimeter_core.specs.Backlog.{OrderKept, WakeKept}
use Rattle.perimeter_core.proofs.OneMore.{run_push, entered_push, done_push, legal_ind}
use Rattle.perimeter_core.proofs.Sound.{Sound, sound_after, order_after}

pub sound : (S : Setting) (H : List Element) → Legal S H → Sound (run S H)
sound S H l =
    legal_ind S (λ (G : List Element). Sound (run S G)) (record { hand = λ h. refl; wake = refl })
    (λ G e k p m. subst Sound (sym (run_push (start S) G e)) (sound_after (worker S) (run S G) e.mark m.step p)) H l

pub order : (S : Setting) (H : List Element) → Legal S H → OrderKept S H
order S H l =
    legal_ind S (λ (G : List Element). OrderKept S G) refl
    (λ G e k p m.
    rw (entered_push G e, done_push (start S) G e, run_push (start S) G e)
    (order_after (worker S) (run S G) e.mark (entered G) (done S G) m.step (sound S G k) p))
    H l

pub free_is : (o : Own) → is_free o ≡ true → o ≡ Free
free_is Free h = refl
free_is (Out p) h = absurd cc
free_is (Granted p) h = absurd cc

some_out : (o : Own) → (is_out o ≡ false → ⊥) → (p : ℕ) × (o ≡ Out p)
some_out Free h = absurd (h refl)
some_out (Out p) h = (p, refl)
some_out (Granted p) h = absurd (h refl)

not_empty : {A : Type 0} (xs : List A) → not (is_empty xs) ≡ true → xs ≢ []
not_empty [] h = absurd cc
not_empty (x ∷ xs) h = λ e. cc

pub is_empty-not : {A : Type 0} (xs : List A) → xs ≢ [] → not (is_empty xs) ≡ true
is_empty-not [] h = absurd (h refl)
is_empty-not (x ∷ xs) h = refl

pub wake_of_sound : (s : State) → Sound s → WakeKept s
wake_of_sound s k =
    record {
      wake = (
        λ h. let b = and_parts (is_free s.own) (not (is_empty s.chain)) (sym k.wake ∙ h) in (free_is s.own b.0, not_empty s.chain b.1),
        λ h. k.wake ∙ (rw h.0 (is_empty-not s.chain h.1)),
      );
      hand = λ h. some_out s.own (λ o. h (k.hand o));
    }
