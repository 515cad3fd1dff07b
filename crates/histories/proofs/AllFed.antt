-- A block has had all feeds that were brought to it, once nothing is queued.
use Rattle.std.proofs.Common.{◌≡◌, ℕ, ◌+◌, true, List, [], ◌∷◌, length, refl, ap, arith}
use Rattle.perimeter_core.specs.declared.entries.Entry.{Entry}
use Rattle.perimeter_core.specs.declared.marks.Own.TheVariants.{Free, Out}
use Rattle.perimeter_core.specs.Perimeter.{State, is_here}
use Rattle.perimeter_core.specs.History.{Element, Setting, run}
use Rattle.perimeter_core.specs.Deeds.{acts, due, fed, feeds_of}
use Rattle.perimeter_core.specs.Legal.{Legal}
use Rattle.perimeter_core.specs.Backlog.{queue, WakeKept}
use Rattle.perimeter_core.specs.Ending.{IsOver}
use Rattle.perimeter_core.proofs.NextFeed.{had}
use Rattle.perimeter_core.proofs.OrderAndWake.{sound, wake_of_sound}

-- a state in which nobody has the perimeter has no hand
no_hand : (s : State) → WakeKept s → s.own ≡ Free → s.hand ≡ []
no_hand s kept free = by s.hand kept.hand
  where
    by : (hand : List Entry) → ((hand ≡ [] → ⊥) → (p : ℕ) × (s.own ≡ Out p)) → hand ≡ []
    by [] h = refl
    by (e ∷ es) h = let out = h (λ (bad : e ∷ es ≡ []). cc) in let is = out.1 in absurd (cc (free, is))

pub all_fed : (S : Setting) (H : List Element) (c : ℕ) → Legal S H → IsOver S (run S H) → is_here (run S H) c ≡ true → fed (acts S H c) ≡ due H c
all_fed S H c l over here =
    let none : queue (run S H) ≡ [] = rw (no_hand (run S H) (wake_of_sound (run S H) (sound S H l)) over.free, over.empty) refl in
    let missing : fed (acts S H c) + length (feeds_of c (queue (run S H))) ≡ due H c = had S c H l here in
    let last : length (feeds_of c (queue (run S H))) ≡ 0 = ap (λ (es : List Entry). length (feeds_of c es)) none in
    omega (arith, missing, last)
