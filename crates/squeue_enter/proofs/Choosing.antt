-- The way that an entry goes, by what its turn tells.
use Rattle.std.specs.Prelude.{slice_index_or}
use Rattle.std.proofs.Common.{◌≡◌, ℕ, Bool, true, false, nat_eq, List, [], ◌∷◌, length, refl, ap, sym, ◌∙◌, arith}
use Rattle.std.proofs.lemmas.Bool.Decides.{nat_tests}
use Rattle.perimeter_core.specs.declared.entries.Feed.{Feed}
use Rattle.perimeter_core.specs.declared.marks.Own.{Own}
use Rattle.perimeter_core.specs.Perimeter.{State, is_free, is_empty}
use Rattle.perimeter_core.specs.History.{Element, Limits, run}
use Rattle.squeue_state.specs.Naming.{Named, setting_of}
use Rattle.squeue_drain.proofs.Deciding.{same_state}
use Rattle.histories.specs.declared.mode.Mode.{Mode}
use Rattle.histories.specs.declared.mode.Mode.TheVariants.{Process, NoDrain, Fill}
use Rattle.squeue_enter.specs.declared.entering.Way.{Way}
use Rattle.squeue_enter.specs.declared.entering.Way.TheVariants as Way'
use Rattle.squeue_enter.specs.Ways.{way_of, is_one}

empty_is : {A : Type 0} (xs : List A) (n : ℕ) → n ≡ length xs → nat_eq n 0 ≡ is_empty xs
empty_is [] n h = grind (arith, nat_tests)
empty_is (x ∷ xs) n h = grind (arith, nat_tests)

one_is : (fs : List Feed) → nat_eq (length fs) 1 ≡ is_one fs
one_is [] = grind (arith, nat_tests)
one_is (f ∷ []) = grind (arith, nat_tests)
one_is (f ∷ g ∷ fs) = grind (arith, nat_tests)

pub empty_was : {A : Type 0} (xs : List A) → is_empty xs ≡ true → xs ≡ []
empty_was [] h = refl
empty_was (x ∷ xs) h = absurd cc

pub one_was : (fs : List Feed) (d : Feed) → is_one fs ≡ true → fs ≡ slice_index_or fs 0 d ∷ []
one_was [] d h = absurd cc
one_was (f ∷ []) d h = refl
one_was (f ∷ g ∷ fs) d h = absurd cc

pub lone : (m : Mode) (a b c : Bool) (w : Way) → way_of m a b c ≡ w → (w ≡ Way'.Fast) → (a ≡ true) × (b ≡ true) × (c ≡ true)
lone Process true true true w h e = (refl, refl, refl)
lone Process true true false w h e = absurd (cc (h, e))
lone Process true false c w h e = absurd (cc (h, e))
lone Process false b c w h e = absurd (cc (h, e))
lone NoDrain true true true w h e = (refl, refl, refl)
lone NoDrain true true false w h e = absurd (cc (h, e))
lone NoDrain true false c w h e = absurd (cc (h, e))
lone NoDrain false b c w h e = absurd (cc (h, e))
lone Fill a b c w h e = absurd (cc (h, e))

pub lone_too : (m : Mode) (a b c : Bool) (w : Way) → way_of m a b c ≡ w → (w ≡ Way'.Alone) → (a ≡ true) × (b ≡ true) × (c ≡ true)
lone_too Process true true true w h e = (refl, refl, refl)
lone_too Process true true false w h e = absurd (cc (h, e))
lone_too Process true false c w h e = absurd (cc (h, e))
lone_too Process false b c w h e = absurd (cc (h, e))
lone_too NoDrain true true true w h e = (refl, refl, refl)
lone_too NoDrain true true false w h e = absurd (cc (h, e))
lone_too NoDrain true false c w h e = absurd (cc (h, e))
lone_too NoDrain false b c w h e = absurd (cc (h, e))
lone_too Fill a b c w h e = absurd (cc (h, e))

pub claims : (m : Mode) (a b c : Bool) (w : Way) → way_of m a b c ≡ w → (w ≡ Way'.Claim) → a ≡ true
claims Process true b c w h e = refl
claims Process false b c w h e = absurd (cc (h, e))
claims NoDrain true true true w h e = refl
claims NoDrain true true false w h e = refl
claims NoDrain true false c w h e = refl
claims NoDrain false b c w h e = absurd (cc (h, e))
claims Fill a b c w h e = absurd (cc (h, e))

-- what the turn tells is what the way goes by
pub chosen : {R : Type 0} (limits : R → Limits) (t s : Named R) (h : List Element) (m : Mode) (es : List Feed) (o : Own) (woke : Bool) (n : ℕ) (w : Way) → t ≡ s
    → o ≡ (run (setting_of limits t.given) h).own → woke ≡ is_free o → n ≡ length (run (setting_of limits t.given) h).chain → w ≡ way_of m woke (nat_eq n 0) (nat_eq (length es) 1)
    → way_of m (is_free (run (setting_of limits s.given) h).own) (is_empty (run (setting_of limits s.given) h).chain) (is_one es) ≡ w
chosen limits t s h m es o woke n w same own wakes count is =
    let st = same_state limits t s h same in
    let free : woke ≡ is_free (run (setting_of limits s.given) h).own = wakes ∙ ap is_free (own ∙ ap (λ (x : State). x.own) st) in
    let empty : nat_eq n 0 ≡ is_empty (run (setting_of limits s.given) h).chain = empty_is (run (setting_of limits s.given) h).chain n (count ∙ ap (λ (x : State). length x.chain) st) in
    sym (is ∙ (ap (λ (a : Bool). way_of m a (nat_eq n 0) (nat_eq (length es) 1)) free
    ∙ (ap (λ (b : Bool). way_of m (is_free (run (setting_of limits s.given) h).own) b (nat_eq (length es) 1)) empty
    ∙ ap (λ (c : Bool). way_of m (is_free (run (setting_of limits s.given) h).own) (is_empty (run (setting_of limits s.given) h).chain) c) (one_is es))))
