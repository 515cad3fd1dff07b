-- The stays of linked histories, one after another.
use Rattle.std.proofs.Common.{◌≡◌, ℕ, zero, suc, ◌+◌, ◌-◌, ◌*◌, ◌/◌, ◌%◌, ◌<◌, ◌≤◌, ◌==◌, Bool, true, false, Option, Some, None, List, [], ◌++◌, length, refl, ap, sym, ◌∙◌, subst, add-one, add-zero, arith, nat_le}
use Rattle.std.specs.Prelude.{slice_get}
use Rattle.std.proofs.lemmas.Bool.Decides.{nat_tests}
use Rattle.std.proofs.lemmas.Nat.{div-mul-add, mod-mul-add, div-add-mod'}
use Rattle.std.proofs.lemmas.Option.{slice_get_within, slice_get_past}
use Rattle.std.proofs.Math.Nat.{mod-lt, zero-div}
use Rattle.perimeter_core.specs.declared.entries.Act.{Act}
use Rattle.perimeter_core.specs.Perimeter.{is_here}
use Rattle.perimeter_core.specs.History.{run}
use Rattle.perimeter_core.specs.Deeds.{acts}
use Rattle.histories.specs.Endings.{Ending}
use Rattle.histories.specs.Stays.{Stay, Stays, as_list, all_in, stays, stays_in, stays_at, stay, ended_stay, AreLegal, StartsAtHome, IsLinked, own_of, joined, AreOfAllStays}
use Rattle.histories.proofs.OneSqueue.{IsSound, AreSound, GoesOnWith, Fits, all_sound, fits, BeginsWithNothing, begins, sound_at, first_note, in_front, next_one, some_of}

sound_in : (o : Option Ending) (c : ℕ) → ((h : Ending) → o ≡ Some h → Fits (is_here (run h.setting h.history) c) (acts h.setting h.history c) (stays h.setting h.history c)) → AreSound (all_in (stays_in o c))
sound_in None c f = tt
sound_in (Some h) c f = all_sound (f h refl)

module _ (hs : List Ending) (c : ℕ) (legal : AreLegal hs) (home : StartsAtHome hs c) (linked : IsLinked hs c) where
  is_sound : (s : ℕ) (v : Stay) → stay hs c s ≡ Some v → IsSound v
  is_sound s v at = sound_at (all_in (stays_at hs c s)) (s / length hs) v (sound_in (slice_get hs ((c + s) % length hs)) c (λ h e. fits h.setting c h.history (legal ((c + s) % length hs) h e))) at

  is_stay : (s : ℕ) (v : Stay) → ended_stay hs c s ≡ Some v → stay hs c s ≡ Some v
  is_stay s v at = in_front (stays_at hs c s).ended (as_list (stays_at hs c s).now) (s / length hs) v at

  first_in : (o : Option Ending) (v : Stay) → ((h : Ending) → o ≡ Some h → BeginsWithNothing (all_in (stays h.setting h.history c))) → slice_get (all_in (stays_in o c)) 0 ≡ Some v → v.note ≡ []
  first_in None v b at = absurd (cc at)
  first_in (Some h) v b at = first_note (all_in (stays h.setting h.history c)) v (b h refl) at

  first : (v : Stay) → stay hs c 0 ≡ Some v → v.note ≡ []
  first v at =
      let place : (c + 0) % length hs ≡ c % length hs = ap (λ (n : ℕ). n % length hs) (add-zero c) in
      let none : 0 / length hs ≡ 0 = zero-div (length hs) in
      first_in (slice_get hs (c % length hs)) v
      (λ h e. let same : (c % length hs == c % length hs) ≡ true = grind (arith, nat_tests) in begins h.setting c h.history (home (c % length hs) h e ∙ same))
      (subst (λ (i : ℕ). slice_get (all_in (stays_in (slice_get hs (c % length hs)) c)) i ≡ Some v) none (subst (λ (q : ℕ). slice_get (all_in (stays_in (slice_get hs q) c)) (0 / length hs) ≡ Some v) place at))

  -- a stay came with what was done in those before it
  note_is : (s : ℕ) (v : Stay) → stay hs c s ≡ Some v → v.note ≡ joined hs c s
  note_is zero v at = first v at
  note_is (suc s) v at =
      let last = linked s v (rw add-one at) in
      let u = last.0 in
      let here : stay hs c s ≡ Some u = is_stay s u last.1 in
      last.2 ∙ (is_sound s u here ∙ (ap (λ (xs : List Act). xs ++ u.own) (note_is s u here) ∙ ap (λ (o : Option Stay). joined hs c s ++ own_of o) (sym here)))

  had_is : (s : ℕ) (v : Stay) → stay hs c s ≡ Some v → v.had ≡ joined hs c (s + 1)
  had_is s v at = rw add-one (is_sound s v at ∙ (ap (λ (xs : List Act). xs ++ v.own) (note_is s v at) ∙ ap (λ (o : Option Stay). joined hs c s ++ own_of o) (sym at)))

  -- before each stay there were those with smaller numbers
  before : (s d : ℕ) (v : Stay) → stay hs c (s + d) ≡ Some v → (u : Stay) × (stay hs c s ≡ Some u)
  before s zero v at = (v, subst (λ (n : ℕ). stay hs c n ≡ Some v) (add-zero s) at)
  before s (suc d) v at =
      let n : s + suc d ≡ s + d + 1 = omega arith in
      let last = linked (s + d) v (subst (λ (n : ℕ). stay hs c n ≡ Some v) n at) in
      before s d last.0 (is_stay (s + d) last.0 last.1)

  none_or : (o : Option Stay) → ((v : Stay) → o ≡ Some v → ⊥) → o ≡ None
  none_or None h = refl
  none_or (Some v) h = absurd (h v refl)

  -- no stay follows one that hasn't ended
  none_next : (s : ℕ) → ended_stay hs c s ≡ None → stay hs c (s + 1) ≡ None
  none_next s stays_open = none_or (stay hs c (s + 1)) (λ v at. let last = linked s v at in cc (stays_open, last.1))

  not_ended : (s : ℕ) → stay hs c s ≡ None → ended_stay hs c s ≡ None
  not_ended s none = none_or (ended_stay hs c s) (λ v at. let here = is_stay s v at in cc (none, here))

  none_after : (s d : ℕ) → ended_stay hs c s ≡ None → stay hs c (s + 1 + d) ≡ None
  none_after s zero stays_open = subst (λ (n : ℕ). stay hs c n ≡ None) (sym (add-zero (s + 1))) (none_next s stays_open)
  none_after s (suc d) stays_open =
      let n : s + 1 + d + 1 ≡ s + 1 + suc d = omega arith in
      subst (λ (n : ℕ). stay hs c n ≡ None) n (none_next (s + 1 + d) (not_ended (s + 1 + d) (none_after s d stays_open)))

-- which of the first n numbers leads from c to q
record Step (n c q : ℕ) : Type 0 where
  offset : ℕ
  rounds : ℕ
  below : offset < n
  leads : c + offset ≡ rounds * n + q

step : (n c q : ℕ) → q < n → Step n c q
step n c q lt = by_test (nat_le (c % n) q) refl
  where
    by_test : (b : Bool) → nat_le (c % n) q ≡ b → Step n c q
    by_test true e =
        let le : c % n ≤ q = grind (arith, nat_tests) in
        record { offset = q - c % n; rounds = c / n; below = omega (arith, lt, le); leads = omega (arith, div-add-mod' c n, le) }
    by_test false e =
        let gt : q < c % n = grind (arith, nat_tests) in
        let small : c % n < n = mod-lt c (omega (arith, lt)) in
        record { offset = q + n - c % n; rounds = c / n + 1; below = omega (arith, gt, small); leads = omega (arith, div-add-mod' c n, gt, small) }

had_now : (had : List Act) (o : Option Stay) (v : Stay) → o ≡ Some v → GoesOnWith had o → v.had ≡ had
had_now had None v is h = absurd (cc is)
had_now had (Some w) v is h = let e : w ≡ v = cc is in rw (← e) h.0

pub all_stays : (hs : List Ending) (c q : ℕ) (h : Ending) → AreLegal hs → StartsAtHome hs c → IsLinked hs c → slice_get hs q ≡ Some h → is_here (run h.setting h.history) c ≡ true → AreOfAllStays hs c (acts h.setting h.history c)
all_stays hs c q h legal home linked at here =
    let n = length hs in
    let v = stays h.setting h.history c in
    let f = fits h.setting c h.history (legal q h at) in
    let now = some_of v.now (sym here ∙ f.is_now) in
    let lt : q < length hs = slice_get_within hs q h at in
    let go = step (length hs) c q lt in
    let s : ℕ = length v.ended * length hs + go.offset in
    let sum : c + s ≡ (go.rounds + length v.ended) * length hs + q = omega (arith, go.leads) in
    let place : (c + s) % length hs ≡ q = ap (λ (k : ℕ). k % length hs) sum ∙ mod-mul-add (go.rounds + length v.ended) (length hs) q lt in
    let number : s / length hs ≡ length v.ended = div-mul-add (length v.ended) (length hs) go.offset go.below in
    let same : stays_at hs c s ≡ v = ap (λ (k : ℕ). stays_in (slice_get hs k) c) place ∙ ap (λ (o : Option Ending). stays_in o c) at in
    let is : stay hs c s ≡ Some now.0 =
    ap (λ (w : Stays). slice_get (all_in w) (s / length hs)) same ∙ (ap (λ (k : ℕ). slice_get (all_in v) k) number ∙ (ap (λ (o : Option Stay). slice_get (v.ended ++ as_list o) (length v.ended)) now.1 ∙ next_one v.ended now.0)) in
    let goes_on : ended_stay hs c s ≡ None = ap (λ (w : Stays). slice_get w.ended (s / length hs)) same ∙ slice_get_past v.ended (s / length hs) (omega (arith, number)) in
    record {
      count = s + 1;
      each = λ k lt. let e : s ≡ k + (s - k) = omega (arith, lt) in before hs c legal home linked k (s - k) now.0 (subst (λ (m : ℕ). stay hs c m ≡ Some now.0) e is);
      none_else = λ k le. let e : s + 1 + (k - (s + 1)) ≡ k = omega (arith, le) in subst (λ (m : ℕ). stay hs c m ≡ None) e (none_after hs c legal home linked s (k - (s + 1)) goes_on);
      are_joined = sym (had_now (acts h.setting h.history c) v.now now.0 now.1 f.now_had) ∙ had_is hs c legal home linked s now.0 is;
    }
