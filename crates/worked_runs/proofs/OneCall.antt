-- What is written out with a call was done.
use Rattle.std.specs.Prelude.{◌≡◌, ℕ, zero, suc, ◌%◌, Bool, true, false, ◌&&◌, [], ◌∷◌, ◌==◌, None, Some, length, map, nat_lt, slice_get}
use Rattle.std.specs.List.{range_with_len}
use Rattle.std.proofs.Common.{refl, sym, subst, ap, ◌∙◌, arith}
use Rattle.std.proofs.lemmas.Bool.Decides.{nat_tests}
use Rattle.perimeter_core.specs.Blocks.{peri}
use Rattle.perimeter_core.specs.Ending.{IsOver}
use Rattle.perimeter_core.specs.History.{run}
use Rattle.perimeter_core.specs.Legal.{Legal}
use Rattle.placed_parts.specs.Placing.{MayBe, Stands, shared_of, size_of}
use Rattle.placed_parts.specs.Standing.{PlaceAt, PlacesStand, first_here}
use Rattle.placed_parts.specs.declared.parts.Parts.{Ghosts}
use Rattle.placed_parts.specs.declared.places.Places.{Places}
use Rattle.histories.specs.declared.mode.Mode.TheVariants as Mode'
use Rattle.histories.specs.Keeping.{KeepsPace}
use Rattle.histories.specs.Runs.{brought, place}
use Rattle.squeue_rings.specs.Made.{once_on}
use Rattle.squeue_rings.specs.Doing.{called_by}
use Rattle.squeue_pool.specs.Calls.{HadAll, HadBoth, HaveHadAll, WasDoneBy, called_work, limits_for}
use Rattle.squeue_pool.specs.Counting.{times_called}
use Rattle.squeue_pool.specs.Finishing.{HasFinished, LayIn}
use Rattle.squeue_pool.specs.Keeping.{PassesKeep}
use Rattle.squeue_pool.specs.Placed.{AreNew, IsNewAt, as_resident}
use Rattle.squeue_pool.specs.Runs.{HasRun, IsHereOnce, IsLeft, list_for, made_in_all}
use Rattle.squeue_pool.specs.Works.{WorkOf}
use Rattle.squeue_pool.specs.declared.work.Left.{Left}
use Rattle.worked_runs.specs.OneCall.{AreResidents, calls, counts, ending, finished, history, no_trace, order, pool, setting}
use Rattle.worked_runs.proofs.OneConnection.{Stayed, is_zero, linked, noted, only}

stayed : Stayed setting history order
stayed = record { starts = refl; one_stay = refl }

pub no_third : (a b : Bool) → b ≡ false → (a && (true && b)) ≡ false
no_third true b is = is
no_third false b is = refl

pub no_second : (a b d : Bool) → b ≡ false → (a && (b && d)) ≡ false
no_second true b d is = rw is refl
no_second false b d is = refl

-- nobody is behind the only connection
pub no_more : (c : ℕ) → first_here 1 0 1 (suc c) ≡ None
no_more c = let behind : nat_lt (suc c) 1 ≡ false = grind (arith, nat_tests) in rw behind refl

-- the only thread makes its only call once, and no other
called : (c j k : ℕ) → made_in_all c j k (ending ∷ []) ≡ once_on (called_by calls j) c k
called zero zero zero = refl
called (suc c) zero zero = let other : (0 == suc c) ≡ false = grind (arith, nat_tests) in rw other refl
called c zero (suc k) = let other : ((0 == c) && ((0 == 0) && (0 == suc k))) ≡ false = no_third (0 == c) (0 == suc k) (grind (arith, nat_tests)) in rw other refl
called c (suc j) k = let other : ((0 == c) && ((0 == suc j) && (0 == k))) ≡ false = no_second (0 == c) (0 == suc j) (0 == k) (grind (arith, nat_tests)) in rw other refl

-- and it stands among the acts once
called_once : (j k : ℕ) → times_called j k order ≡ once_on (called_by calls j) 0 k
called_once zero zero = refl
called_once zero (suc k) = let other : ((0 == 0) && (0 == suc k)) ≡ false = grind (arith, nat_tests) in rw other refl
called_once (suc j) k = let other : ((0 == suc j) && (0 == k)) ≡ false = no_second true (0 == suc j) (0 == k) (grind (arith, nat_tests)) in rw other refl

module _ {S P O : Type 0} (G : Ghosts S P O) (shared : S) (first last : Places S P O G) (new part : P) (are : AreResidents G shared first last new part) where
  abbrev left : Left (Places S P O G)
  left = record { resident = last; end = ending; trace = no_trace }

  own_new : MayBe first 0 new []
  own_new = (subst (λ s. G.is_part_of (G.origin s) 0 new) (sym are.shared_first) are.is_new.0, (refl, are.is_new.1))

  own_part : MayBe last 0 part order
  own_part = (subst (λ s. G.is_part_of (G.origin s) 0 part) (sym are.shared_last) are.stands.0, (refl, are.stands.1))

  at_first : (c : ℕ) → PlaceAt (MayBe first) c (slice_get (Some new ∷ []) c) (first_here 1 0 1 c)
  at_first zero = own_new
  at_first (suc c) = rw (no_more c) tt

  at_last : (c : ℕ) → PlaceAt (MayBe last) c (slice_get (Some part ∷ []) c) (peri setting history c)
  at_last zero = own_part
  at_last (suc c) = tt

  stands_first : Stands first (first_here 1 0 1)
  stands_first = subst (λ ps. PlacesStand (MayBe first) ps (first_here 1 0 1)) (sym are.lies) at_first

  stands_last : Stands last (peri setting history)
  stands_last = subst (λ ps. PlacesStand (MayBe last) ps (peri setting history)) (sym are.lies_then) at_last

  limits_are : (p : Places S P O G) → shared_of p ≡ shared → limits_for counts calls ≡ G.limits (shared_of p)
  limits_are p is = sym (ap G.limits is ∙ are.limits)

  module _ (legal : Legal setting history) (over : IsOver setting (run setting history)) (keeps : KeepsPace 1 0 Mode'.Process 64 0 setting 0 history) (passes : PassesKeep Mode'.Process ending) where
    is_new : IsNewAt shared 1 1 0 first
    is_new = record { stands = stands_first; size = ap length are.lies; shared_is = are.shared_first }

    are_new : AreNew shared 1 1 (first ∷ [])
    are_new = record {
      as_many = refl;
      each = λ q r at. let o = only first r q at in subst (λ k. IsNewAt shared 1 1 k r) (sym o.0) (subst (IsNewAt shared 1 1 0) o.1 is_new);
    }

    abbrev w : WorkOf (Places S P O G)
    w = called_work 1 1 counts calls (first ∷ [])

    sized : 1 ≡ size_of first
    sized = sym (ap length are.lies)

    is_left : IsLeft (as_resident G) pool w 0 first left
    is_left = record {
      number = refl;
      setting = λ i. record { rings = 1; quotas = (2, 4) ∷ (0, 3) ∷ []; starts = map (λ c. c % 1 == 0) (range_with_len 0 (sized i)); limits = limits_are first are.shared_first i };
      ended = record { legal = legal; over = over };
      keeps = λ r lt. subst (λ k. KeepsPace 1 0 Mode'.Process 64 0 setting k history) (sym (is_zero r lt)) keeps;
      stands = stands_last;
      limits = ap G.limits (are.shared_last ∙ sym are.shared_first);
      size = ap length are.lies_then;
      origin = ap G.origin (are.shared_last ∙ sym are.shared_first);
      trace = refl;
    }

    each : (q : ℕ) (r : Places S P O G) (v : Left (Places S P O G)) → slice_get (first ∷ []) q ≡ Some r → slice_get (left ∷ []) q ≡ Some v
        → IsLeft (as_resident G) pool w q r v
    each q r v at there =
        let o = only first r q at in
        let l = only left v q there in
        subst (λ k. IsLeft (as_resident G) pool w k r v) (sym o.0) (subst (λ x. IsLeft (as_resident G) pool w 0 x v) o.1 (subst (λ y. IsLeft (as_resident G) pool w 0 first y) l.1 is_left))

    once : IsHereOnce (ending ∷ []) 0 0 2
    once = record {
      end = ending;
      is_end = refl;
      here = refl;
      feeds = refl;
      nowhere_else = λ k e other at. absurd (other (only ending e k at).0);
    }

    has_run : HasRun (as_resident G) pool w (left ∷ [])
    has_run = record {
      count = refl;
      each = each;
      linked = linked setting history order stayed legal;
      noted = noted setting history order stayed legal;
      here = λ c lt. subst (λ k. IsHereOnce (ending ∷ []) k (place 1 0 k (list_for w.lists 1 k)) (brought k (list_for w.lists 1 k))) (sym (is_zero c lt)) once;
      called = called;
      keep = λ q e at. subst (PassesKeep Mode'.Process) (only ending e q at).1 passes;
    }

    lies : LayIn (as_resident G) (left ∷ []) 0 part
    lies = record {
      q = 0;
      left = left;
      is_left = refl;
      here = refl;
      own = subst (λ s. G.is_part_of (G.origin s) 0 part) (sym are.shared_last) are.stands.0;
      stands = (refl, are.stands.1);
    }

    has_finished : HasFinished (as_resident G) pool w (finished part)
    has_finished = record {
      left = left ∷ [];
      ran = has_run;
      ended = refl;
      traces = refl;
      count = refl;
      each = λ c lt. subst (λ k. (x : P) × (slice_get (Some part ∷ []) k ≡ Some (Some x)) × LayIn (as_resident G) (left ∷ []) k x) (sym (is_zero c lt)) (part, refl, lies);
    }

    pub was_done : WasDoneBy G shared counts calls pool (finished part)
    was_done = record { residents = first ∷ []; new = are_new; finished = has_finished }

    had_both : HadBoth (G.part_stands part) 2 calls 0
    had_both = record { had = order; stands = are.stands.1; numbered = refl; fed_all = refl; called_all = called_once }

    had_all : HadAll G shared counts calls (finished part) 0
    had_all = record { part = part; lies = refl; own = are.stands.0; had = had_both }

    pub have_had : HaveHadAll G shared counts calls (finished part)
    have_had = record { count = refl; each = λ c lt. subst (HadAll G shared counts calls (finished part)) (sym (is_zero c lt)) had_all }
