-- What the new passes of a ring know.
use Rattle.std.proofs.Common.{◌≡◌, ℕ, ◌+◌, ◌/◌, ◌%◌, ◌<◌, ◌≤◌, ◌==◌, Bool, true, false, if◌then◌else◌, Option, Some, List, [], length, slice_get, refl, ap, sym, ◌∙◌, subst, add-zero, arith}
use Rattle.std.proofs.Math.Nat.{zero-div}
use Rattle.turn_gate.specs.History.{Each}
use Rattle.turn_gate.specs.Passes.{seen}
use Rattle.turn_gate.specs.declared.pass.Pass.{Pass}
use Rattle.perimeter_core.specs.Perimeter.{Idle, is_here}
use Rattle.perimeter_core.specs.History.{Element, Limits, run, start}
use Rattle.perimeter_core.specs.Deeds.{due, times_left}
use Rattle.perimeter_core.specs.Legal.{asks_by, feeds_by}
use Rattle.squeue_state.specs.Naming.{Named, setting_of}
use Rattle.squeue_serve.specs.Places.{AtEach, Holds, IsNew}
use Rattle.histories.proofs.ListPlaces.{some_at}
use Rattle.squeue_serve.proofs.Unused.{start_idle, each_at}
use Rattle.histories.specs.Homes.{home}
use Rattle.squeue_rings.specs.Rings.{AreNumbered, RingAt}
use Rattle.squeue_rings.specs.Starts.{StartAtHome}
use Rattle.squeue_rings.specs.Bringing.{AreAt}
use Rattle.squeue_rings.proofs.Reaching.{held, hold}
use Rattle.squeue_rings.proofs.Noting.{noted_first}
use Rattle.squeue_rings.proofs.RingStays.{linked_first}
use Rattle.squeue_rings.proofs.Slots.{at_got, at_length, at_made, within}

-- the place of a connection that has had no feed
first_home : (squeues spread c : ℕ) → home squeues spread c 0 ≡ c % squeues
first_home squeues spread c = by (spread == 0)
  where
    by : (b : Bool) → (if b then c % squeues else (c + 0 / spread) % squeues) ≡ c % squeues
    by true = refl
    by false = ap (λ (k : ℕ). (c + k) % squeues) (zero-div spread) ∙ ap (λ (k : ℕ). k % squeues) (add-zero c)

module _ {R : Type 0} (limits : R → Limits) (squeues spread r : ℕ) (ss : List (Named R)) (places : List (Option (Pass Element)))
    (some : 1 ≤ squeues) (count : length ss ≡ squeues) (numbered : AreNumbered ss)
    (starts : StartAtHome limits squeues ss) (new : AtEach (λ s o. Holds (IsNew r s) o) ss places) where
  long : length places ≡ length ss
  long = at_length (λ s o. Holds (IsNew r s) o) ss places new

  -- the pass of a squeue, which is new
  its_pass : (k : ℕ) (s : Named R) → slice_get ss k ≡ Some s → (x : Pass Element) × (slice_get places k ≡ Some (Some x)) × IsNew r s x
  its_pass k s is =
      let lt = within ss k s is in
      let o = some_at places k (omega (arith, lt, long)) in
      let x = held (IsNew r s) o.0 (at_got (λ s o. Holds (IsNew r s) o) ss places k s o.0 new is o.1) in
      (x.0, o.1 ∙ ap Some x.1, x.2)

  starts_at : (k c : ℕ) (s : Named R) → slice_get ss k ≡ Some s → c < length s.given.starts
      → is_here (start (setting_of limits s.given)) c ≡ (c % squeues == s.given.number)
  starts_at k c s is lt =
      each_at (λ s. (c : ℕ) → c < length s.given.starts → is_here (start (setting_of limits s.given)) c ≡ (c % squeues == s.given.number)) ss k s starts is c lt

  ring_first : (k : ℕ) (s : Named R) (x : Pass Element) → slice_get ss k ≡ Some s → IsNew r s x → RingAt limits squeues spread r [] [] s x
  ring_first k s x is n =
      record {
        pass = n.pass;
        is_number = n.is_number;
        idle = subst (λ (H : List Element). Idle (run (setting_of limits s.given) H) r) (sym n.none_seen) (start_idle (setting_of limits s.given) r);
        feeds = ap (feeds_by r) n.none_seen;
        asks = ap (asks_by r) n.none_seen;
        here = λ c ring lt.
            ap (λ (H : List Element). is_here (run (setting_of limits s.given) H) c) n.none_seen
            ∙ (starts_at k c s is lt ∙ ap (λ (p : ℕ). p == s.given.number) (sym (first_home squeues spread c)));
        next = λ c ring lt at. ap (λ (H : List Element). due H c) n.none_seen;
        left = λ c ring. ap (times_left c) n.none_seen;
      }

  pub none_brought : AreAt limits squeues spread r ss [] [] places
  none_brought =
      record {
        each =
            at_made (λ s o. Holds (RingAt limits squeues spread r [] [] s) o) ss places long
            (λ k s o is it.
            let x = held (IsNew r s) o (at_got (λ s o. Holds (IsNew r s) o) ss places k s o new is it) in
            hold (RingAt limits squeues spread r [] [] s) x.0 o x.1 (ring_first k s x.0 is x.2));
        linked = λ c owned. linked_first limits ss places c (first c owned) (omega (arith, some, count)) long;
        noted = λ c owned. noted_first limits ss c spread places (omega (arith, some, count)) long (first c owned);
      }
    where
      first : (c : ℕ) → Each (λ s. (r ≡ c % s.given.rings) × (c < length s.given.starts)) ss → (k : ℕ) (s : Named R) → slice_get ss k ≡ Some s
          → (x : Pass Element) × (slice_get places k ≡ Some (Some x)) × (seen x ≡ []) × (is_here (start (setting_of limits s.given)) c ≡ (c % length ss == k))
      first c owned k s is =
          let x = its_pass k s is in
          let lt = (each_at (λ s. (r ≡ c % s.given.rings) × (c < length s.given.starts)) ss k s owned is).1 in
          let here : is_here (start (setting_of limits s.given)) c ≡ (c % length ss == k) =
          starts_at k c s is lt ∙ (ap (λ (n : ℕ). c % squeues == n) (numbered k s is) ∙ ap (λ (n : ℕ). c % n == k) (sym count)) in
          (x.0, x.1, x.2.none_seen, here)
