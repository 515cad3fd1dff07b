-- What is written out of work by key was served.
use Rattle.std.specs.Prelude.{◌≡◌, ℕ, zero, suc, ◌%◌, [], ◌∷◌, ◌==◌, Some, length, map, slice_get, slice_index}
use Rattle.std.specs.List.{range_with_len}
use Rattle.std.proofs.Common.{refl, sym, subst, ap, ◌∙◌, arith}
use Rattle.perimeter_core.specs.Blocks.{peri}
use Rattle.perimeter_core.specs.Deeds.{acts, fed}
use Rattle.perimeter_core.specs.Ending.{IsOver}
use Rattle.perimeter_core.specs.History.{run}
use Rattle.perimeter_core.specs.Legal.{Legal}
use Rattle.perimeter_core.specs.Residing.{HadFeeds}
use Rattle.placed_parts.specs.Placing.{MayBe, Stands, origin_of, shared_of, size_of}
use Rattle.placed_parts.specs.Standing.{PlaceAt, PlacesStand, first_here}
use Rattle.placed_parts.specs.declared.parts.Parts.{Ghosts}
use Rattle.placed_parts.specs.declared.places.Places.{Places}
use Rattle.histories.specs.declared.mode.Mode.TheVariants as Mode'
use Rattle.histories.specs.Keeping.{KeepsPace}
use Rattle.histories.specs.Runs.{brought, place}
use Rattle.squeue_pool.specs.Keeping.{PassesKeep}
use Rattle.squeue_pool.specs.Keys.{key_work}
use Rattle.squeue_pool.specs.Placed.{AreNew, HaveHad, IsNewAt, as_resident}
use Rattle.squeue_pool.specs.Runs.{HasRun, IsHereOnce, IsLeft, ends_of, list_for}
use Rattle.squeue_pool.specs.ServedParts.{IsServed, WasServedBy}
use Rattle.squeue_pool.specs.Works.{WorkOf}
use Rattle.squeue_pool.specs.declared.served.ServedParts.{ServedParts}
use Rattle.squeue_pool.specs.declared.work.Left.{Left}
use Rattle.worked_runs.specs.OneCall.{no_trace, pool}
use Rattle.worked_runs.specs.OneKey.{IsLeftOf, counts, ending, history, limits, order, setting, too_short}
use Rattle.worked_runs.proofs.OneConnection.{Stayed, is_zero, linked, noted, only}
use Rattle.worked_runs.proofs.OneCall.{no_more}

stayed : Stayed setting history order
stayed = record { starts = refl; one_stay = refl }

module _ {S P O : Type 0} (G : Ghosts S P O) (v : ServedParts S P O G) (first last : Places S P O G) (new part : P) where
  module _ (are : IsLeftOf G ending v first last new part) where
    abbrev left : Left (Places S P O G)
    left = record { resident = last; end = ending; trace = no_trace }

    own_new : MayBe first 0 new []
    own_new = (subst (λ s. G.is_part_of (G.origin s) 0 new) (sym are.shared_first) are.is_new.0, (refl, are.is_new.1))

    own_part : MayBe last 0 part order
    own_part = (subst (λ s. G.is_part_of (G.origin s) 0 part) (sym are.shared_last) are.stands.0, (refl, are.stands.1))

    at_first : (c : ℕ) → PlaceAt (MayBe first) c (slice_get (Some new ∷ []) c) (first_here 1 0 1 c)
    at_first zero = own_new
    at_first (suc c) = rw (no_more c) tt

    at_last : (c : ℕ) → PlaceAt (MayBe last) c (slice_get (Some part ∷ []) c) (peri setting history c)
    at_last zero = own_part
    at_last (suc c) = tt

    stands_first : Stands first (first_here 1 0 1)
    stands_first = subst (λ ps. PlacesStand (MayBe first) ps (first_here 1 0 1)) (sym are.lies) at_first

    stands_last : Stands last (peri setting history)
    stands_last = subst (λ ps. PlacesStand (MayBe last) ps (peri setting history)) (sym are.lies_then) at_last

    limits_first : limits ≡ G.limits (shared_of first)
    limits_first = sym (ap G.limits are.shared_first ∙ are.limits_are)

    had : HadFeeds (Stands last) 0 2
    had = record { blocks = peri setting history; had = order; stands = stands_last; here = refl; feeds = refl }

    have_had : HaveHad v.shared counts (left ∷ [])
    have_had = record {
      origin = λ q l at. subst (λ x. origin_of x.resident ≡ G.origin v.shared) (only left l q at).1 (ap G.origin are.shared_last);
      size = λ q l at. subst (λ x. size_of x.resident ≡ 1) (only left l q at).1 (ap length are.lies_then);
      had = λ c l lt at.
          subst (λ x. HadFeeds (Stands x.resident) c (slice_index counts c)) (only left l (c % 1) at).1 (subst (λ k. HadFeeds (Stands last) k (slice_index counts k)) (sym (is_zero c lt)) had);
    }

    pub is_served : IsServed v
    is_served = subst (λ ls. HaveHad v.shared v.counts.items ls) (sym are.left) (subst (λ ns. HaveHad v.shared ns (left ∷ [])) (sym are.counts_are) have_had)

    module _ (legal : Legal setting history) (over : IsOver setting (run setting history)) (keeps : KeepsPace 1 0 Mode'.Process 64 0 setting 0 history) (passes : PassesKeep Mode'.Process ending) where
      is_new : IsNewAt v.shared 1 1 0 first
      is_new = record { stands = stands_first; size = ap length are.lies; shared_is = are.shared_first }

      are_new : AreNew v.shared 1 1 (first ∷ [])
      are_new = record {
        as_many = refl;
        each = λ q r at. let o = only first r q at in subst (λ k. IsNewAt v.shared 1 1 k r) (sym o.0) (subst (IsNewAt v.shared 1 1 0) o.1 is_new);
      }

      abbrev w : WorkOf (Places S P O G)
      w = key_work 1 1 counts (first ∷ [])

      sized : 1 ≡ size_of first
      sized = sym (ap length are.lies)

      is_left : IsLeft (as_resident G) pool w 0 first left
      is_left = record {
        number = refl;
        setting = λ i. record { rings = 1; quotas = (2, 0) ∷ []; starts = map (λ c. c % 1 == 0) (range_with_len 0 (sized i)); limits = limits_first i };
        ended = record { legal = legal; over = over };
        keeps = λ r lt. subst (λ k. KeepsPace 1 0 Mode'.Process 64 0 setting k history) (sym (is_zero r lt)) keeps;
        stands = stands_last;
        limits = ap G.limits (are.shared_last ∙ sym are.shared_first);
        size = ap length are.lies_then;
        origin = ap G.origin (are.shared_last ∙ sym are.shared_first);
        trace = refl;
      }

      each : (q : ℕ) (r : Places S P O G) (l : Left (Places S P O G)) → slice_get (first ∷ []) q ≡ Some r → slice_get (left ∷ []) q ≡ Some l
          → IsLeft (as_resident G) pool w q r l
      each q r l at there =
          let o = only first r q at in
          let n = only left l q there in
          subst (λ k. IsLeft (as_resident G) pool w k r l) (sym o.0) (subst (λ x. IsLeft (as_resident G) pool w 0 x l) o.1 (subst (λ y. IsLeft (as_resident G) pool w 0 first y) n.1 is_left))

      once : IsHereOnce (ending ∷ []) 0 0 2
      once = record {
        end = ending;
        is_end = refl;
        here = refl;
        feeds = refl;
        nowhere_else = λ k e other at. absurd (other (only ending e k at).0);
      }

      has_run : HasRun (as_resident G) pool w (left ∷ [])
      has_run = record {
        count = refl;
        each = each;
        linked = linked setting history order stayed legal;
        noted = noted setting history order stayed legal;
        here = λ c lt. subst (λ k. IsHereOnce (ending ∷ []) k (place 1 0 k (list_for w.lists 1 k)) (brought k (list_for w.lists 1 k))) (sym (is_zero c lt)) once;
        called = λ c j k. refl;
        keep = λ q e at. subst (PassesKeep Mode'.Process) (only ending e q at).1 passes;
      }

      pub was_served : WasServedBy pool v
      was_served = record {
        residents = first ∷ [];
        new = subst (λ ns. AreNew v.shared (length ns) 1 (first ∷ [])) (sym are.counts_are) are_new;
        ran = subst (λ ls. HasRun (as_resident G) pool (key_work 1 1 v.counts.items (first ∷ [])) ls) (sym are.left)
            (subst (λ ns. HasRun (as_resident G) pool (key_work 1 1 ns (first ∷ [])) (left ∷ [])) (sym are.counts_are) has_run);
      }

  -- one feed of two isn't all
  fed_once : (first_of : WorkOf (Places S P O G)) (l : Left (Places S P O G)) → l.end ≡ too_short → IsHereOnce (ends_of (l ∷ [])) 0 0 2 → ⊥
  fed_once w l is here =
      let own : too_short ≡ here.end = sym is ∙ (only l.end here.end 0 here.is_end).1 in
      let feeds = subst (λ e. fed (acts e.setting e.history 0) ≡ 2) (sym own) here.feeds in
      cc feeds

  pub one_feed_less : IsLeftOf G too_short v first last new part → WasServedBy pool v → ⊥
  one_feed_less are was =
      let ran = subst (λ ls. HasRun (as_resident G) pool (key_work 1 1 v.counts.items was.residents) ls) are.left was.ran in
      let run_of = subst (λ ns. HasRun (as_resident G) pool (key_work 1 1 ns was.residents) (record { resident = last; end = too_short; trace = no_trace } ∷ [])) are.counts_are ran in
      fed_once (key_work 1 1 counts was.residents) (record { resident = last; end = too_short; trace = no_trace }) refl (run_of.here 0 (omega arith))
