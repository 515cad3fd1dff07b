-- When the work is done, the part of each connection has had all its feeds and all its calls.
use Rattle.std.proofs.Common.{◌≡◌, ◌≢◌, ℕ, ◌+◌, ◌%◌, ◌<◌, ◌≤◌, ◌==◌, Bool, true, false, Some, List, [], length, slice_get, slice_index, refl, ap, sym, ◌∙◌, subst, arith}
use Rattle.std.proofs.lemmas.Bool.Decides.{nat_tests}
use Rattle.std.proofs.lemmas.Option.{slice_get_within}
use Rattle.std.proofs.Math.Nat.{mod-lt}
use Rattle.perimeter_core.specs.declared.entries.Feed.{Feed}
use Rattle.perimeter_core.specs.Deeds.{acts, fed}
use Rattle.placed_parts.specs.declared.parts.Parts.{Ghosts}
use Rattle.placed_parts.specs.declared.places.Places.{Places}
use Rattle.histories.specs.Endings.{Ending}
use Rattle.histories.proofs.ListPlaces.{some_at, got_map}
use Rattle.histories.specs.Runs.{brought, place}
use Rattle.histories.specs.Lists.{list_of}
use Rattle.histories.proofs.RingLists.{has_all}
use Rattle.squeue_pool.specs.declared.pool.Pool.{Pool}
use Rattle.squeue_pool.specs.declared.work.Left.{Left}
use Rattle.squeue_pool.specs.Keys.{key_lists}
use Rattle.squeue_pool.specs.Placed.{AreNew, as_resident}
use Rattle.squeue_pool.specs.Runs.{IsHereOnce, ends_of, list_for}
use Rattle.squeue_pool.specs.Works.{WorkOf}
use Rattle.squeue_pool.proofs.Made.{number_at}
use Rattle.squeue_pool.specs.Finishing.{FinishedOf, HasFinished, LayIn}
use Rattle.squeue_pool.proofs.Called.{calls_of_all}
use Rattle.squeue_pool.specs.Calls.{HadAll, HaveHadAll, called_work}

module _ {S P O : Type 0} (G : Ghosts S P O) (shared : S) (counts : List ℕ) (calls : List (List ℕ)) (pool : Pool) (rs : List (Places S P O G))
    (some_rings : 1 ≤ pool.rings) (new : AreNew shared (length counts) pool.pace.homes.squeues rs) where
  abbrev squeues : ℕ
  squeues = pool.pace.homes.squeues

  abbrev spread : ℕ
  spread = pool.pace.homes.spread

  abbrev rings : ℕ
  rings = pool.rings

  abbrev w : WorkOf (Places S P O G)
  w = called_work squeues rings counts calls rs

  module _ (f : FinishedOf P) (done : HasFinished (as_resident G) pool w f) (c : ℕ) (lt : c < length counts) where
    abbrev vs : List (Left (Places S P O G))
    vs = done.left

    abbrev its_list : List Feed
    its_list = list_for (key_lists rings counts) rings c

    list_here : its_list ≡ list_of rings (c % rings) 0 counts
    list_here =
        let z : 0 + c % rings ≡ c % rings = omega arith in
        number_at (λ r. list_of rings r 0 counts) 0 rings (c % rings) [] (mod-lt c some_rings) ∙ ap (λ (k : ℕ). list_of rings k 0 counts) z

    all_brought : brought c its_list ≡ slice_index counts c
    all_brought = ap (brought c) list_here ∙ has_all rings c counts (c % rings) refl

    once : IsHereOnce (ends_of vs) c (place squeues spread c its_list) (slice_index counts c)
    once = subst (IsHereOnce (ends_of vs) c (place squeues spread c its_list)) all_brought (done.ran.here c lt)

    module _ (part : P) (lies : LayIn (as_resident G) vs c part) where
      its_end : slice_get (ends_of vs) lies.q ≡ Some lies.left.end
      its_end = got_map (λ (v : Left (Places S P O G)). v.end) vs lies.q lies.left lies.is_left

      same_squeue : lies.q ≡ place squeues spread c its_list
      same_squeue = by (lies.q == place squeues spread c its_list) refl
        where
          by : (b : Bool) → (lies.q == place squeues spread c its_list) ≡ b → lies.q ≡ place squeues spread c its_list
          by true e = grind (arith, nat_tests)
          by false e =
              let other : lies.q ≢ place squeues spread c its_list = λ same. (let no : true ≡ false = grind (arith, nat_tests) in cc no) in
              let gone = once.nowhere_else lies.q lies.left.end other its_end in
              absurd (cc (gone, lies.here))

      end_is : once.end ≡ lies.left.end
      end_is =
          let both : Some once.end ≡ Some lies.left.end = sym once.is_end ∙ (ap (slice_get (ends_of vs)) (sym same_squeue) ∙ its_end) in
          cc both

      origin_is : G.origin lies.left.resident.shared ≡ G.origin shared
      origin_is =
          let m = slice_get_within vs lies.q lies.left lies.is_left in
          let first = some_at rs lies.q (omega (arith, m, done.ran.count, new.as_many)) in
          (done.ran.each lies.q first.0 lies.left first.1 lies.is_left).origin ∙ ap G.origin (new.each lies.q first.0 first.1).shared_is

      pub its_part : slice_get f.parts c ≡ Some (Some part) → HadAll G shared counts calls f c
      its_part at =
          record {
            part = part;
            lies = at;
            own = subst (λ (o : O). G.is_part_of o c part) origin_is lies.own;
            had = record {
              had = acts lies.left.end.setting lies.left.end.history c;
              stands = lies.stands.1;
              numbered = lies.stands.0;
              fed_all = subst (λ (e : Ending). fed (acts e.setting e.history c) ≡ slice_index counts c) end_is once.feeds;
              called_all = λ j k.
                  calls_of_all (length counts) (ends_of vs) c lies.q lies.left.end j k done.ran.linked lt its_end lies.here ∙ done.ran.called c j k;
            };
          }

  pub all_had : (f : FinishedOf P) → HasFinished (as_resident G) pool w f → HaveHadAll G shared counts calls f
  all_had f done =
      record {
        count = done.count;
        each = λ c lt. let it = done.each c lt in its_part f done c lt it.0 it.2 it.1;
      }
