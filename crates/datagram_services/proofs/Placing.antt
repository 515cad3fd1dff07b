-- Blocks at their places: one that goes on by a feed or is called, and new ones.
use Rattle.std.proofs.Common.{◌≡◌, ℕ, zero, suc, ◌+◌, ◌<◌, Bool, true, false, ◌==◌, Option, Some, None, List, [], ◌∷◌, ◌++◌, length, map, slice_get, slice_set, slice_index, ap, sym, ◌∙◌, subst, arith, refl}
use Rattle.std.proofs.lemmas.List.{append-nil}
use Rattle.perimeter_core.specs.declared.entries.Act.{Act}
use Rattle.perimeter_core.specs.declared.entries.Act.TheVariants as Did
use Rattle.perimeter_core.specs.declared.entries.Entry.TheVariants as Entry'
use Rattle.perimeter_core.specs.Deeds.{fed, feed_numbers}
use Rattle.perimeter_core.specs.declared.marks.SynchAct.TheVariants as Done
use Rattle.perimeter_core.specs.Blocks.{Blocks, longer, with_feeds, with_act, fresh}
use Rattle.perimeter_core.specs.Residing.{HadFeeds}
use Rattle.perimeter_core.specs.Backlog.{up}
use Rattle.perimeter_core.proofs.FeedLists.{length-up}
use Rattle.perimeter_core.proofs.ActLists.{fed_is, feed_numbers-append, up_next}
use Rattle.placed_parts.proofs.PlaceSteps as Steps
use Rattle.stream_plan.specs.Sound.{IsMorePlan, IsStream}
use Rattle.stream_plan.specs.Streams.{MorePlanOf, StreamOf, item_count}
use Rattle.stream_plan.proofs.PlanFacts.{one_of_all}
use Rattle.datagram_services.specs.Standing.{BlockAt, FirstFits, HasHad, IsPartOf, PlaceFits, PlacesStand}
use Rattle.datagram_services.specs.declared.block.StreamBlock.{StreamBlock}
use Rattle.datagram_services.proofs.OneMore.{nothing_served}

-- a block has had as many feeds as its acts have
pub had_is : (k : StreamBlock) (had : List Act) → HasHad k had → fed had ≡ k.had
had_is k had h = fed_is had ∙ (ap length h ∙ length-up 0 k.had)

module _ (p : MorePlanOf) where
  -- the block that has had n feeds
  pub its_block : (places : List (Option StreamBlock)) (c n : ℕ) (k : StreamBlock) → slice_get places c ≡ Some (Some k) → HadFeeds (PlacesStand p places) c n → IsPartOf p c k × (k.had ≡ n)
  its_block places c n k e h = let was = Steps.had_feeds (BlockAt p) places c n k e h in (was.stands.0, sym (had_is k was.had was.stands.1) ∙ was.feeds)

  -- one feed more
  pub feed_stands : (places : List (Option StreamBlock)) (blocks : Blocks) (c n : ℕ) (k next : StreamBlock) → c < length places → slice_get places c ≡ Some (Some k) → HadFeeds (PlacesStand p places) c n
      → next.had ≡ k.had + 1 → IsPartOf p c next → PlacesStand p places blocks → PlacesStand p (slice_set places c (Some next)) (with_feeds (Entry'.Feed c n ∷ []) blocks)
  feed_stands places blocks c n k next lt e had more part old =
      let was : k.had ≡ n = (its_block places c n k e had).1 in
      let now : next.had ≡ n + 1 = omega (arith, was, more) in
      Steps.feed_stands (BlockAt p) places blocks c n k next lt e
      (λ acts h. (part, feed_numbers-append acts (Did.Feed n ∷ []) ∙ (ap (λ ns. ns ++ n ∷ []) h.1 ∙ (rw (was, now) (up_next n))))) old

  -- a call changes nothing
  longer_fits : (c j i : ℕ) (o : Option (Option StreamBlock)) (b : Option (List Act)) → PlaceFits p c o b → PlaceFits p c o (longer (Did.Call j i ∷ []) b)
  longer_fits c j i (Some (Some k)) (Some had) h = (h.0, feed_numbers-append had (Did.Call j i ∷ []) ∙ (append-nil (feed_numbers had) ∙ h.1))
  longer_fits c j i (Some (Some k)) None h = h
  longer_fits c j i (Some None) (Some had) h = h
  longer_fits c j i (Some None) None h = h
  longer_fits c j i None (Some had) h = h
  longer_fits c j i None None h = h

  pub call_stands : (places : List (Option StreamBlock)) (blocks : Blocks) (c j i : ℕ) → PlacesStand p places blocks → PlacesStand p places (with_act (Done.Call c j i) [] blocks)
  call_stands places blocks c j i old d = by (c == d) refl
    where
      by : (b : Bool) → (c == d) ≡ b → PlaceFits p d (slice_get places d) (with_act (Done.Call c j i) [] blocks d)
      by true e = rw e (longer_fits d j i (slice_get places d) (blocks d) (old d))
      by false e = rw e (old d)

  -- what lies at a place at first
  pub first_fits : (c : ℕ) (v : Option StreamBlock) (here : Bool) → IsMorePlan p → FirstFits v here → PlaceFits p c (Some v) (fresh here)
  first_fits c (Some k) here sound f =
      rw f.0 ((λ s e w. nothing_served p.file s k (one_of_all (IsStream p.file) p.streams c s sound.each e) f.1), sym (ap (up 0) f.1.none_had))
  first_fits c None here sound f = rw f tt

pub limit_is : (p : MorePlanOf) (c n : ℕ) (s : StreamOf) → slice_get p.streams c ≡ Some s → n < slice_index (map item_count p.streams) c → n < item_count s
limit_is p c n s e lt = at p.streams c e lt
  where
    at : (ss : List StreamOf) (c : ℕ) → slice_get ss c ≡ Some s → n < slice_index (map item_count ss) c → n < item_count s
    at [] c e lt = absurd (let no : ⊥ = cc in no)
    at (x ∷ ss) zero e lt = let same : x ≡ s = cc in subst (λ (y : StreamOf). n < item_count y) same lt
    at (x ∷ ss) (suc c) e lt = at ss c e lt
