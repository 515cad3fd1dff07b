-- An owner that processes the first feed of its hand.
use Rattle.std.proofs.Common.{◌≡◌, ℕ, ◌<◌, true, List, [], ◌∷◌, ◌++◌, length, refl, ap, sym, ◌∙◌, subst, Some}
use Rattle.std.specs.Prelude.{slice_index}
use Rattle.turn_gate.specs.Passes.{seen}
use Rattle.perimeter_core.specs.declared.resident.Resident.{Ghosts}
use Rattle.perimeter_core.specs.declared.entries.Entry.{Entry}
use Rattle.perimeter_core.specs.declared.entries.Entry.TheVariants as Entry'
use Rattle.perimeter_core.specs.declared.marks.SynchAct.{SynchAct}
use Rattle.perimeter_core.specs.Perimeter.{processed, unprocessed}
use Rattle.perimeter_core.specs.History.{Element, Setting, Limits}
use Rattle.perimeter_core.specs.Deeds.{acts, feed_acts}
use Rattle.perimeter_core.specs.Legal.{all_feeds}
use Rattle.perimeter_core.specs.Blocks.{Blocks, peri, with_feeds, with_act}
use Rattle.perimeter_core.specs.Numbered.{FeedFits}
use Rattle.perimeter_core.specs.Residing.{HadFeeds}
use Rattle.perimeter_core.proofs.NextFeed.{feed_fits}
use Rattle.perimeter_core.proofs.FeedActs.{with_twice}
use Rattle.squeue_state.specs.Naming.{Named, Handed, setting_of}
use Rattle.squeue_drain.specs.declared.owner.Owner.{Owner}
use Rattle.squeue_drain.specs.Owning.{Feeds, IsFeedFirst, processed_by, state_of}
use Rattle.squeue_drain.proofs.Hands.{Passed, passed}
use Rattle.histories.proofs.Counts.{feeds_push}

-- the block of a feed that stands first is here, and has had all feeds before it
pub block_at : (S : Setting) (H : List Element) (xs : List Entry) (c n : ℕ) → FeedFits S H xs c n → with_feeds xs (peri S H) c ≡ Some (acts S H c ++ feed_acts c xs)
block_at S H xs c n f = rw f.here refl

module _ {R P O : Type 0} (G : Ghosts R P O) (s : Named R) (o : Owner R) (c n : ℕ) (is : Feeds G s o) (first : IsFeedFirst c n o.hand.left) where
  abbrev S : Setting
  S = setting_of G.limits s.given

  pub step : Passed (state_of G.limits s o).hand o.hand.left first.0 (Entry'.Feed c n)
  step = passed (state_of G.limits s o).hand o.hand.left first.0 (Entry'.Feed c n) is.owns.hand.is_left first.1

  pub fits : FeedFits S (seen o.pass) (processed_by G.limits s o) c n
  fits = feed_fits S (seen o.pass) (processed_by G.limits s o) first.0 c n is.owns.legal step.split

  -- the resident stands for the processed part alone
  pub blocks : Blocks
  blocks = with_feeds (processed_by G.limits s o) (peri S (seen o.pass))

  pub stood : G.stands o.resident (with_feeds (processed_by G.limits s o) (peri S (seen o.pass)))
  stood = subst (λ (act : SynchAct). G.stands o.resident (with_act act [] (with_feeds (processed_by G.limits s o) (peri S (seen o.pass))))) is.no_act is.owns.resident.stands_for

  pub had : HadFeeds (G.stands o.resident) c n
  had =
      record {
        blocks = with_feeds (processed_by G.limits s o) (peri S (seen o.pass));
        had = acts S (seen o.pass) c ++ feed_acts c (processed_by G.limits s o);
        stands = stood;
        here = block_at S (seen o.pass) (processed_by G.limits s o) c n fits;
        feeds = fits.had;
      }

  pub limit : n < slice_index (G.limits o.resident).feeds c
  limit = subst (λ (l : Limits). n < slice_index l.feeds c) (sym is.owns.resident.same_limits) fits.limit

  -- and it goes on by that feed
  pub fed_one : (r : R) (h : Handed) → h.left ≡ first.0 → h.room ≡ o.hand.room
      → ((blocks : Blocks) → G.stands o.resident blocks → G.stands r (with_feeds (Entry'.Feed c n ∷ []) blocks)) → G.limits r ≡ G.limits o.resident → G.size r ≡ G.size o.resident → G.origin r ≡ G.origin o.resident
      → Feeds G s record o { resident = r; hand = h }
  fed_one r h left room more lim sz org =
      let front = processed_by G.limits s o in
      let hand = (state_of G.limits s o).hand in
      let now : processed (length h.left) hand ≡ front ++ Entry'.Feed c n ∷ [] = ap (λ (xs : List Entry). processed (length xs) hand) left ∙ step.more in
      let all : with_feeds (processed (length h.left) hand) (peri S (seen o.pass)) ≡ with_feeds (Entry'.Feed c n ∷ []) (with_feeds front (peri S (seen o.pass))) =
      ap (λ (xs : List Entry). with_feeds xs (peri S (seen o.pass))) now ∙ with_twice front (Entry'.Feed c n ∷ []) (peri S (seen o.pass)) in
      let new : G.stands r (with_feeds (processed (length h.left) hand) (peri S (seen o.pass))) = subst (G.stands r) (sym all) (more (with_feeds front (peri S (seen o.pass))) stood) in
      record {
        owns = record {
          pass = is.owns.pass;
          legal = is.owns.legal;
          own = is.owns.own;
          hand = record {
            is_left = subst (λ (xs : List Entry). xs ≡ unprocessed (length xs) hand) (sym left) step.is_left;
            has_room = room ∙ is.owns.hand.has_room;
          };
          resident = record {
            stands_for = subst (λ (act : SynchAct). G.stands r (with_act act [] (with_feeds (processed (length h.left) hand) (peri S (seen o.pass))))) (sym is.no_act) new;
            same_limits = lim ∙ is.owns.resident.same_limits;
            same_size = sz ∙ is.owns.resident.same_size;
            same_origin = org ∙ is.owns.resident.same_origin;
          };
        };
        no_act = is.no_act;
        feeds = subst (λ (xs : List Entry). all_feeds xs ≡ true) (sym now) (feeds_push front c n is.feeds);
      }
