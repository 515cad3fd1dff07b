-- An entry whose turn has chosen its way: what the way needs of the turn, and what the entry answers.
use Rattle.std.specs.Prelude.{slice_index_or}
use Rattle.std.proofs.Common.{◌≡◌, ℕ, ◌+◌, ◌^◌, ◌<◌, Bool, true, nat_eq, List, [], ◌∷◌, length, refl, ap, sym, ◌∙◌, subst}
use Rattle.turn_gate.specs.Passes.{seen}
use Rattle.turn_gate.specs.declared.pass.Pass.{Pass}
use Rattle.perimeter_core.proofs.OrderAndWake.{free_is}
use Rattle.perimeter_core.specs.declared.resident.Resident.{Ghosts}
use Rattle.perimeter_core.specs.declared.entries.Feed.{Feed as FeedOf}
use Rattle.perimeter_core.specs.declared.entries.Entry.{Entry}
use Rattle.perimeter_core.specs.declared.entries.Entry.TheVariants.{Feed}
use Rattle.perimeter_core.specs.declared.marks.Own.{Own}
use Rattle.perimeter_core.specs.declared.marks.Own.TheVariants.{Free}
use Rattle.perimeter_core.specs.declared.marks.SynchAct.TheVariants as Done
use Rattle.perimeter_core.specs.Perimeter.{State, is_free, is_empty, polls}
use Rattle.perimeter_core.specs.History.{Element, Limits, run}
use Rattle.perimeter_core.specs.Legal.{May}
use Rattle.perimeter_core.specs.Blocks.{peri}
use Rattle.squeue_state.specs.Naming.{Named, Turned, Handed, setting_of}
use Rattle.squeue_state.specs.Behind.{IsPeri}
use Rattle.histories.specs.Elements.{filled_by, fast_by, claimed_by}
use Rattle.squeue_state.specs.Clauses.{Found, Marked, IsWhole}
use Rattle.squeue_drain.specs.declared.owner.Owner.{Owner}
use Rattle.squeue_drain.specs.Owning.{Feeds, HasFeeds}
use Rattle.squeue_drain.specs.Draining.{Drained, ServedOne, Tells}
use Rattle.squeue_drain.proofs.Deciding.{same_state, queued_is}
use Rattle.histories.specs.declared.mode.Mode.{Mode}
use Rattle.squeue_enter.specs.declared.entering.How.TheVariants as How'
use Rattle.squeue_enter.specs.declared.entering.Way.{Way}
use Rattle.squeue_enter.specs.declared.entering.Way.TheVariants as Way'
use Rattle.squeue_enter.specs.Ways.{way_of, is_one}
use Rattle.squeue_enter.specs.Entering.{MayEnter, HasEntered}
use Rattle.squeue_enter.proofs.Choosing.{chosen, lone, lone_too, claims, empty_was, one_was}
use Rattle.squeue_state.specs.Behind.{FeedsFit}
use Rattle.squeue_state.specs.AllRoom.{HasAllRoom}
use Rattle.squeue_enter.proofs.Entries.{may_fill, may_fast, may_claim, fits, fill_fits, fill_polls, Came, came_fast, came_claim, hand_fast}
use Rattle.squeue_enter.proofs.Answering.{entered_fill, entered_fast, entered_alone, entered_claim}

-- the feed of a chain that brings one
abbrev pub first : List FeedOf → FeedOf
first es = slice_index_or es 0 record { c = 0; n = 0 }

-- the state that a turn found
abbrev at : {R : Type 0} → (R → Limits) → Named R → Turned R → State
at limits s u = run (setting_of limits s.given) u.found

-- the pass may enter these feeds, and what its turn found leads to this way
pub record Chose {R P O : Type 0} (G : Ghosts R P O) (s : Named R) (p : Pass Element) (es : List FeedOf) (u : Turned R) (mode : Mode) (w : Way) : Type 0 where
  pub may : MayEnter G.limits s p es
  pub found : Found G.limits s p u
  pub way : way_of mode (is_free (at G.limits s u).own) (is_empty (at G.limits s u).chain) (is_one es) ≡ w

-- and so it goes alone with its one feed
pub record Lone {R P O : Type 0} (G : Ghosts R P O) (s : Named R) (p : Pass Element) (es : List FeedOf) (u : Turned R) (mode : Mode) (w : Way) : Type 0 where
  pub chose : Chose G s p es u mode w
  pub one : es ≡ first es ∷ []
  pub free : (at G.limits s u).own ≡ Free
  pub empty : (at G.limits s u).chain ≡ []

-- the owner that it became by this element
pub record Became {R P O : Type 0} (G : Ghosts R P O) (s : Named R) (p : Pass Element) (es : List FeedOf) (u : Turned R) (mode : Mode) (w : Way) (x : Element) (o : Owner R) : Type 0 where
  pub chose : Chose G s p es u mode w
  pub pass : Pass Element
  pub resident : R
  pub hand : Handed
  pub is : o ≡ record { pass = pass; resident = resident; hand = hand; act = Done.None }
  pub came : Came G s p es u chose.may chose.found x pass resident hand

module _ {R : Type 0} {limits : R → Limits} {s : Named R} {p : Pass Element} {es : List FeedOf} {u : Turned R} (may : MayEnter limits s p es) (f : Found limits s p u) (some : 0 < length es) where
  pub may_queue : May (setting_of limits s.given) u.found (filled_by u.number es)
  may_queue = may_fill limits s p es u may f some

  pub feeds_fit : HasAllRoom s.given → FeedsFit (setting_of limits s.given) s.given.room u.found (length es)
  feeds_fit = fits limits s p es u may f some

  pub queue_fits : FeedsFit (setting_of limits s.given) s.given.room u.found (length es) → length (at limits s u).chain + length es < 2 ^ 31
  queue_fits = fill_fits limits s p es u may f

module _ {R P O : Type 0} (G : Ghosts R P O) {s : Named R} {p : Pass Element} {es : List FeedOf} {u : Turned R} (mode : Mode) where
  pub chose : {o : Own} {woke : Bool} {n : ℕ} {w v : Way} → MayEnter G.limits s p es → Found G.limits s p u → o ≡ (run (setting_of G.limits u.squeue.given) u.found).own → woke ≡ is_free o
      → n ≡ length (run (setting_of G.limits u.squeue.given) u.found).chain → w ≡ way_of mode woke (nat_eq n 0) (nat_eq (length es) 1) → w ≡ v → Chose G s p es u mode v
  chose {o} {woke} {n} {w} {v} may f own wakes count is arm =
      record { may = may; found = f; way = chosen G.limits u.squeue s u.found mode es o woke n w f.squeue own wakes count is ∙ arm }

module _ {R P O : Type 0} {G : Ghosts R P O} {s : Named R} {p : Pass Element} {es : List FeedOf} {u : Turned R} {mode : Mode} where
  lone_by : {w : Way} → Chose G s p es u mode w → (is_free (at G.limits s u).own ≡ true) × (is_empty (at G.limits s u).chain ≡ true) × (is_one es ≡ true) → Lone G s p es u mode w
  lone_by c k = record { chose = c; one = one_was es record { c = 0; n = 0 } k.2; free = free_is (at G.limits s u).own k.0; empty = empty_was (at G.limits s u).chain k.1 }

  pub goes_fast : Chose G s p es u mode Way'.Fast → Lone G s p es u mode Way'.Fast
  goes_fast c = lone_by c (lone mode (is_free (at G.limits s u).own) (is_empty (at G.limits s u).chain) (is_one es) Way'.Fast c.way refl)

  pub goes_alone : Chose G s p es u mode Way'.Alone → Lone G s p es u mode Way'.Alone
  goes_alone c = lone_by c (lone_too mode (is_free (at G.limits s u).own) (is_empty (at G.limits s u).chain) (is_one es) Way'.Alone c.way refl)

  free_to_claim : Chose G s p es u mode Way'.Claim → (at G.limits s u).own ≡ Free
  free_to_claim c = free_is (at G.limits s u).own (claims mode (is_free (at G.limits s u).own) (is_empty (at G.limits s u).chain) (is_one es) Way'.Claim c.way refl)

  pub may_alone : {w : Way} → Lone G s p es u mode w → May (setting_of G.limits s.given) u.found (fast_by u.number (first es))
  may_alone l = may_fast G.limits s p es u l.chose.may l.chose.found (first es) l.one l.free l.empty

  pub claims_all : Chose G s p es u mode Way'.Claim → 0 < length es → May (setting_of G.limits s.given) u.found (claimed_by u.number es)
  claims_all c some = may_claim G.limits s p es u c.may c.found some (free_to_claim c)

  module _ {o : Owner R} {q : Pass Element} {r : R} {h : Handed} (is : o ≡ record { pass = q; resident = r; hand = h; act = Done.None }) where
    pub became_alone : {w : Way} → Lone G s p es u mode w → Marked u (fast_by u.number (first es)) q → IsWhole G.limits s.given (seen q) h → IsPeri G s.given r (peri (setting_of G.limits s.given) (seen q))
        → Became G s p es u mode w (fast_by u.number (first es)) o
    became_alone l m whole peri =
        record {
          chose = l.chose;
          pass = q;
          resident = r;
          hand = h;
          is = is;
          came = came_fast G s p es u l.chose.may l.chose.found (first es) l.one l.free l.empty q r h m whole peri;
        }

    pub became_claim : Chose G s p es u mode Way'.Claim → 0 < length es → Marked u (claimed_by u.number es) q → IsWhole G.limits s.given (seen q) h → IsPeri G s.given r (peri (setting_of G.limits s.given) (seen q))
        → Became G s p es u mode Way'.Claim (claimed_by u.number es) o
    became_claim c some m whole peri =
        record {
          chose = c;
          pass = q;
          resident = r;
          hand = h;
          is = is;
          came = came_claim G s p es u c.may c.found some (free_to_claim c) q r h m whole peri;
        }

    -- nothing is left of the hand but the one feed
    pub left_alone : {w : Way} → Lone G s p es u mode w → Marked u (fast_by u.number (first es)) q → IsWhole G.limits s.given (seen q) h → o.hand.left ≡ Feed (first es).c (first es).n ∷ []
    left_alone l m whole =
        ap (λ (x : Owner R). x.hand.left) is ∙ (whole.is_whole ∙ hand_fast G s p es u l.chose.may l.chose.found (first es) l.one l.free l.empty q m)

  pub owner_feeds : {w : Way} {x : Element} {o : Owner R} → Became G s p es u mode w x o → Feeds G s o
  owner_feeds b = subst (λ (o : Owner R). Feeds G s o) (sym b.is) b.came.feeds

  pub owner_has : {w : Way} {x : Element} {o : Owner R} → Became G s p es u mode w x o → HasFeeds G.limits s o
  owner_has b = subst (λ (o : Owner R). HasFeeds G.limits s o) (sym b.is) b.came.has

  -- the answers by way
  pub by_fill : (budget : ℕ) {o : Own} {woke was polling : Bool} {n : ℕ} {q : Pass Element} → Chose G s p es u mode Way'.Fill → 0 < length es → o ≡ (run (setting_of G.limits u.squeue.given) u.found).own → woke ≡ is_free o
      → n ≡ length (run (setting_of G.limits u.squeue.given) u.found).chain → was ≡ (run (setting_of G.limits u.squeue.given) u.found).polling
      → ((xs : List Entry) → length xs ≡ n + length es → polling ≡ polls xs was) → Marked u (filled_by u.number es) q
      → HasEntered G.limits s mode budget es p record { pass = q; how = How'.Queued woke; polling = polling }
  by_fill budget {o} {woke} {was} {polling} {n} {q} c some own wakes count did told m =
      let st = same_state G.limits u.squeue s u.found c.found.squeue in
      entered_fill G.limits s p es u c.may c.found mode budget woke polling q c.way some (wakes ∙ ap is_free (own ∙ ap (λ (x : State). x.own) st))
      (fill_polls G.limits s p es u c.may c.found q polling
      (λ xs h. told xs (h ∙ ap (λ (k : ℕ). k + length es) (sym (queued_is n c.found count))) ∙ ap (polls xs) (did ∙ ap (λ (x : State). x.polling) st)) m) m

  module _ (budget : ℕ) {o : Owner R} {to : Pass Element} {rest : ℕ} {polling : Bool} where
    pub by_fast : Became G s p es u mode Way'.Fast (fast_by u.number (first es)) o → Drained G.limits s budget o to → Tells G.limits s to rest polling
        → HasEntered G.limits s mode budget es p record { pass = to; how = How'.Fast rest; polling = polling }
    by_fast b d tells =
        entered_fast G s p es u b.chose.may b.chose.found mode budget (first es) b.pass b.resident b.hand to rest polling b.chose.way (goes_fast b.chose).one b.came
        (subst (λ (x : Owner R). Drained G.limits s budget x to) b.is d) tells

    pub by_alone : Became G s p es u mode Way'.Alone (fast_by u.number (first es)) o → ServedOne G.limits s o to → Tells G.limits s to rest polling
        → HasEntered G.limits s mode budget es p record { pass = to; how = How'.Fast rest; polling = polling }
    by_alone b d tells =
        entered_alone G s p es u b.chose.may b.chose.found mode budget (first es) b.pass b.resident b.hand to rest polling b.chose.way (goes_alone b.chose).one b.came
        (subst (λ (x : Owner R). ServedOne G.limits s x to) b.is d) tells

    pub by_claim : Became G s p es u mode Way'.Claim (claimed_by u.number es) o → Drained G.limits s budget o to → Tells G.limits s to rest polling
        → HasEntered G.limits s mode budget es p record { pass = to; how = How'.Drained rest; polling = polling }
    by_claim b d tells =
        entered_claim G s p es u b.chose.may b.chose.found mode budget b.pass b.resident b.hand to rest polling b.chose.way b.came
        (subst (λ (x : Owner R). Drained G.limits s budget x to) b.is d) tells
