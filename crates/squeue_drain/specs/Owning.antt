-- What is known of an owner.
use Rattle.std.specs.Prelude.{◌≡◌, ◌≢◌, ℕ, ◌+◌, true, false, List, [], ◌∷◌, ◌++◌, length}
use Rattle.turn_gate.specs.Passes.{IsPassOf, number, seen}
use Rattle.perimeter_core.specs.declared.resident.Resident.{Ghosts}
use Rattle.perimeter_core.specs.declared.entries.Act.{Act}
use Rattle.perimeter_core.specs.declared.entries.Entry.{Entry}
use Rattle.perimeter_core.specs.declared.entries.Entry.TheVariants as Entry'
use Rattle.perimeter_core.specs.declared.marks.SynchAct.TheVariants as Done
use Rattle.perimeter_core.specs.declared.marks.Own.TheVariants.{Out}
use Rattle.perimeter_core.specs.Perimeter.{State, has_ask, processed}
use Rattle.perimeter_core.specs.History.{Element, Limits, run, made_by}
use Rattle.perimeter_core.specs.Deeds.{done}
use Rattle.perimeter_core.specs.Legal.{Legal, all_feeds, feed_count}
use Rattle.squeue_state.specs.Naming.{Named, setting_of}
use Rattle.squeue_state.specs.Behind.{IsPeri}
use Rattle.histories.specs.Elements.{number_of}
use Rattle.squeue_state.specs.Clauses.{IsLeft, peri_left}
use Rattle.squeue_drain.specs.declared.owner.Owner.{Owner}

-- the state after what the owner's pass has seen, and what the owner has processed of its hand
abbrev pub state_of : {R : Type 0} → (R → Limits) → Named R → Owner R → State
state_of limits s o = run (setting_of limits s.given) (seen o.pass)

abbrev pub processed_by : {R : Type 0} → (R → Limits) → Named R → Owner R → List Entry
processed_by limits s o = processed (length o.hand.left) (state_of limits s o).hand

-- The pass is owner at the squeue, the hand is what is left of the squeue's hand, and the resident stands for what the
-- history did with the processed part of the hand and the act added. The note is that of an In
pub record Owns {R P O : Type 0} (G : Ghosts R P O) (s : Named R) (note : List Act) (o : Owner R) : Type 0 where
  pub pass : IsPassOf number_of s.gate o.pass
  pub legal : Legal (setting_of G.limits s.given) (seen o.pass)
  pub own : (state_of G.limits s o).own ≡ Out (number o.pass)
  pub hand : IsLeft G.limits s.given (seen o.pass) o.hand
  pub resident : IsPeri G s.given o.resident (peri_left G.limits s.given (seen o.pass) o.hand o.act note)

-- So far the owner did no act, and processed nothing but feeds
pub record Feeds {R P O : Type 0} (G : Ghosts R P O) (s : Named R) (o : Owner R) : Type 0 where
  pub owns : Owns G s [] o
  pub no_act : o.act ≡ Done.None
  pub feeds : all_feeds (processed_by G.limits s o) ≡ true

-- The owner has a hand, in which its own Ask isn't: so it came by Fast, by a Claim of feeds or by Work, or took the queue
pub record HasFeeds {R : Type 0} (limits : R → Limits) (s : Named R) (o : Owner R) : Type 0 where
  pub some : (state_of limits s o).hand ≢ []
  pub no_ask : has_ask (number o.pass) (state_of limits s o).hand ≡ false

-- how many feeds were processed until now
abbrev pub fed_so_far : {R : Type 0} → (R → Limits) → Named R → Owner R → ℕ
fed_so_far limits s o = feed_count (done (setting_of limits s.given) (seen o.pass)) + feed_count (processed_by limits s o)

-- the owner's pass has seen a beginning of the history, and made nothing behind it
abbrev pub NothingSince : {R : Type 0} → List Element → Owner R → Type 0
NothingSince H o = (since : List Element) × (H ≡ seen o.pass ++ since) × (made_by (number o.pass) since ≡ [])

-- a feed stands first
abbrev pub IsFeedFirst : ℕ → ℕ → List Entry → Type 0
IsFeedFirst c n es = (rest : List Entry) × (es ≡ Entry'.Feed c n ∷ rest)

-- no feed stands first: nothing is left, or an Ask is next
abbrev pub NoFeedFirst : List Entry → Type 0
NoFeedFirst [] = Unit {0}
NoFeedFirst (Entry'.Feed c n ∷ es) = ⊥
NoFeedFirst (Entry'.Ask p ∷ es) = Unit {0}
