-- An owner that has just come.
use Rattle.std.proofs.Common.{◌≡◌, List, length, refl, ap, sym, ◌∙◌, subst}
use Rattle.turn_gate.specs.Passes.{IsPassOf, number, seen}
use Rattle.turn_gate.specs.declared.pass.Pass.{Pass}
use Rattle.perimeter_core.specs.declared.resident.Resident.{Ghosts}
use Rattle.perimeter_core.specs.declared.entries.Entry.{Entry}
use Rattle.perimeter_core.specs.declared.marks.SynchAct.TheVariants as Done
use Rattle.perimeter_core.specs.declared.marks.Own.TheVariants.{Out}
use Rattle.perimeter_core.specs.Perimeter.{processed}
use Rattle.perimeter_core.specs.History.{Element, Setting, run}
use Rattle.perimeter_core.specs.Legal.{Legal, all_feeds}
use Rattle.perimeter_core.specs.Blocks.{peri, with_feeds}
use Rattle.perimeter_core.proofs.FeedActs.{with_none}
use Rattle.squeue_state.specs.Naming.{Named, Handed, setting_of}
use Rattle.squeue_state.specs.Behind.{IsPeri}
use Rattle.histories.specs.Elements.{number_of}
use Rattle.squeue_state.specs.Clauses.{IsWhole}
use Rattle.squeue_drain.specs.Owning.{Feeds}
use Rattle.squeue_drain.proofs.Hands.{whole_left}

module _ {R P O : Type 0} (G : Ghosts R P O) (s : Named R) where
  abbrev S : Setting
  S = setting_of G.limits s.given

  pub fresh : (q : Pass Element) (r : R) (h : Handed) → IsPassOf number_of s.gate q → Legal S (seen q) → (run S (seen q)).own ≡ Out (number q) → IsWhole G.limits s.given (seen q) h
      → IsPeri G s.given r (peri S (seen q)) → Feeds G s record { pass = q; resident = r; hand = h; act = Done.None }
  fresh q r h pass legal own whole is =
      let w = whole_left (run S (seen q)).hand h.left whole.is_whole in
      let none : with_feeds (processed (length h.left) (run S (seen q)).hand) (peri S (seen q)) ≡ peri S (seen q) = ap (λ (xs : List Entry). with_feeds xs (peri S (seen q))) w.1 ∙ with_none (peri S (seen q)) in
      record {
        owns = record {
          pass = pass;
          legal = legal;
          own = own;
          hand = record { is_left = w.0; has_room = whole.has_room };
          resident = record {
            stands_for = subst (G.stands r) (sym none) is.stands_for;
            same_limits = is.same_limits;
            same_size = is.same_size;
            same_origin = is.same_origin;
          };
        };
        no_act = refl;
        feeds = ap all_feeds w.1;
      }
