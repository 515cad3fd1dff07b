-- What an owner finds in a turn of its own.
use Rattle.std.proofs.Common.{◌≡◌, ℕ, List, [], ◌++◌, length, ap, sym, ◌∙◌, subst, inl}
use Rattle.turn_gate.specs.History.{only}
use Rattle.turn_gate.specs.Passes.{IsPassOf, number, seen, mine}
use Rattle.turn_gate.specs.declared.pass.Pass.{Pass}
use Rattle.perimeter_core.specs.declared.resident.Resident.{Ghosts}
use Rattle.perimeter_core.specs.declared.entries.Entry.{Entry}
use Rattle.perimeter_core.specs.declared.entries.Act.{Act}
use Rattle.perimeter_core.specs.declared.marks.Own.{Own}
use Rattle.perimeter_core.specs.declared.marks.Own.TheVariants.{Out}
use Rattle.perimeter_core.specs.Perimeter.{State, processed, unprocessed, is_closed}
use Rattle.perimeter_core.specs.History.{Element, Setting, Limits, run, made_by}
use Rattle.perimeter_core.specs.Deeds.{done}
use Rattle.perimeter_core.specs.Legal.{Legal, feed_count}
use Rattle.perimeter_core.specs.Blocks.{peri}
use Rattle.perimeter_core.proofs.Since.{known_since}
use Rattle.perimeter_core.proofs.Rests.{rests_since}
use Rattle.squeue_state.specs.Naming.{Named, Turned, setting_of}
use Rattle.squeue_state.specs.Behind.{IsPeri}
use Rattle.histories.specs.Elements.{number_of}
use Rattle.squeue_state.specs.Clauses.{Found, IsLeft, owners_room, peri_left}
use Rattle.squeue_state.specs.Lone.{buffer_of, ends_fast, is_lone}
use Rattle.squeue_drain.specs.declared.owner.Owner.{Owner}
use Rattle.squeue_drain.specs.Owning.{Owns, processed_by, state_of}
use Rattle.squeue_state.proofs.Makers.{others_made}
use Rattle.histories.proofs.OwnersFacts.{done_still}

-- what the turn found beyond what the pass had seen, others made
pub others : {R : Type 0} (limits : R → Limits) (s : Named R) (p : Pass Element) (u : Turned R) → IsPassOf number_of s.gate p → (f : Found limits s p u) → made_by (number p) f.goes_on.0 ≡ []
others limits s p u is f =
    others_made (number p) (seen p) f.goes_on.0 (mine p) is.2
    (subst (λ (h : List Element). only number_of (number p) h ≡ mine p) f.goes_on.1 (ap (λ (k : ℕ). only number_of k u.found) (sym f.same_number) ∙ (f.own ∙ f.same_mine)))

module _ {R P O : Type 0} (G : Ghosts R P O) (s : Named R) where
  -- an owner in its turn: all that it knew of its hand and its resident still holds
  pub record AtTurn (note : List Act) (o : Owner R) (u : Turned R) : Type 0 where
    pub own : (run (setting_of G.limits s.given) u.found).own ≡ Out u.number
    pub hand : (run (setting_of G.limits s.given) u.found).hand ≡ (state_of G.limits s o).hand
    pub left : IsLeft G.limits s.given u.found o.hand
    pub same_front : processed (length o.hand.left) (run (setting_of G.limits s.given) u.found).hand ≡ processed_by G.limits s o
    pub resident : IsPeri G s.given o.resident (peri_left G.limits s.given u.found o.hand o.act note)
    pub same_done : feed_count (done (setting_of G.limits s.given) u.found) ≡ feed_count (done (setting_of G.limits s.given) (seen o.pass))
    pub closed : is_closed (run (setting_of G.limits s.given) u.found) (number o.pass) ≡ is_closed (state_of G.limits s o) (number o.pass)

  pub at_turn : (note : List Act) (o : Owner R) (u : Turned R) → Owns G s note o → Found G.limits s o.pass u → AtTurn note o u
  at_turn note o u is f =
      let S : Setting = setting_of G.limits s.given in
      let H : List Element = seen o.pass in
      let K : List Element = f.goes_on.0 in
      let p : ℕ = number o.pass in
      let whole : u.found ≡ H ++ K = f.goes_on.1 in
      let none : made_by p K ≡ [] = others G.limits s o.pass u is.pass f in
      let legal : Legal S (H ++ K) = subst (λ (G : List Element). Legal S G) whole f.legal in
      let known = known_since S H K p legal none in
      let k = known.owner is.own in
      let rest = rests_since S H K p legal none (inl is.own) in
      let state : run S u.found ≡ run S (H ++ K) = ap (λ (G : List Element). run S G) whole in
      let own : (run S u.found).own ≡ Out u.number = ap (λ (t : State). t.own) state ∙ (k.0 ∙ ap Out (sym f.same_number)) in
      let hand : (run S u.found).hand ≡ (run S H).hand = ap (λ (t : State). t.hand) state ∙ k.1 in
      let blocks : peri S u.found ≡ peri S H = ap (λ (G : List Element). peri S G) whole ∙ rest in
      let mine_still : only number_of u.number u.found ≡ only number_of p H = f.own ∙ (f.same_mine ∙ sym is.pass.2) in
      let same_room : owners_room G.limits s.given H ≡ owners_room G.limits s.given u.found =
      ap (λ (o' : Own). buffer_of s.given.room (is_lone o' H)) is.own ∙ (ap (λ (es : List Element). buffer_of s.given.room (ends_fast es)) (sym mine_still) ∙ ap (λ (o' : Own). buffer_of s.given.room (is_lone o' u.found)) (sym own)) in
      record {
        own = own;
        hand = hand;
        left = record {
          is_left = is.hand.is_left ∙ ap (λ (xs : List Entry). unprocessed (length o.hand.left) xs) (sym hand);
          has_room = is.hand.has_room ∙ same_room;
        };
        same_front = ap (λ (xs : List Entry). processed (length o.hand.left) xs) hand;
        resident = record {
          stands_for = rw (hand, blocks) is.resident.stands_for;
          same_limits = is.resident.same_limits;
          same_size = is.resident.same_size;
          same_origin = is.resident.same_origin;
        };
        same_done = ap (λ (G : List Element). feed_count (done S G)) whole ∙ done_still S H K p legal none is.own;
        closed = ap (λ (t : State). is_closed t p) state ∙ known.closed;
      }
