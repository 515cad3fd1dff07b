use Rattle.std.proofs.Common.{◌≡◌, ◌∙◌, ℕ, length, slice_get, ap, sym, subst, arith}
use Rattle.histories.proofs.ListPlaces.{some_at}
use Rattle.placed_parts.specs.Placing.{limits_of, origin_of}
use Rattle.squeue_arrivals.specs.Arriving.{HasGiven}
use Rattle.squeue_arrivals.specs.Keeping.{AreClosed}
use Rattle.squeue_arrivals.specs.Keyed.{Tells}
use Rattle.squeue_arrivals.specs.Placed.{keys_in, most_in, place_of}
use Rattle.squeue_arrivals.proofs.Whole.{is_served_at}
use Rattle.squeue_arrivals.proofs.ring.serve_ring.Given.{Over}
use Rattle.squeue_arrivals.proofs.ring.serve_ring.Goals.{After-close_keys-pass}
use Rattle.squeue_arrivals.proofs.ring.serve_ring.Goals as goal

-- the places of all keys are closed
closed : (g : Over) (c : After-close_keys-pass g) → AreClosed (Tells g.X.KeySteps.step) limits_of c.args.sq.now (origin_of c.args.sq.now.given.first) c.serve_all-pass.ensures.given.0 c.close_keys-pass.result c.close_keys-pass.new.stays c.serve_all-pass.new.keys
closed g c = c.close_keys-pass.ensures.closed c.serve_all-pass.ensures.given.0 c.serve_all-pass.ensures.given.1.0

pub close_keys-pass-requires-clause-keys : goal.close_keys-pass-requires-clause-keys
close_keys-pass-requires-clause-keys g c = (c.serve_all-pass.ensures.given.0, c.serve_all-pass.ensures.given.1.0)

pub take_parts-parts-requires-clause-vacant : goal.take_parts-parts-requires-clause-vacant
take_parts-parts-requires-clause-vacant g c i lt =
    let at = some_at (keys_in c.serve_all-pass.new.keys) i lt in
    let v = ((closed g (goal.at.take_parts-parts-requires-clause-vacant g c).After-close_keys-pass).at i at.0 at.1).0 in
    (v.0, ap (λ l. slice_get l (place_of c.serve_all-pass.new.keys i)) c.into_places.ensures ∙ v.1)

pub take_parts-parts-requires-clause-few : goal.take_parts-parts-requires-clause-few
take_parts-parts-requires-clause-few g c = c.serve_all-pass.ensures.given.1.0.table.few

pub take_parts-parts-requires-clause-room : goal.take_parts-parts-requires-clause-room
take_parts-parts-requires-clause-room g c =
    let few = c.serve_all-pass.ensures.given.1.0.table.few in
    (c.requires.may.room.0, omega (arith, few, c.requires.may.room.1, c.requires.may.is_most, c.serve_all-pass.ensures.ring.most))

pub close_pass-pass-requires-clause-pass : goal.close_pass-pass-requires-clause-pass
close_pass-pass-requires-clause-pass g c = (closed g (goal.at.close_pass-pass-requires-clause-pass g c).After-close_keys-pass).knows.life.pass

pub close_pass-pass-requires-clause-other : goal.close_pass-pass-requires-clause-other
close_pass-pass-requires-clause-other g c = (closed g (goal.at.close_pass-pass-requires-clause-other g c).After-close_keys-pass).knows.life.no_worker

pub close_pass-pass-requires-clause-idle : goal.close_pass-pass-requires-clause-idle
close_pass-pass-requires-clause-idle g c = (closed g (goal.at.close_pass-pass-requires-clause-idle g c).After-close_keys-pass).knows.life.idle

pub returns-clause-ended : goal.returns-clause-ended
returns-clause-ended g c =
    let life = (closed g (goal.at.returns-clause-ended g c).After-close_keys-pass).knows.life in
    let a = c.close_pass-pass.ensures in
    record {
      pass = a.is_pass;
      is_number = a.same_number ∙ (c.close_keys-pass.ensures.number ∙ c.serve_all-pass.ensures.number);
      over = λ w. absurd (omega (arith, w, a.same_number, life.no_worker));
    }

pub returns-clause-served : goal.returns-clause-served
returns-clause-served g c =
    let given = c.serve_all-pass.ensures.given in
    let keys = c.serve_all-pass.new.keys in
    let most : most_in keys ≡ c.args.pool.now.places = c.serve_all-pass.ensures.ring.most ∙ c.requires.may.is_most in
    let gave = subst (λ (n : ℕ). HasGiven g.A.Arrivals.origin g.A.Arrivals.given g.A.Arrivals.is_over n (length (keys_in keys)) given.0 c.args.ring.source c.serve_all-pass.new.source c.serve_all-pass.result.1) most given.2 in
    let at = (goal.at.returns-clause-served g c).After-close_keys-pass in
    let number_is = c.serve_all-pass.ensures.ring.number ∙ (c.requires.may.its_number ∙ sym (c.close_keys-pass.ensures.number ∙ c.serve_all-pass.ensures.number)) in
    is_served_at g.X.KeySteps.begins g.X.KeySteps.step g.A.Arrivals.origin g.A.Arrivals.given g.A.Arrivals.is_over limits_of c.args.sq.now (origin_of c.args.sq.now.given.first) c.args.pool.now.places given.0 c.close_keys-pass.result
    c.close_pass-pass.result c.close_keys-pass.new.stays keys c.args.ring.source _ c.requires.begun given.1.0.table given.1.1 (closed g at) c.take_parts-parts.ensures.keys
    (λ i part got. let h = c.take_parts-parts.ensures.states i part got in (h.0, ap (λ l. slice_get l (place_of keys i)) (sym c.into_places.ensures) ∙ h.1, h.2)) gave most c.of-last.ensures c.close_pass-pass.ensures number_is
    (c.serve_all-pass.ensures.ring.rings ∙ c.requires.may.its_rings)
