use Rattle.std.proofs.Common.{◌∙◌, ap, sym, subst}
use Rattle.placed_parts.specs.Placing.{origin_of}
use Rattle.placed_parts.specs.PlaceLaws.{places_in_range}
use Rattle.squeue_streams.specs.Taking.{HasTakenMore, IsStreamOf, steps_of}
use Rattle.stream_stays.proofs.Rings.{its_pair}
use Rattle.stream_stays.proofs.Settled.{away_now, stands_again}
use Rattle.stream_stays.proofs.settling.settle_part.Goals as goal

pub take_out-part-requires-clause-range : goal.take_out-part-requires-clause-range
take_out-part-requires-clause-range g c = let h = c.requires.here in places_in_range c.args.resident.now h.blocks c.args.c h.had h.stands h.here

pub take_rest-requires : goal.take_rest-requires
take_rest-requires g c =
    its_pair g.X.Steps.begins g.X.Steps.step (origin_of c.args.resident.now) c.args.c c.take_out-part.result c.take_out-part.ensures.owner c.args.producer.now c.requires.ring

pub put_in-requires-clause-range : goal.put_in-requires-clause-range
put_in-requires-clause-range g c =
    let h = c.requires.here in
    rw c.take_out-part.ensures.size (places_in_range c.args.resident.now h.blocks c.args.c h.had h.stands h.here)

pub put_in-requires-clause-away : goal.put_in-requires-clause-away
put_in-requires-clause-away g c = away_now c.args.resident.now c.take_out-part.new.self c.args.c c.requires.here c.take_out-part.ensures.stands

pub put_in-requires-clause-owner : goal.put_in-requires-clause-owner
put_in-requires-clause-owner g c =
    let o = origin_of c.args.resident.now in
    let part = c.take_out-part.result in
    let all = c.take_rest.new.stream in
    let taken : HasTakenMore g.X.Steps.begins g.X.Steps.step o part all =
    subst (λ x. HasTakenMore g.X.Steps.begins g.X.Steps.step x part all) (ap (λ r. g.X.Steps.origin (steps_of r)) c.shared.ensures ∙ c.take_out-part.ensures.origin) c.take_rest.ensures.taken in
    subst (λ x. IsStreamOf g.X.Steps.begins g.X.Steps.step x c.args.c all) (sym c.take_out-part.ensures.origin) (taken.its c.args.c c.take_out-part.ensures.owner)

pub returns-clause-keeps : goal.returns-clause-keeps
returns-clause-keeps g c =
    let o = origin_of c.args.resident.now in
    let part = c.take_out-part.result in
    let all = c.take_rest.new.stream in
    let taken : HasTakenMore g.X.Steps.begins g.X.Steps.step o part all =
    subst (λ x. HasTakenMore g.X.Steps.begins g.X.Steps.step x part all) (ap (λ r. g.X.Steps.origin (steps_of r)) c.shared.ensures ∙ c.take_out-part.ensures.origin) c.take_rest.ensures.taken in
    record {
      stands =
          stands_again c.args.resident.now c.take_out-part.new.self c.put_in.new.self c.args.c part all (λ p a b x y. x.feeds ∙ sym y.feeds) c.requires.here c.take_out-part.ensures.stands c.take_out-part.ensures.part
          (λ had was. (was.0, taken.stands had was.1)) c.put_in.ensures.stands;
      limits = c.put_in.ensures.limits ∙ c.take_out-part.ensures.limits;
      size = c.put_in.ensures.size ∙ c.take_out-part.ensures.size;
      origin = c.put_in.ensures.origin ∙ c.take_out-part.ensures.origin;
    }

pub returns-clause-collected : goal.returns-clause-collected
returns-clause-collected g c =
    let o = origin_of c.args.resident.now in
    let part = c.take_out-part.result in
    let all = c.take_rest.new.stream in
    let taken : HasTakenMore g.X.Steps.begins g.X.Steps.step o part all =
    subst (λ x. HasTakenMore g.X.Steps.begins g.X.Steps.step x part all) (ap (λ r. g.X.Steps.origin (steps_of r)) c.shared.ensures ∙ c.take_out-part.ensures.origin) c.take_rest.ensures.taken in
    record { part = all; its_own = taken.its c.args.c c.take_out-part.ensures.owner; all = c.take_rest.ensures.items; took = c.collect.ensures.takes }
