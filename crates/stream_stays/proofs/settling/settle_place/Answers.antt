use Rattle.std.proofs.Common.{ap, sym, refl, subst, Global}
use Rattle.placed_parts.specs.Placing.{origin_of}
use Rattle.stream_stays.specs.Staying.{IsOfRing, producer_of}
use Rattle.stream_stays.specs.Settling.{WasCollected, sent_in}
use Rattle.perimeter_core.specs.declared.entries.Feed.{Feed as FeedOf}
use Rattle.std.specs.Prelude.{Vec}
use Rattle.stream_stays.proofs.Chained.{but_on, elsewhere_on, one_open}
use Rattle.stream_stays.proofs.Settled.{places_but}
use Rattle.stream_stays.proofs.settling.settle_place.Goals as goal

pub take_open-stay-requires : goal.take_open-stay-requires
take_open-stay-requires g c = (c.requires.may.stay, c.requires.may.is_open)

pub settle_part-requires-clause-ring : goal.settle_part-requires-clause-ring
settle_part-requires-clause-ring g c =
    let one = one_open _ c.requires.may.stay c.take_open-stay.result c.requires.may.is_open c.take_open-stay.ensures.was in
    subst (λ a. IsOfRing g.X.Steps.begins (origin_of c.args.resident.now) c.args.c (producer_of a)) one c.requires.may.ring

pub returns-clause-same : goal.returns-clause-same
returns-clause-same g c =
    let took = c.take_open-stay.ensures in
    let put = c.put.ensures in
    let a = c.take_open-stay.result in
    let looked = c.settle_part.ensures.producer in
    let but = but_on c.args.stays.now c.take_open-stay.new.self c.put.new.self took.same put.same in
    places_but c.args.c c.args.stays.now c.put.new.self a _
    (elsewhere_on c.args.c c.args.stays.now c.take_open-stay.new.self c.put.new.self took.others put.others) (ap (λ (v : Vec FeedOf Global). v.items) but.chain) took.was put.now
    (record { stay = record { ring = looked.0; stream = refl; leaves = refl; before = refl }; sent = looked.1; pushed = refl; entered = refl })

pub returns-clause-rest : goal.returns-clause-rest
returns-clause-rest g c =
    let but = but_on c.args.stays.now c.take_open-stay.new.self c.put.new.self c.take_open-stay.ensures.same c.put.ensures.same in
    (but.life, but.touched)

pub returns-clause-collected : goal.returns-clause-collected
returns-clause-collected g c =
    subst (λ xs. WasCollected g.X.Steps.begins g.X.Steps.step g.V.Collects.takes (origin_of c.args.resident.now) c.args.collector.now c.settle_part.new.collector c.args.c xs) (sym (ap sent_in c.take_open-stay.ensures.was))
    c.settle_part.ensures.collected
