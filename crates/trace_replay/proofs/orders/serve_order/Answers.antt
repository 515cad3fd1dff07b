use Rattle.std.proofs.Common.{◌≡◌, List, Some, [], map, refl, sym, ap, subst, ◌∙◌}
use Rattle.std.proofs.lemmas.Option.{MatchOption-at_some}
use Rattle.perimeter_core.specs.declared.entries.Act.{Act}
use Rattle.perimeter_core.specs.Blocks.{Blocks as Had}
use Rattle.conn_blocks.specs.Holding.{StandsFor}
use Rattle.conn_blocks.specs.Places.{Stands, origin_of}
use Rattle.conn_blocks.specs.ServeOrder.{BlockOf}
use Rattle.squeue_replay.specs.Standing.{GuestOf, guest_of}
use Rattle.trace_replay.specs.Joining.{HasStays, LacksAStay, did_before, with_acts, without}
use Rattle.trace_replay.proofs.Giving.{here_with}
use Rattle.trace_replay.proofs.Taken.{any_some, feeds_lack, given_here, judged, taken, without_given}
use Rattle.trace_replay.proofs.orders.serve_order.Goals as goal

pub returns-then-not-give_all-clause-order : goal.returns-then-not-give_all-clause-order
returns-then-not-give_all-clause-order c =
    let squeues = c.args.run.setup.squeues in
    let kept : List (List GuestOf) = map (λ gs. map guest_of gs.items) c.args.guests.now in
    let n = c.in-Some.stays in
    let all : HasStays squeues kept c.args.c n =
    MatchOption-at_some (LacksAStay squeues kept c.args.c) (λ k. HasStays squeues kept c.args.c k) n c.in-Some.is c.in_ok-stays.ensures.stays in
    feeds_lack squeues kept c.args.c c.args.run.plan.now c.args.run.calls.now n all (c.if-not-give_all.ensures.no refl)

pub take_out-block-requires-clause-here : goal.take_out-block-requires-clause-here
take_out-block-requires-clause-here c =
    let kept : List (List GuestOf) = map (λ gs. map guest_of gs.items) c.args.guests.now in
    let did : List Act = did_before c.args.run.setup.squeues kept c.args.c c.in-Some.stays in
    let fresh = c.requires.fresh in
    given_here (Stands c.give_all.new.blocks) c.args.c did fresh.0 fresh.2 (c.if-not-give_all.ensures.stands refl fresh.0 fresh.1)

pub returns-clause-order : goal.returns-clause-order
returns-clause-order c =
    let squeues = c.args.run.setup.squeues in
    let kept : List (List GuestOf) = map (λ gs. map guest_of gs.items) c.args.guests.now in
    let p = c.args.run.plan.now in
    let calls = c.args.run.calls.now in
    let n = c.in-Some.stays in
    let did : List Act = did_before squeues kept c.args.c n in
    let all : HasStays squeues kept c.args.c n =
    MatchOption-at_some (LacksAStay squeues kept c.args.c) (λ k. HasStays squeues kept c.args.c k) n c.in-Some.is c.in_ok-stays.ensures.stays in
    let fresh = c.requires.fresh in
    let block = c.take_out-block.result in
    let part = c.take_out-block.ensures.part (with_acts c.args.c did fresh.0) did (c.if-not-give_all.ensures.stands refl fresh.0 fresh.1) (here_with c.args.c did fresh.0 [] fresh.2) in
    let stands : StandsFor p calls c.args.c did block.value =
    taken (origin_of c.give_all.new.blocks) p calls c.args.c did block (c.if-not-give_all.ensures.origin ∙ c.requires.origin) c.take_out-block.ensures.owner part in
    judged squeues kept c.args.c p calls n all block c.order.result.now c.items.result c.count_on.result c.then_some.result stands
    (sym (ap (λ (b : BlockOf). b.short) c.deref.ensures) ∙ (sym c.short.ensures ∙ c.if-short.false))
    (sym (ap (λ (b : BlockOf). b.order) c.deref-2.ensures) ∙ sym c.order.ensures)
    c.items.ensures.value c.count_on.ensures.value c.then_some.ensures

pub returns-clause-others : goal.returns-clause-others
returns-clause-others c =
    let kept : List (List GuestOf) = map (λ gs. map guest_of gs.items) c.args.guests.now in
    let did : List Act = did_before c.args.run.setup.squeues kept c.args.c c.in-Some.stays in
    let Others : Type 0 = (had : Had) → Stands c.args.blocks.now had → had c.args.c ≡ Some [] → Stands c.take_out-block.new.self (without c.args.c had) in
    let others : Others = λ had stands e.
    subst (λ (h : Had). Stands c.take_out-block.new.self h) (without_given c.args.c did had)
    (c.take_out-block.ensures.stands (with_acts c.args.c did had) (c.if-not-give_all.ensures.stands refl had stands)) in
    any_some Others c.then_some.result others
