use Rattle.std.proofs.Common.{◌≡◌, ℕ, ◌+◌, List, length, map, refl, sym, ap, subst, ◌∙◌, arith}
use Rattle.std.proofs.lemmas.Option.{none-some}
use Rattle.perimeter_core.specs.declared.entries.Act.{Act}
use Rattle.perimeter_core.specs.Blocks.{Blocks as Had}
use Rattle.perimeter_core.specs.Deeds.{fed}
use Rattle.perimeter_core.specs.Residing.{HadFeeds}
use Rattle.perimeter_core.proofs.NextFeed.{fed-append}
use Rattle.conn_classifier.specs.Plan.{items_in}
use Rattle.conn_blocks.specs.Places.{Stands}
use Rattle.squeue_replay.specs.Standing.{GuestOf, guest_of}
use Rattle.trace_replay.specs.Joining.{FeedsFollow, did_before, with_acts}
use Rattle.trace_replay.proofs.Giving.{acts_both, had_more, one_more_stay, stay_follows}
use Rattle.trace_replay.proofs.orders.give_all.Goals as goal

pub unreachable-requires : goal.unreachable-requires
unreachable-requires c = let there = c.requires.each c.loop-stay.stay c.loop-stay-test.true in none-some there.0 (c.in_default.ensures ∙ there.1)

pub give-requires-clause-here : goal.give-requires-clause-here
give-requires-clause-here c =
    let kept : List (List GuestOf) = map (λ gs. map guest_of gs.items) c.args.guests.now in
    let did : List Act = did_before c.args.run.setup.squeues kept c.args.c c.loop-stay.stay in
    let next : 0 + fed did ≡ c.loop-stay.fed = omega (arith, c.loop-stay.invariant.feeds) in
    subst (λ (n : ℕ). HadFeeds (Stands c.loop-stay.blocks) c.args.c n) next
    (had_more (Stands c.args.blocks.now) (Stands c.loop-stay.blocks) c.args.c 0 did c.requires.fresh c.loop-stay.invariant.stands)

pub returns-then-not-give-clause-no : goal.returns-then-not-give-clause-no
returns-then-not-give-clause-no c =
    let squeues = c.args.run.setup.squeues in
    let kept : List (List GuestOf) = map (λ gs. map guest_of gs.items) c.args.guests.now in
    let most : ℕ = length (items_in c.args.run.plan.now c.args.c) in
    let acts = c.in-Some.acts.now in
    λ same follow.
    c.if-not-give.ensures.no refl
    (subst (λ (n : ℕ). FeedsFollow most n acts) (sym c.loop-stay.invariant.feeds)
    (stay_follows squeues kept c.args.c most c.args.stays c.loop-stay.stay acts c.loop-stay-test.true (sym c.in-Some.ensures) follow))

pub loop-stay-preserved : goal.loop-stay-preserved
loop-stay-preserved c =
    let squeues = c.args.run.setup.squeues in
    let kept : List (List GuestOf) = map (λ gs. map guest_of gs.items) c.args.guests.now in
    let did : List Act = did_before squeues kept c.args.c c.loop-stay.stay in
    let acts = c.in-Some.acts.now in
    let one = one_more_stay squeues kept c.args.c c.loop-stay.stay acts (sym c.in-Some.ensures) in
    let so_far = c.loop-stay.invariant in
    let gave = c.if-not-give.ensures in
    record {
      stands = λ had stands.
          subst (λ (h : Had). Stands c.give.new.blocks h) (acts_both c.args.c did acts had ∙ ap (λ (l : List Act). with_acts c.args.c l had) (sym one))
          (gave.stands refl (with_acts c.args.c did had) (so_far.stands had stands));
      origin = gave.origin ∙ so_far.origin;
      feeds = let fed_now = gave.yes refl in omega (arith, fed_now, so_far.feeds, ap fed one, fed-append did acts);
    }

pub returns-clause-stands : goal.returns-clause-stands
returns-clause-stands c =
    let kept : List (List GuestOf) = map (λ gs. map guest_of gs.items) c.args.guests.now in
    let all : c.loop-stay.stay ≡ c.args.stays = omega (arith, c.loop-stay-test.false, c.loop-stay.auto.stay-end) in
    λ same had stands.
    subst (λ (n : ℕ). Stands c.loop-stay.blocks (with_acts c.args.c (did_before c.args.run.setup.squeues kept c.args.c n) had)) all (c.loop-stay.invariant.stands had stands)
