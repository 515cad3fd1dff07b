use Rattle.std.proofs.Common.{◌≡◌, ℕ, ◌<◌, Vec, List, Some, [], length, map, sym, ap, subst, ◌∙◌, arith}
use Rattle.std.specs.Prelude.{Box, slice_get}
use Rattle.std.specs.declared.alloc.Global.{Global}
use Rattle.std.proofs.lemmas.List.{length-map, length_push}
use Rattle.std.proofs.lemmas.Option.{MatchOption-at_none, MatchOption-at_some, none-some}
use Rattle.perimeter_core.specs.Blocks.{Blocks as Had}
use Rattle.conn_blocks.specs.Places.{Stands}
use Rattle.placed_parts.specs.Standing.{first_here}
use Rattle.conn_blocks.specs.ServeOrder.{BlockOf}
use Rattle.squeue_replay.specs.declared.guest.Guest.{Guest}
use Rattle.squeue_replay.specs.Histories.{endings_of}
use Rattle.squeue_replay.specs.Standing.{GuestOf, guest_of}
use Rattle.trace_replay.specs.declared.reason.Reason.TheVariants as reason
use Rattle.trace_replay.specs.Joining.{HasNoOrder, HasOrder, without}
use Rattle.trace_replay.specs.Reasons.{IsUnordered}
use Rattle.trace_replay.proofs.AllOrders.{all_named, all_ordered, all_served, first_without, push_order}
use Rattle.trace_replay.proofs.KeptGuests.{all_there}
use Rattle.trace_replay.proofs.Taken.{here_at_one, others_stay, some_has}
use Rattle.trace_replay.proofs.orders.serve_orders.Goals as goal

pub loop-c-init : goal.loop-c-init
loop-c-init c =
    let n : ℕ = length c.args.run.plan.now.tuples in
    let empty = c.in_ok-served.ensures.items in
    record {
      fresh = (first_here n 0 1, c.in_ok-blocks.ensures.stands, λ d le lt. here_at_one n d lt);
      origin = c.in_ok-blocks.ensures.origin;
      count = ap length empty;
      room = omega (arith, c.in_ok-served.ensures.capacity, c.conns.ensures.value);
      orders = λ d b e. absurd (none-some b (sym (ap (λ (l : List (Box BlockOf Global)). slice_get (map (λ x. x.value) l) d) empty) ∙ e));
    }

pub serve_order-requires-clause-conns : goal.serve_order-requires-clause-conns
serve_order-requires-clause-conns c =
    let m = c.requires.marks in
    all_there (λ (gs : Vec Guest Global). gs.items) guest_of c.args.guests.now c.args.run.plan.now c.args.run.calls.now c.args.run.setup m.0 m.2

pub serve_order-requires-clause-named : goal.serve_order-requires-clause-named
serve_order-requires-clause-named c =
    let m = c.requires.marks in
    let kept : List (List GuestOf) = map (λ gs. map guest_of gs.items) c.args.guests.now in
    let count : length kept ≡ c.args.run.setup.squeues = length-map c.args.guests.now (λ (gs : Vec Guest Global). map guest_of gs.items) ∙ c.requires.squeues in
    all_named c.args.run.plan.now c.args.run.calls.now c.args.run.setup m.0 kept c.args.run.setup.squeues m.1 m.2 count c.loop-c.c
    (omega (arith, c.loop-c-test.true, c.conns-c-end.ensures.value))

pub returns-in-None-clause-no : goal.returns-in-None-clause-no
returns-in-None-clause-no c =
    let p = c.args.run.plan.now in
    let calls = c.args.run.calls.now in
    let setup = c.args.run.setup in
    let squeues = c.args.run.setup.squeues in
    let kept : List (List GuestOf) = map (λ gs. map guest_of gs.items) c.args.guests.now in
    let count : length kept ≡ squeues = length-map c.args.guests.now (λ (gs : Vec Guest Global). map guest_of gs.items) ∙ c.requires.squeues in
    let blocks : List BlockOf = map (λ x. x.value) c.loop-c.served.items in
    let len : length blocks ≡ c.loop-c.c = length-map c.loop-c.served.items (λ (x : Box BlockOf Global). x.value) ∙ c.loop-c.invariant.count in
    let lt : length blocks < length c.args.run.plan.now.tuples = omega (arith, len, c.loop-c-test.true, c.conns-c-end.ensures.value) in
    let none : HasNoOrder squeues kept c.loop-c.c p calls =
    MatchOption-at_none (HasNoOrder squeues kept c.loop-c.c p calls) (λ (b : Box BlockOf Global). HasOrder squeues kept c.loop-c.c p calls b.value) c.in-None.is c.in_ok-block.ensures.order in
    λ r e. (
      c.loop-c.c,
      (let same : r ≡ reason.Order c.loop-c.c = cc e in same),
      λ marks right stand.
          subst (λ (n : ℕ). IsUnordered p calls (endings_of p calls setup marks) n) len
          (first_without p calls kept squeues blocks c.loop-c.invariant.orders setup marks right stand count lt (subst (λ (n : ℕ). HasNoOrder squeues kept n p calls) (sym len) none)),
    )

pub loop-c-preserved : goal.loop-c-preserved
loop-c-preserved c =
    let p = c.args.run.plan.now in
    let calls = c.args.run.calls.now in
    let squeues = c.args.run.setup.squeues in
    let kept : List (List GuestOf) = map (λ gs. map guest_of gs.items) c.args.guests.now in
    let so_far = c.loop-c.invariant in
    let block = c.in-Some.block in
    let order : HasOrder squeues kept c.loop-c.c p calls block.value =
    MatchOption-at_some (HasNoOrder squeues kept c.loop-c.c p calls) (λ (b : Box BlockOf Global). HasOrder squeues kept c.loop-c.c p calls b.value) block c.in-Some.is c.in_ok-block.ensures.order in
    let Others : Type 0 = (had : Had) → Stands c.loop-c.blocks had → had c.loop-c.c ≡ Some [] → Stands c.serve_order.new.blocks (without c.loop-c.c had) in
    let others : Others = some_has (λ (b : Box BlockOf Global). Others) c.in_ok-block.field-0 block c.in-Some.is c.in_ok-block.ensures.others in
    let there : c.loop-c.c < length c.args.run.plan.now.tuples = omega (arith, c.loop-c-test.true, c.conns-c-end.ensures.value) in
    let fresh = so_far.fresh in
    let pushed = c.push_reserved.ensures in
    record {
      fresh = (
        without c.loop-c.c fresh.0,
        others fresh.0 fresh.1 (fresh.2 c.loop-c.c (omega arith) there),
        λ d le lt. others_stay c.loop-c.c d fresh.0 (omega (arith, le)) ∙ fresh.2 d (omega (arith, le)) lt,
      );
      origin = c.in_ok-block.ensures.origin ∙ so_far.origin;
      count = omega (arith, ap length pushed.items, length_push c.loop-c.served.items block, so_far.count);
      room = omega (arith, so_far.room, pushed.capacity);
      orders = push_order p calls kept squeues c.loop-c.c c.loop-c.served.items c.push_reserved.new.self.items block so_far.count pushed.items so_far.orders order;
    }

pub returns-clause-served : goal.returns-clause-served
returns-clause-served c =
    let p = c.args.run.plan.now in
    let calls = c.args.run.calls.now in
    let squeues = c.args.run.setup.squeues in
    let kept : List (List GuestOf) = map (λ gs. map guest_of gs.items) c.args.guests.now in
    let blocks : List BlockOf = map (λ x. x.value) c.loop-c.served.items in
    let len : length blocks ≡ length c.args.run.plan.now.tuples =
    omega (arith, length-map c.loop-c.served.items (λ (x : Box BlockOf Global). x.value), c.loop-c.invariant.count, c.loop-c-test.false, c.loop-c.auto.c-end, c.conns-c-end.ensures.value) in
    all_served p calls kept squeues blocks c.loop-c.invariant.orders len

pub returns-clause-ordered : goal.returns-clause-ordered
returns-clause-ordered c =
    let p = c.args.run.plan.now in
    let calls = c.args.run.calls.now in
    let setup = c.args.run.setup in
    let squeues = c.args.run.setup.squeues in
    let kept : List (List GuestOf) = map (λ gs. map guest_of gs.items) c.args.guests.now in
    let count : length kept ≡ squeues = length-map c.args.guests.now (λ (gs : Vec Guest Global). map guest_of gs.items) ∙ c.requires.squeues in
    let blocks : List BlockOf = map (λ x. x.value) c.loop-c.served.items in
    let len : length blocks ≡ length c.args.run.plan.now.tuples =
    omega (arith, length-map c.loop-c.served.items (λ (x : Box BlockOf Global). x.value), c.loop-c.invariant.count, c.loop-c-test.false, c.loop-c.auto.c-end, c.conns-c-end.ensures.value) in
    λ marks right stand. all_ordered p calls kept squeues blocks c.loop-c.invariant.orders setup marks right stand count len
