use Rattle.std.proofs.Common.{ℕ, List, [], ◌∷◌, ◌++◌, refl, sym, ap, ◌∙◌}
use Rattle.sq_base.specs.declared.kinds.Tuple.{Tuple}
use Rattle.live_chats.specs.declared.seat.Seat.{Seat}
use Rattle.live_chats.proofs.LivedLemmas.{begins_itself, begins_on}
use Rattle.live_chats.proofs.ToldLemmas.{places_next, told_at_first, told_next, told_still}
use Rattle.live_chats.proofs.reaching.tell_all.Goals as goal

pub loop-i-init : goal.loop-i-init
loop-i-init g c = record {
  knows = c.requires.settled.knows;
  number = refl;
  grows = begins_itself _;
  told = told_at_first c.args.measures c.args.now c.args.stays.now c.args.seats.now.entries;
  touched = c.requires.settled.settled;
  asks = refl;
  all = c.len-i-end.ensures.len;
}

pub push-next-requires-clause-place : goal.push-next-requires-clause-place
push-next-requires-clause-place g c =
    let e = c.seat_at-seat.ensures in
    c.loop-i.invariant.told.opens c.seat_at-seat.result.place (c.requires.seated c.loop-i.i (e.0, c.seat_at-seat.result) e.1).is_open

pub returns-then-not-taken-clause-told : goal.returns-then-not-taken-clause-told
returns-then-not-taken-clause-told g c =
    let e : Tuple × Seat = (c.seat_at-seat.ensures.0, c.seat_at-seat.result) in
    told_still c.args.measures c.args.now c.args.stays.now c.loop-i.stays c.args.seats.now.entries c.requires.seated c.requires.distinct c.loop-i.i e c.seat_at-seat.ensures.1 c.push-next.new.stays c.loop-i.invariant.told c.push-next.ensures.place
    c.push-next.ensures.others (c.push-next.ensures.refused c.if-not-taken.true).0 (c.push-next.ensures.unpushed c.if-not-taken.true)

pub loop-i-preserved : goal.loop-i-preserved
loop-i-preserved g c =
    let e : Tuple × Seat = (c.seat_at-seat.ensures.0, c.seat_at-seat.result) in
    let taken = c.push-next.ensures.taken c.if-not-taken.false in
    record {
      knows = c.push-next.ensures.knows;
      number = c.push-next.ensures.number ∙ c.loop-i.invariant.number;
      grows = begins_on _ _ _ c.loop-i.invariant.grows c.push-next.ensures.grows;
      told = told_next c.args.measures c.args.now c.args.stays.now c.loop-i.stays c.args.seats.now.entries c.requires.seated c.requires.distinct c.loop-i.i e c.seat_at-seat.ensures.1 c.push-next.new.stays c.loop-i.invariant.told c.push-next.ensures.place
          c.push-next.ensures.others taken.0 (c.push-next.ensures.pushed c.if-not-taken.false);
      touched = taken.1 ∙ ap (λ (l : List ℕ). l ++ c.seat_at-seat.result.place ∷ []) c.loop-i.invariant.touched ∙ sym (places_next c.args.seats.now.entries c.loop-i.i e c.seat_at-seat.ensures.1);
      asks = c.push-next.ensures.asks ∙ c.loop-i.invariant.asks;
      all = c.loop-i.invariant.all;
    }

pub returns-then-not-taken-clause-grows : goal.returns-then-not-taken-clause-grows
returns-then-not-taken-clause-grows g c = begins_on _ _ _ c.loop-i.invariant.grows c.push-next.ensures.grows
