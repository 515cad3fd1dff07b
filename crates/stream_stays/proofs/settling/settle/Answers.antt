use Rattle.std.proofs.Common.{◌-◌, [], ap, sym, subst, arith}
use Rattle.perimeter_core.specs.declared.marks.SynchAct.TheVariants as Done
use Rattle.placed_parts.specs.Placing.{limits_of, origin_of}
use Rattle.conn_migrate.specs.Moving.{Moved}
use Rattle.conn_migrate.proofs.Halves.{takes}
use Rattle.synch_enter.proofs.OneAct.{take_here}
use Rattle.stream_stays.specs.Staying.{IsOfRing, producer_of}
use Rattle.stream_stays.specs.Places.{place_at, touched_of}
use Rattle.stream_stays.specs.Settling.{Collected}
use Rattle.squeue_state.specs.declared.guarded.Life.{Life}
use Rattle.stream_stays.proofs.Kept.{fed_each, knows_settled, may_leave_open}
use Rattle.stream_stays.proofs.Knowing.{may_ask}
use Rattle.stream_stays.proofs.Looks.{life_looked, look_keeps, stands_still}
use Rattle.stream_stays.proofs.Settled.{same_sent_in}
use Rattle.stream_stays.proofs.settling.settle.Goals as goal

pub synch_enter-owner-requires : goal.synch_enter-owner-requires
synch_enter-owner-requires g c = may_ask limits_of c.args.sq.now c.args.pass c.args.stays.now.life c.requires.asks c.requires.knows.life

pub settle_touched-requires : goal.settle_touched-requires
settle_touched-requires g c = record {
  may = λ d there.
      let s = c.args.sq.now in
      let o = c.synch_enter-owner.result in
      let e = c.synch_enter-owner.ensures in
      let at = c.requires.knows.touched d there in
      let lies = c.requires.knows.each d _ at.1 in
      let may = may_leave_open g.X.Steps.begins g.X.Steps.step limits_of s (origin_of s.given.first) c.args.pass c.args.stays.now d at.0 c.requires.asks at.1 c.requires.knows in
      record {
        here = take_here _ s o d (takes e.came e.owner e.no_act may);
        stay = at.0;
        is_open = at.1;
        ring =
            subst (λ x. IsOfRing g.X.Steps.begins x d (producer_of at.0)) (sym e.owner.owns.resident.same_origin)
            (subst (λ n. IsOfRing g.X.Steps.begins (origin_of s.given.first) n (producer_of at.0)) lies.stream lies.ring);
      };
}

pub leave-requires-clause-stands : goal.leave-requires-clause-stands
leave-requires-clause-stands g c =
    let keeps = c.settle_touched.ensures.keeps in
    stands_still c.synch_enter-owner.result c.settle_touched.new.resident keeps.stands keeps.limits keeps.size keeps.origin c.synch_enter-owner.ensures.owner

pub returns-clause-knows : goal.returns-clause-knows
returns-clause-knows g c =
    let s = c.args.sq.now in
    let m : Moved limits_of s Done.None [] c.args.pass c.leave.result = c.leave.ensures.moved c.args.pass c.synch_enter-owner.ensures.came in
    let settled = c.settle_touched.ensures in
    let asks = c.requires.asks in
    let life = settled.rest.0 in
    let asks_at = ap (λ (l : Life). l.asks) life in
    let after : Life = record { feeds = c.settle_touched.new.stays.life.feeds; asks = c.settle_touched.new.stays.life.asks - 1 } in
    knows_settled g.X.Steps.begins g.X.Steps.step limits_of s (origin_of s.given.first) c.args.pass c.leave.result m.goes_on.same_number (look_keeps c.requires.knows.life.pass m) c.args.stays.now _
    (life_looked c.requires.knows.life.pass m c.args.stays.now.life after c.requires.knows.life (ap (λ (l : Life). l.feeds) life) (omega (arith, asks, asks_at)))
    (record { chain = settled.same.chain; each = settled.same.each }) c.requires.entered c.clear.ensures.items c.requires.knows

pub returns-clause-number : goal.returns-clause-number
returns-clause-number g c =
    let m : Moved limits_of c.args.sq.now Done.None [] c.args.pass c.leave.result = c.leave.ensures.moved c.args.pass c.synch_enter-owner.ensures.came in
    m.goes_on.same_number

pub returns-clause-same : goal.returns-clause-same
returns-clause-same g c = let same = c.settle_touched.ensures.same in record { chain = same.chain; each = same.each }

pub returns-clause-sent : goal.returns-clause-sent
returns-clause-sent g c = λ d. same_sent_in (place_at c.args.stays.now d) (place_at c.settle_touched.new.stays d) (c.settle_touched.ensures.same.each d)

pub returns-clause-spent : goal.returns-clause-spent
returns-clause-spent g c =
    let life = c.settle_touched.ensures.rest.0 in
    let asks_at = ap (λ (l : Life). l.asks) life in
    let asks = c.requires.asks in
    (ap (λ (l : Life). l.feeds) life, omega (arith, asks, asks_at))

pub returns-clause-legal : goal.returns-clause-legal
returns-clause-legal g c =
    let m : Moved limits_of c.args.sq.now Done.None [] c.args.pass c.leave.result = c.leave.ensures.moved c.args.pass c.synch_enter-owner.ensures.came in
    m.goes_on.legal

pub returns-clause-grows : goal.returns-clause-grows
returns-clause-grows g c =
    let m : Moved limits_of c.args.sq.now Done.None [] c.args.pass c.leave.result = c.leave.ensures.moved c.args.pass c.synch_enter-owner.ensures.came in
    m.goes_on.grows

pub returns-clause-fed : goal.returns-clause-fed
returns-clause-fed g c = λ d stay there.
    let s = c.args.sq.now in
    let came = c.synch_enter-owner.ensures.came in
    let m : Moved limits_of s Done.None [] c.args.pass c.leave.result = c.leave.ensures.moved c.args.pass came in
    fed_each g.X.Steps.begins g.X.Steps.step limits_of s (origin_of s.given.first) c.args.pass c.leave.result m.goes_on.same_number (look_keeps c.requires.knows.life.pass m) c.args.stays.now d stay c.requires.entered there
    (λ e ring here. c.leave.ensures.fed c.args.pass e came ring here) c.requires.knows

pub returns-clause-settled : goal.returns-clause-settled
returns-clause-settled g c =
    subst (λ x. Collected g.X.Steps.begins g.X.Steps.step g.V.Collects.takes x c.args.stays.now (touched_of c.args.stays.now) c.args.collector.now c.settle_touched.new.collector) c.synch_enter-owner.ensures.owner.owns.resident.same_origin
    c.settle_touched.ensures.collected
