use Rattle.std.proofs.Common.{◌-◌, ◌∙◌, ap, sym, refl, subst, arith, Global, ℕ}
use Rattle.placed_parts.specs.Placing.{limits_of, origin_of}
use Rattle.stream_stays.specs.Staying.{IsOfRing, producer_of}
use Rattle.stream_stays.specs.Places.{chain_of}
use Rattle.stream_stays.specs.Settling.{sent_in}
use Rattle.squeue_state.specs.declared.guarded.Life.{Life}
use Rattle.perimeter_core.specs.declared.entries.Feed.{Feed as FeedOf}
use Rattle.std.specs.Prelude.{Vec}
use Rattle.stream_stays.specs.declared.stay.Vacant.{Vacant}
use Rattle.stream_stays.proofs.Kept.{due_pushed, elsewhere_by, knows_turned, may_leave_open, none_touched, vacated}
use Rattle.stream_stays.proofs.Knowing.{life_moved}
use Rattle.stream_stays.proofs.turning.close_at.Goals as goal

pub take_whole-pass-requires-clause-may : goal.take_whole-pass-requires-clause-may
take_whole-pass-requires-clause-may g c =
    may_leave_open g.X.Steps.begins g.X.Steps.step limits_of c.args.sq.now (origin_of c.args.sq.now.given.first) c.args.pass c.args.stays.now c.args.c c.take_open-stay.result c.requires.asks c.take_open-stay.ensures.was c.requires.knows

pub take_whole-pass-requires-clause-ring : goal.take_whole-pass-requires-clause-ring
take_whole-pass-requires-clause-ring g c =
    let lies = c.requires.knows.each c.args.c _ c.take_open-stay.ensures.was in
    subst (λ d. IsOfRing g.X.Steps.begins (origin_of c.args.sq.now.given.first) d (producer_of c.take_open-stay.result)) lies.stream lies.ring

pub overflow_sub-vacant : goal.overflow_sub-vacant
overflow_sub-vacant g c = (c.requires.knows.each c.args.c _ c.take_open-stay.ensures.was).leaves.0

pub returns-clause-knows : goal.returns-clause-knows
returns-clause-knows g c =
    let s = c.args.sq.now in
    let o = origin_of s.given.first in
    let old = c.args.stays.now in
    let new = c.put.new.self in
    let took = c.take_open-stay.ensures in
    let put = c.put.ensures in
    let whole = c.take_whole-pass.ensures in
    let a = c.take_open-stay.result in
    let v : Vacant g.row.X-Item.Denot g.row.X-State.Denot = record { producer = c.take_whole-pass.new.producer; part = c.take_whole-pass.result.1; stream = c.args.c; leaves = a.leaves - 1 } in
    let lies = c.requires.knows.each c.args.c _ took.was in
    let more = lies.leaves.0 in
    let asks = c.requires.asks in
    let life = took.same.life in
    let none = ap (λ (x : Vec FeedOf Global). x.items) (put.same.chain ∙ took.same.chain) ∙ c.requires.entered in
    let untouched = ap (λ (x : Vec ℕ Global). x.items) (put.same.touched ∙ took.same.touched) ∙ c.requires.settled in
    let at = vacated g.X.Steps.begins g.X.Steps.step limits_of s o c.args.pass c.take_whole-pass.result.0 (chain_of old) a v whole.moved.goes_on.same_number whole.learns (omega (arith, more)) whole.part whole.producer.0 (whole.items ∙ sym whole.producer.1) lies in
    knows_turned g.X.Steps.begins g.X.Steps.step limits_of s o c.args.pass c.take_whole-pass.result.0 c.args.c old new _ whole.moved.goes_on.same_number whole.learns.others
    (life_moved limits_of s c.args.pass c.take_whole-pass.result.0 _ _ _ _ old.life new.life whole.moved whole.learns c.requires.knows.life (ap (λ (l : Life). l.feeds) put.same.life ∙ ap (λ (l : Life). l.feeds) life)
    (omega (arith, asks, ap (λ (l : Life). l.asks) put.same.life, ap (λ (l : Life). l.asks) life)))
    (elsewhere_by c.args.c old c.take_open-stay.new.self _ new took.others put.others refl) put.now none c.requires.entered at c.requires.knows (none_touched new untouched)

pub returns-clause-elsewhere : goal.returns-clause-elsewhere
returns-clause-elsewhere g c = elsewhere_by c.args.c c.args.stays.now c.take_open-stay.new.self _ c.put.new.self c.take_open-stay.ensures.others c.put.ensures.others refl

pub returns-clause-closed : goal.returns-clause-closed
returns-clause-closed g c =
    let s = c.args.sq.now in
    let took = c.take_open-stay.ensures in
    let whole = c.take_whole-pass.ensures in
    let a = c.take_open-stay.result in
    let part = c.take_whole-pass.result.1 in
    let lies = c.requires.knows.each c.args.c _ took.was in
    let more = lies.leaves.0 in
    let o = origin_of s.given.first in (
      a,
      record { producer = c.take_whole-pass.new.producer; part = part; stream = c.args.c; leaves = a.leaves - 1 },
      took.was,
      c.put.ensures.now,
      omega (arith, more),
      whole.all ∙ due_pushed g.X.Steps.begins g.X.Steps.step limits_of s o c.args.pass (chain_of c.args.stays.now) c.args.c a c.requires.entered lies,
      whole.items,
      whole.part,
    )

pub returns-clause-sent : goal.returns-clause-sent
returns-clause-sent g c = ap sent_in c.put.ensures.now ∙ (c.take_whole-pass.ensures.producer.1 ∙ sym (ap sent_in c.take_open-stay.ensures.was))

pub returns-clause-rest : goal.returns-clause-rest
returns-clause-rest g c =
    let took = c.take_open-stay.ensures.same in
    let put = c.put.ensures.same in
    (ap (λ (x : Vec FeedOf Global). x.items) (put.chain ∙ took.chain) ∙ c.requires.entered, ap (λ (x : Vec ℕ Global). x.items) (put.touched ∙ took.touched) ∙ c.requires.settled)

pub returns-clause-spent : goal.returns-clause-spent
returns-clause-spent g c =
    let life = c.take_open-stay.ensures.same.life in
    let put = c.put.ensures.same.life in
    let asks = c.requires.asks in
    (ap (λ (l : Life). l.feeds) put ∙ ap (λ (l : Life). l.feeds) life, omega (arith, asks, ap (λ (l : Life). l.asks) put, ap (λ (l : Life). l.asks) life))
