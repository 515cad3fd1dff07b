use Rattle.std.proofs.Common.{◌+◌, ◌∙◌, ◌++◌, ◌∷◌, [], List, ap, sym, ℕ}
use Rattle.std.specs.Prelude.{slice_get}
use Rattle.placed_parts.specs.Placing.{limits_of, origin_of}
use Rattle.stream_stays.specs.Settling.{sent_in}
use Rattle.stream_stays.proofs.Chained.{but_on, elsewhere_on, knows_pushed_by, knows_refused_by, refused}
use Rattle.stream_stays.proofs.pushing.push_at.Goals as goal

pub returns-in-Ok-clause-knows : goal.returns-in-Ok-clause-knows
returns-in-Ok-clause-knows g c =
    let took = c.take_open-stay.ensures in
    let put = c.put.ensures in
    let added = c.add.ensures in
    let handed = c.in-Ok.ensures.pushed in
    knows_pushed_by g.X.Steps.begins g.X.Steps.step limits_of c.args.sq.now (origin_of c.args.sq.now.given.first) c.args.pass.now c.args.c c.args.stays.now c.put.new.self c.take_open-stay.result c.hand_on-handed.new.self took.was put.now
    (elsewhere_on c.args.c c.args.stays.now c.take_open-stay.new.self c.put.new.self took.others put.others) (but_on c.args.stays.now c.take_open-stay.new.self c.put.new.self took.same put.same) c.hand_on-handed.ensures.same c.requires.knows
    c.in-Ok.n c.add.new.self handed.0 handed.1 handed.2 added.life.0 added.life.1 added.chain added.touched added.places

pub returns-in-Ok-clause-same : goal.returns-in-Ok-clause-same
returns-in-Ok-clause-same g c =
    let handed = c.in-Ok.ensures.pushed in (
      c.take_open-stay.result,
      c.hand_on-handed.new.self,
      c.take_open-stay.ensures.was,
      ap (λ xs. slice_get xs c.args.c) c.add.ensures.places ∙ c.put.ensures.now,
      c.hand_on-handed.ensures.same,
      (handed.3, handed.1 ∙ ap (λ (k : ℕ). k + 1) handed.0),
      tt,
    )

pub returns-in-Ok-clause-sent : goal.returns-in-Ok-clause-sent
returns-in-Ok-clause-sent g c =
    ap (λ xs. sent_in (slice_get xs c.args.c)) c.add.ensures.places
    ∙ (ap sent_in c.put.ensures.now ∙ (c.in-Ok.ensures.pushed.3 ∙ ap (λ (xs : List g.row.X-Item.Denot). xs ++ c.args.item ∷ []) (sym (ap sent_in c.take_open-stay.ensures.was))))

pub returns-in-Err-clause-sent : goal.returns-in-Err-clause-sent
returns-in-Err-clause-sent g c = ap sent_in c.put.ensures.now ∙ (c.in-Err.ensures.pushed.3 ∙ sym (ap sent_in c.take_open-stay.ensures.was))

pub returns-in-Err-clause-knows : goal.returns-in-Err-clause-knows
returns-in-Err-clause-knows g c =
    let took = c.take_open-stay.ensures in
    let put = c.put.ensures in
    let handed = c.in-Err.ensures.pushed in
    knows_refused_by g.X.Steps.begins g.X.Steps.step limits_of c.args.sq.now (origin_of c.args.sq.now.given.first) c.args.pass.now c.args.c c.args.stays.now c.put.new.self c.take_open-stay.result c.hand_on-handed.new.self took.was put.now
    (elsewhere_on c.args.c c.args.stays.now c.take_open-stay.new.self c.put.new.self took.others put.others) (but_on c.args.stays.now c.take_open-stay.new.self c.put.new.self took.same put.same) c.hand_on-handed.ensures.same c.requires.knows
    handed.1 handed.2

pub returns-in-Err-clause-same : goal.returns-in-Err-clause-same
returns-in-Err-clause-same g c =
    let handed = c.in-Err.ensures.pushed in (
      c.take_open-stay.result,
      c.hand_on-handed.new.self,
      c.take_open-stay.ensures.was,
      c.put.ensures.now,
      c.hand_on-handed.ensures.same,
      (handed.0, handed.3, handed.1),
      refused c.has_room-room.result c.args.stays.now c.put.new.self _ (but_on c.args.stays.now c.take_open-stay.new.self c.put.new.self c.take_open-stay.ensures.same c.put.ensures.same) c.has_room-room.ensures.full c.in-Err.ensures.full,
    )
