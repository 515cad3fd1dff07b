use Rattle.std.proofs.Common.{◌≡◌, arith}
use Rattle.turn_gate.specs.Passes.{seen}
use Rattle.placed_parts.specs.Placing.{limits_of, origin_of}
use Rattle.squeue_state.specs.Naming.{setting_of}
use Rattle.squeue_arrivals.specs.Keyed.{Tells}
use Rattle.squeue_arrivals.proofs.PlacesKept.{but_elsewhere, but_of, but_on, leaves_few, same_vacant, serves_first, unused_on}
use Rattle.squeue_arrivals.proofs.StaysKept.{begins_on}
use Rattle.squeue_arrivals.proofs.line.Line+KeyParts+X+H+W.open.Goals as goal

pub open_at-requires-clause-vacant : goal.open_at-requires-clause-vacant
open_at-requires-clause-vacant g c =
    let u = unused_on (setting_of limits_of c.args.self.now.squeue.now.given) c.args.stays.now c.settle-pass.new.stays c.args.c (c.settle-pass.ensures.keeps c.args.c) c.requires.unused in
    (u.vacant, u.is_vacant, omega (arith, u.leaves.0))

pub returns-clause-grows : goal.returns-clause-grows
returns-clause-grows g c = begins_on (seen c.args.pass) (seen c.settle-pass.result) (seen c.open_at.result) c.settle-pass.ensures.grows c.open_at.ensures.put.goes_on.grows

pub returns-clause-open : goal.returns-clause-open
returns-clause-open g c =
    let u = unused_on (setting_of limits_of c.args.self.now.squeue.now.given) c.args.stays.now c.settle-pass.new.stays c.args.c (c.settle-pass.ensures.keeps c.args.c) c.requires.unused in
    let o = c.open_at.ensures.opened in
    let one : u.vacant ≡ o.0 = same_vacant c.settle-pass.new.stays c.args.c u.vacant o.0 u.is_vacant o.2 in
    let sq = c.args.self.now.squeue.now in
    serves_first (setting_of limits_of sq.given) c.open_at.result c.open_at.new.stays c.args.c u.vacant o.0 o.1 one o.3 o.4 u.none u.leaves
    (leaves_few limits_of sq (Tells g.X.KeySteps.step) (origin_of sq.given.first) c.open_at.result c.open_at.new.stays c.open_at.ensures.knows)

pub returns-clause-others : goal.returns-clause-others
returns-clause-others g c =
    but_on c.args.c c.args.stays.now c.settle-pass.new.stays c.open_at.new.stays (but_of c.args.c c.args.stays.now c.settle-pass.new.stays c.settle-pass.ensures.keeps)
    (but_elsewhere c.args.c c.settle-pass.new.stays c.open_at.new.stays c.open_at.ensures.elsewhere)
