use Rattle.std.proofs.Common.{◌≡◌, ◌≤◌, ◌+◌, length, ap, sym, refl, ◌∙◌, arith}
use Rattle.std.proofs.lemmas.Option.{slice_get_within}
use Rattle.turn_gate.specs.Passes.{seen}
use Rattle.placed_parts.specs.Placing.{limits_of, origin_of}
use Rattle.squeue_state.specs.Naming.{setting_of}
use Rattle.stream_stays.specs.declared.place.Place.TheVariants.{Open}
use Rattle.stream_stays.specs.Places.{places_of}
use Rattle.stream_stays.specs.Settling.{sent_in}
use Rattle.stream_stays.specs.Staying.{leaves_of, pushed_of}
use Rattle.squeue_arrivals.specs.Keyed.{Tells}
use Rattle.squeue_arrivals.proofs.PlacesKept.{but_elsewhere, but_of, but_on, fed_all, fed_begun, keeps_self, leaves_few, same_stay, same_vacant, sent_there, serves_begun, serves_on}
use Rattle.squeue_arrivals.proofs.StaysKept.{begins_itself, begins_on}
use Rattle.squeue_arrivals.proofs.line.Line+KeyParts+X+H+W.renew.Goals as goal

pub pushed-requires : goal.pushed-requires
pushed-requires g c = let w = c.requires.open in slice_get_within (places_of c.args.stays.now) c.args.c (Open w.1.stay) w.1.is_open

pub returns-then-pushed-self-clause-grows : goal.returns-then-pushed-self-clause-grows
returns-then-pushed-self-clause-grows g c = begins_itself (seen c.args.pass)

pub returns-then-pushed-self-clause-open : goal.returns-then-pushed-self-clause-open
returns-then-pushed-self-clause-open g c = λ items has.
    let sq = c.args.self.now.squeue.now in
    serves_on (setting_of limits_of sq.given) c.args.pass c.args.pass c.args.stays.now c.args.stays.now c.args.c (length items) (length items + 1) items refl (begins_itself (seen c.args.pass))
    (keeps_self c.args.stays.now c.args.c) (omega arith) (leaves_few limits_of sq (Tells g.X.KeySteps.step) (origin_of sq.given.first) c.args.pass c.args.stays.now c.requires.knows) has

pub returns-then-pushed-self-clause-few : goal.returns-then-pushed-self-clause-few
returns-then-pushed-self-clause-few g c = λ stay at. omega (arith, c.if-pushed-self.true, c.pushed.ensures stay at)

pub returns-then-pushed-self-clause-others : goal.returns-then-pushed-self-clause-others
returns-then-pushed-self-clause-others g c = but_of c.args.c c.args.stays.now c.args.stays.now (keeps_self c.args.stays.now)

pub close_at-closed-requires-clause-open : goal.close_at-closed-requires-clause-open
close_at-closed-requires-clause-open g c =
    let w = c.requires.open in
    let sq = c.args.self.now.squeue.now in
    let e = c.settle-settled.ensures in
    let n = length w.0 in
    let le : n ≤ n = omega arith in
    let s = serves_on (setting_of limits_of sq.given) c.args.pass c.settle-settled.result c.args.stays.now c.settle-settled.new.stays c.args.c n n w.0 e.number e.grows (e.keeps c.args.c) le (leaves_few limits_of sq (Tells g.X.KeySteps.step) (origin_of sq.given.first) c.settle-settled.result c.settle-settled.new.stays e.settled.knows) w.1 in
    (s.stay, s.is_open)

pub open_at-requires-clause-vacant : goal.open_at-requires-clause-vacant
open_at-requires-clause-vacant g c =
    let w = c.requires.open in
    let sq = c.args.self.now.squeue.now in
    let e = c.settle-settled.ensures in
    let n = length w.0 in
    let le : n ≤ n = omega arith in
    let s = serves_on (setting_of limits_of sq.given) c.args.pass c.settle-settled.result c.args.stays.now c.settle-settled.new.stays c.args.c n n w.0 e.number e.grows (e.keeps c.args.c) le (leaves_few limits_of sq (Tells g.X.KeySteps.step) (origin_of sq.given.first) c.settle-settled.result c.settle-settled.new.stays e.settled.knows) w.1 in
    let closed = c.close_at-closed.ensures.closed in
    let one : s.stay ≡ closed.0 = same_stay c.settle-settled.new.stays c.args.c s.stay closed.0 s.is_open closed.2 in
    (closed.1, closed.3, omega (arith, s.leaves, ap leaves_of one, closed.4, w.2))

pub returns-clause-grows : goal.returns-clause-grows
returns-clause-grows g c =
    begins_on (seen c.args.pass) (seen c.settle-settled.result) (seen c.open_at.result) c.settle-settled.ensures.grows
    (begins_on (seen c.settle-settled.result) (seen c.close_at-closed.result) (seen c.open_at.result) c.close_at-closed.ensures.out.goes_on.grows c.open_at.ensures.put.goes_on.grows)

pub returns-clause-open : goal.returns-clause-open
returns-clause-open g c = λ items has.
    let sq = c.args.self.now.squeue.now in
    let at = setting_of limits_of sq.given in
    let e = c.settle-settled.ensures in
    let n = length items in
    let le : n ≤ n = omega arith in
    let s = serves_on at c.args.pass c.settle-settled.result c.args.stays.now c.settle-settled.new.stays c.args.c n n items e.number e.grows (e.keeps c.args.c) le (leaves_few limits_of sq (Tells g.X.KeySteps.step) (origin_of sq.given.first) c.settle-settled.result c.settle-settled.new.stays e.settled.knows) has in
    let closed = c.close_at-closed.ensures.closed in
    let opened = c.open_at.ensures.opened in
    let one : s.stay ≡ closed.0 = same_stay c.settle-settled.new.stays c.args.c s.stay closed.0 s.is_open closed.2 in
    let part : closed.1 ≡ opened.0 = same_vacant c.close_at-closed.new.stays c.args.c closed.1 opened.0 closed.3 opened.2 in
    let all = fed_all limits_of sq c.settle-settled.result c.close_at-closed.result c.settle-settled.new.stays c.close_at-closed.new.stays c.args.c n items closed.0 closed.1 s closed.2 closed.3 closed.4
    (leaves_few limits_of sq (Tells g.X.KeySteps.step) (origin_of sq.given.first) c.close_at-closed.result c.close_at-closed.new.stays c.close_at-closed.ensures.knows) c.close_at-closed.ensures.out closed.5 c.close_at-closed.ensures.number in
    let now = fed_begun at c.close_at-closed.result c.open_at.result c.open_at.new.stays c.args.c n closed.1 opened.0 opened.1 part opened.3 opened.4 c.open_at.ensures.number c.open_at.ensures.put.goes_on.grows
    (leaves_few limits_of sq (Tells g.X.KeySteps.step) (origin_of sq.given.first) c.open_at.result c.open_at.new.stays c.open_at.ensures.knows) all.1 all.0 in
    let its_items = sym (ap sent_in closed.3) ∙ (c.close_at-closed.ensures.sent ∙ sent_there at c.settle-settled.result c.settle-settled.new.stays c.args.c n items s) in
    serves_begun at c.open_at.result c.open_at.new.stays c.args.c (n + 1) items closed.1 opened.0 opened.1 part opened.3 opened.4 its_items (omega (arith, s.leaves, ap leaves_of one, closed.4)) now.1 now.0

pub returns-clause-few : goal.returns-clause-few
returns-clause-few g c = λ stay at.
    let opened = c.open_at.ensures.opened in
    let one : opened.1 ≡ stay = same_stay c.open_at.new.stays c.args.c opened.1 stay opened.3 at in
    omega (arith, ap pushed_of one, opened.4.none.0)

pub returns-clause-others : goal.returns-clause-others
returns-clause-others g c =
    but_on c.args.c c.args.stays.now c.settle-settled.new.stays c.open_at.new.stays (but_of c.args.c c.args.stays.now c.settle-settled.new.stays c.settle-settled.ensures.keeps)
    (but_on c.args.c c.settle-settled.new.stays c.close_at-closed.new.stays c.open_at.new.stays (but_elsewhere c.args.c c.settle-settled.new.stays c.close_at-closed.new.stays c.close_at-closed.ensures.elsewhere)
    (but_elsewhere c.args.c c.close_at-closed.new.stays c.open_at.new.stays c.open_at.ensures.elsewhere))
