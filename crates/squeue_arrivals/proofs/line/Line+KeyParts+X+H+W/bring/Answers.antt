use Rattle.std.proofs.Common.{◌≤◌, ◌+◌, ◌++◌, ◌∷◌, [], length, ap, subst, ◌∙◌, arith}
use Rattle.turn_gate.specs.Passes.{seen}
use Rattle.placed_parts.specs.Placing.{limits_of, origin_of}
use Rattle.squeue_state.specs.Naming.{setting_of}
use Rattle.stream_stays.specs.Places.{place_at}
use Rattle.squeue_arrivals.specs.Keyed.{Tells}
use Rattle.squeue_arrivals.specs.Keeping.{Serves}
use Rattle.squeue_arrivals.proofs.PlacesKept.{but_elsewhere, but_of, but_on, leaves_few, open_at_both, serves_next, serves_on}
use Rattle.squeue_arrivals.proofs.StaysKept.{begins_on}
use Rattle.squeue_arrivals.proofs.line.Line+KeyParts+X+H+W.bring.Goals as goal

pub push_at-requires-clause-open : goal.push_at-requires-clause-open
push_at-requires-clause-open g c = let w = c.requires.open in let s = c.renew-pass.ensures.open w.0 w.1 in (s.stay, s.is_open)

pub returns-in-Ok-clause-brought : goal.returns-in-Ok-clause-brought
returns-in-Ok-clause-brought g c = λ items has.
    let s = c.in-Ok.ensures.same in
    serves_next (setting_of limits_of c.args.self.now.squeue.now.given) c.renew-pass.result c.renew-pass.new.stays c.push_at.new.stays c.args.c (length items + 1) items (items ++ c.args.item ∷ []) s.0 s.1
    (c.renew-pass.ensures.open items has) s.2 s.3 s.4 (λ e. s.5.0 ∙ ap (λ l. l ++ c.args.item ∷ []) e)

pub returns-in-Ok-clause-others : goal.returns-in-Ok-clause-others
returns-in-Ok-clause-others g c =
    but_on c.args.c c.args.stays.now c.renew-pass.new.stays c.push_at.new.stays c.renew-pass.ensures.others (but_elsewhere c.args.c c.renew-pass.new.stays c.push_at.new.stays c.push_at.ensures.elsewhere)

pub push-requires-clause-open : goal.push-requires-clause-open
push-requires-clause-open g c =
    let s = c.in-Err.ensures.same in
    let o = open_at_both (place_at c.push_at.new.stays c.args.c) (place_at c.settle-pass.new.stays c.args.c) s.1 s.3 (c.settle-pass.ensures.keeps c.args.c) in
    let few = c.renew-pass.ensures.few s.0 s.2 in
    (o.0, o.1, omega (arith, few, s.5.2, o.2.pushed))

pub returns-in-Err-clause-grows : goal.returns-in-Err-clause-grows
returns-in-Err-clause-grows g c = begins_on (seen c.args.pass) (seen c.renew-pass.result) (seen c.settle-pass.result) c.renew-pass.ensures.grows c.settle-pass.ensures.grows

pub returns-in-Err-clause-brought : goal.returns-in-Err-clause-brought
returns-in-Err-clause-brought g c = λ items has.
    let sq = c.args.self.now.squeue.now in
    let at = setting_of limits_of sq.given in
    let s = c.in-Err.ensures.same in
    let n = length items + 1 in
    let le : n ≤ n = omega arith in
    let e = c.settle-pass.ensures in
    let still = serves_next at c.renew-pass.result c.renew-pass.new.stays c.push_at.new.stays c.args.c n items items s.0 s.1 (c.renew-pass.ensures.open items has) s.2 s.3 s.4 (λ h. s.5.1 ∙ h) in
    let settled = serves_on at c.renew-pass.result c.settle-pass.result c.push_at.new.stays c.settle-pass.new.stays c.args.c n n items e.number e.grows (e.keeps c.args.c) le
    (leaves_few limits_of sq (Tells g.X.KeySteps.step) (origin_of sq.given.first) c.settle-pass.result c.settle-pass.new.stays e.settled.knows) still in
    subst (λ x. Serves at c.settle-pass.result c.push.new.stays c.args.c (items ++ x ∷ []) n) s.5.0 (c.push.ensures.pushed items n settled)

pub returns-in-Err-clause-others : goal.returns-in-Err-clause-others
returns-in-Err-clause-others g c =
    but_on c.args.c c.args.stays.now c.renew-pass.new.stays c.push.new.stays c.renew-pass.ensures.others
    (but_on c.args.c c.renew-pass.new.stays c.push_at.new.stays c.push.new.stays (but_elsewhere c.args.c c.renew-pass.new.stays c.push_at.new.stays c.push_at.ensures.elsewhere)
    (but_on c.args.c c.push_at.new.stays c.settle-pass.new.stays c.push.new.stays (but_of c.args.c c.push_at.new.stays c.settle-pass.new.stays c.settle-pass.ensures.keeps) c.push.ensures.others))
