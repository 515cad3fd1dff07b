use Rattle.std.proofs.Common.{refl, subst, sym, List}
use Rattle.perimeter_core.specs.declared.entries.Feed.{Feed as FeedOf}
use Rattle.placed_parts.specs.Placing.{limits_of, origin_of}
use Rattle.squeue_enter.specs.Entering.{Brought, MayEnter, MayGoOn}
use Rattle.stream_stays.proofs.Chained.{knows_entered, knows_waited, may_enter_chain}
use Rattle.stream_stays.proofs.pushing.enter_all.Goals as goal

pub enter_or_full-requires-clause-may : goal.enter_or_full-requires-clause-may
enter_or_full-requires-clause-may g c =
    subst (λ (es : List FeedOf). MayEnter limits_of c.args.sq.now c.args.pass es) (sym c.as_slice.ensures.value)
    (may_enter_chain g.X.Steps.begins g.X.Steps.step limits_of c.args.sq.now (origin_of c.args.sq.now.given.first) c.args.pass c.args.stays.now c.requires.knows)

pub returns-in-Ok-clause-knows : goal.returns-in-Ok-clause-knows
returns-in-Ok-clause-knows g c =
    let s = c.args.sq.now in
    knows_entered g.X.Steps.begins g.X.Steps.step limits_of s (origin_of s.given.first) c.args.pass c.in-Ok.field-0.pass c.args.stays.now _ c.in-Ok.ensures.entered.goes_on.same_number
    (subst (λ (es : List FeedOf). Brought limits_of s es c.args.pass c.in-Ok.field-0.pass) c.as_slice.ensures.value c.in-Ok.ensures.brought)
    (subst (λ (es : List FeedOf). MayGoOn limits_of s es c.args.pass c.in-Ok.field-0.pass) c.as_slice.ensures.value c.in-Ok.ensures.more) refl refl refl c.clear.ensures.items c.requires.knows

pub returns-in-Ok-clause-grows : goal.returns-in-Ok-clause-grows
returns-in-Ok-clause-grows g c = c.in-Ok.ensures.entered.goes_on.grows

pub returns-in-Err-clause-grows : goal.returns-in-Err-clause-grows
returns-in-Err-clause-grows g c = c.in-Err.ensures.full.goes_on.grows

pub returns-in-Err-clause-knows : goal.returns-in-Err-clause-knows
returns-in-Err-clause-knows g c =
    let s = c.args.sq.now in
    knows_waited g.X.Steps.begins g.X.Steps.step limits_of s (origin_of s.given.first) c.args.pass c.in-Err.back c.args.stays.now c.in-Err.ensures.full.goes_on.same_number c.in-Err.ensures.brought c.in-Err.ensures.more c.requires.knows
