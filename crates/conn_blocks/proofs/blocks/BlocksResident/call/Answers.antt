use Rattle.std.proofs.Common.{◌<◌, length, Some, ap, sym, subst, ◌∙◌, arith}
use Rattle.perimeter_core.proofs.ActLists.{got}
use Rattle.conn_blocks.specs.Holding.{StandsFor}
use Rattle.placed_parts.proofs.PlaceSteps.{call_stands, had_some, no_place}
use Rattle.conn_blocks.specs.Places.{BlockAt}
use Rattle.conn_blocks.proofs.PlaceSteps.{is_call_on}
use Rattle.conn_blocks.proofs.blocks.BlocksResident.call.Goals as goal

pub call-requires-clause-exists : goal.call-requires-clause-exists
call-requires-clause-exists c =
    let p = c.args.self.now.plan in
    let calls = c.args.self.now.calls.now in
    let places = c.args.self.now.places.items in
    let lt : c.args.c < length places = omega (arith, c.requires.range, c.args.self.now.each) in
    let at = got places c.args.c c.index_mut.result.now _ lt c.index_mut.ensures.value ∙ ap Some c.in-Some.is in
    let had = had_some (BlockAt p calls) places c.args.c c.in-Some.block at c.requires.here in
    is_call_on calls c.args.c c.args.j c.args.k had.stands.settled.threads c.requires.exists

pub call-requires-clause-stands : goal.call-requires-clause-stands
call-requires-clause-stands c =
    let p = c.args.self.now.plan in
    let calls = c.args.self.now.calls.now in
    let places = c.args.self.now.places.items in
    let lt : c.args.c < length places = omega (arith, c.requires.range, c.args.self.now.each) in
    let at = got places c.args.c c.index_mut.result.now _ lt c.index_mut.ensures.value ∙ ap Some c.in-Some.is in
    let had = had_some (BlockAt p calls) places c.args.c c.in-Some.block at c.requires.here in
    (had.had, subst (StandsFor p calls c.args.c had.had) (sym c.deref_mut.ensures.value) had.stands)

pub returns-in-Some-clause-stands : goal.returns-in-Some-clause-stands
returns-in-Some-clause-stands c blocks old =
    let p = c.args.self.now.plan in
    let calls = c.args.self.now.calls.now in
    let places = c.args.self.now.places.items in
    let lt : c.args.c < length places = omega (arith, c.requires.range, c.args.self.now.each) in
    let at = got places c.args.c c.index_mut.result.now _ lt c.index_mut.ensures.value ∙ ap Some c.in-Some.is in
    call_stands (BlockAt p calls) places blocks c.args.c c.args.j c.args.k c.in-Some.block _ lt at
    (λ came is. c.call.ensures came (subst (StandsFor p calls c.args.c came) (sym c.deref_mut.ensures.value) is)) old

pub returns-in_default-clause-stands : goal.returns-in_default-clause-stands
returns-in_default-clause-stands c =
    let p = c.args.self.now.plan in
    let calls = c.args.self.now.calls.now in
    let places = c.args.self.now.places.items in
    let lt : c.args.c < length places = omega (arith, c.requires.range, c.args.self.now.each) in
    λ blocks old. absurd (no_place (BlockAt p calls) places c.args.c _ c.index_mut.result.now lt c.requires.here c.index_mut.ensures.value c.in_default.not-Some)
