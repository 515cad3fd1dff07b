use Rattle.std.proofs.Common.{◌≡◌, ℕ, Bool, true, List, replicate, ap, ◌∙◌, subst, arith}
use Rattle.std.proofs.lemmas.Result.{IfOk-weaker}
use Rattle.perimeter_core.specs.Blocks.{none_done}
use Rattle.placed_parts.specs.Standing.{PlacesStand}
use Rattle.placed_parts.specs.Placing.{MayBe}
use Rattle.placed_parts.proofs.PlaceSteps.{all_stand}
use Rattle.placed_parts.proofs.places.Places.make.Goals as goal

pub returns-clause-stands : goal.returns-clause-stands
returns-clause-stands g c =
    let last : c.loop-c._c ≡ c.args.count = omega (arith, c.loop-c-test.false, c.loop-c.auto) in
    let starts : c.deref.result.now ≡ replicate c.args.count true = c.deref.ensures.value ∙ (c.loop-c.invariant.items ∙ ap (λ (n : ℕ). replicate n true) last) in
    IfOk-weaker c.make_where.result _ _
    (λ r h. all_stand (MayBe r) r.places.items c.args.count (subst (λ (bs : List Bool). PlacesStand (MayBe r) r.places.items (none_done bs)) starts h))
    c.make_where.ensures.stands
