use Rattle.std.proofs.Common.{◌≡◌, ℕ, ◌<◌, Some, [], ◌∷◌, length, refl, sym, subst, arith}
use Rattle.std.proofs.lemmas.Bool.Decides.{nat_tests}
use Rattle.std.specs.Prelude.{nat_lt, true}
use Rattle.perimeter_core.specs.declared.entries.Act.TheVariants as Did
use Rattle.perimeter_core.specs.declared.marks.SynchAct.TheVariants as Done
use Rattle.perimeter_core.specs.Blocks.{Blocks, with_act}
use Rattle.stream_plan.specs.Streams.{MorePlanOf}
use Rattle.datagram_services.specs.Standing.{IsPartOf}
use Rattle.placed_parts.specs.Standing.{first_here}
use Rattle.report_tests.proofs.streams.expect_second.Goals as goal

at_first : (n : ℕ) → 1 < n → first_here n 1 2 1 ≡ Some []
at_first n lt = let b : nat_lt 1 n ≡ true = grind (arith, nat_tests) in rw b refl

called : (n : ℕ) → 1 < n → with_act (Done.Call 1 0 0) [] (first_here n 1 2) 1 ≡ Some (Did.Call 0 0 ∷ [])
called n lt = rw (at_first n lt) refl

pub call-requires-clause-here : goal.call-requires-clause-here
call-requires-clause-here g c =
    let n = length c.args.plan.now.streams in
    let lt : 1 < n = omega (arith, c.streams.ensures.value) in
    record { blocks = first_here n 1 2; had = []; stands = c.in_ok-blocks.ensures.stands; here = at_first n lt }

pub take_out-block-requires-clause-here : goal.take_out-block-requires-clause-here
take_out-block-requires-clause-here g c =
    let n = length c.args.plan.now.streams in
    let lt : 1 < n = omega (arith, c.streams.ensures.value) in
    record { blocks = with_act (Done.Call 1 0 0) [] (first_here n 1 2); had = Did.Call 0 0 ∷ []; stands = c.call.ensures.stands (first_here n 1 2) c.in_ok-blocks.ensures.stands; here = called n lt }

pub put_in-requires-clause-away : goal.put_in-requires-clause-away
put_in-requires-clause-away g c =
    let n = length c.args.plan.now.streams in
    let one : Blocks = with_act (Done.Call 1 0 0) [] (first_here n 1 2) in
    record { blocks = with_act (Done.Out 1) [] one; stands = c.take_out-block.ensures.stands one (c.call.ensures.stands (first_here n 1 2) c.in_ok-blocks.ensures.stands); away = refl }

pub put_in-requires-clause-owner : goal.put_in-requires-clause-owner
put_in-requires-clause-owner g c = subst (λ (o : MorePlanOf). IsPartOf o 1 c.take_out-block.result) (sym c.take_out-block.ensures.origin) c.take_out-block.ensures.owner
