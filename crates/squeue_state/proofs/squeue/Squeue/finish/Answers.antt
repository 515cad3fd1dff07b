use Rattle.std.proofs.Common.{◌≡◌, ◌+◌, ℕ, if◌then◌else◌, [], ap, sym, subst, ◌∙◌, refl, length, map, Option, arith}
use Rattle.std.specs.Prelude.{IsSome}
use Rattle.turn_gate.specs.History.{Each}
use Rattle.turn_gate.specs.Passes.{AreAll}
use Rattle.perimeter_core.specs.History.{Element}
use Rattle.perimeter_core.specs.Blocks.{peri}
use Rattle.squeue_state.specs.Told.{Traced, marks_of}
use Rattle.squeue_state.specs.Naming.{Named, setting_of}
use Rattle.histories.specs.Endings.{Ending, HasEnded}
use Rattle.squeue_state.specs.Endings.{ending_of, seen_by}
use Rattle.squeue_state.specs.Behind.{IsPeri}
use Rattle.squeue_state.specs.Clauses.{Knows, named_of}
use Rattle.histories.specs.Elements.{number_of}
use Rattle.squeue_state.proofs.Finish.{finished, some_is}
use Rattle.squeue_state.proofs.squeue.Squeue.finish.Goals as goal

pub close-requires : goal.close-requires
close-requires g c =
    subst (λ (n : ℕ). AreAll number_of (named_of c.self.inside.gate).gate n c.args.passes.items) (sym c.self.invariant.1)
    (subst (λ (x : Named g.row.R.Denot). AreAll number_of x.gate (length x.given.quotas + 1) c.args.passes.items) (sym c.self.view_is) c.requires.all)

pub parts_of-resident-requires : goal.parts_of-resident-requires
parts_of-resident-requires g c =
    let over = finished g.R.Resident (named_of c.self.inside.gate) c.args.self c.close.result c.args.passes.items c.close.ensures.0 c.self.view_is (c.requires.all.1 (length c.args.self.given.quotas) (omega arith)) c.requires.over c.close.ensures.1 c.close.ensures.2 in
    subst (λ (o : Option g.row.R.Denot). IsSome o) (sym over.resident.1) refl

pub invariant_of-result : goal.invariant_of-result
invariant_of-result g c =
    let over = finished g.R.Resident (named_of c.self.inside.gate) c.args.self c.close.result c.args.passes.items c.close.ensures.0 c.self.view_is (c.requires.all.1 (length c.args.self.given.quotas) (omega arith)) c.requires.over c.close.ensures.1 c.close.ensures.2 in
    let is = c.ending-ending.ensures in
    let ended : HasEnded (ending_of g.R.Resident.limits c.args.self.given (seen_by (length c.args.self.given.quotas) c.args.passes.items)) = record { legal = over.legal; over = over.ended } in
    (ap (λ (e : Ending). e.number) is ∙ (ap (λ (x : Named g.row.R.Denot). x.given.number) (sym c.self.view_is) ∙ c.self.invariant.0), subst HasEnded (sym is) ended)

pub returns-clause-ended : goal.returns-clause-ended
returns-clause-ended g c =
    let over = finished g.R.Resident (named_of c.self.inside.gate) c.args.self c.close.result c.args.passes.items c.close.ensures.0 c.self.view_is (c.requires.all.1 (length c.args.self.given.quotas) (omega arith)) c.requires.over c.close.ensures.1 c.close.ensures.2 in
    let ended : HasEnded (ending_of g.R.Resident.limits c.args.self.given (seen_by (length c.args.self.given.quotas) c.args.passes.items)) = record { legal = over.legal; over = over.ended } in
    subst HasEnded (sym c.ending-ending.ensures) ended

pub returns-clause-passes : goal.returns-clause-passes
returns-clause-passes g c =
    let over = finished g.R.Resident (named_of c.self.inside.gate) c.args.self c.close.result c.args.passes.items c.close.ensures.0 c.self.view_is (c.requires.all.1 (length c.args.self.given.quotas) (omega arith)) c.requires.over c.close.ensures.1 c.close.ensures.2 in
    subst (λ (e : Ending). Each (Knows e.history) c.args.passes.items) (sym c.ending-ending.ensures) over.passes

pub returns-clause-resident : goal.returns-clause-resident
returns-clause-resident g c =
    let over = finished g.R.Resident (named_of c.self.inside.gate) c.args.self c.close.result c.args.passes.items c.close.ensures.0 c.self.view_is (c.requires.all.1 (length c.args.self.given.quotas) (omega arith)) c.requires.over c.close.ensures.1 c.close.ensures.2 in
    let same : over.resident.0 ≡ c.parts_of-resident.result.0 = some_is (sym over.resident.1 ∙ c.parts_of-resident.ensures.0) in
    subst (λ (e : Ending). IsPeri g.R.Resident c.args.self.given c.parts_of-resident.result.0 (peri (setting_of g.R.Resident.limits c.args.self.given) e.history)) (sym c.ending-ending.ensures)
    (subst (λ (x : g.row.R.Denot). IsPeri g.R.Resident c.args.self.given x (peri (setting_of g.R.Resident.limits c.args.self.given) (seen_by (length c.args.self.given.quotas) c.args.passes.items))) same over.resident.2)

pub returns-clause-trace : goal.returns-clause-trace
returns-clause-trace g c =
    let over = finished g.R.Resident (named_of c.self.inside.gate) c.args.self c.close.result c.args.passes.items c.close.ensures.0 c.self.view_is (c.requires.all.1 (length c.args.self.given.quotas) (omega arith)) c.requires.over c.close.ensures.1 c.close.ensures.2 in
    ap (λ (t : Traced). marks_of t) c.parts_of-resident.ensures.1
    ∙ subst (λ (e : Ending). marks_of c.close.result.trace ≡ (if c.args.self.given.traced then map (λ (y : Element). y.mark) e.history else [])) (sym c.ending-ending.ensures) over.trace
