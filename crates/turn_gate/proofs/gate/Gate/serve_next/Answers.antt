use Rattle.std.proofs.Common.{rules, refl, ap, ◌∙◌, ◌++◌, ◌∷◌, [], None, false}
use Rattle.turn_gate.specs.Gates.{gate_id}
use Rattle.turn_gate.specs.Rule.{row, view}
use Rattle.turn_gate.specs.declared.views.LockStep.TheVariants.{Serve}
use Rattle.turn_gate.proofs.Keeps.{frees}
use Rattle.turn_gate.proofs.Passing.{pass_is}
use Rattle.turn_gate.proofs.gate.Gate.serve_next.Goals as goal

pub fetch_add-found-requires : goal.fetch_add-found-requires
fetch_add-found-requires g c = let q = c.requires.1 in (
  c.requires.0,
  search rules,
  frees (g.T.Storied.stands c.args.self.now.table.shared.key.first.value) g.T.Storied.number _ _ _ _ (row c.args.holder q.0 q.1) q.3 (ap (λ z. z.0.rows) q.4) (ap (λ z. z.0.has) q.4) (ap (λ z. z.1) q.4) q.6 q.5,
)

pub returns-clause-gate : goal.returns-clause-gate
returns-clause-gate g c = let q = c.requires.1 in let found = c.fetch_add-found.result in
    let views = c.into_badge-badge.ensures.2 ∙ (ap (λ x. x.0 ∷ []) c.fetch_add-found.ensures.2.1 ∙ ap (λ x. view x.0.rows None false (x.0.steps ++ Serve found ∷ []) ∷ []) q.4) in
    let p = pass_is g.T.Storied.number (gate_id c.args.self.now) c.args.holder q.0 q.1 (c.args.seat.me.0.steps ++ Serve found ∷ []) (record { badge = c.into_badge-badge.result; number = c.args.holder }) (search rules) views q.7 refl in
    (p.0, p.1)
