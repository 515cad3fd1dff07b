use Rattle.std.proofs.Common.{◌≡◌, ◌<◌, ℕ, length, List, [], ◌∷◌, ◌++◌, ap, sym, ◌∙◌, subst}
use Rattle.turn_gate.specs.History.{Begins}
use Rattle.turn_gate.specs.Passes.{IsPassOf, number, seen, mine}
use Rattle.perimeter_core.specs.Perimeter.{is_closed}
use Rattle.perimeter_core.specs.History.{Element, Setting, run}
use Rattle.perimeter_core.specs.declared.marks.Own.TheVariants.{Granted}
use Rattle.squeue_state.specs.Naming.{Named, setting_of}
use Rattle.histories.specs.Elements.{number_of, accepted_by}
use Rattle.squeue_drain.specs.declared.owner.Owner.{Owner}
use Rattle.squeue_drain.proofs.Deciding.{marked_on, begins_trans}
use Rattle.synch_enter.specs.Synch.{StandsAtItsAsk}
use Rattle.synch_enter.proofs.Accepting.{may_here, open_at, accepts}
use Rattle.synch_enter.proofs.coming.wait_for_grant.Goals as goal

pub accept-requires-clause-may : goal.accept-requires-clause-may
accept-requires-clause-may g c =
    may_here g.R.Resident.limits c.args.sq.now c.loop.pass c.turn-turn.result c.turn-turn.ensures (subst (λ (k : ℕ). k < length c.args.sq.now.given.quotas) (sym c.loop.invariant.same_number) c.requires.no_worker)
    (sym c.own.ensures ∙ (c.is_granted.ensures.0 c.if-is_granted.true ∙ ap Granted c.number.ensures))

pub returns-then-is_granted-clause-owner : goal.returns-then-is_granted-clause-owner
returns-then-is_granted-clause-owner g c =
    let below = subst (λ (k : ℕ). k < length c.args.sq.now.given.quotas) (sym c.loop.invariant.same_number) c.requires.no_worker in
    let may = may_here g.R.Resident.limits c.args.sq.now c.loop.pass c.turn-turn.result c.turn-turn.ensures below (sym c.own.ensures ∙ (c.is_granted.ensures.0 c.if-is_granted.true ∙ ap Granted c.number.ensures)) in
    subst (λ (o : Owner _). StandsAtItsAsk g.R.Resident c.args.sq.now [] o) (sym c.of.ensures)
    (accepts g.R.Resident c.args.sq.now c.loop.pass c.turn-turn.result c.accept.result.0 c.accept.result.1 c.accept.result.2 c.turn-turn.ensures below (open_at g.R.Resident.limits c.args.sq.now c.loop.pass c.turn-turn.result c.loop.invariant.is c.turn-turn.ensures c.loop.invariant.open_pass) may c.accept.ensures.pass c.accept.ensures.hand c.accept.ensures.resident)

pub returns-then-is_granted-clause-grows : goal.returns-then-is_granted-clause-grows
returns-then-is_granted-clause-grows g c =
    let below = subst (λ (k : ℕ). k < length c.args.sq.now.given.quotas) (sym c.loop.invariant.same_number) c.requires.no_worker in
    let may = may_here g.R.Resident.limits c.args.sq.now c.loop.pass c.turn-turn.result c.turn-turn.ensures below (sym c.own.ensures ∙ (c.is_granted.ensures.0 c.if-is_granted.true ∙ ap Granted c.number.ensures)) in
    let on = marked_on g.R.Resident.limits c.args.sq.now c.loop.pass c.accept.result.0 c.turn-turn.result (accepted_by c.turn-turn.result.number) c.turn-turn.ensures may c.accept.ensures.pass in
    subst (λ (o : Owner _). Begins (seen c.args.pass) (seen o.pass)) (sym c.of.ensures) (begins_trans (seen c.args.pass) (seen c.loop.pass) (seen c.accept.result.0) c.loop.invariant.grows on.grows)

pub returns-then-is_granted-clause-mine : goal.returns-then-is_granted-clause-mine
returns-then-is_granted-clause-mine g c =
    let had : c.turn-turn.result.mine ≡ mine c.args.pass = c.turn-turn.ensures.same_mine ∙ c.loop.invariant.same_mine in
    let me : c.turn-turn.result.number ≡ number c.args.pass = c.turn-turn.ensures.same_number ∙ c.loop.invariant.same_number in
    ap (λ (o : Owner _). mine o.pass) c.of.ensures ∙ (c.accept.ensures.pass.now_mine ∙ (ap (λ (h : List Element). h ++ accepted_by c.turn-turn.result.number ∷ []) had ∙ ap (λ (k : ℕ). mine c.args.pass ++ accepted_by k ∷ []) me))

pub loop-preserved : goal.loop-preserved
loop-preserved g c =
    let S : Setting = setting_of g.R.Resident.limits c.args.sq.now.given in
    let same : number c.plain-pass.result ≡ number c.loop.pass = c.plain-pass.ensures.same_number ∙ c.turn-turn.ensures.same_number in
    record {
      is = subst (λ (t : Named _). IsPassOf number_of t.gate c.plain-pass.result) c.turn-turn.ensures.squeue c.plain-pass.ensures.is_pass;
      same_number = same ∙ c.loop.invariant.same_number;
      grows = begins_trans (seen c.args.pass) (seen c.loop.pass) (seen c.plain-pass.result) c.loop.invariant.grows (subst (λ (h : List Element). Begins (seen c.loop.pass) h) (sym c.plain-pass.ensures.now_seen) c.turn-turn.ensures.goes_on);
      same_mine = c.plain-pass.ensures.now_mine ∙ (c.turn-turn.ensures.same_mine ∙ c.loop.invariant.same_mine);
      open_pass =
          ap (λ (h : List Element). is_closed (run S h) (number c.plain-pass.result)) c.plain-pass.ensures.now_seen
          ∙ (ap (is_closed (run S c.turn-turn.result.found)) same
          ∙ open_at g.R.Resident.limits c.args.sq.now c.loop.pass c.turn-turn.result c.loop.invariant.is c.turn-turn.ensures c.loop.invariant.open_pass);
    }
