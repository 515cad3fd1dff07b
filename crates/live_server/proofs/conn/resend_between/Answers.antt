use Rattle.std.proofs.Common.{rules, add-one, ◌≡◌, ◌≤◌, ◌∙◌, ℕ, ◌+◌, ◌-◌, ◌*◌, ◌/◌, min, ap, arith, refl, sym}
use Rattle.tcb_machine.specs.Beside.{resending}
use Rattle.tcb_machine.specs.BlockState.{Block, in_flight}
use Rattle.tcb_machine.specs.States.{is_listen}
use Rattle.tcb_machine.specs.declared.agreed.Agreed.{Agreed}
use Rattle.live_server.specs.Congestion.{resends}
use Rattle.live_server.proofs.RepairLemmas.{resends_stays}
use Rattle.live_server.proofs.conn.resend_between.Goals as goal

pub loop-piece-init : goal.loop-piece-init
loop-piece-init c = refl

pub resend_at-requires-clause-open : goal.resend_at-requires-clause-open
resend_at-requires-clause-open c =
    ap (λ (b : Block). is_listen b.state) c.loop-piece.invariant ∙ ap is_listen (resends_stays c.loop-piece.piece c.args.from c.args.to c.args.tcb.now).state ∙ c.requires.open

pub resend_at-requires-clause-most : goal.resend_at-requires-clause-most
resend_at-requires-clause-most c =
    let stays = resends_stays c.loop-piece.piece c.args.from c.args.to c.args.tcb.now in
    let mss = ap (λ (b : Block). b.agreed.mss) c.loop-piece.invariant ∙ ap (λ (a : Agreed). a.mss) stays.agreed in
    omega (arith, mss, c.mss.ensures.is, c.from-mss.ensures, c.min.ensures)

pub resend_at-requires-clause-sent : goal.resend_at-requires-clause-sent
resend_at-requires-clause-sent c =
    let stays = resends_stays c.loop-piece.piece c.args.from c.args.to c.args.tcb.now in
    let held = ap in_flight c.loop-piece.invariant ∙ stays.flight in
    let few : c.args.from + c.loop-piece.piece * c.from-mss.result + c.min.result ≤ c.args.to = search rules in
    omega (arith, held, few, c.requires.sent)

pub loop-piece-preserved : goal.loop-piece-preserved
loop-piece-preserved c =
    let mss : c.from-mss.result ≡ c.args.tcb.now.agreed.mss = c.from-mss.ensures ∙ c.mss.ensures.is in
    c.in_ok-resend_at.ensures
    ∙ (λ j. resending (c.args.from + c.loop-piece.piece * mss j) (least j) (c.loop-piece.invariant j))
    ∙ ap (λ (k : ℕ). resends k c.args.from c.args.to c.args.tcb.now) (sym (add-one c.loop-piece.piece))
  where
    least : c.min.result ≡ min c.args.tcb.now.agreed.mss (c.args.to - (c.args.from + c.loop-piece.piece * c.args.tcb.now.agreed.mss))
    least = c.min.ensures ∙ ap (λ (m : ℕ). min m (c.args.to - (c.args.from + c.loop-piece.piece * m))) (c.from-mss.ensures ∙ c.mss.ensures.is)

pub returns : goal.returns
returns c =
    let mss : c.from-mss.result ≡ c.args.tcb.now.agreed.mss = c.from-mss.ensures ∙ c.mss.ensures.is in
    let all : c.loop-piece.piece ≡ (c.args.to - c.args.from - 1) / c.from-mss.result + 1 = omega (arith, c.loop-piece-test.false, c.loop-piece.auto.piece-end) in
    c.loop-piece.invariant ∙ ap (λ (k : ℕ). resends k c.args.from c.args.to c.args.tcb.now) (all ∙ ap (λ (m : ℕ). (c.args.to - c.args.from - 1) / m + 1) mss)
