use Rattle.std.proofs.Common.{rules, ◌≡◌, ◌+◌, ◌-◌, true, false, sym, ap, ◌∙◌, arith}
use Rattle.page_service.specs.Pump.{most_turns, turns}
use Rattle.page_service.proofs.TurnLemmas.{turn_goes, turn_rests, turns_over}
use Rattle.page_service.proofs.behind.Behind.take_turns.Goals as goal

pub returns-then-not-on-clause-turned : goal.returns-then-not-on-clause-turned
returns-then-not-on-clause-turned g c =
    let p = g.R.Answerer.protocol c.args.self.now.answerer.now in
    let i = c.loop-turn.invariant in
    let off : c.in_ok-phase.on ≡ false = search rules in
    let e = rw i.same at c.in_ok-phase.ensures.turned in
    sym i.rest ∙ turn_rests p (most_turns - c.loop-turn._turn) c.loop-turn.self.phase c.in_ok-phase.phase c.loop-turn.tcb c.turn.new.tcb c.in_ok-phase.on (omega arith) e off

pub loop-turn-preserved : goal.loop-turn-preserved
loop-turn-preserved g c =
    let p = g.R.Answerer.protocol c.args.self.now.answerer.now in
    let i = c.loop-turn.invariant in
    let n = most_turns - c.loop-turn._turn in
    let on : c.in_ok-phase.on ≡ true = search rules in
    let e = rw i.same at c.in_ok-phase.ensures.turned in
    let k : most_turns - (c.loop-turn._turn + 1) ≡ n - 1 = omega arith in
    record {
      rest =
          ap (λ m. turns p m c.in_ok-phase.phase c.turn.new.tcb) k
          ∙ (sym (turn_goes p n c.loop-turn.self.phase c.in_ok-phase.phase c.loop-turn.tcb c.turn.new.tcb c.in_ok-phase.on (omega arith) e on) ∙ i.rest);
      same = i.same;
      clock = c.in_ok-phase.ensures.clock ∙ i.clock;
      next = c.in_ok-phase.ensures.next ∙ i.next;
      offered = c.in_ok-phase.ensures.offered ∙ i.offered;
    }

pub returns-clause-turned : goal.returns-clause-turned
returns-clause-turned g c =
    let p = g.R.Answerer.protocol c.args.self.now.answerer.now in
    sym c.loop-turn.invariant.rest ∙ turns_over p (most_turns - c.loop-turn._turn) c.loop-turn.self.phase c.loop-turn.tcb (omega arith)
