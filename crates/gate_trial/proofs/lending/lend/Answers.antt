use Rattle.std.proofs.Common.{rules, ◌≡◌, ◌+◌, length, Some, sym, subst}
use Rattle.std.specs.Prelude.{All}
use Rattle.std.proofs.lemmas.List.Elements.{All-push}
use Rattle.turn_gate.specs.Gates.{gate_id, passes_of}
use Rattle.turn_gate.specs.Passes.{number}
use Rattle.gate_trial.specs.Counted.{AreFrom, CountDown}
use Rattle.gate_trial.specs.Jobs.{IsReady, job_number}
use Rattle.gate_trial.specs.declared.jobs.Job.{Job}
use Rattle.gate_trial.proofs.Counting.{last_from, count_more}
use Rattle.gate_trial.proofs.lending.lend.Goals as goal

pub loop-pass-preserved : goal.loop-pass-preserved
loop-pass-preserved g c = let num = g.T.Storied.number in let id = gate_id c.args.gate.now in let i = c.loop-pass.invariant in let pass = c.in-Some.pass in
    let left = c.pop.new.self.items in let jobs = c.loop-pass.jobs.items in let job : Job g.row.T-Element.Denot = record { pass = Some pass } in let n = passes_of c.args.gate.now in
    let popped = last_from num id 0 left pass (subst (AreFrom num id 0) c.in-Some.ensures.items i.0) in
    let is : number pass ≡ 0 + length left = popped.2 in
    let counts : job_number job + length jobs + 1 ≡ n = search rules in (
      popped.0,
      subst (All (IsReady num id)) (sym c.push_reserved.ensures.items) (All-push (IsReady num id) jobs job i.1 popped.1),
      subst (CountDown n) (sym c.push_reserved.ensures.items) (count_more n jobs job i.2 counts),
      search rules,
      search rules,
      search rules,
    )
