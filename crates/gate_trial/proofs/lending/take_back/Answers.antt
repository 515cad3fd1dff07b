use Rattle.std.proofs.Common.{rules, ◌≡◌, ◌+◌, length, sym, subst}
use Rattle.std.specs.Prelude.{IfSome}
use Rattle.std.proofs.lemmas.List.Elements.{All-pop}
use Rattle.turn_gate.specs.Gates.{gate_id, passes_of}
use Rattle.turn_gate.specs.Passes.{IsPassOf, number}
use Rattle.gate_trial.specs.Counted.{AreFrom, CountDown}
use Rattle.gate_trial.specs.Jobs.{IsReady, has_pass, job_number}
use Rattle.gate_trial.proofs.Counting.{from_more, count_less, all_from}
use Rattle.gate_trial.proofs.lending.take_back.Goals as goal

pub loop-job-preserved : goal.loop-job-preserved
loop-job-preserved g c = let num = g.T.Storied.number in let id = gate_id c.args.gate.now in let i = c.loop-job.invariant in let pass = c.in-Some-pass.pass in
    let left = c.pop.new.self.items in let all = c.loop-job.all.items in let n = passes_of c.args.gate.now in
    let popped = count_less n left c.in-Some.job (subst (CountDown n) c.in-Some.ensures.items i.2) in
    let down : job_number c.in-Some.job + length left + 1 ≡ n = popped.1 in
    let same : job_number c.in-Some.job ≡ number pass = search rules in
    let ready = All-pop (IsReady num id) c.loop-job.jobs.items left c.pop.result c.pop.ensures.items i.1 in
    let here : IsPassOf num id pass = subst (has_pass num id) c.in-Some-pass.is (subst (λ o. IfSome o (IsReady num id)) c.in-Some.is ready.1) in
    let is : number pass ≡ 0 + length all = search rules in (
      subst (AreFrom num id 0) (sym c.push_reserved.ensures.items) (from_more num id 0 all pass i.0 here is),
      ready.0,
      popped.0,
      search rules,
      search rules,
    )

pub returns-clause-all : goal.returns-clause-all
returns-clause-all g c = let long : length c.loop-job.all.items ≡ passes_of c.args.gate.now = search rules in all_from g.T.Storied.number _ _ c.loop-job.all.items c.loop-job.invariant.0 long
