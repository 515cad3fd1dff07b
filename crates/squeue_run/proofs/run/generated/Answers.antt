use Rattle.std.proofs.Common.{◌∙◌, [], ap, length, refl}
use Rattle.conn_classifier.specs.Plan.{plan_by}
use Rattle.squeue_run.proofs.Named.{calls_there}
use Rattle.squeue_run.proofs.Reports.{is_summary}
use Rattle.squeue_run.specs.Asked.{asked_by_words}
use Rattle.squeue_run.proofs.Outputs.{wrote_by}
use Rattle.squeue_run.proofs.run.generated.Goals as goal

pub serve-requires-clause-calls : goal.serve-requires-clause-calls
serve-requires-clause-calls g c κs within = calls_there (length c.in_ok-plan.plan.tuples) _ [] [] _ refl refl c.make-calls.ensures tt

pub summary-requires : goal.summary-requires
summary-requires g c = c.in_ok-served.ensures.served.count

pub returns-clause-ends : goal.returns-clause-ends
returns-clause-ends g c =
    record {
      text = c.in_ok-text.text;
      is = is_summary c.args.number c.in-Ok.capture (asked_by_words c.args.words.now) c.in_ok-plan.plan c.make-calls.result c.in_ok-served.served c.bytes.result.now c.in_ok-text.text
          (record { bytes = c.in-Ok.ensures.ok.1 ∙ c.in_ok-generate.ensures.bytes; capture = c.in-Ok.ensures.ok.0 }) (c.in_ok-plan.ensures ∙ ap (plan_by c.in-Ok.capture) c.rules.ensures) c.make-calls.ensures c.bytes.ensures c.in_ok-served.ensures c.in_ok-text.ensures;
      wrote = wrote_by _ _ c.in_ok-text.text c.put-wrote.result c.as_slice.ensures c.put-wrote.ensures.ok c.put-wrote.ensures.kept c.put-wrote.ensures.failed c.put-wrote.ensures.rose;
    }

pub returns-in-Err-clause-ends : goal.returns-in-Err-clause-ends
returns-in-Err-clause-ends g c = c.in_ok-generate.ensures.unrefused c.in-Err.fault c.in-Err.ensures.err
