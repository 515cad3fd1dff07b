use Rattle.std.proofs.Common.{refl}
use Rattle.std.proofs.KnownBytes.{Keeps-refl}
use Rattle.squeue_run.proofs.Complete.{is_done}
use Rattle.squeue_run.proofs.Outputs.{untouched, wrote_all, wrote_front}
use Rattle.squeue_run.proofs.Runs.{cut, done, refused}
use Rattle.squeue_run.proofs.run.run_with.Goals as goal

pub returns-in-Err-clause-ran : goal.returns-in-Err-clause-ran
returns-in-Err-clause-ran g c =
    refused _ _ _ _ _ _ (untouched g.K.Sink.contents g.K.Sink.write_faults _ _ c.in-Err.ensures.quiet) c.in-Err.ensures.ends c.refuse.ensures

pub returns-in-Err-clause-complete : goal.returns-in-Err-clause-complete
returns-in-Err-clause-complete g c = is_done _ _ _ _ _ _ (returns-in-Err-clause-ran g c)

pub returns-in-Ok-wrote-clause-ran : goal.returns-in-Ok-wrote-clause-ran
returns-in-Ok-wrote-clause-ran g c =
    let w = c.in-Ok.ensures.ends in
    let all = wrote_all _ w.text _ _ c.in-Ok-wrote.is w.wrote in
    done _ _ _ _ _ w.text w.text w.is refl all.0 all.1 (record { bytes = Keeps-refl _; faults = refl })

pub returns-in-Ok-wrote-clause-complete : goal.returns-in-Ok-wrote-clause-complete
returns-in-Ok-wrote-clause-complete g c = is_done _ _ _ _ _ _ (returns-in-Ok-wrote-clause-ran g c)

pub returns-in-Err-wrote-clause-ran : goal.returns-in-Err-wrote-clause-ran
returns-in-Err-wrote-clause-ran g c =
    let w = c.in-Ok.ensures.ends in
    let front = wrote_front _ w.text _ _ c.in-Err-wrote.is w.wrote in
    cut _ _ _ _ _ w.text w.text w.is refl front.0 front.1 c.tell.ensures

pub returns-in-Err-wrote-clause-complete : goal.returns-in-Err-wrote-clause-complete
returns-in-Err-wrote-clause-complete g c = is_done _ _ _ _ _ _ (returns-in-Err-wrote-clause-ran g c)
