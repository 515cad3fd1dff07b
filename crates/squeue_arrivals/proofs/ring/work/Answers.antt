use Rattle.squeue_arrivals.proofs.ring.work.Goals as goal

pub returns : goal.returns
returns g c = record { pass = c.worker.ensures.worked.goes_on.is_pass; is_number = c.worker.ensures.worked.goes_on.same_number; over = λ w. c.worker.ensures.over }
