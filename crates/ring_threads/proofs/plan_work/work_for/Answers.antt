use Rattle.ring_threads.proofs.plan_work.work_for.Goals as goal

pub returns : goal.returns
returns c =
    record {
      conns = c.conns-2.ensures.value;
      residents = c.in_ok-residents.ensures;
      quotas = c.in_ok-quotas.ensures;
      lists = c.in_ok-lists.ensures;
      calls_are = c.in_ok-conns.ensures;
    }
