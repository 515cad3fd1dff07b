use Rattle.std.proofs.Common.{◌-◌, true, refl, arith}
use Rattle.std.proofs.lemmas.List.{map-set}
use Rattle.squeue_replay.proofs.Reading.{kept, pass_at}
use Rattle.squeue_replay.proofs.squeue.ReplayedSqueue.queue_ask.Goals as goal

pub returns-clause-queued : goal.returns-clause-queued
returns-clause-queued c =
    let s = c.args.self.now in
    let less = c.requires in
    let r = c.index_mut-pass.result.now in
    record {
      pass = kept r;
      was = pass_at s.passes.items c.args.p r less c.index_mut-pass.ensures.value;
      left = omega arith;
      is = rw (c.in_ok-push_back.ensures.items, map-set kept s.passes.items c.args.p (record r { asks = r.asks - 1; waiting = true })) refl;
    }
