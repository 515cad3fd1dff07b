use Rattle.std.proofs.Common.{refl}
use Rattle.live_run.proofs.EachLemmas.{one_refused, one_taken}
use Rattle.live_run.proofs.device.write_one.Goals as goal

pub returns-in-Ok-clause-written : goal.returns-in-Ok-clause-written
returns-in-Ok-clause-written g c =
    one_taken _ _ _ _ c.args.datagram.now c.in-Ok.written c.as_slice-bytes.result.now _ refl c.as_slice-bytes.ensures c.in-Ok.ensures.bound c.in-Ok.ensures.some c.in-Ok.ensures.bytes

pub returns-in-Err-clause-written : goal.returns-in-Err-clause-written
returns-in-Err-clause-written g c = one_refused _ _ _ _ c.args.datagram.now c.in-Err.ensures.bytes c.in-Err.ensures.failed
