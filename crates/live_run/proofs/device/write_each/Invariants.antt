use Rattle.std.proofs.Common.{◌≤◌, take}
use Rattle.sq_base.specs.Ends.{end_of}
use Rattle.live_run.specs.Rounds.{WritesEach}
use Rattle.live_run.proofs.device.write_each.Given as goal

abbrev pub invariant-loop-datagram : goal.invariant-loop-datagram
invariant-loop-datagram g l = record {
  few : l.lost ≤ l.datagram-index;
  never_falls : g.K.Sink.write_faults l.fn.device ≤ g.K.Sink.write_faults l.device;
  each : WritesEach (end_of g.K.Sink.contents g.K.Sink.write_faults l.fn.device l.device) (take l.datagram-index l.sent) l.lost;
}
