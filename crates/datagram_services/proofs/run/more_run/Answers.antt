use Rattle.std.proofs.Common.{refl}
use Rattle.std.proofs.KnownBytes.{Keeps-refl}
use Rattle.datagram_services.proofs.MoreComplete.{is_more_done}
use Rattle.datagram_services.proofs.MoreRuns.{refused, written}
use Rattle.datagram_services.proofs.run.more_run.Goals as goal

pub returns-in-Ok-clause-ran : goal.returns-in-Ok-clause-ran
returns-in-Ok-clause-ran g c = written _ _ _ _ (record { bytes = Keeps-refl _; faults = refl }) c.in-Ok.ensures

pub returns-in-Ok-clause-complete : goal.returns-in-Ok-clause-complete
returns-in-Ok-clause-complete g c = is_more_done _ _ _ _ _ (returns-in-Ok-clause-ran g c)

pub returns-in-Err-clause-ran : goal.returns-in-Err-clause-ran
returns-in-Err-clause-ran g c = refused _ _ _ _ _ _ c.in-Err.ensures c.refuse.ensures

pub returns-in-Err-clause-complete : goal.returns-in-Err-clause-complete
returns-in-Err-clause-complete g c = is_more_done _ _ _ _ _ (returns-in-Err-clause-ran g c)
