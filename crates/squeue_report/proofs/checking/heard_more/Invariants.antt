use Rattle.std.proofs.Common.{◌++◌}
use Rattle.squeue_report.proofs.checking.heard_more.Given as goal

abbrev pub ghost-heard_as : goal.ghost-heard_as
ghost-heard_as a = a._text.now.value ++ a._bytes.now
