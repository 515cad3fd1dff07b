use Rattle.std.proofs.Common.{[]}
use Rattle.squeue_report.proofs.checking.heard_none.Given as goal

abbrev pub ghost-pick : goal.ghost-pick
ghost-pick a = []
