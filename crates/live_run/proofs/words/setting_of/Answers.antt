use Rattle.std.proofs.Common.{arith}
use Rattle.live_run.proofs.WordLemmas.{too_few}
use Rattle.live_run.proofs.words.setting_of.Goals as goal

pub returns-in_default : goal.returns-in_default
returns-in_default c = too_few c.args.words.now (omega (arith, c.in_default.len_below))
