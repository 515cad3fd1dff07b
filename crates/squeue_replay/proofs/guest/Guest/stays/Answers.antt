use Rattle.std.proofs.Common.{arith}
use Rattle.std.proofs.lemmas.Grind.{common_steps}
use Rattle.squeue_replay.proofs.Parts.{parts_count}
use Rattle.squeue_replay.proofs.guest.Guest.stays.Goals as goal

pub returns : goal.returns
returns c = let n = parts_count c.args.self.now.stays.items c.args.self.now.acts.items in grind (arith, common_steps, n)
