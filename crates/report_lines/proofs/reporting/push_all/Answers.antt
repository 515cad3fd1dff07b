use Rattle.std.proofs.Common.{map}
use Rattle.conn_blocks.specs.ServedBlocks.{blocks_in}
use Rattle.report_lines.proofs.Blocks.{reported}
use Rattle.report_lines.proofs.reporting.push_all.Goals as goal

pub returns : goal.returns
returns g c calls served =
    reported c.args.plan.now calls (map (λ b. b.order) (blocks_in c.args.blocks.now)) _ _ _ _ c.in_ok-put.ensures.told (c.in_ok-push_blocks.ensures calls served) c.in_ok-put-2.ensures.told
