use Rattle.std.proofs.Common.{◌≡◌, inl, inr, ◌∙◌}
use Rattle.conn_blocks.specs.declared.stages.Stage.TheVariants as stage
use Rattle.conn_blocks.proofs.Held.{stands_again}
use Rattle.conn_blocks.proofs.block.Block.call.Goals as goal

pub stage-requires : goal.stage-requires
stage-requires c = c.requires.stands.1.settled.table c.args.j c.args.k c.requires.exists.0 c.requires.exists.1

pub returns-in-Held : goal.returns-in-Held
returns-in-Held c = λ came is. stands_again c.args.plan.now c.args.calls.now c.args.c came c.args.self.now is c.args.j c.args.k c.requires.exists (λ e. (let unasked : c.stage.result ≡ stage.Unasked = c.stage.ensures ∙ e in elim c.in-Held.is [ inl h ↦ cc | inr h ↦ cc ]))
