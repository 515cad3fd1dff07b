use Rattle.std.proofs.Common.{sym, ◌∙◌}
use Rattle.perimeter_core.specs.declared.entries.Entry.TheVariants.{Feed}
use Rattle.perimeter_core.proofs.AskLists.{ends_more}
use Rattle.perimeter_core.proofs.few.ends_with_ask.Goals as goal

pub loop-e-preserved : goal.loop-e-preserved
loop-e-preserved c = c.is_ask-ends.ensures ∙ sym (ends_more c.args.p c.args.entries.now c.loop-e.e-index (Feed 0 0) c.loop-e-test.true)
