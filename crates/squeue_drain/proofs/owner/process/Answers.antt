use Rattle.std.proofs.Common.{◌∙◌, sym, ap, Some}
use Rattle.perimeter_core.specs.declared.entries.Entry.TheVariants as Entry'
use Rattle.squeue_drain.proofs.Hands.{first_is}
use Rattle.squeue_drain.proofs.owner.process.Goals as goal

pub process_first-requires-clause-first : goal.process_first-requires-clause-first
process_first-requires-clause-first g c = first_is c.loop-left.owner.hand.left (Entry'.Feed c.in-Some-Feed.c c.in-Some-Feed.n) (sym c.first.ensures ∙ (c.in-Some-Feed.is ∙ ap (λ e. Some e) c.in-Some-Feed.field-0-is))
