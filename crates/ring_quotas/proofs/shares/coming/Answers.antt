use Rattle.std.proofs.Common.{sym, ◌∙◌}
use Rattle.ring_quotas.proofs.Moving.{coming_is}
use Rattle.ring_quotas.proofs.shares.coming.Goals as goal

pub returns-clause-value : goal.returns-clause-value
returns-clause-value c = c.leaving.ensures.value ∙ sym (coming_is c.args.homes.squeues c.args.homes.spread c.args.c c.args.q c.args.items c.requires.squeue c.requires.items.0)
