use Rattle.std.proofs.Common.{◌-◌, ◌+◌, ◌/◌, ℕ, sym, ap, ◌∙◌}
use Rattle.ring_quotas.proofs.Moving.{away, leaving_is}
use Rattle.ring_quotas.proofs.shares.leaving.Goals as goal

pub returns-clause-value : goal.returns-clause-value
returns-clause-value c =
    let s = c.args.homes.squeues in
    ap (λ (m : ℕ). (m + (s - 1 - away s c.args.c c.args.q)) / s) c.moves.ensures ∙ sym (leaving_is s c.args.homes.spread c.args.c c.args.q c.args.items c.requires.squeue c.requires.items.0)
