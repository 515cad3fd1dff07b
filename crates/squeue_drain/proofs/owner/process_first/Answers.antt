use Rattle.std.proofs.Common.{List, drop, ap, ◌∙◌}
use Rattle.perimeter_core.specs.declared.entries.Entry.{Entry}
use Rattle.squeue_drain.proofs.Stepping.{had, limit, fed_one}
use Rattle.squeue_drain.proofs.owner.process_first.Goals as goal

pub feed-requires-clause-range : goal.feed-requires-clause-range
feed-requires-clause-range g c =
    let h = had g.R.Resident c.args.sq.now c.args.owner.now c.args.c c.args.n c.requires.feeds c.requires.first in
    g.met.R.Resident.in_range c.args.owner.now.resident h.blocks c.args.c h.had h.stands h.here

pub feed-requires-clause-next : goal.feed-requires-clause-next
feed-requires-clause-next g c = had g.R.Resident c.args.sq.now c.args.owner.now c.args.c c.args.n c.requires.feeds c.requires.first

pub feed-requires-clause-limit : goal.feed-requires-clause-limit
feed-requires-clause-limit g c = limit g.R.Resident c.args.sq.now c.args.owner.now c.args.c c.args.n c.requires.feeds c.requires.first

pub returns-clause-feeds : goal.returns-clause-feeds
returns-clause-feeds g c =
    fed_one g.R.Resident c.args.sq.now c.args.owner.now c.args.c c.args.n c.requires.feeds c.requires.first c.feed.new.self c.pass_first.new.self
    (c.pass_first.ensures.left ∙ ap (λ (xs : List Entry). drop 1 xs) c.requires.first.1) c.pass_first.ensures.room c.feed.ensures.stands c.feed.ensures.limits c.feed.ensures.size c.feed.ensures.origin
