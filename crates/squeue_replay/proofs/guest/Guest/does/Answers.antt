use Rattle.std.proofs.Common.{is_ok, refl}
use Rattle.squeue_replay.proofs.Parts.{inside, inside_kept, parts_more}
use Rattle.squeue_replay.proofs.guest.Guest.does.Goals as goal

pub invariant_of-self : goal.invariant_of-self
invariant_of-self c = record { inside = inside_kept c.args.self.now.stays.items c.args.self.now.acts.items c.push.new.self.items c.args.act (is_ok c.push.result) c.args.self.now.inside c.push.ensures.items }

pub returns : goal.returns
returns c =
    let e = parts_more c.args.self.now.stays.items c.args.self.now.acts.items c.args.act (inside _ _ c.args.self.now.inside) in
    rw (c.in_ok-push.ensures.items, e) refl
