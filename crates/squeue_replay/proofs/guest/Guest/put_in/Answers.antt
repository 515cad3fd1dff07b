use Rattle.std.proofs.Common.{◌≡◌, ◌+◌, ◌∙◌, is_ok, length, refl, arith}
use Rattle.std.proofs.lemmas.Grind.{common_steps}
use Rattle.squeue_replay.proofs.Parts.{inside, inside_begun, parts_begun}
use Rattle.squeue_replay.proofs.guest.Guest.put_in.Goals as goal

pub invariant_of-self-2 : goal.invariant_of-self-2
invariant_of-self-2 c =
    let end : c.len.result ≡ length c.args.self.now.acts.items = grind (arith, common_steps) in
    record {
      inside = inside_begun c.args.self.now.stays.items c.push.new.self.items c.args.self.now.acts.items (is_ok c.push.result) c.args.self.now.inside
          (c.push.ensures.items ∙ rw end refl);
    }

pub returns : goal.returns
returns c low =
    let end : c.len.result ≡ length c.args.self.now.acts.items = grind (arith, common_steps) in
    let e = parts_begun c.args.self.now.stays.items c.args.self.now.acts.items (inside _ _ c.args.self.now.inside) in
    let came : c.saturating_add-self.result ≡ c.args.self.now.came + 1 = omega (arith, c.saturating_add-self.ensures, low) in
    rw (c.in_ok-push.ensures.items, end, e, came) refl
