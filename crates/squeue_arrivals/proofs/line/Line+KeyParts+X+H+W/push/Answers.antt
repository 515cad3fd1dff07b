use Rattle.std.proofs.Common.{◌++◌, ◌∷◌, [], ap, refl, subst, ◌∙◌}
use Rattle.placed_parts.specs.Placing.{limits_of}
use Rattle.squeue_state.specs.Naming.{setting_of}
use Rattle.squeue_arrivals.specs.Keeping.{Serves}
use Rattle.squeue_arrivals.proofs.PlacesKept.{but_elsewhere, but_of, but_on, keeps_self, serves_next}
use Rattle.squeue_arrivals.proofs.line.Line+KeyParts+X+H+W.push.Goals as goal

pub tries-init : goal.tries-init
tries-init g c =
    let o = c.requires.open in
    record {
      knows = c.requires.knows;
      is_open = (o.0, o.1);
      serves = λ items times has. has;
      others = but_of c.args.c c.args.stays.now c.args.stays.now (keeps_self c.args.stays.now);
      item = refl;
      asks = refl;
    }

pub returns-in-Ok-clause-pushed : goal.returns-in-Ok-clause-pushed
returns-in-Ok-clause-pushed g c = λ items times has.
    let at = setting_of limits_of c.args.self.now.squeue.now.given in
    let s = c.in-Ok.ensures.same in
    let now = serves_next at c.args.pass.now c.tries.stays c.push_at.new.stays c.args.c times items (items ++ c.tries.item ∷ []) s.0 s.1 (c.tries.invariant.serves items times has) s.2 s.3 s.4
    (λ e. s.5.0 ∙ ap (λ l. l ++ c.tries.item ∷ []) e) in
    subst (λ x. Serves at c.args.pass.now c.push_at.new.stays c.args.c (items ++ x ∷ []) times) c.tries.invariant.item now

pub returns-in-Ok-clause-others : goal.returns-in-Ok-clause-others
returns-in-Ok-clause-others g c =
    but_on c.args.c c.args.stays.now c.tries.stays c.push_at.new.stays c.tries.invariant.others (but_elsewhere c.args.c c.tries.stays c.push_at.new.stays c.push_at.ensures.elsewhere)

pub tries-preserved : goal.tries-preserved
tries-preserved g c =
    let i = c.tries.invariant in
    let s = c.in-Err.ensures.same in
    record {
      knows = c.push_at.ensures.knows;
      is_open = (s.1, s.3);
      serves = λ items times has.
          serves_next (setting_of limits_of c.args.self.now.squeue.now.given) c.args.pass.now c.tries.stays c.push_at.new.stays c.args.c times items items s.0 s.1 (i.serves items times has) s.2 s.3 s.4
          (λ e. s.5.1 ∙ e);
      others = but_on c.args.c c.args.stays.now c.tries.stays c.push_at.new.stays i.others (but_elsewhere c.args.c c.tries.stays c.push_at.new.stays c.push_at.ensures.elsewhere);
      item = s.5.0 ∙ i.item;
      asks = c.push_at.ensures.life ∙ i.asks;
    }
