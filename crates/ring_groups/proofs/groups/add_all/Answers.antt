use Rattle.std.proofs.Common.{◌++◌, ◌∷◌, [], sym, ap, ◌∙◌, arith, length, length-append, append_assoc}
use Rattle.std.specs.Prelude.{reverse}
use Rattle.std.proofs.lemmas.List.{reverse-append}
use Rattle.ring_groups.proofs.groups.add_all.Goals as goal

pub ended-preserved : goal.ended-preserved
ended-preserved g c =
    let i = c.ended.invariant in
    let last = c.in-Some.last in
    let split = c.in-Some.ensures.items in
    let left = c.pop.new.self.items in
    record {
      added =
          ap (λ l. l ++ reverse left) c.push_reserved.ensures.items
          ∙ (append_assoc c.ended.all.items (last ∷ []) (reverse left)
          ∙ (ap (λ l. c.ended.all.items ++ l) (sym (ap reverse split ∙ reverse-append left (last ∷ []))) ∙ i.added));
      fits = omega (arith, i.fits, ap length c.push_reserved.ensures.items, length-append c.ended.all.items (last ∷ []), ap length split, length-append left (last ∷ []), c.push_reserved.ensures.capacity);
      room = c.push_reserved.ensures.capacity ∙ i.room;
    }
