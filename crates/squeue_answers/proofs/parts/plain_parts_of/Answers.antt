use Rattle.std.proofs.Common.{◌≡◌, ◌∙◌, ◌++◌, ◌∷◌, [], Some, refl, sym, ap, arith, length, length-append, slice_get, append-nil, rules}
use Rattle.std.specs.Prelude.{reverse}
use Rattle.std.proofs.lemmas.List.{map-append, reverse-reverse, length-reverse}
use Rattle.ring_groups.proofs.Grouped.{taken_more}
use Rattle.squeue_arrivals.specs.declared.served.KeyPart.{KeyPart}
use Rattle.squeue_arrivals.proofs.Parts.{each_on}
use Rattle.squeue_answers.specs.declared.steps.Answerer.{Answerer}
use Rattle.squeue_answers.specs.Parting.{IsCompared, plain_part, plain_parts}
use Rattle.squeue_answers.proofs.Lists.{middle_got}
use Rattle.squeue_answers.proofs.Parted.{compared_back, inputs_on, may_on}
use Rattle.squeue_answers.proofs.Ways.{same_inputs}
use Rattle.squeue_answers.proofs.parts.plain_parts_of.Goals as goal

pub parts-init : goal.parts-init
parts-init g c =
    record {
      gone = [];
      all = sym (ap reverse c.reverse.ensures.items ∙ reverse-reverse c.args.parts.items);
      plain = c.requires.room.0;
      same = same_inputs c.args.rings.now c.args.rings.now (λ k. refl);
      compared = λ i part at. absurd (cc at);
      room = omega (arith, ap length c.requires.room.0, ap length c.reverse.ensures.items, length-reverse c.args.parts.items, c.requires.room.1);
    }

pub plain_part_of-requires : goal.plain_part_of-requires
plain_part_of-requires g c =
    let i = c.parts.invariant in
    let part = c.in-Some.part in
    let all = taken_more c.args.parts.items i.gone c.parts.parts.items c.pop.new.self.items part i.all c.in-Some.ensures.items in
    let at : slice_get c.args.parts.items (length i.gone) ≡ Some part = ap (λ l. slice_get l (length i.gone)) all ∙ middle_got i.gone (reverse c.pop.new.self.items) part in
    may_on c.args.rings.now c.parts.rings part.key part.state.out i.same (c.requires.pairs (length i.gone) part at)

pub parts-preserved : goal.parts-preserved
parts-preserved g c =
    let i = c.parts.invariant in
    let part = c.in-Some.part in
    let w = c.plain_part_of.ensures in
    record {
      gone = i.gone ++ part ∷ [];
      all = taken_more c.args.parts.items i.gone c.parts.parts.items c.pop.new.self.items part i.all c.in-Some.ensures.items;
      plain =
          c.push_reserved.ensures.items
          ∙ (ap (λ l. l ++ c.plain_part_of.result ∷ []) i.plain
          ∙ (ap (λ x. plain_parts i.gone ++ x ∷ []) w.part ∙ sym (map-append (λ (p : KeyPart (Answerer g.row.S.Denot g.row.A.Denot)). plain_part p) i.gone (part ∷ []))));
      same = inputs_on c.args.rings.now c.parts.rings c.plain_part_of.new.rings i.same w.same;
      compared =
          each_on (λ n p. IsCompared c.args.rings.now p) i.gone (i.gone ++ part ∷ []) part refl i.compared
          (compared_back c.args.rings.now c.parts.rings part.key part.state.out i.same w.compared);
      room = omega (arith, i.room, ap length c.in-Some.ensures.items, length-append c.pop.new.self.items (part ∷ []), ap length c.push_reserved.ensures.items, length-append c.parts.plain.items (c.plain_part_of.result ∷ []), c.push_reserved.ensures.capacity);
    }

pub returns-clause-compared : goal.returns-clause-compared
returns-clause-compared g c =
    let i = c.parts.invariant in
    let none : c.parts.parts.items ≡ [] = search rules in
    let all : c.args.parts.items ≡ i.gone = i.all ∙ (ap (λ l. i.gone ++ reverse l) none ∙ append-nil i.gone) in
    λ n part at. i.compared n part (ap (λ l. slice_get l n) (sym all) ∙ at)
