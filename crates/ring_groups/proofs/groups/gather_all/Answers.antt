use Rattle.std.proofs.Common.{◌≡◌, ◌++◌, ◌∷◌, [], List, sym, ap, ◌∙◌, arith, length, length-append, append_assoc, append-nil, rules, subst}
use Rattle.std.specs.Prelude.{reverse}
use Rattle.std.proofs.lemmas.List.{reverse-append, reverse-reverse, length-reverse}
use Rattle.ring_groups.specs.declared.groups.Group.{Group}
use Rattle.ring_groups.specs.declared.groups.Group.TheVariants as Group'
use Rattle.ring_groups.specs.Groups.{HaveEnded, many_in}
use Rattle.ring_groups.proofs.Grouped.{many_more}
use Rattle.ring_groups.proofs.groups.gather_all.Goals as goal

pub groups-init : goal.groups-init
groups-init g c = record {
  gone = [];
  all = sym (append-nil c.args.groups.items);
  ended = (ap reverse c.requires.room.0, ap reverse c.requires.squeues.0);
  room = omega (arith, ap length c.requires.room.0, c.requires.room.1);
  end_room = omega (arith, ap length c.requires.squeues.0, c.requires.squeues.1);
}

pub add_all-requires : goal.add_all-requires
add_all-requires g c =
    let i = c.groups.invariant in
    let group = Group'.After c.in-After.ended c.in-After.end in
    omega (arith, i.room, ap many_in c.in-Some.ensures.items, ap (λ x. many_in (c.pop.new.self.items ++ x ∷ [])) c.in-After.is, many_more c.pop.new.self.items group)

pub groups-preserved : goal.groups-preserved
groups-preserved g c =
    let i = c.groups.invariant in
    let ended = c.in-After.ended in
    let group : Group g.row.B.Denot g.row.A.Denot g.row.Z.Denot = Group'.After ended c.in-After.end in
    let left = c.pop.new.self.items in
    let split : c.groups.groups.items ≡ left ++ group ∷ [] = c.in-Some.ensures.items ∙ ap (λ x. left ++ x ∷ []) c.in-After.is in
    let added = c.add_all.ensures.added in
    record {
      gone = group ∷ i.gone;
      all = i.all ∙ (ap (λ l. l ++ i.gone) split ∙ append_assoc left (group ∷ []) i.gone);
      ended = (
        reverse c.groups.all.items,
        reverse c.groups.ends.items,
        ap reverse added ∙ (reverse-append c.groups.all.items (reverse ended.items) ∙ ap (λ l. l ++ reverse c.groups.all.items) (reverse-reverse ended.items)),
        ap reverse c.push_reserved.ensures.items ∙ reverse-append c.groups.ends.items (c.in-After.end ∷ []),
        i.ended,
      );
      room = omega (arith, i.room, ap many_in split, many_more left group, ap length added, length-append c.groups.all.items (reverse ended.items), length-reverse ended.items, c.add_all.ensures.room);
      end_room = omega (arith, i.end_room, ap length split, length-append left (group ∷ []), ap length c.push_reserved.ensures.items, length-append c.groups.ends.items (c.in-After.end ∷ []), c.push_reserved.ensures.capacity);
    }

pub push_reserved-requires : goal.push_reserved-requires
push_reserved-requires g c = omega (arith, c.groups.invariant.end_room, ap length c.in-Some.ensures.items, length-append c.pop.new.self.items (c.in-Some.group ∷ []))

pub returns : goal.returns
returns g c =
    let i = c.groups.invariant in
    let none : c.groups.groups.items ≡ [] = search rules in
    let all : i.gone ≡ c.args.groups.items = sym (i.all ∙ ap (λ l. l ++ i.gone) none) in
    subst (λ (gs : List (Group g.row.B.Denot g.row.A.Denot g.row.Z.Denot)). HaveEnded gs c.reverse.new.self.items c.reverse-2.new.self.items) all
    (subst (λ ds. HaveEnded i.gone ds c.reverse-2.new.self.items) (sym c.reverse.ensures.items) (subst (HaveEnded i.gone (reverse c.groups.all.items)) (sym c.reverse-2.ensures.items) i.ended))
