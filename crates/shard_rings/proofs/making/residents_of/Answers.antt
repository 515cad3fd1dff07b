use Rattle.std.proofs.Common.{◌≡◌, ◌∷◌, [], reverse, ap, sym, ◌∙◌, subst, rules}
use Rattle.std.proofs.lemmas.List.{reverse-append}
use Rattle.shard_rings.specs.Making.{AreShards}
use Rattle.shard_rings.proofs.Made.{Residing, all_live, is_shard_of, none_lives, one_lives}
use Rattle.shard_rings.proofs.making.residents_of.Goals as goal

pub squeues-init : goal.squeues-init
squeues-init g c =
    none_lives c.args.shared.items c.args.ends.items (reverse c.new-residents.result.items) (ap reverse c.new-residents.ensures.items) c.requires.ends.2.count

pub squeues-preserved : goal.squeues-preserved
squeues-preserved g c =
    let r = c.in_ok-of.field-0 in
    let new = c.in_ok-of.ensures in
    let turned : reverse c.push.new.self.items ≡ r ∷ reverse c.squeues.residents.items = ap reverse c.in_ok-push.ensures.items ∙ reverse-append c.squeues.residents.items (r ∷ []) in
    subst (Residing c.args.shared.items c.args.ends.items c.pop.new.self.items c.pop-in-Some.new.self.items) (sym turned)
    (one_lives c.args.shared.items c.args.ends.items c.squeues.shared.items c.pop.new.self.items c.squeues.ends.items c.pop-in-Some.new.self.items c.in-Some.last c.in-Some-pop.its (reverse c.squeues.residents.items) c.in-Some.ensures.items c.in-Some-pop.ensures.items
    c.squeues.invariant r (is_shard_of c.in-Some.last c.in-Some-pop.its r new.stands new.limits new.rings new.shared new.first))

pub returns : goal.returns
returns g c =
    let empty : c.squeues.shared.items ≡ [] = search rules in
    subst (AreShards c.args.shared.items c.args.ends.items) (sym c.reverse.ensures.items)
    (all_live c.args.shared.items c.args.ends.items c.squeues.shared.items c.squeues.ends.items (reverse c.squeues.residents.items) empty c.squeues.invariant)
