use Rattle.std.proofs.Common.{◌≡◌, ◌∷◌, [], List, Vec, reverse, ap, sym, ◌∙◌, subst, rules}
use Rattle.std.specs.declared.alloc.Global.{Global}
use Rattle.std.proofs.lemmas.List.{reverse-append, reverse-reverse}
use Rattle.perimeter_core.specs.declared.entries.Feed.{Feed}
use Rattle.squeue_pool.proofs.IntakesOf.{SoFar, all_taken, next_short, none_yet, one_more}
use Rattle.squeue_pool.proofs.intakes.intakes_of.Goals as goal

pub loop-list-init : goal.loop-list-init
loop-list-init c =
    let all = c.args.lists.items in
    let left : all ≡ reverse c.reverse.new.self.items = sym (ap reverse c.reverse.ensures.items ∙ reverse-reverse all) in
    rw c.new-intakes.ensures.items
    (subst (λ (vs : List (Vec Feed Global)). SoFar all vs []) left (none_yet all c.requires))

pub intake_of-requires : goal.intake_of-requires
intake_of-requires c =
    let turned : reverse c.loop-list.lists.items ≡ c.in-Some.list ∷ reverse c.pop.new.self.items = ap reverse c.in-Some.ensures.items ∙ reverse-append c.pop.new.self.items (c.in-Some.list ∷ []) in
    next_short c.args.lists.items (reverse c.pop.new.self.items) c.in-Some.list c.loop-list.intakes.items
    (subst (λ (vs : List (Vec Feed Global)). SoFar c.args.lists.items vs c.loop-list.intakes.items) turned c.loop-list.invariant)

pub loop-list-preserved : goal.loop-list-preserved
loop-list-preserved c =
    let turned : reverse c.loop-list.lists.items ≡ c.in-Some.list ∷ reverse c.pop.new.self.items = ap reverse c.in-Some.ensures.items ∙ reverse-append c.pop.new.self.items (c.in-Some.list ∷ []) in
    rw c.in_ok-push.ensures.items
    (one_more c.args.lists.items (reverse c.pop.new.self.items) c.in-Some.list c.loop-list.intakes.items c.in_ok-intake_of.field-0
    (subst (λ (vs : List (Vec Feed Global)). SoFar c.args.lists.items vs c.loop-list.intakes.items) turned c.loop-list.invariant) c.in_ok-intake_of.ensures.list c.in_ok-intake_of.ensures.unused)

pub returns-clause-intakes : goal.returns-clause-intakes
returns-clause-intakes c =
    let empty : c.loop-list.lists.items ≡ [] = search rules in
    let none : reverse c.loop-list.lists.items ≡ [] = ap reverse empty in
    all_taken c.args.lists.items c.loop-list.intakes.items (subst (λ (vs : List (Vec Feed Global)). SoFar c.args.lists.items vs c.loop-list.intakes.items) none c.loop-list.invariant)
