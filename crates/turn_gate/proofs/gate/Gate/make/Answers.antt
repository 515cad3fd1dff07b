use Rattle.std.proofs.Common.{sym, ap, ◌∙◌, subst, refl, [], ◌∷◌, ◌++◌, Some}
use Rattle.atomic_table.specs.Table.{opening}
use Rattle.turn_gate.specs.Rule.{Holds, dealer}
use Rattle.turn_gate.specs.declared.kept.Kept.{Kept}
use Rattle.turn_gate.proofs.Keeps.{starts}
use Rattle.turn_gate.proofs.gate.Gate.make.Goals as goal

pub new-requires-2 : goal.new-requires-2
new-requires-2 g c = let b = c.in_ok-boxed.boxed in let x : Kept g.row.T.Denot = record { value = b; count = 0 } in
    let all = c.push_reserved.ensures.items ∙ ap (λ l. l ++ Some x ∷ []) c.in_ok-slots.ensures.items in
    let first : g.row.T.Denot = c.of.result.value in
    let at_first = subst (λ f. g.T.Storied.stands f c.args.value []) (sym c.of.ensures) c.requires.start in
    let start = subst (λ v. g.T.Storied.stands first v []) (sym (c.in_ok-boxed.ensures.ok)) at_first in
    subst (λ xs. Holds (g.T.Storied.stands first) g.T.Storied.number c.args.passes (opening (0 ∷ 0 ∷ []) xs (dealer 0 c.args.passes))) (sym all) (starts (g.T.Storied.stands first) g.T.Storied.number c.args.passes x c.requires.few.1 refl start)
