use Rattle.std.proofs.Common.{◌≡◌, ◌+◌, ◌-◌, ◌++◌, ◌∷◌, [], ◌∙◌, ℕ, Some, Option, ap, sym, subst, arith, length}
use Rattle.std.proofs.lemmas.List.{length-drop}
use Rattle.perimeter_core.specs.declared.entries.Entry.TheVariants as Entry'
use Rattle.perimeter_core.specs.History.{run}
use Rattle.perimeter_core.specs.Perimeter.{processed, unprocessed}
use Rattle.perimeter_core.specs.Legal.{May}
use Rattle.perimeter_core.specs.Blocks.{Blocks, peri, with_feeds}
use Rattle.squeue_state.specs.Naming.{setting_of}
use Rattle.squeue_state.specs.Behind.{Behind, IsPeri}
use Rattle.squeue_state.specs.Hands.{GoBack}
use Rattle.squeue_state.specs.Clauses.{named_of, asker}
use Rattle.histories.specs.Elements.{granted_by}
use Rattle.squeue_state.proofs.Turns.{lent, noted, ends, marked}
use Rattle.squeue_state.proofs.Granting.{granted_hand, same_blocks, asker_first, some_first}
use Rattle.squeue_state.proofs.Bounds.{grants_back}
use Rattle.squeue_state.proofs.squeue.Squeue.grant.Goals as goal

pub pass_first-requires : goal.pass_first-requires
pass_first-requires g c = some_first c.args.hand.left (Entry'.Ask (asker c.args.hand.left)) c.requires.first

pub grant-requires-clause-room : goal.grant-requires-clause-room
grant-requires-clause-room g c =
    let b = lent g.R.Resident c.turn.inside.of.value c.turn.inside.held c.args.turn c.args.self.now c.turn.invariant c.turn.view_is c.requires.squeue c.value.result.now c.value.ensures.value in
    let some = some_first c.args.hand.left (Entry'.Ask (asker c.args.hand.left)) c.requires.first in
    let left = c.pass_first.ensures.left in
    let fewer = length-drop 1 c.args.hand.left in
    subst (λ (room : Option ℕ). GoBack room (length c.pass_first.new.self.left) (length c.value.result.now.inner.chain.items)) (sym c.pass_first.ensures.room)
    (grants_back g.R.Resident c.args.self.now.given c.value.result.now.inner c.args.turn.found c.args.hand b c.requires.hand (length c.pass_first.new.self.left) (omega (arith, some, fewer, ap length left)))

pub end_turn-pass-requires-clause-value : goal.end_turn-pass-requires-clause-value
end_turn-pass-requires-clause-value g c =
    let b = lent g.R.Resident c.turn.inside.of.value c.turn.inside.held c.args.turn c.args.self.now c.turn.invariant c.turn.view_is c.requires.squeue c.value.result.now c.value.ensures.value in
    let S = setting_of g.R.Resident.limits c.args.self.now.given in
    let H = (run S c.args.turn.found).hand in
    let left = c.pass_first.new.self.left in
    let hand = granted_hand H c.args.hand.left (asker c.args.hand.left) c.requires.hand.is_left c.requires.first in
    let j : c.in-Some-Ask.j ≡ asker c.args.hand.left = asker_first c.in-Some-Ask.j c.args.hand.left (sym c.first.ensures ∙ (c.in-Some-Ask.is ∙ ap (λ e. Some e) c.in-Some-Ask.field-0-is)) in
    let fewer : length left ≡ length c.args.hand.left - 1 = ap length c.pass_first.ensures.left ∙ length-drop 1 c.args.hand.left in
    let is_left : left ≡ unprocessed (length left) H = c.pass_first.ensures.left ∙ (hand.0 ∙ ap (λ (k : ℕ). unprocessed k H) (sym fewer)) in
    let peri_r = subst (λ (x : Blocks). IsPeri g.R.Resident c.args.self.now.given c.args.resident x) (same_blocks (processed (length c.args.hand.left) H) (processed (length c.args.hand.left - 1) H) (asker c.args.hand.left) (peri S c.args.turn.found) hand.1) c.requires.resident in
    let may = subst (λ (k : ℕ). May S c.args.turn.found (granted_by c.args.turn.number k (length c.args.hand.left - 1))) (sym j) c.requires.may in
    let after = c.grant.ensures.behind c.args.self.now.given c.args.turn.found c.args.turn.number b (record { is_left = is_left; has_room = c.pass_first.ensures.room ∙ c.requires.hand.has_room })
    (subst (λ (k : ℕ). IsPeri g.R.Resident c.args.self.now.given c.args.resident (with_feeds (processed k H) (peri S c.args.turn.found))) (sym fewer) peri_r)
    (subst (λ (k : ℕ). May S c.args.turn.found (granted_by c.args.turn.number c.in-Some-Ask.j k)) (sym fewer) may) in
    ends g.R.Resident c.turn.inside.held c.args.turn c.turn.inside.of.value c.args.self.now (named_of c.self.inside.gate) c.turn.view_is c.self.view_is c.grant.new.self (λ k. granted_by k c.in-Some-Ask.j c.len-rest.result)
    (subst (λ (k : ℕ). Behind g.R.Resident c.args.self.now.given c.grant.new.self (c.args.turn.found ++ granted_by c.args.turn.number c.in-Some-Ask.j k ∷ [])) (sym c.len-rest.ensures) after)

pub end_turn-pass-requires-clause-noted : goal.end_turn-pass-requires-clause-noted
end_turn-pass-requires-clause-noted g c =
    noted g.R.Resident c.turn.inside.of.value c.turn.inside.held c.args.turn c.args.self.now (named_of c.self.inside.gate) c.turn.invariant c.turn.view_is c.requires.squeue c.self.view_is c.value.result.now c.value.ensures.value

pub returns : goal.returns
returns g c =
    let j : c.in-Some-Ask.j ≡ asker c.args.hand.left = asker_first c.in-Some-Ask.j c.args.hand.left (sym c.first.ensures ∙ (c.in-Some-Ask.is ∙ ap (λ e. Some e) c.in-Some-Ask.field-0-is)) in
    let rest : c.len-rest.result ≡ length c.args.hand.left - 1 = c.len-rest.ensures ∙ (ap length c.pass_first.ensures.left ∙ length-drop 1 c.args.hand.left) in
    marked c.turn.inside.of.value c.args.self.now c.self.inside.gate c.turn.inside.held c.args.turn (λ k. granted_by k c.in-Some-Ask.j c.len-rest.result) (granted_by c.args.turn.number (asker c.args.hand.left) (length c.args.hand.left - 1)) c.end_turn-pass.result
    c.turn.view_is c.requires.squeue c.self.view_is (ap (λ i. granted_by c.args.turn.number i c.len-rest.result) j ∙ ap (λ k. granted_by c.args.turn.number (asker c.args.hand.left) k) rest) c.end_turn-pass.ensures.gate c.end_turn-pass.ensures.seen c.end_turn-pass.ensures.mine c.end_turn-pass.ensures.steps
