use Rattle.std.proofs.Common.{◌≡◌, ◌++◌, ◌∷◌, ◌+◌, [], ℕ, Some, length, slice_get, refl, sym, subst, arith}
use Rattle.placed_parts.specs.Placing.{limits_of, origin_of}
use Rattle.squeue_state.specs.Naming.{setting_of}
use Rattle.squeue_arrivals.specs.Arriving.{items_for}
use Rattle.squeue_arrivals.specs.Keeping.{KeepsBut, Serves}
use Rattle.squeue_arrivals.specs.Keyed.{Tells}
use Rattle.squeue_arrivals.specs.Placed.{keys_in, place_of}
use Rattle.squeue_arrivals.proofs.Cases.{of_some}
use Rattle.squeue_arrivals.proofs.KeyLists.{few_items}
use Rattle.squeue_arrivals.proofs.KeysKept.{all_came_more, keys_more}
use Rattle.squeue_arrivals.proofs.keys.arrive.Goals as goal

pub seat-pass-requires-clause-keys : goal.seat-pass-requires-clause-keys
seat-pass-requires-clause-keys g c = (c.requires.keys.0, c.requires.keys.1)

pub returns-in_default-clause-arrived : goal.returns-in_default-clause-arrived
returns-in_default-clause-arrived g c = λ all has.
    let s = c.seat-pass.ensures.seated all has in
    let none = s.none c.in_default.is in
    ((s.keys, none.2), refl, refl, (none.0, none.1))

pub bring-pass-requires-clause-knows : goal.bring-pass-requires-clause-knows
bring-pass-requires-clause-knows g c = (c.seat-pass.ensures.seated c.requires.keys.0 c.requires.keys.1).keys.knows

pub bring-pass-requires-clause-open : goal.bring-pass-requires-clause-open
bring-pass-requires-clause-open g c =
    let all = c.requires.keys.0 in
    let s = c.seat-pass.ensures.seated all c.requires.keys.1 in
    let at = of_some (λ p. (i : ℕ) × (slice_get (keys_in c.seat-pass.new.keys) i ≡ Some c.args.key) × (p ≡ place_of c.seat-pass.new.keys i)) c.seat-pass.result.1 c.in-Some.c c.in-Some.is c.seat-pass.ensures.place in
    let items = items_for c.args.key all in (
      items,
      subst (λ (d : ℕ). Serves (setting_of limits_of c.args.line.now.squeue.now.given) c.seat-pass.result.0 c.seat-pass.new.stays d items (length items)) (sym at.2) (s.keys.at at.0 c.args.key at.1),
      omega (arith, few_items c.args.key all, c.requires.keys.2),
    )

pub returns-clause-arrived : goal.returns-clause-arrived
returns-clause-arrived g c = λ all has.
    let s = c.seat-pass.ensures.seated all has in
    let p = c.seat-pass.result.0 in
    let q = c.bring-pass.result in
    let a = c.seat-pass.new.stays in
    let b = c.bring-pass.new.stays in
    let k = c.seat-pass.new.keys in
    let at = of_some (λ p. (i : ℕ) × (slice_get (keys_in k) i ≡ Some c.args.key) × (p ≡ place_of k i)) c.seat-pass.result.1 c.in-Some.c c.in-Some.is c.seat-pass.ensures.place in
    let e = c.bring-pass.ensures in
    let line = c.args.line.now.squeue.now in
    let o = origin_of line.given.first in
    let items = items_for c.args.key all in
    let place = subst (λ (d : ℕ). Serves (setting_of limits_of line.given) p a d items (length items)) (sym at.2) (s.keys.at at.0 c.args.key at.1) in
    let brought = subst (λ (d : ℕ). Serves (setting_of limits_of line.given) q b d (items ++ c.args.item ∷ []) (length items + 1)) at.2 (e.brought items place) in
    let keeps = subst (λ (d : ℕ). KeepsBut d a b) at.2 e.others in (
      keys_more (Tells g.X.KeySteps.step) limits_of line o all p q a b k at.0 c.args.key s.keys at.1 e.knows e.number e.grows keeps c.args.item brought,
      all_came_more (Tells g.X.KeySteps.step) limits_of line o all p q a b k at.0 c.args.key s.keys at.1 e.knows e.number e.grows keeps c.args.item s.came,
    )
