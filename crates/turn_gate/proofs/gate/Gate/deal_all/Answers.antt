use Rattle.std.specs.Prelude.{vec_capacity}
use Rattle.std.proofs.Common.{refl, rules, ◌≡◌, ◌≤◌, sym, ap, ◌∙◌, subst, ◌-◌, ◌+◌, suc, arith, length, length-append, zero-add, [], ◌∷◌}
use Rattle.atomic_table.specs.Table.{Splits}
use Rattle.turn_gate.specs.Gates.{gate_id}
use Rattle.turn_gate.specs.Rule.{Holds, dealer, dealt, dealt_one}
use Rattle.turn_gate.specs.Passes.{AreFresh}
use Rattle.turn_gate.proofs.Keeps.{deals}
use Rattle.turn_gate.proofs.Passing.{fresh_more, fresh_pass}
use Rattle.turn_gate.proofs.gate.Gate.deal_all.Goals as goal

pub split_seat-one-requires : goal.split_seat-one-requires
split_seat-one-requires g c = let k = c.loop-k.k in let n = c.args.self.now.table.shared.key.passes in let m = c.args.passes - (k + 1) in let left : c.args.passes - k ≡ suc m = omega arith in
    let e = ap (λ x. x.0) c.loop-k.invariant.1 ∙ ap (dealer k) left in (
      search rules,
      search rules,
      subst (λ v. Splits (Holds (g.T.Storied.stands c.args.self.now.table.shared.key.first.value) g.T.Storied.number n) c.loop-k.seat.id v (dealt v) (dealt_one v)) (sym e) (deals (g.T.Storied.stands c.args.self.now.table.shared.key.first.value) g.T.Storied.number n c.loop-k.seat.id k m),
    )

pub loop-k-preserved : goal.loop-k-preserved
loop-k-preserved g c = let k = c.loop-k.k in let m = c.args.passes - (k + 1) in let left : c.args.passes - k ≡ suc m = omega arith in
    let e = c.loop-k.invariant.1 ∙ ap (λ z. (dealer k z, [])) left in let s = c.split_seat-one.ensures in
    let items = c.push_reserved.ensures.items in (
      search rules,
      s.2 ∙ ap (λ x. (dealt x.0, x.1)) e,
      ap length items ∙ (length-append c.loop-k.all.items _ ∙ ap (λ z. z + 1) c.loop-k.invariant.2),
      subst (AreFresh g.T.Storied.number (gate_id c.args.self.now) 0) (sym items) (fresh_more g.T.Storied.number (gate_id c.args.self.now) 0 k c.loop-k.all.items (record { badge = c.into_badge-badge.result; number = k }) c.loop-k.invariant.3 (zero-add (length c.loop-k.all.items) ∙ c.loop-k.invariant.2)
          (fresh_pass g.T.Storied.number (gate_id c.args.self.now) k (record { badge = c.into_badge-badge.result; number = k }) (c.into_badge-badge.ensures.0 ∙ (s.3 ∙ c.loop-k.invariant.0)) (c.into_badge-badge.ensures.2 ∙ ap (λ x. x.0 ∷ []) (s.4 ∙ ap (λ x. (dealt_one x.0, [])) e)) refl)),
      (let room : c.args.passes ≤ vec_capacity c.loop-k.all = c.loop-k.invariant.4 in let same : vec_capacity c.push_reserved.new.self ≡ vec_capacity c.loop-k.all = c.push_reserved.ensures.capacity in omega arith),
    )
