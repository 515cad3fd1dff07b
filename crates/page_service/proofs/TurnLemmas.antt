-- Turns one after another.
use Rattle.std.proofs.Common.{◌≡◌, ℕ, ◌-◌, ◌≤◌, Bool, true, false, refl, ap, ◌∙◌, arith}
use Rattle.std.specs.Prelude.{suc, zero}
use Rattle.tcb_machine.specs.BlockState.{Block}
use Rattle.page_service.specs.declared.phase.Phase.{Phase}
use Rattle.page_service.specs.Protocol.{Protocol}
use Rattle.page_service.specs.Pump.{said, then_on, turn, turns}

module _ {A : Type 0} (p : Protocol A) where
  -- another one follows
  pub turn_goes : (n : ℕ) (w v : Phase A) (b c : Block) (on : Bool) → 1 ≤ n → turn p w b ≡ said on v c → on ≡ true → turns p n w b ≡ turns p (n - 1) v c
  unfolding turns
  turn_goes zero w v b c on h e f = absurd (omega (arith, h))
  turn_goes (suc n) w v b c on h e f =
      let k : n ≡ suc n - 1 = omega arith in
      ap (then_on (turns p n)) (e ∙ ap (λ (t : Bool). said t v c) f) ∙ ap (λ (m : ℕ). turns p m v c) k

  -- none follows
  pub turn_rests : (n : ℕ) (w v : Phase A) (b c : Block) (on : Bool) → 1 ≤ n → turn p w b ≡ said on v c → on ≡ false → turns p n w b ≡ (v, c)
  unfolding turns
  turn_rests zero w v b c on h e f = absurd (omega (arith, h))
  turn_rests (suc n) w v b c on h e f = ap (then_on (turns p n)) (e ∙ ap (λ (t : Bool). said t v c) f)

  pub turns_over : (n : ℕ) (w : Phase A) (b : Block) → n ≡ 0 → turns p n w b ≡ (w, b)
  unfolding turns
  turns_over zero w b e = refl
  turns_over (suc n) w b e = absurd (omega (arith, e))
