-- What was under way goes again, one segment after another.
use Rattle.std.proofs.Common.{◌≡◌, ℕ, zero, suc, refl, ◌∙◌}
use Rattle.tcb_machine.specs.Beside.{resending}
use Rattle.tcb_machine.specs.BlockState.{Block, in_flight}
use Rattle.live_server.specs.Congestion.{resends}

-- what stays of a block that sends again
pub record Stays (b c : Block) : Type 0 where
  pub state : c.state ≡ b.state
  pub agreed : c.agreed ≡ b.agreed
  pub flight : in_flight c ≡ in_flight b

resending_stays : (from n : ℕ) (b : Block) → Stays b (resending from n b)
unfolding resending
resending_stays from n b = record { state = refl; agreed = refl; flight = refl }

pub resends_stays : (k from to : ℕ) (b : Block) → Stays b (resends k from to b)
resends_stays zero from to b = record { state = refl; agreed = refl; flight = refl }
resends_stays (suc k) from to b =
    let before = resends_stays k from to b in
    let last = resending_stays _ _ (resends k from to b) in
    record { state = last.state ∙ before.state; agreed = last.agreed ∙ before.agreed; flight = last.flight ∙ before.flight }
