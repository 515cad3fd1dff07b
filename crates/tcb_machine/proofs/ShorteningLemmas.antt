-- A block that sends no longer segments than its path takes.
use Rattle.std.proofs.Common.{◌≡◌, ℕ, ◌≤◌, false, arith, sym, ◌∙◌}
use Rattle.std.proofs.lemmas.Bool.{true≢false}
use Rattle.tcb_machine.specs.BlockState.{Block, offered, snd_nxt}
use Rattle.tcb_machine.specs.Numbering.{IsNumbered}
use Rattle.tcb_machine.specs.Room.{StreamsBelow}
use Rattle.tcb_machine.specs.Shortening.{shortening}
use Rattle.tcb_machine.specs.States.{is_listen}
use Rattle.tcb_machine.specs.TcpStep.{is_fin_acked}
use Rattle.tcb_machine.specs.Validity.{IsValid}

pub shortening-less : (most : ℕ) (b : Block) → (shortening most b).agreed.mss ≤ b.agreed.mss
unfolding shortening
shortening-less most b = omega arith

pub shortening-valid : (most : ℕ) (b : Block) → is_listen b.state ≡ false → IsValid b → IsValid (shortening most b)
unfolding shortening
shortening-valid most b o v = record {
  recv = v.recv;
  send = v.send;
  mss = let m = v.mss in omega (arith, m);
  timed = v.timed;
  ours = v.ours;
  new = λ e. absurd (true≢false (sym e ∙ o));
}

pub shortening-numbers : (most : ℕ) (b : Block) → IsNumbered b → IsNumbered (shortening most b)
unfolding shortening is_fin_acked snd_nxt
shortening-numbers most b n = record { una = n.una; before = n.before; iss = n.iss; wanted = n.wanted; last = n.last; held = n.held }

pub shortening-room : (limit most : ℕ) (b : Block) → StreamsBelow limit b → StreamsBelow limit (shortening most b)
unfolding shortening offered
shortening-room limit most b h = h
