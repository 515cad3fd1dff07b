-- What a judgement says of the block, and what a challenge says of its window.
use Rattle.std.proofs.Common.{◌≡◌, ℕ, ◌+◌, ◌%◌, ◌^◌, ◌≤◌, ◌==◌, ◌&&◌, ◌||◌, not, cond, Bool, true, false, List, [], ◌∷◌, refl, ◌∙◌, arith}
use Rattle.std.proofs.lemmas.Bool.Decides.{nat_tests}
use Rattle.segment_codec.specs.ControlBits.{ack}
use Rattle.segment_codec.specs.declared.packet.Seg.{Seg}
use Rattle.tcb_machine.specs.BlockState.{Block, rcv_nxt, rcv_wnd, seg_len}
use Rattle.tcb_machine.specs.Challenges.{is_challenged}
use Rattle.tcb_machine.specs.Room.{HasRoom}
use Rattle.tcb_machine.specs.States.{is_listen}
use Rattle.tcb_machine.specs.TcpStep.{acceptable, is_acceptable, is_in_window, is_time_wait}
use Rattle.live_server.specs.Acts.{is_outside, judged, provokes}
use Rattle.live_server.specs.declared.conn.Conn.{Conn}
use Rattle.live_server.specs.declared.conn.Judged.TheVariants.{Challenged, Taken, Unanswered}

module _ (now : ℕ) (s : Seg) (text : List ℕ) (c : Conn) where
  pub taken_clock : judged now s text c ≡ Taken → c.tcb.clock ≤ now
  unfolding judged
  taken_clock e = grind (arith, nat_tests, e)

  pub taken_room : judged now s text c ≡ Taken → HasRoom c.tcb
  unfolding judged
  taken_room e = grind (arith, nat_tests, e)

  pub challenged_open : judged now s text c ≡ Challenged → is_listen c.tcb.state ≡ false
  unfolding judged provokes is_outside is_challenged
  challenged_open e = grind (arith, nat_tests, e)

  pub challenged_clock : judged now s text c ≡ Challenged → c.tcb.clock ≤ now
  unfolding judged
  challenged_clock e = grind (arith, nat_tests, e)

  pub challenged_room : judged now s text c ≡ Challenged → HasRoom c.tcb
  unfolding judged
  challenged_room e = grind (arith, nat_tests, e)

  pub unanswered_clock : judged now s text c ≡ Unanswered → c.tcb.clock ≤ now
  unfolding judged
  unanswered_clock e = grind (arith, nat_tests, e)

  pub unanswered_room : judged now s text c ≡ Unanswered → HasRoom c.tcb
  unfolding judged
  unanswered_room e = grind (arith, nat_tests, e)

-- ---- a closed window
-- an acknowledgement at a number, and one byte of text there
abbrev at : ℕ → Seg → Seg
at n s = record s { seq = n; flags = ack }

empty_taken : (n : ℕ) (b : Block) (w : Bool) → acceptable true w n 0 b ≡ cond w (n == rcv_nxt b) (is_in_window n b)
empty_taken n b true = refl
empty_taken n b false = refl

byte_taken : (n : ℕ) (b : Block) (w : Bool) → acceptable false w n 1 b ≡ cond w false (is_in_window n b || is_in_window ((n + 0) % 2 ^ 32) b)
byte_taken n b true = refl
byte_taken n b false = refl

abbrev told : Bool → Bool → Bool → Bool
told listens waits taken = cond listens false (cond (not taken) (not (waits && false)) false)

told_by : (w same inside last waits : Bool) → (not (told false waits (cond w same inside)) && told false waits (cond w false (inside || last))) ≡ (w && same)
told_by true true inside last true = refl
told_by true true inside last false = refl
told_by true false inside last true = refl
told_by true false inside last false = refl
told_by false same true last true = refl
told_by false same true last false = refl
told_by false same false last true = refl
told_by false same false last false = refl

-- RCV.WND is 0, and RCV.NXT a number, where an empty segment is acceptable there, and one with text isn't
pub closed_told : (n : ℕ) (s : Seg) (b : Block) → is_listen b.state ≡ false
    → (not (is_challenged (at n s) [] b) && is_challenged (at n s) (0 ∷ []) b) ≡ ((rcv_wnd b == 0) && (n == rcv_nxt b))
unfolding is_challenged is_acceptable seg_len
closed_told n s b e =
    let w = rcv_wnd b == 0 in
    let waits = is_time_wait b.state in
    (λ j. not (told (e j) waits (empty_taken n b w j)) && told (e j) waits (byte_taken n b w j))
    ∙ told_by w (n == rcv_nxt b) (is_in_window n b) (is_in_window ((n + 0) % 2 ^ 32) b) waits
