-- Which segments are answered by an acknowledgement alone, a challenge (RFC 9293, 3.10.7.4; RFC 5961, 3.2 and 4.2).
use Rattle.std.specs.Prelude.{◌≡◌, ℕ, ◌==◌, ◌&&◌, Bool, true, false, not, List, if◌then◌else◌}
use Rattle.segment_codec.specs.ControlBits.{fin, rst, syn}
use Rattle.segment_codec.specs.declared.packet.Seg.{Seg}
use Rattle.tcb_machine.specs.BlockState.{Block, has, rcv_nxt, sends_ack}
use Rattle.tcb_machine.specs.States.{is_listen}
use Rattle.tcb_machine.specs.TcpStep.{arrives, is_acceptable, is_time_wait, over}
use Rattle.tcb_machine.specs.declared.kinds.State.{State}
use Rattle.tcb_machine.specs.declared.kinds.State.TheVariants.{SynReceived}

abbrev pub is_syn_received : State → Bool
is_syn_received SynReceived = true
is_syn_received _ = false

-- one that isn't acceptable, but for a RST and for a FIN in TIME-WAIT; a RST elsewhere than at RCV.NXT; a SYN behind the handshake
unfoldable pub is_challenged : Seg → List ℕ → Block → Bool
is_challenged s text b =
    if is_listen b.state then false
    else if not (is_acceptable s text b) then not (has s.flags rst) && not (is_time_wait b.state && has s.flags fin)
    else if has s.flags rst then not (s.seq == rcv_nxt b)
    else has s.flags syn && not (is_syn_received b.state)

-- a law: it changes nothing, and is answered so
abbrev pub ChallengeIsAlone : Type 0
ChallengeIsAlone = (s : Seg) (text : List ℕ) (b : Block) → is_challenged s text b ≡ true → arrives s text b ≡ over (sends_ack b)
