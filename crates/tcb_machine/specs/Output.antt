-- The output rule (RFC 9293, 3.8.6 and 3.10.2): text, FIN, ACK, deadline.
use Rattle.std.specs.Prelude.{ℕ, ◌+◌, ◌-◌, ◌==◌, nat_lt, ◌&&◌, ◌||◌, Bool, true, false, not, List}
use Rattle.std.specs.Prelude.{[], ◌∷◌, length, take, drop, Option, None, Some, suc, zero, if◌then◌else◌}
use Rattle.sq_base.specs.SerialOrder.{dist}
use Rattle.tcb_machine.specs.BlockState.{Block, segment_of, sends, sends_ack, snd_nxt, unsent}
use Rattle.segment_codec.specs.ControlBits.{ack, fin, psh}
use Rattle.tcb_machine.specs.declared.kinds.State.{State}
use Rattle.tcb_machine.specs.declared.kinds.State.TheVariants.{Listen, SynReceived, Established, FinWait1, FinWait2, CloseWait, Closing, LastAck, TimeWait}
use Rattle.tcb_machine.specs.Limits.{first_timeout}

-- a text in pieces of n bytes, the last one shorter; the first number bounds how many
abbrev pub pieces : ℕ → ℕ → List ℕ → List (List ℕ)
pieces zero n text = []
pieces (suc k) n text = if length text == 0 then [] else take n text ∷ pieces k n (drop n text)

-- the text that may be sent now: what the usable window holds (3.8.6.2.1)
unfoldable pub sendable : Block → List ℕ
sendable b = take (b.wnd - dist b.una (snd_nxt b)) (unsent b)

-- one segment of text
unfoldable pub sends_text : ℕ → List ℕ → Block → Block
sends_text flags text b = record (sends (segment_of flags (snd_nxt b) text b) b) { sent = b.sent + length text }

-- the last one has PSH
abbrev pub sends_pieces : List (List ℕ) → Block → Block
sends_pieces [] b = b
sends_pieces (t ∷ []) b = sends_text (psh + ack) t b
sends_pieces (t ∷ u ∷ ts) b = sends_pieces (u ∷ ts) (sends_text ack t b)

unfoldable pub outputs_text : Block → Block
outputs_text b = sends_pieces (pieces (length (sendable b)) b.agreed.mss (sendable b)) b

unfoldable pub outputs_fin : Block → Block
outputs_fin b =
    if b.fin_wanted && (not b.fin_sent && (length (unsent b) == 0))
    then record (sends (segment_of (fin + ack) (snd_nxt b) [] b) b) { fin_sent = true }
    else b

-- where one is due and nothing was sent since there were so many replies
unfoldable pub outputs_ack : ℕ → Block → Block
outputs_ack count b = record (if b.ack_due && (length b.replies == count) then sends_ack b else b) { ack_due = false }

abbrev pub starts : Option ℕ → Block → Block
starts (Some at) b = b
starts None b = record b { rto = first_timeout; retransmit_at = Some (b.clock + first_timeout) }

-- the retransmission timer runs while something is unacknowledged or unsent (RFC 6298, 5.1 and 5.2)
unfoldable pub outputs_deadline : Block → Block
outputs_deadline b =
    if not (b.una == snd_nxt b) || nat_lt 0 (length (unsent b)) then starts b.retransmit_at b else record b { retransmit_at = None }

abbrev pub is_sending : State → Bool
is_sending Listen = false
is_sending SynReceived = false
is_sending Established = true
is_sending FinWait1 = true
is_sending FinWait2 = true
is_sending CloseWait = true
is_sending Closing = true
is_sending LastAck = true
is_sending TimeWait = false

unfoldable pub output : Block → Block
output b =
    let count = length b.replies in
    if is_sending b.state then outputs_deadline (outputs_ack count (outputs_fin (outputs_text b))) else outputs_ack count b
