-- What a server that stands beside a block sets in it and sends from it: RTO and the window that it uses, text again, a probe, a reset.
use Rattle.std.specs.Prelude.{ℕ, ◌≡◌, ◌+◌, ◌-◌, ◌%◌, ◌^◌, ◌≤◌, Bool, true, false, [], take, drop, Option, None, Some, if◌then◌else◌}
use Rattle.segment_codec.specs.ControlBits.{ack, psh, rst}
use Rattle.segment_codec.specs.PlainSegments.{plain}
use Rattle.tcb_machine.specs.BlockState.{Block, segment_of, sends, snd_nxt, to_listen}
use Rattle.tcb_machine.specs.Numbering.{IsNumbered}
use Rattle.tcb_machine.specs.Room.{StreamsBelow}
use Rattle.tcb_machine.specs.States.{is_listen}
use Rattle.tcb_machine.specs.Validity.{IsValid}
use Rattle.tcb_machine.specs.declared.kinds.State.{State}
use Rattle.tcb_machine.specs.declared.kinds.State.TheVariants.{Listen, SynReceived, Established, FinWait1, FinWait2, CloseWait, Closing, LastAck, TimeWait}

-- a deadline that is set, at another time
abbrev pub moved_to : ℕ → Option ℕ → Option ℕ
moved_to at None = None
moved_to at (Some old) = Some at

-- RTO from now on, in microseconds; the retransmission timer, where it runs, expires so long from now (RFC 6298, 5.3)
unfoldable pub retiming : ℕ → Block → Block
retiming rto b = record b { rto = rto; retransmit_at = moved_to (b.clock + rto) b.retransmit_at }

-- SND.WND from now on, in bytes
unfoldable pub showing : ℕ → Block → Block
showing window b = record b { wnd = window }

-- n bytes that were sent, from SND.UNA + from on, again as one segment
unfoldable pub resending : ℕ → ℕ → Block → Block
resending from n b = sends (segment_of (psh + ack) ((b.una + from) % 2 ^ 32) (take n (drop from b.out)) b) b

-- <SEQ=SND.NXT-1><ACK=RCV.NXT><CTL=ACK>, which the peer answers (RFC 9293, 3.8.4)
unfoldable pub probing : Block → Block
probing b = sends (segment_of ack ((snd_nxt b + (2 ^ 32 - 1)) % 2 ^ 32) [] b) b

-- ABORT (RFC 9293, 3.10.5): up to CLOSE-WAIT <SEQ=SND.NXT><CTL=RST>, and all is as new in each state
abbrev pub is_reset_sent : State → Bool
is_reset_sent Listen = false
is_reset_sent SynReceived = true
is_reset_sent Established = true
is_reset_sent FinWait1 = true
is_reset_sent FinWait2 = true
is_reset_sent CloseWait = true
is_reset_sent Closing = false
is_reset_sent LastAck = false
is_reset_sent TimeWait = false

unfoldable pub aborting : Block → Block
aborting b = to_listen (if is_reset_sent b.state then sends (plain b.clock rst (snd_nxt b) 0 0 []) b else b)

-- laws: what holds of every block holds of it then

pub record IsKept (b c : Block) : Type 0 where
  pub valid : IsValid b → IsValid c
  pub numbers : IsNumbered b → IsNumbered c
  pub room : (limit : ℕ) → StreamsBelow limit b → StreamsBelow limit c

abbrev pub RetimingKeeps : Type 0
RetimingKeeps = (rto : ℕ) (b : Block) → is_listen b.state ≡ false → IsKept b (retiming rto b)

abbrev pub ShowingKeeps : Type 0
ShowingKeeps = (window : ℕ) (b : Block) → is_listen b.state ≡ false → IsKept b (showing window b)

abbrev pub ResendingKeeps : Type 0
ResendingKeeps = (from n : ℕ) (b : Block) → is_listen b.state ≡ false → n ≤ b.agreed.mss → IsKept b (resending from n b)

abbrev pub ProbingKeeps : Type 0
ProbingKeeps = (b : Block) → is_listen b.state ≡ false → IsKept b (probing b)

abbrev pub AbortingKeeps : Type 0
AbortingKeeps = (b : Block) → IsKept b (aborting b)
