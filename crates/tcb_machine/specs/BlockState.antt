-- The block of a connection (RFC 9293, 3.3.1), and what is read off it.
use Rattle.std.specs.Prelude.{ℕ, ◌+◌, ◌-◌, ◌*◌, ◌%◌, ◌/◌, ◌^◌, ◌==◌, ◌<◌, ◌≤◌, min, Bool}
use Rattle.std.specs.Prelude.{false, not, List, [], ◌∷◌, ◌++◌, length, drop, Option, None, if◌then◌else◌, bit_and}
use Rattle.byte_queues.specs.ReceiveQueue.{Recv, bytes, empty_recv, next_of, window_of}
use Rattle.tcb_machine.specs.declared.kinds.State.{State}
use Rattle.tcb_machine.specs.declared.kinds.State.TheVariants.{Listen}
use Rattle.tcb_machine.specs.States.{is_consumed}
use Rattle.segment_codec.specs.ControlBits.{ack, fin, rst, syn}
use Rattle.segment_codec.specs.PlainSegments.{plain}
use Rattle.segment_codec.specs.declared.packet.Reply.{Reply}
use Rattle.segment_codec.specs.declared.packet.Seg.{Seg}
use Rattle.tcb_machine.specs.declared.agreed.Agreed.{Agreed}
use Rattle.tcb_machine.specs.Agreed.{OurOptions, announced, nothing_agreed}
use Rattle.tcb_machine.specs.Limits.{first_timeout, most_mss, our_shift, plain_space, whole_space}

pub record Block : Type 0 where
  pub state : State
  -- ISS, IRS, SND.UNA, SND.WND, SND.WL1, SND.WL2
  pub iss : ℕ
  pub irs : ℕ
  pub una : ℕ
  pub wnd : ℕ
  pub wl1 : ℕ
  pub wl2 : ℕ
  -- what the options of both SYNs agree on
  pub agreed : Agreed
  -- the receive space asked for
  pub want : ℕ
  pub recv : Recv
  -- the bytes offered that aren't acknowledged, how many were acknowledged before them, and how many were sent in all
  pub out : List ℕ
  pub acked : ℕ
  pub sent : ℕ
  pub fin_wanted : Bool
  pub fin_sent : Bool
  -- RTO, and the two deadlines, of which at most one is set (RFC 9293, 3.8.1; RFC 6298)
  pub rto : ℕ
  pub retransmit_at : Option ℕ
  pub time_wait_at : Option ℕ
  pub retransmissions : ℕ
  pub clock : ℕ
  pub ack_due : Bool
  pub replies : List Reply

-- a block in LISTEN: all is as new but for the receive space asked for, the retransmissions made, the clock and the replies
abbrev pub listening : ℕ → ℕ → ℕ → List Reply → Block
listening want retransmissions clock replies = record {
  state = Listen;
  iss = 0;
  irs = 0;
  una = 0;
  wnd = 0;
  wl1 = 0;
  wl2 = 0;
  agreed = nothing_agreed;
  want = want;
  recv = empty_recv want;
  out = [];
  acked = 0;
  sent = 0;
  fin_wanted = false;
  fin_sent = false;
  rto = first_timeout;
  retransmit_at = None;
  time_wait_at = None;
  retransmissions = retransmissions;
  clock = clock;
  ack_due = false;
  replies = replies;
}

unfoldable pub new_block : Block
new_block = listening whole_space 0 0 []

unfoldable pub to_listen : Block → Block
to_listen b = listening b.want b.retransmissions b.clock b.replies

abbrev pub one_if : Bool → ℕ
one_if b = if b then 1 else 0

unfoldable pub rcv_nxt : Block → ℕ
rcv_nxt b = (b.irs + 1 + next_of b.recv + one_if (is_consumed b.state)) % 2 ^ 32

unfoldable pub rcv_wnd : Block → ℕ
rcv_wnd b = window_of b.recv

-- the sequence number behind the last byte that was sent, and SND.NXT
unfoldable pub snd_end : Block → ℕ
snd_end b = (b.iss + 1 + b.sent) % 2 ^ 32

unfoldable pub snd_nxt : Block → ℕ
snd_nxt b = (b.iss + 1 + b.sent + one_if b.fin_sent) % 2 ^ 32

-- the bytes that weren't sent yet, and how many were sent and aren't acknowledged
unfoldable pub unsent : Block → List ℕ
unsent b = drop (b.sent - b.acked) b.out

abbrev pub in_flight : Block → ℕ
in_flight b = b.sent - b.acked

unfoldable pub offered : Block → ℕ
offered b = b.acked + length b.out

-- the bytes that are held: received and not taken, behind a gap too, and offered and not acknowledged
abbrev pub held_in : Block → ℕ
held_in b = length (bytes b.recv.got) + length b.out

-- whether a control bit is among these
abbrev pub has : ℕ → ℕ → Bool
has flags flag = not (bit_and flags flag == 0)

-- SEG.LEN, SEG.WND (RFC 7323, 2.3: a SYN's window isn't scaled, and isn't used)
unfoldable pub seg_len : Seg → List ℕ → ℕ
seg_len s text = length text + one_if (has s.flags syn) + one_if (has s.flags fin)

unfoldable pub seg_wnd : Seg → Block → ℕ
seg_wnd s b = s.wnd * 2 ^ b.agreed.snd_shift

-- the window field of a segment that is sent without SYN (RFC 7323, 2.3)
unfoldable pub sent_window : Block → ℕ
sent_window b = if b.agreed.scaled then rcv_wnd b / 2 ^ our_shift else rcv_wnd b

-- <SEQ=..><ACK=RCV.NXT> with control bits and a text
unfoldable pub segment_of : ℕ → ℕ → List ℕ → Block → Reply
segment_of flags seq text b = plain b.clock flags seq (rcv_nxt b) (sent_window b) text

-- <SEQ=ISS><ACK=RCV.NXT><CTL=SYN,ACK> with the options
unfoldable pub syn_ack_of : Block → Reply
syn_ack_of b = record {
  at = b.clock;
  flags = syn + ack;
  seq = b.iss;
  ack = rcv_nxt b;
  wnd = min (rcv_wnd b) plain_space;
  options = announced b.agreed;
  text = [];
}

-- <SEQ=SEG.ACK><CTL=RST>
unfoldable pub rst_of : Seg → Block → Reply
rst_of s b = plain b.clock rst s.ack 0 0 []

-- one reply more
abbrev pub sends : Reply → Block → Block
sends r b = record b { replies = b.replies ++ r ∷ [] }

-- <SEQ=SND.NXT><ACK=RCV.NXT><CTL=ACK>
abbrev pub sends_ack : Block → Block
sends_ack b = sends (segment_of ack (snd_nxt b) [] b) b

-- what every reply of a block is
pub record IsOurs (r : Reply) : Type 0 where
  pub text : length r.text ≤ most_mss
  pub flags : r.flags < 64
  pub options : OurOptions r.options
