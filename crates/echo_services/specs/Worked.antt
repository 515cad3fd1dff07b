-- Worked exchanges: what one connection is given, what it sends, and its state then. Times are in microseconds.
use Rattle.std.specs.Prelude.{◌≡◌, ℕ, ◌+◌, List, [], ◌∷◌, ◌++◌, Option, None, Some, length, zero, suc, codes}
use Rattle.sq_base.specs.declared.kinds.Tuple.{Tuple}
use Rattle.segment_codec.specs.declared.packet.Seg.{Seg}
use Rattle.segment_codec.specs.declared.packet.Reply.{Reply}
use Rattle.tcb_machine.specs.BlockState.{Block, new_block}
use Rattle.segment_codec.specs.ControlBits.{ack, fin, psh, rst, syn}
use Rattle.segment_codec.specs.Options.{no_options}
use Rattle.segment_codec.specs.PlainSegments.{plain, plain_from}
use Rattle.tcb_machine.specs.declared.kinds.State.{State}
use Rattle.tcb_machine.specs.declared.kinds.State.TheVariants.{Listen, SynReceived, Established, FinWait1, LastAck, TimeWait}
use Rattle.tcb_machine.specs.declared.kinds.Call.TheVariants as call
use Rattle.echo_services.specs.Pump.{pump}
use Rattle.echo_services.specs.Serving.{Entry, segment, time, asks, serves}
use Rattle.echo_services.specs.declared.service.Service.TheVariants.{Echo}

pub record Exchange : Type 0 where
  pub given : List Entry
  pub sent : List Reply
  pub state : State

-- the echo service answers so
pub record IsEchoed (x : Exchange) : Type 0 where
  pub sent : (serves (pump Echo) x.given new_block).replies ≡ x.sent
  pub state : (serves (pump Echo) x.given new_block).state ≡ x.state

-- the service of this pump answers so
pub record IsServed (pump : Block → Block) (x : Exchange) : Type 0 where
  pub sent : (serves pump x.given new_block).replies ≡ x.sent
  pub state : (serves pump x.given new_block).state ≡ x.state

-- the client is 10.0.0.1:4000, the server 10.0.0.2:7
abbrev pub ends : Tuple
ends = record { client = record { 0 = 0x0a000001 }; client_port = 4000; server = record { 0 = 0x0a000002 }; server_port = 7 }

-- a segment of the client without options: control bits, sequence number, acknowledgement number, window, text
abbrev pub seg : ℕ → ℕ → ℕ → ℕ → List ℕ → Seg
seg flags seq ack wnd text = plain_from ends flags seq ack wnd 40 (length text)

-- time, control bits, sequence number, acknowledgement number, window, text
abbrev pub gets : ℕ → ℕ → ℕ → ℕ → ℕ → List ℕ → Entry
gets at flags seq ack wnd text = segment at 0 (seg flags seq ack wnd text) text

-- a SYN with window 4096: time, hint, sequence number, window scale
abbrev pub gets_syn : ℕ → ℕ → ℕ → Option ℕ → Entry
gets_syn at iss seq scale = segment at iss (record (seg syn seq 0 4096 []) { options = record no_options { scale = scale } }) []

-- time, control bits, sequence number, acknowledgement number, window, text
abbrev pub puts : ℕ → ℕ → ℕ → ℕ → ℕ → List ℕ → Reply
puts at flags seq ack wnd text = plain at flags seq ack wnd text

-- the SYN,ACK with the MSS: time, sequence number, acknowledgement number, window, window scale
abbrev pub puts_syn : ℕ → ℕ → ℕ → ℕ → Option ℕ → Reply
puts_syn at seq ack wnd scale = record (plain at 18 seq ack wnd []) { options = record no_options { mss = Some 1460; scale = scale } }

-- the handshake of most exchanges
abbrev pub opened : List Entry
opened = gets_syn 0 500 100 None ∷ gets 1000 ack 101 501 4096 [] ∷ []

abbrev pub greeted : Reply
greeted = puts_syn 0 500 101 65535 None

abbrev pub five_segment_echo : Exchange
five_segment_echo = record {
  given =
      opened
      ++ gets 2000 (psh + ack) 101 501 4096 (codes "hello")
      ∷ gets 3000 (fin + ack) 106 506 4096 []
      ∷ gets 4000 ack 107 507 4096 []
      ∷ time 4000
      ∷ [];
  sent = greeted ∷ puts 2000 (psh + ack) 501 106 65535 (codes "hello") ∷ puts 3000 (fin + ack) 506 107 65535 [] ∷ [];
  state = Listen;
}

abbrev pub sequence_numbers_wrap : Exchange
sequence_numbers_wrap = record {
  given =
      gets_syn 0 500 4294967294 None
      ∷ gets 1000 ack 4294967295 501 4096 []
      ∷ gets 2000 (psh + ack) 4294967295 501 4096 (codes "abcd")
      ∷ gets 3000 (fin + ack) 3 505 4096 []
      ∷ time 3000
      ∷ [];
  sent = puts_syn 0 500 4294967295 65535 None ∷ puts 2000 (psh + ack) 501 3 65535 (codes "abcd") ∷ puts 3000 (fin + ack) 505 4 65535 [] ∷ [];
  state = LastAck;
}

abbrev pub text_out_of_order : Exchange
text_out_of_order = record {
  given =
      opened
      ++ gets 2000 (psh + ack) 104 501 4096 (codes "def")
      ∷ gets 3000 (psh + ack) 101 501 4096 (codes "abc")
      ∷ gets 4000 (psh + ack) 101 501 4096 (codes "abc")
      ∷ time 4000
      ∷ [];
  sent = greeted ∷ puts 2000 ack 501 101 65535 [] ∷ puts 3000 (psh + ack) 501 107 65535 (codes "abcdef") ∷ puts 4000 ack 507 107 65535 [] ∷ [];
  state = Established;
}

abbrev pub small_buffer : Exchange
small_buffer = record {
  given = asks (call.Buffer 4) ∷ opened ++ gets 2000 (psh + ack) 101 501 4096 (codes "abcdef") ∷ [];
  sent = puts_syn 0 500 101 4 None ∷ puts 2000 (psh + ack) 501 105 4 (codes "abcd") ∷ [];
  state = Established;
}

-- one byte goes into a window of 0 once the timeout has passed
abbrev pub zero_window_probe : Exchange
zero_window_probe = record {
  given =
      gets_syn 0 500 100 None
      ∷ gets 1000 ack 101 501 0 []
      ∷ gets 2000 (psh + ack) 101 501 0 (codes "xyz")
      ∷ time 1500000
      ∷ gets 1500000 ack 104 501 4096 []
      ∷ time 1500000
      ∷ [];
  sent =
      greeted
      ∷ puts 2000 ack 501 104 65535 []
      ∷ puts 1002000 (psh + ack) 501 104 65535 (codes "x")
      ∷ puts 1500000 (psh + ack) 502 104 65535 (codes "yz")
      ∷ [];
  state = Established;
}

-- RST at RCV.NXT, elsewhere in the window, before it, and behind it
abbrev pub reset_at : ℕ → List Reply → State → Exchange
reset_at seq answer state = record { given = opened ++ gets 2000 rst seq 0 0 [] ∷ time 2000 ∷ []; sent = greeted ∷ answer; state = state }

abbrev pub reset_at_next : Exchange
reset_at_next = reset_at 101 [] Listen

abbrev pub reset_in_window : Exchange
reset_in_window = reset_at 102 (puts 2000 ack 501 101 65535 [] ∷ []) Established

abbrev pub reset_before_window : Exchange
reset_before_window = reset_at 100 [] Established

abbrev pub reset_behind_window : Exchange
reset_behind_window = reset_at 65636 [] Established

abbrev pub handshake_retransmissions : Exchange
handshake_retransmissions = record {
  given = gets_syn 0 0 100 None ∷ time 130000000 ∷ [];
  sent =
      puts_syn 0 0 101 65535 None
      ∷ puts_syn 1000000 0 101 65535 None
      ∷ puts_syn 3000000 0 101 65535 None
      ∷ puts_syn 7000000 0 101 65535 None
      ∷ puts_syn 15000000 0 101 65535 None
      ∷ puts_syn 31000000 0 101 65535 None
      ∷ puts_syn 63000000 0 101 65535 None
      ∷ puts_syn 123000000 0 101 65535 None
      ∷ [];
  state = SynReceived;
}

abbrev pub tuple_used_again : Exchange
tuple_used_again = record {
  given =
      opened
      ++ gets 2000 (psh + ack) 101 501 4096 (codes "hello")
      ∷ gets 3000 (fin + ack) 106 506 4096 []
      ∷ gets 4000 ack 107 507 4096 []
      ∷ gets_syn 5000 700 9000 None
      ∷ gets 6000 ack 9001 701 4096 []
      ∷ time 6000
      ∷ [];
  sent =
      greeted
      ∷ puts 2000 (psh + ack) 501 106 65535 (codes "hello")
      ∷ puts 3000 (fin + ack) 506 107 65535 []
      ∷ puts_syn 5000 700 9001 65535 None
      ∷ [];
  state = Established;
}

-- the SYN recorded twice: the second one is challenged
abbrev pub repeated_syn : Exchange
repeated_syn = record {
  given =
      gets_syn 0 500 100 None
      ∷ gets_syn 500 500 100 None
      ∷ gets 1000 ack 101 501 4096 []
      ∷ gets 2000 (psh + ack) 101 501 4096 (codes "hello")
      ∷ gets 3000 (fin + ack) 106 506 4096 []
      ∷ gets 4000 ack 107 507 4096 []
      ∷ time 4000
      ∷ [];
  sent =
      greeted
      ∷ puts 500 ack 501 101 65535 []
      ∷ puts 2000 (psh + ack) 501 106 65535 (codes "hello")
      ∷ puts 3000 (fin + ack) 506 107 65535 []
      ∷ [];
  state = Listen;
}

-- calls between the segments
abbrev pub closed_by_a_call : Exchange
closed_by_a_call = record {
  given =
      opened
      ++ gets 2000 (psh + ack) 101 501 4096 (codes "hello")
      ∷ asks call.Status
      ∷ asks call.Close
      ∷ asks call.Status
      ∷ gets 3000 (fin + ack) 106 506 4096 []
      ∷ gets 4000 ack 107 507 4096 []
      ∷ time 4000
      ∷ [];
  sent =
      greeted
      ∷ puts 2000 (psh + ack) 501 106 65535 (codes "hello")
      ∷ puts 2000 (fin + ack) 506 106 65535 []
      ∷ puts 3000 ack 507 107 65535 []
      ∷ [];
  state = TimeWait;
}

abbrev pub scaled_five_segment_echo : Exchange
scaled_five_segment_echo = record {
  given =
      gets_syn 0 500 100 (Some 7)
      ∷ gets 1000 ack 101 501 4096 []
      ∷ gets 2000 (psh + ack) 101 501 4096 (codes "hello")
      ∷ gets 3000 (fin + ack) 106 506 4096 []
      ∷ gets 4000 ack 107 507 4096 []
      ∷ time 4000
      ∷ [];
  sent = puts_syn 0 500 101 65535 (Some 5) ∷ puts 2000 (psh + ack) 501 106 32768 (codes "hello") ∷ puts 3000 (fin + ack) 506 107 32768 [] ∷ [];
  state = Listen;
}

abbrev pub scaled_small_window : Exchange
scaled_small_window = record {
  given =
      gets_syn 0 500 100 (Some 2)
      ∷ gets 1000 ack 101 501 1 []
      ∷ gets 2000 (psh + ack) 101 501 1 (codes "abcdef")
      ∷ gets 3000 ack 107 505 1 []
      ∷ time 3000
      ∷ [];
  sent = puts_syn 0 500 101 65535 (Some 5) ∷ puts 2000 (psh + ack) 501 107 32768 (codes "abcd") ∷ puts 3000 (psh + ack) 505 107 32768 (codes "ef") ∷ [];
  state = Established;
}

-- 20,000 bytes into a window of 1 with a shift of 15, which counts as 14: 16,384 of them go back in 31 segments
abbrev pub letters : ℕ → List ℕ
letters zero = []
letters (suc n) = 97 ∷ letters n

abbrev pub same_pieces : ℕ → ℕ → List Reply → List Reply
same_pieces zero seq last = last
same_pieces (suc n) seq last = puts 2000 ack seq 20101 32768 (letters 536) ∷ same_pieces n (seq + 536) last

abbrev pub scale_over_fourteen : Exchange
scale_over_fourteen = record {
  given = gets_syn 0 500 100 (Some 15) ∷ gets 1000 ack 101 501 1 [] ∷ gets 2000 (psh + ack) 101 501 1 (letters 20000) ∷ [];
  sent = puts_syn 0 500 101 65535 (Some 5) ∷ same_pieces 30 501 (puts 2000 (psh + ack) 16581 20101 32768 (letters 304) ∷ []);
  state = Established;
}

-- the line of RFC 867, with its end: 41 bytes
abbrev pub line_end : List ℕ
line_end = 13 ∷ 10 ∷ []

abbrev pub day : List ℕ
day = codes "Tuesday, February 22, 1982 17:37:43-PST" ++ line_end

-- daytime closes first: its FIN stands behind the line, and the client's is acknowledged
abbrev pub daytime_closes_first : Exchange
daytime_closes_first = record {
  given = opened ++ gets 2000 ack 101 543 4096 [] ∷ gets 3000 (fin + ack) 101 543 4096 [] ∷ [];
  sent = greeted ∷ puts 1000 (psh + ack) 501 101 65535 day ∷ puts 1000 (fin + ack) 542 101 65535 [] ∷ puts 3000 ack 543 102 65535 [] ∷ [];
  state = TimeWait;
}

-- a window of 10 holds the first 10 bytes; the FIN waits for the others
abbrev pub daytime_small_window : Exchange
daytime_small_window = record {
  given = gets_syn 0 500 100 None ∷ gets 1000 ack 101 501 10 [] ∷ gets 2000 ack 101 511 4096 [] ∷ [];
  sent =
      greeted
      ∷ puts 1000 (psh + ack) 501 101 65535 (codes "Tuesday, F")
      ∷ puts 2000 (psh + ack) 511 101 65535 (codes "ebruary 22, 1982 17:37:43-PST" ++ line_end)
      ∷ puts 2000 (fin + ack) 542 101 65535 []
      ∷ [];
  state = FinWait1;
}

-- what the client sends is thrown away, and where it closes first the line comes nevertheless
abbrev pub daytime_behind_the_close : Exchange
daytime_behind_the_close = record {
  given = gets_syn 0 500 100 None ∷ gets 1000 (fin + (psh + ack)) 101 501 4096 (codes "hello") ∷ [];
  sent = greeted ∷ puts 1000 (psh + ack) 501 107 65535 day ∷ puts 1000 (fin + ack) 542 107 65535 [] ∷ [];
  state = LastAck;
}
