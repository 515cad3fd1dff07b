-- Further exchanges, as those of `Worked`: each state, each check of a segment, and each deadline.
use Rattle.std.specs.Prelude.{◌≡◌, ℕ, ◌+◌, List, [], ◌∷◌, ◌++◌, None, Some, zero, suc, codes}
use Rattle.segment_codec.specs.Options.{no_options}
use Rattle.segment_codec.specs.declared.packet.Reply.{Reply}
use Rattle.tcb_machine.specs.BlockState.{new_block}
use Rattle.segment_codec.specs.ControlBits.{ack, fin, psh, rst, syn}
use Rattle.tcb_machine.specs.declared.kinds.State.{State}
use Rattle.tcb_machine.specs.declared.kinds.State.TheVariants.{Listen, SynReceived, Established, FinWait1, FinWait2, CloseWait, Closing, LastAck, TimeWait}
use Rattle.tcb_machine.specs.declared.kinds.Call.TheVariants as call
use Rattle.echo_services.specs.Pump.{pump}
use Rattle.echo_services.specs.Serving.{Entry, segment, time, asks, serves}
use Rattle.echo_services.specs.Worked.{seg, gets, gets_syn, puts, puts_syn, opened, greeted, letters}
use Rattle.echo_services.specs.declared.service.Service.{Service}
use Rattle.echo_services.specs.declared.service.Service.TheVariants.{Echo, Discard}

pub record Row : Type 0 where
  pub service : Service
  pub given : List Entry
  pub sent : List Reply
  pub state : State

-- the service answers so
pub record IsAnswered (x : Row) : Type 0 where
  pub sent : (serves (pump x.service) x.given new_block).replies ≡ x.sent
  pub state : (serves (pump x.service) x.given new_block).state ≡ x.state

-- a SYN with window 4096 and an MSS: time, hint, sequence number, MSS
abbrev pub gets_mss : ℕ → ℕ → ℕ → ℕ → Entry
gets_mss at iss seq mss = segment at iss (record (seg syn seq 0 4096 []) { options = record no_options { mss = Some mss } }) []

-- the ways to some states
abbrev pub closed : List Entry
closed = opened ++ asks call.Close ∷ []

abbrev pub in_fin_wait_2 : List Entry
in_fin_wait_2 = closed ++ gets 2000 ack 101 502 4096 [] ∷ []

abbrev pub in_time_wait : List Entry
in_time_wait = in_fin_wait_2 ++ gets 3000 (fin + ack) 101 502 4096 [] ∷ []

abbrev pub in_closing : List Entry
in_closing = closed ++ gets 2000 (fin + ack) 101 501 4096 [] ∷ []

abbrev pub in_last_ack : List Entry
in_last_ack = opened ++ gets 2000 (fin + ack) 101 501 4096 [] ∷ []

-- so many segments of one byte, each with a gap before it, and the acknowledgements of what is missing
abbrev pub dots : ℕ → ℕ → List Entry → List Entry
dots zero seq rest = rest
dots (suc n) seq rest = gets 2000 ack seq 501 4096 (codes "a") ∷ dots n (seq + 2) rest

abbrev pub missing : ℕ → List Reply → List Reply
missing zero rest = rest
missing (suc n) rest = puts 2000 ack 501 101 65535 [] ∷ missing n rest

-- the SYN,ACK so many times more, a minute after each other
abbrev pub minutes : ℕ → ℕ → List Reply
minutes zero at = []
minutes (suc n) at = puts_syn at 500 101 65535 None ∷ minutes n (at + 60000000)

abbrev pub exchanges : List Row
exchanges =
    -- FIN-WAIT-2: our FIN is acknowledged, and text of the peer still comes and is thrown away
    record {
      service = Echo;
      given = in_fin_wait_2 ++ gets 3000 (psh + ack) 101 502 4096 (codes "late") ∷ [];
      sent = greeted ∷ puts 1000 (fin + ack) 501 101 65535 [] ∷ puts 3000 ack 502 105 65535 [] ∷ [];
      state = FinWait2;
    }
    -- CLOSING, and TIME-WAIT from it
    ∷ record {
      service = Echo;
      given = in_closing ++ gets 3000 ack 102 502 4096 [] ∷ [];
      sent = greeted ∷ puts 1000 (fin + ack) 501 101 65535 [] ∷ puts 2000 ack 502 102 65535 [] ∷ [];
      state = TimeWait;
    }
    -- TIME-WAIT ends after 240 seconds
    ∷ record {
      service = Echo;
      given = in_time_wait ++ time 240003000 ∷ [];
      sent = greeted ∷ puts 1000 (fin + ack) 501 101 65535 [] ∷ puts 3000 ack 502 102 65535 [] ∷ [];
      state = Listen;
    }
    -- a FIN that comes again begins TIME-WAIT anew
    ∷ record {
      service = Echo;
      given = in_time_wait ++ gets 100000000 (fin + ack) 101 502 4096 [] ∷ time 240003000 ∷ [];
      sent = greeted ∷ puts 1000 (fin + ack) 501 101 65535 [] ∷ puts 3000 ack 502 102 65535 [] ∷ puts 100000000 ack 502 102 65535 [] ∷ [];
      state = TimeWait;
    }
    -- and it ends 240 seconds after it
    ∷ record {
      service = Echo;
      given = in_time_wait ++ gets 100000000 (fin + ack) 101 502 4096 [] ∷ time 340000000 ∷ [];
      sent = greeted ∷ puts 1000 (fin + ack) 501 101 65535 [] ∷ puts 3000 ack 502 102 65535 [] ∷ puts 100000000 ack 502 102 65535 [] ∷ [];
      state = Listen;
    }
    -- text that isn't acknowledged is sent again after 1 second and 2 more
    ∷ record {
      service = Echo;
      given = opened ++ gets 2000 (psh + ack) 101 501 4096 (codes "hello") ∷ time 4000000 ∷ [];
      sent =
          greeted
          ∷ puts 2000 (psh + ack) 501 106 65535 (codes "hello")
          ∷ puts 1002000 (psh + ack) 501 106 65535 (codes "hello")
          ∷ puts 3002000 (psh + ack) 501 106 65535 (codes "hello")
          ∷ [];
      state = Established;
    }
    -- so is our FIN
    ∷ record {
      service = Echo;
      given = in_last_ack ++ time 4000000 ∷ [];
      sent =
          greeted
          ∷ puts 2000 (fin + ack) 501 102 65535 []
          ∷ puts 1002000 (fin + ack) 501 102 65535 []
          ∷ puts 3002000 (fin + ack) 501 102 65535 []
          ∷ [];
      state = LastAck;
    }
    -- what a new acknowledgement leaves is sent again a second later
    ∷ record {
      service = Echo;
      given = opened ++ gets 2000 (psh + ack) 101 501 4096 (codes "hello") ∷ gets 3000 ack 106 503 4096 [] ∷ time 2000000 ∷ [];
      sent = greeted ∷ puts 2000 (psh + ack) 501 106 65535 (codes "hello") ∷ puts 1003000 (psh + ack) 503 106 65535 (codes "llo") ∷ [];
      state = Established;
    }
    -- an old ACK's text is taken
    ∷ record {
      service = Echo;
      given =
          opened
          ++ gets 2000 (psh + ack) 101 501 4096 (codes "ab")
          ∷ gets 3000 ack 103 503 4096 []
          ∷ gets 4000 (psh + ack) 103 501 4096 (codes "cd")
          ∷ [];
      sent = greeted ∷ puts 2000 (psh + ack) 501 103 65535 (codes "ab") ∷ puts 4000 (psh + ack) 503 105 65535 (codes "cd") ∷ [];
      state = Established;
    }
    -- an ACK of what wasn't sent is answered by an ACK, and its text is dropped
    ∷ record {
      service = Echo;
      given = opened ++ gets 2000 (psh + ack) 101 502 4096 (codes "ab") ∷ [];
      sent = greeted ∷ puts 2000 ack 501 101 65535 [] ∷ [];
      state = Established;
    }
    -- the window of a segment older than the last one that gave it isn't taken
    ∷ record {
      service = Echo;
      given =
          opened
          ++ gets 2000 (psh + ack) 101 501 4096 (codes "abcd")
          ∷ gets 3000 (psh + ack) 105 505 2 (codes "ef")
          ∷ gets 4000 (psh + ack) 103 507 4096 (codes "cdefghijkl")
          ∷ [];
      sent =
          greeted
          ∷ puts 2000 (psh + ack) 501 105 65535 (codes "abcd")
          ∷ puts 3000 (psh + ack) 505 107 65535 (codes "ef")
          ∷ puts 4000 (psh + ack) 507 113 65535 (codes "gh")
          ∷ [];
      state = Established;
    }
    -- a SYN in the window of SYN-RECEIVED ends it
    ∷ record {
      service = Echo;
      given = gets_syn 0 500 100 None ∷ gets 500 syn 101 0 4096 [] ∷ [];
      sent = greeted ∷ [];
      state = Listen;
    }
    -- in all other states a SYN in the window is challenged
    ∷ record {
      service = Echo;
      given = opened ++ gets 2000 syn 101 0 4096 [] ∷ [];
      sent = greeted ∷ puts 2000 ack 501 101 65535 [] ∷ [];
      state = Established;
    }
    ∷ record {
      service = Echo;
      given = closed ++ gets 2000 syn 101 0 4096 [] ∷ [];
      sent = greeted ∷ puts 1000 (fin + ack) 501 101 65535 [] ∷ puts 2000 ack 502 101 65535 [] ∷ [];
      state = FinWait1;
    }
    ∷ record {
      service = Echo;
      given = in_fin_wait_2 ++ gets 3000 syn 101 0 4096 [] ∷ [];
      sent = greeted ∷ puts 1000 (fin + ack) 501 101 65535 [] ∷ puts 3000 ack 502 101 65535 [] ∷ [];
      state = FinWait2;
    }
    ∷ record {
      service = Echo;
      given = in_closing ++ gets 3000 syn 102 0 4096 [] ∷ [];
      sent = greeted ∷ puts 1000 (fin + ack) 501 101 65535 [] ∷ puts 2000 ack 502 102 65535 [] ∷ puts 3000 ack 502 102 65535 [] ∷ [];
      state = Closing;
    }
    ∷ record {
      service = Echo;
      given = in_last_ack ++ gets 3000 syn 102 0 4096 [] ∷ [];
      sent = greeted ∷ puts 2000 (fin + ack) 501 102 65535 [] ∷ puts 3000 ack 502 102 65535 [] ∷ [];
      state = LastAck;
    }
    ∷ record {
      service = Echo;
      given = in_time_wait ++ gets 4000 syn 102 0 4096 [] ∷ [];
      sent = greeted ∷ puts 1000 (fin + ack) 501 101 65535 [] ∷ puts 3000 ack 502 102 65535 [] ∷ puts 4000 ack 502 102 65535 [] ∷ [];
      state = TimeWait;
    }
    -- an ACK in LISTEN is answered by a reset
    ∷ record {
      service = Echo;
      given = gets 0 ack 5 9 4096 [] ∷ [];
      sent = puts 0 rst 9 0 0 [] ∷ [];
      state = Listen;
    }
    -- so is a wrong one in SYN-RECEIVED
    ∷ record {
      service = Echo;
      given = gets_syn 0 500 100 None ∷ gets 1000 ack 101 600 4096 [] ∷ [];
      sent = greeted ∷ puts 1000 rst 600 0 0 [] ∷ [];
      state = SynReceived;
    }
    -- and one of nothing
    ∷ record {
      service = Echo;
      given = gets_syn 0 500 100 None ∷ gets 1000 ack 101 500 4096 [] ∷ [];
      sent = greeted ∷ puts 1000 rst 500 0 0 [] ∷ [];
      state = SynReceived;
    }
    -- a segment without ACK is dropped
    ∷ record {
      service = Echo;
      given = opened ++ gets 2000 psh 101 0 4096 (codes "ab") ∷ [];
      sent = greeted ∷ [];
      state = Established;
    }
    -- a FIN before bytes that are held closes there
    ∷ record {
      service = Echo;
      given = opened ++ gets 2000 (psh + ack) 104 501 4096 (codes "def") ∷ gets 3000 (fin + psh + ack) 101 501 4096 (codes "ab") ∷ [];
      sent = greeted ∷ puts 2000 ack 501 101 65535 [] ∷ puts 3000 (psh + ack) 501 104 65535 (codes "ab") ∷ puts 3000 (fin + ack) 503 104 65535 [] ∷ [];
      state = LastAck;
    }
    -- a FIN behind a gap waits for the gap
    ∷ record {
      service = Echo;
      given = opened ++ gets 2000 (fin + psh + ack) 103 501 4096 (codes "cd") ∷ gets 3000 (psh + ack) 101 501 4096 (codes "ab") ∷ [];
      sent =
          greeted
          ∷ puts 2000 ack 501 101 65535 []
          ∷ puts 3000 (psh + ack) 501 106 65535 (codes "abcd")
          ∷ puts 3000 (fin + ack) 505 106 65535 []
          ∷ [];
      state = LastAck;
    }
    -- discard: text is acknowledged and thrown away, and our FIN follows the peer's
    ∷ record {
      service = Discard;
      given =
          opened
          ++ gets 2000 (psh + ack) 101 501 4096 (codes "hello")
          ∷ gets 3000 (fin + psh + ack) 106 501 4096 (codes "end")
          ∷ gets 4000 ack 110 502 4096 []
          ∷ [];
      sent = greeted ∷ puts 2000 ack 501 106 65535 [] ∷ puts 3000 (fin + ack) 501 110 65535 [] ∷ [];
      state = Listen;
    }
    -- a close of discard
    ∷ record {
      service = Discard;
      given = closed ++ gets 2000 (psh + ack) 101 502 4096 (codes "late") ∷ gets 3000 (fin + ack) 105 502 4096 [] ∷ [];
      sent = greeted ∷ puts 1000 (fin + ack) 501 101 65535 [] ∷ puts 2000 ack 502 105 65535 [] ∷ puts 3000 ack 502 106 65535 [] ∷ [];
      state = TimeWait;
    }
    -- a close goes behind the text that a window of 2 holds back
    ∷ record {
      service = Echo;
      given =
          gets_syn 0 500 100 None
          ∷ gets 1000 ack 101 501 2 []
          ∷ gets 2000 (psh + ack) 101 501 2 (codes "abcd")
          ∷ asks call.Close
          ∷ gets 3000 ack 105 503 4096 []
          ∷ [];
      sent =
          greeted
          ∷ puts 2000 (psh + ack) 501 105 65535 (codes "ab")
          ∷ puts 3000 (psh + ack) 503 105 65535 (codes "cd")
          ∷ puts 3000 (fin + ack) 505 105 65535 []
          ∷ [];
      state = FinWait1;
    }
    -- the MSS option: 1 counts as 64
    ∷ record {
      service = Echo;
      given = gets_mss 0 500 100 1 ∷ gets 1000 ack 101 501 4096 [] ∷ gets 2000 (psh + ack) 101 501 4096 (letters 130) ∷ [];
      sent =
          greeted
          ∷ puts 2000 ack 501 231 65535 (letters 64)
          ∷ puts 2000 ack 565 231 65535 (letters 64)
          ∷ puts 2000 (psh + ack) 629 231 65535 (codes "aa")
          ∷ [];
      state = Established;
    }
    -- 64
    ∷ record {
      service = Echo;
      given = gets_mss 0 500 100 64 ∷ gets 1000 ack 101 501 4096 [] ∷ gets 2000 (psh + ack) 101 501 4096 (letters 130) ∷ [];
      sent =
          greeted
          ∷ puts 2000 ack 501 231 65535 (letters 64)
          ∷ puts 2000 ack 565 231 65535 (letters 64)
          ∷ puts 2000 (psh + ack) 629 231 65535 (codes "aa")
          ∷ [];
      state = Established;
    }
    -- 1,460
    ∷ record {
      service = Echo;
      given = gets_mss 0 500 100 1460 ∷ gets 1000 ack 101 501 4096 [] ∷ gets 2000 (psh + ack) 101 501 4096 (letters 3000) ∷ [];
      sent =
          greeted
          ∷ puts 2000 ack 501 3101 65535 (letters 1460)
          ∷ puts 2000 ack 1961 3101 65535 (letters 1460)
          ∷ puts 2000 (psh + ack) 3421 3101 65535 (letters 80)
          ∷ [];
      state = Established;
    }
    -- 9,000 counts as 1,460
    ∷ record {
      service = Echo;
      given = gets_mss 0 500 100 9000 ∷ gets 1000 ack 101 501 4096 [] ∷ gets 2000 (psh + ack) 101 501 4096 (letters 3000) ∷ [];
      sent =
          greeted
          ∷ puts 2000 ack 501 3101 65535 (letters 1460)
          ∷ puts 2000 ack 1961 3101 65535 (letters 1460)
          ∷ puts 2000 (psh + ack) 3421 3101 65535 (letters 80)
          ∷ [];
      state = Established;
    }
    -- a full send queue: what comes then waits to be taken, and so does our FIN; a SYN in CLOSE-WAIT is challenged
    ∷ record {
      service = Echo;
      given =
          gets_syn 0 500 100 None
          ∷ gets 1000 ack 101 501 0 []
          ∷ gets 2000 (psh + ack) 101 501 0 (letters 65535)
          ∷ gets 3000 (psh + ack) 65636 501 0 (codes "aaaaaaaaaa")
          ∷ gets 4000 (fin + ack) 65646 501 0 []
          ∷ gets 5000 syn 65647 0 4096 []
          ∷ [];
      sent =
          greeted
          ∷ puts 2000 ack 501 65636 65535 []
          ∷ puts 3000 ack 501 65646 65525 []
          ∷ puts 4000 ack 501 65647 65525 []
          ∷ puts 5000 ack 501 65647 65525 []
          ∷ [];
      state = CloseWait;
    }
    -- a text for which a 65th run would stand is dropped, and with it its FIN; a FIN before bytes that are held in order isn't kept either
    ∷ record {
      service = Echo;
      given = opened ++ dots 64 103 (gets 3000 (fin + ack) 231 501 4096 (codes "a") ∷ gets 4000 (fin + ack) 101 501 4096 (codes "ab") ∷ []);
      sent = greeted ∷ missing 64 (puts 3000 ack 501 101 65535 [] ∷ puts 4000 (psh + ack) 501 104 65535 (codes "aba") ∷ []);
      state = Established;
    }
    -- after 64 retransmissions a block gives up, without a word
    ∷ record {
      service = Echo;
      given = gets_syn 0 500 100 None ∷ time 4000000000 ∷ [];
      sent =
          greeted
          ∷ puts_syn 1000000 500 101 65535 None
          ∷ puts_syn 3000000 500 101 65535 None
          ∷ puts_syn 7000000 500 101 65535 None
          ∷ puts_syn 15000000 500 101 65535 None
          ∷ puts_syn 31000000 500 101 65535 None
          ∷ puts_syn 63000000 500 101 65535 None
          ∷ minutes 58 123000000;
      state = Listen;
    }
    ∷ []
