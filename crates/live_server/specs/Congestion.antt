-- Slow start, congestion avoidance, fast retransmit, fast recovery and limited transmit beside a block (RFC 5681; RFC 6582; RFC 3042).
use Rattle.std.specs.Prelude.{ℕ, ◌+◌, ◌-◌, ◌*◌, ◌/◌, ◌^◌, ◌==◌, nat_le, nat_lt, min, max, suc, zero, ◌&&◌, ◌||◌, not, Bool, true, false, if◌then◌else◌}
use Rattle.sq_base.specs.SerialOrder.{dist}
use Rattle.segment_codec.specs.ControlBits.{ack, fin, rst, syn}
use Rattle.segment_codec.specs.declared.packet.Seg.{Seg}
use Rattle.tcb_machine.specs.Beside.{resending}
use Rattle.tcb_machine.specs.BlockState.{Block, has, in_flight, snd_nxt}
use Rattle.tcb_machine.specs.Challenges.{is_syn_received}
use Rattle.tcb_machine.specs.States.{is_listen}
use Rattle.live_server.specs.declared.congestion.Congestion.{Congestion}
use Rattle.live_server.specs.declared.timing.Mark.{Mark}
use Rattle.live_server.specs.Timing.{is_sending}

-- IW, by the most text of a segment (RFC 6928, 2)
abbrev pub first_window : ℕ → ℕ
first_window mss = min (10 * mss) (max (2 * mss) 14600)

-- the most that cwnd becomes: more than a block ever has sent and not acknowledged
abbrev pub most_window : ℕ
most_window = 131072

-- before the handshake nothing may be sent
abbrev pub no_congestion : Congestion
no_congestion = record { window = 0; threshold = most_window; duplicates = 0; recovering = false; slow = false; recover = 0; again = 0; field = 0; sent = 0 }

-- FlightSize
abbrev pub flight : Block → ℕ
flight b = dist b.una (snd_nxt b)

-- and without what limited transmit sent, which is beyond cwnd (RFC 5681, 3.2, 2); as segments
abbrev pub within : Block → Congestion → ℕ
within b x = min (flight b) x.window

abbrev pub segments : ℕ → Block → ℕ
segments n b = (n - 1) / b.agreed.mss + 1

-- ssthresh after a loss, where so many bytes were under way (RFC 5681, 3.1, (4))
abbrev pub halved : ℕ → Block → ℕ
halved n b = max (n / 2) (2 * b.agreed.mss)

-- how many duplicate acknowledgements tell a loss: two thirds of those that the flight can cause, so that reordered segments aren't
-- taken for lost (RFC 4653), and three at least (RFC 5681, 3.2). Of two or three segments all but one suffice (RFC 5827, 3.1); one alone
-- causes none
abbrev pub tolerance : ℕ → Block → ℕ
tolerance n b = if nat_lt 1 (segments n b) && nat_lt (segments n b) 4 then segments n b - 1 else max 3 (2 * segments n b / 3)

abbrev pub bounded : ℕ → ℕ
bounded n = min most_window n

-- in the handshake: IW, and `recover` is ISS (RFC 6582, 3.2, 1). It stays one segment where the SYN,ACK was sent again (RFC 5681, 3.1)
unfoldable pub begun : Block → Congestion → Congestion
begun b x = if x.recovering then x else record x { window = first_window b.agreed.mss; recover = b.una }

-- n new bytes are acknowledged: slow start below ssthresh, else congestion avoidance (3.1, (2) and (3))
unfoldable pub grown : ℕ → Block → Congestion → Congestion
grown n b x = record x {
  window = bounded (x.window + (if nat_lt x.window x.threshold then min n b.agreed.mss else max 1 (b.agreed.mss * b.agreed.mss / max 1 x.window)));
  duplicates = 0;
}

-- or fast recovery goes on (RFC 6582, 3.2, 3: a partial acknowledgement gives a segment back for at least one), or ends
abbrev pub reaches : ℕ → Congestion → Bool
reaches n x = nat_lt (dist x.recover n) (2 ^ 31)

unfoldable pub recovers : ℕ → Seg → Block → Congestion → Congestion
recovers n s b x =
    if reaches s.ack x then record x { window = x.threshold; duplicates = 0; recovering = false }
    else record x { window = max (2 * b.agreed.mss) (bounded ((x.window - n) + (if nat_le b.agreed.mss n then b.agreed.mss else 0))) }

-- SND.UNA is `recover` where all is acknowledged that was sent before the last recovery, and nothing more. Duplicates then are of what
-- that recovery sent twice, and tell no loss (RFC 6582, 3.2, 2). Elsewhere SND.UNA is before it in recovery, and beyond it outside
abbrev pub is_at_recover : Block → Congestion → Bool
is_at_recover b x = b.una == x.recover

-- one duplicate more: fast recovery begins with the last one that is waited for (RFC 5681, 3.2, 2 to 4). Behind a timeout they count for nothing
unfoldable pub repeated : Block → Congestion → Congestion
repeated b x =
    if x.recovering then (if x.slow then x else record x { window = bounded (x.window + b.agreed.mss) })
    else if is_at_recover b x then x
    else if nat_lt (x.duplicates + 1) (tolerance (within b x) b) then record x { duplicates = x.duplicates + 1 }
    else record x {
      window = bounded (halved (within b x) b + 3 * b.agreed.mss);
      threshold = halved (within b x) b;
      duplicates = 0;
      recovering = true;
      slow = false;
      recover = snd_nxt b;
    }

-- what the retransmission timer sends of what is under way: the first segment of it, as the window lets
abbrev pub first_segment : Block → ℕ
first_segment b = min b.agreed.mss (min (in_flight b) (max 1 b.wnd))

-- the retransmission timer fired: cwnd is the loss window, one segment, and slow start brings all again that was sent (RFC 5681, 3.1; RFC 6582, 4)
unfoldable pub timed_out : Block → Congestion → Congestion
timed_out b x = record x {
  window = b.agreed.mss;
  threshold = halved (flight b) b;
  duplicates = 0;
  recovering = true;
  slow = true;
  recover = snd_nxt b;
  again = first_segment b;
  sent = b.clock;
}

-- n new bytes are acknowledged in it: cwnd grows as without a loss, up to the acknowledgement of all and with it. So no burst comes behind it
unfoldable pub slowly : ℕ → Seg → Block → Congestion → Congestion
slowly n s b x = record (grown n b x) { recovering = not (reaches s.ack x); slow = not (reaches s.ack x); again = x.again - n }

-- a router dropped what was too long for the path: cwnd stays, and comes back behind the recovery of all that was sent. Until then slow start
-- sends one segment (RFC 1191, 6.4)
unfoldable pub restarted : Block → Congestion → Congestion
restarted b x = record x {
  window = b.agreed.mss;
  threshold = (if x.recovering then x.threshold else max x.window (2 * b.agreed.mss));
  duplicates = 0;
  recovering = true;
  slow = false;
  recover = snd_nxt b;
}

-- behind the handshake: new bytes are acknowledged, or none, and the segment says nothing else (RFC 5681, 2)
abbrev pub is_open : Block → Bool
is_open b = not (is_listen b.state || is_syn_received b.state)

unfoldable pub is_fresh : Seg → Block → Bool
is_fresh s b = has s.flags ack && (is_open b && (nat_lt 0 (dist b.una s.ack) && nat_le (dist b.una s.ack) (flight b)))

-- A segment that came with text is no duplicate, though its text may be passed over for want of room. The answer to a probe of a window that
-- is 0 tells no loss (RFC 9293, 3.8.6.1)
unfoldable pub is_duplicate : Seg → Block → Congestion → Bool
is_duplicate s b x =
    if has s.flags syn || (has s.flags fin || has s.flags rst) then false
    else has s.flags ack && (is_open b && ((s.ack == b.una) && (nat_lt 0 (flight b) && ((s.text_len == 0) && ((s.wnd == x.field) && not (s.wnd == 0))))))

-- the next duplicate is the last one that is waited for
abbrev pub begins_recovery : Block → Congestion → Bool
begins_recovery b x = not x.recovering && (not (is_at_recover b x) && not (nat_lt (x.duplicates + 1) (tolerance (within b x) b)))

-- what so many new bytes make of it, and a segment
abbrev pub acknowledges : ℕ → Seg → Block → Congestion → Congestion
acknowledges n s b x = if x.recovering then (if x.slow then slowly n s b x else recovers n s b x) else grown n b x

unfoldable pub eased : Seg → Block → Congestion → Congestion
eased s b x =
    let y = if is_syn_received b.state then begun b x
    else if is_fresh s b then acknowledges (dist b.una s.ack) s b x
    else if is_duplicate s b x then repeated b x
    else x in
    record y { field = s.wnd }

-- the peer's window was 0, and opens: the probe that is under way needn't wait for its timer (RFC 9293, 3.8.6.1)
unfoldable pub reopens : Seg → Block → Congestion → Bool
reopens s b x = has s.flags ack && (is_open b && ((s.ack == b.una) && ((x.field == 0) && not (s.wnd == 0))))

-- whether the first segment that isn't acknowledged is to be sent again: as recovery begins, at each partial acknowledgement, and where
-- the window opens
unfoldable pub calls_again : Seg → Block → Congestion → Bool
calls_again s b x =
    if is_fresh s b then x.recovering && not (reaches s.ack x)
    else reopens s b x || (is_duplicate s b x && begins_recovery b x)

-- how much may be under way: cwnd, and one segment more for each of the first two duplicates (RFC 3042, 2)
abbrev pub usable : Block → Congestion → ℕ
usable b x = x.window + min 2 x.duplicates * b.agreed.mss

-- the window field as the block is to see it: no more than that, and never closed where it isn't
unfoldable pub seen_window : Seg → Block → Congestion → ℕ
seen_window s b x = if has s.flags syn || (s.wnd == 0) then s.wnd else max 1 (min s.wnd (usable b x / 2 ^ b.agreed.snd_shift))

abbrev pub seen : Seg → Block → Congestion → Seg
seen s b x = record s { wnd = seen_window s b x }

-- ---- what was under way when the timer fired goes again
abbrev pub is_slow : Congestion → Bool
is_slow x = x.recovering && x.slow

-- up to where, from SND.UNA on: all of it, or the whole segments that cwnd and the peer's window hold (RFC 5681, 3.1)
abbrev pub under_way : Block → Congestion → ℕ
under_way b x = min (in_flight b) (dist b.una x.recover)

unfoldable pub again_up_to : ℕ → Block → Congestion → ℕ
again_up_to window b x =
    let most = min window x.window in
    if nat_le (under_way b x) most then max x.again (under_way b x) else x.again + (most - x.again) / b.agreed.mss * b.agreed.mss

-- k segments of that, up to the last byte
abbrev pub resends : ℕ → ℕ → ℕ → Block → Block
resends zero from to b = b
resends (suc k) from to b = resending (from + k * b.agreed.mss) (min b.agreed.mss (to - (from + k * b.agreed.mss))) (resends k from to b)

-- ---- silence
-- where nothing is under way, and no text was sent for longer than RTO, cwnd is the restart window at most (RFC 5681, 4.1)
unfoldable pub rested : ℕ → ℕ → Block → Congestion → Congestion
rested now rto b x = if (flight b == 0) && nat_lt (x.sent + rto) now then record x { window = min x.window (first_window b.agreed.mss) } else x

-- text was sent, or sent again
unfoldable pub noted : ℕ → Bool → Mark → Block → Congestion → Congestion
noted now again m b x = if again || is_sending m b then record x { sent = now } else x
