-- What the fields of a block stand for.
use Rattle.std.specs.Prelude.{◌≡◌, true, false, None, ◌+◌, ◌≤◌, length, All}
use Rattle.byte_queues.specs.ReceiveQueue.{next_of}
use Rattle.tcb_machine.specs.BlockState.{Block, IsOurs}
use Rattle.tcb_machine.specs.States.{is_listen}
use Rattle.tcb_machine.specs.declared.tcb.Tcb.TheInside.{Inside}
use Rattle.tcb_machine.specs.Limits.{least_mss, longest_timeout, most_mss, most_retransmissions, most_shift, plain_space, whole_space, last_time, most_streamed}
use Rattle.byte_queues.specs.Limits.{send_space}

abbrev pub block_of : Inside → Block
block_of a = record {
  state = a.state;
  iss = a.iss;
  irs = a.irs;
  una = a.una;
  wnd = a.wnd;
  wl1 = a.wl1;
  wl2 = a.wl2;
  agreed = a.agreed;
  want = a.want;
  recv = a.recv;
  out = a.send;
  acked = a.acked;
  sent = a.sent;
  fin_wanted = a.fin_wanted;
  fin_sent = a.fin_sent;
  rto = a.rto;
  retransmit_at = a.retransmit_at;
  time_wait_at = a.time_wait_at;
  retransmissions = a.retransmissions;
  clock = a.clock;
  ack_due = a.ack_due;
  replies = a.replies.items;
}

pub record IsSound (a : Inside) : Type 0 where
  pub want : a.want ≤ whole_space
  pub shift : a.agreed.snd_shift ≤ most_shift
  pub mss : least_mss ≤ a.agreed.mss
  pub most : a.agreed.mss ≤ most_mss
  -- the window that is announced fits its field
  pub space : a.recv.edge ≤ a.recv.taken + whole_space
  pub read : a.recv.taken ≤ next_of a.recv
  pub below : a.recv.taken + length a.recv.got ≤ a.recv.edge
  pub cap : a.recv.cap ≤ whole_space
  pub announced : is_listen a.state ≡ false → a.agreed.scaled ≡ false → a.recv.edge ≤ a.recv.taken + plain_space
  pub plain : is_listen a.state ≡ false → a.agreed.scaled ≡ false → a.recv.cap ≤ plain_space
  -- the counts of the send side
  pub held : length a.send ≤ send_space
  pub sent_acked : a.acked ≤ a.sent
  pub sent_out : a.sent ≤ a.acked + length a.send
  pub few : a.acked ≤ most_streamed
  -- the timers
  pub rto : a.rto ≤ longest_timeout
  pub tries : a.retransmissions ≤ most_retransmissions
  pub clock : a.clock ≤ last_time
  pub idle : is_listen a.state ≡ true → a.retransmit_at ≡ None
  pub quiet : is_listen a.state ≡ true → a.ack_due ≡ false
  pub replies : All IsOurs a.replies.items
