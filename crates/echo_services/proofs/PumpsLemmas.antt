-- The pumps of the services here are such as the laws of serving speak of.
use Rattle.std.proofs.Common.{◌≡◌, ℕ, ◌≤◌, List, ◌++◌, Bool, true, false, cond, not, ◌==◌, ◌&&◌, length, take, drop, min, refl, sym, ap, ◌∙◌, arith, length-take, length-append}
use Rattle.std.specs.Prelude.{nat_le}
use Rattle.std.proofs.lemmas.Bool.{false≢true}
use Rattle.byte_queues.specs.ReceiveQueue.{ready_of, next_bytes, without}
use Rattle.byte_queues.specs.SendQueue.{room_of}
use Rattle.byte_queues.proofs.WholeLemmas.{next-count}
use Rattle.tcb_machine.specs.BlockState.{Block, offered}
use Rattle.tcb_machine.specs.CallAnswers.{wants_fin}
use Rattle.tcb_machine.specs.States.{is_listen}
use Rattle.tcb_machine.specs.TcpStep.{is_time_wait}
use Rattle.tcb_machine.specs.Validity.{IsValid}
use Rattle.tcb_machine.specs.declared.kinds.State.{State}
use Rattle.tcb_machine.specs.declared.kinds.State.TheVariants.{Listen, SynReceived, Established, FinWait1, FinWait2, CloseWait, Closing, LastAck, TimeWait}
use Rattle.tcb_machine.proofs.QueueLemmas.{next_without}
use Rattle.tcb_machine.proofs.ValidLemmas.{without-receiving}
use Rattle.echo_services.specs.Chargen.{chargen, gives_in, next_given, pattern_from}
use Rattle.echo_services.specs.Closing.{throws, is_close_wait, ends}
use Rattle.echo_services.specs.Daytime.{closes, daytime, tells, tells_in}
use Rattle.echo_services.specs.Discard.{discard}
use Rattle.echo_services.specs.Echo.{echo, echoes, echoes_in, moves}
use Rattle.echo_services.specs.Pump.{pump}
use Rattle.echo_services.specs.Pumping.{IsPump, Pumps, may_offer}
use Rattle.echo_services.specs.declared.service.Service.{Service}
use Rattle.echo_services.specs.declared.service.Service.TheVariants.{Echo, Discard}
use Rattle.echo_services.proofs.PatternLemmas.{pattern_length}

-- so many bytes that are ready leave, and some are offered
taking : (n : ℕ) (text : List ℕ) (b : Block) → is_listen b.state ≡ false → IsValid b → n ≤ ready_of b.recv → length text ≤ 65535 → (may_offer b.state ≡ false → length text ≡ 0)
    → Pumps b (record b { recv = without n b.recv; out = b.out ++ text })
unfolding without
taking n text b e v w t q =
    let a = v.send.acked_sent in
    let s = v.send.sent_out in
    let l = length-append b.out text in
    record {
      opened = e;
      recv = without-receiving b.want n b.recv w v.recv;
      send = record { acked_sent = a; sent_out = omega (arith, s, l) };
      mss = refl;
      timed = v.timed;
      replies = refl;
      least = omega arith;
      most = omega (arith, w);
      next = next_without n b.recv w;
      acked = refl;
      out = omega (arith, l, t);
      silent = λ f. let z = q f in omega (arith, l, z);
    }

throwing : (b : Block) → is_listen b.state ≡ false → IsValid b → Pumps b (throws (ready_of b.recv) b)
unfolding without
throwing b e v =
    let n = ready_of b.recv in
    record {
      opened = e;
      recv = without-receiving b.want n b.recv (omega arith) v.recv;
      send = v.send;
      mss = refl;
      timed = v.timed;
      replies = refl;
      least = omega arith;
      most = omega arith;
      next = next_without n b.recv (omega arith);
      acked = refl;
      out = omega arith;
      silent = λ f. refl;
    }

resting : (b : Block) → is_listen b.state ≡ false → IsValid b → Pumps b b
resting b e v = record { opened = e; recv = v.recv; send = v.send; mss = refl; timed = v.timed; replies = refl; least = omega arith; most = omega arith; next = refl; acked = refl; out = omega arith; silent = λ f. refl }

-- a text is offered behind what a pump left, in a state in which it may be
offering : (b c : Block) (text : List ℕ) → may_offer b.state ≡ true → Pumps b c → length c.out ≡ length b.out → length text ≤ 65535 → Pumps b (record c { out = c.out ++ text })
offering b c text m p o t =
    let a = p.send.acked_sent in
    let s = p.send.sent_out in
    let l = length-append c.out text in
    record {
      opened = p.opened;
      recv = p.recv;
      send = record { acked_sent = a; sent_out = omega (arith, s, l) };
      mss = p.mss;
      timed = p.timed;
      replies = p.replies;
      least = p.least;
      most = p.most;
      next = p.next;
      acked = p.acked;
      out = omega (arith, l, o, t);
      silent = λ f. absurd (false≢true (sym f ∙ m));
    }

-- our FIN is wanted, elsewhere than in LISTEN and TIME-WAIT
wanting-fin : (st : State) (b c : Block) → is_listen st ≡ false → is_time_wait st ≡ false → is_time_wait c.state ≡ false → Pumps b c → Pumps b (wants_fin st c)
wanting-fin st b c o w e p = record {
  opened = o;
  recv = p.recv;
  send = p.send;
  mss = p.mss;
  timed = record { elsewhere = λ f. p.timed.elsewhere e; there = λ f. absurd (false≢true (sym w ∙ f)) };
  replies = p.replies;
  least = p.least;
  most = p.most;
  next = p.next;
  acked = p.acked;
  out = p.out;
  silent = p.silent;
}

pumps-if : (t : Bool) (b x y : Block) → (t ≡ true → Pumps b x) → Pumps b y → Pumps b (cond t x y)
pumps-if true b x y p q = p refl
pumps-if false b x y p q = q

closed-elsewhere : (st : State) (t : Bool) → (is_close_wait st && t) ≡ true → is_time_wait st ≡ false
closed-elsewhere CloseWait t e = refl
closed-elsewhere Listen t e = refl
closed-elsewhere SynReceived t e = refl
closed-elsewhere Established t e = refl
closed-elsewhere FinWait1 t e = refl
closed-elsewhere FinWait2 t e = refl
closed-elsewhere Closing t e = refl
closed-elsewhere LastAck t e = refl
closed-elsewhere TimeWait t e = absurd (false≢true e)

ending : (b c : Block) → Pumps b c → Pumps b (ends c)
ending b c p =
    let rest = (ready_of c.recv == 0) && not c.fin_wanted in
    pumps-if (is_close_wait c.state && rest) b (wants_fin LastAck c) c (λ e. wanting-fin LastAck b c refl refl (closed-elsewhere c.state rest e) p) p

-- echo and discard

echoing : (b : Block) → may_offer b.state ≡ true → is_listen b.state ≡ false → IsValid b → Pumps b (echoes (min (ready_of b.recv) (room_of b.out)) b)
echoing b m e v =
    let n = min (ready_of b.recv) (room_of b.out) in
    let c = next-count n b.recv (omega arith) in
    taking n (next_bytes n b.recv) b e v (omega arith) (omega (arith, c)) (λ f. absurd (false≢true (sym f ∙ m)))

echoing-in : (st : State) (b : Block) → b.state ≡ st → is_listen b.state ≡ false → IsValid b → Pumps b (echoes_in st b)
echoing-in Listen b s e v = resting b e v
echoing-in SynReceived b s e v = resting b e v
echoing-in Established b s e v = echoing b (ap may_offer s) e v
echoing-in FinWait1 b s e v = resting b e v
echoing-in FinWait2 b s e v = resting b e v
echoing-in CloseWait b s e v = echoing b (ap may_offer s) e v
echoing-in Closing b s e v = resting b e v
echoing-in LastAck b s e v = resting b e v
echoing-in TimeWait b s e v = resting b e v

moving : (wanted : Bool) (b : Block) → is_listen b.state ≡ false → IsValid b → Pumps b (moves wanted b)
moving true b e v = throwing b e v
moving false b e v = echoing-in b.state b refl e v

pub echo-pumps : IsPump echo
echo-pumps b e v = ending b (moves b.fin_wanted b) (moving b.fin_wanted b e v)

pub discard-pumps : IsPump discard
discard-pumps b e v = ending b (throws (ready_of b.recv) b) (throwing b e v)

pub service-pumps : (service : Service) → IsPump (pump service)
unfolding pump
service-pumps Echo = echo-pumps
service-pumps Discard = discard-pumps

-- the character generator

giving : (given : ℕ) (b c : Block) → may_offer b.state ≡ true → Pumps b c → length c.out ≡ length b.out → Pumps b (record c { out = c.out ++ pattern_from given (next_given given c) })
giving given b c m p o =
    let l = pattern_length given (next_given given c) in
    offering b c (pattern_from given (next_given given c)) m p o (omega (arith, l))

giving-in : (st : State) (given : ℕ) (b c : Block) → b.state ≡ st → c.state ≡ b.state → length c.out ≡ length b.out → Pumps b c → Pumps b (gives_in st given c)
giving-in Listen given b c s k o p = p
giving-in SynReceived given b c s k o p = p
giving-in Established given b c s k o p = giving given b c (ap may_offer s) p o
giving-in FinWait1 given b c s k o p = p
giving-in FinWait2 given b c s k o p = p
giving-in CloseWait given b c s k o p = wanting-fin LastAck b c refl refl (ap is_time_wait (k ∙ s)) p
giving-in Closing given b c s k o p = p
giving-in LastAck given b c s k o p = p
giving-in TimeWait given b c s k o p = p

pub chargen-pumps : (given : ℕ) → IsPump (chargen given)
unfolding chargen
chargen-pumps given b e v = giving-in b.state given b (throws (ready_of b.recv) b) refl refl refl (throwing b e v)

-- daytime

telling : (st : State) (text : List ℕ) (b c : Block) → is_listen st ≡ false → is_time_wait st ≡ false → may_offer b.state ≡ true → is_time_wait c.state ≡ false → length c.out ≡ length b.out → Pumps b c
    → Pumps b (closes st text (tells text c))
telling st text b c l w m t o p =
    let d = tells text c in
    let more = take (room_of c.out) (drop (offered c) text) in
    let n = length-take (room_of c.out) (drop (offered c) text) in
    let q : Pumps b d = offering b c more m p o (omega (arith, n)) in
    pumps-if (nat_le (length text) (offered d)) b (wants_fin st d) d (λ e. wanting-fin st b d l w t q) q

telling-in : (st : State) (text : List ℕ) (b c : Block) → b.state ≡ st → c.state ≡ b.state → length c.out ≡ length b.out → Pumps b c → Pumps b (tells_in st text c)
telling-in Listen text b c s k o p = p
telling-in SynReceived text b c s k o p = p
telling-in Established text b c s k o p = telling FinWait1 text b c refl refl (ap may_offer s) (ap is_time_wait (k ∙ s)) o p
telling-in FinWait1 text b c s k o p = p
telling-in FinWait2 text b c s k o p = p
telling-in CloseWait text b c s k o p = telling LastAck text b c refl refl (ap may_offer s) (ap is_time_wait (k ∙ s)) o p
telling-in Closing text b c s k o p = p
telling-in LastAck text b c s k o p = p
telling-in TimeWait text b c s k o p = p

pub daytime-pumps : (text : List ℕ) → IsPump (daytime text)
unfolding daytime
daytime-pumps text b e v = telling-in b.state text b (throws (ready_of b.recv) b) refl refl refl (throwing b e v)
