-- SND.UNA and the count of acknowledged bytes go together, step by step.
use Rattle.std.proofs.Common.{◌≡◌, ℕ, ◌+◌, ◌-◌, ◌%◌, ◌^◌, ◌<◌, ◌≤◌, List, [], ◌∷◌, Option, None, Some, Bool, true, false, cond, not, ◌==◌, ◌&&◌, ◌||◌, inl, inr, length, drop, take, min, max, refl, sym, ap, ◌∙◌, subst, arith, length-drop, length-take}
use Rattle.std.specs.Prelude.{suc, zero, nat_lt, nat_le}
use Rattle.std.proofs.lemmas.Bool.{false≢true}
use Rattle.std.proofs.lemmas.Bool.Decides.{eqb_tells, leb_tells}
use Rattle.segment_codec.specs.declared.packet.Seg.{Seg}
use Rattle.byte_queues.specs.ReceiveQueue.{Recv, next_of, placed, is_ended}
use Rattle.sq_base.specs.SerialOrder.{dist}
use Rattle.tcb_machine.specs.States.{is_listen}
use Rattle.tcb_machine.specs.BlockState.{Block, rst_of, segment_of, to_listen, new_block, has, in_flight, one_if, rcv_nxt, snd_nxt, snd_end, unsent, sends_ack, sends}
use Rattle.segment_codec.specs.ControlBits.{ack, fin, rst, syn}
use Rattle.tcb_machine.specs.TcpStep.{sends_syn_ack, waits, ahead, Verdict, over, go, on, and_then, opened, listen, is_acceptable, is_time_wait, refused, check_sequence, check_reset, syn_again, check_syn, ack_kind, is_before, with_window, takes_window, takes_ack, in_time_wait, after_ack, is_fin_acked, after, acknowledged, established, ack_in, check_ack, consumes, closes, keeps_end, takes_fin, takes_text, check_text, repeated, first_checks, arrives, in_state, tcp_segment}
use Rattle.tcb_machine.specs.Output.{sends_text, sends_pieces, pieces, sendable, outputs_text, outputs_fin, outputs_ack, outputs_deadline, starts, is_sending, output}
use Rattle.tcb_machine.specs.Timers.{Firing, time_wait, retransmission, gives_up, firings, sends_again, retransmits, fires, fires_all, tcp_time}
use Rattle.tcb_machine.specs.CallAnswers.{tcp_call, with_buffer, close_in, wants_fin}
use Rattle.tcb_machine.specs.Numbering.{is_synchronized, is_syn_received, IsUntouched, IsNumbered}
use Rattle.tcb_machine.specs.Validity.{IsValid, left_by}
use Rattle.tcb_machine.specs.declared.kinds.Call.{Call}
use Rattle.tcb_machine.specs.declared.kinds.Call.TheVariants as call
use Rattle.tcb_machine.specs.declared.kinds.State.{State}
use Rattle.tcb_machine.specs.declared.kinds.State.TheVariants.{Listen, SynReceived, Established, FinWait1, FinWait2, CloseWait, Closing, LastAck, TimeWait}
use Rattle.tcb_machine.specs.declared.kinds.AckKind.{AckKind}
use Rattle.tcb_machine.specs.declared.kinds.AckKind.TheVariants.{Fresh, Equal, Old, Beyond}
use Rattle.tcb_machine.proofs.PieceLemmas.{unsent-length}
use Rattle.tcb_machine.proofs.ValidLemmas.{clock-valid, total, pieces-total}

-- the number behind the bytes and the FIN that count
abbrev end_of : ℕ → ℕ → Bool → ℕ
end_of iss n fin = (iss + 1 + n + one_if fin) % 2 ^ 32

-- of the parts of a block that matter here
pub record N (st : State) (una iss acked sent : ℕ) (out : List ℕ) (wanted fin : Bool) : Type 0 where
  pub una_is : is_synchronized st ≡ true → una ≡ end_of iss acked (fin && (una == end_of iss sent fin))
  pub before : is_syn_received st ≡ true → IsUntouched una iss acked sent out wanted fin
  pub small : iss < 2 ^ 32
  pub asked : fin ≡ true → wanted ≡ true
  pub last : fin ≡ true → sent ≡ acked + length out
  pub held : length out ≤ 65535
  pub low : acked ≤ sent
  pub high : sent ≤ acked + length out

abbrev pub Num : Block → Type 0
Num b = N b.state b.una b.iss b.acked b.sent b.out b.fin_wanted b.fin_sent

pub num : (b : Block) → IsValid b → IsNumbered b → Num b
unfolding is_fin_acked snd_nxt
num b v n = record { una_is = n.una; before = n.before; small = n.iss; asked = n.wanted; last = n.last; held = n.held; low = v.send.acked_sent; high = v.send.sent_out }

pub numbered : (b : Block) → Num b → IsNumbered b
unfolding is_fin_acked snd_nxt
numbered b n = record { una = n.una_is; before = n.before; iss = n.small; wanted = n.asked; last = n.last; held = n.held }

num-cond : (t : Bool) (x y : Block) → Num x → Num y → Num (cond t x y)
num-cond true x y p q = p
num-cond false x y p q = q

left-cond : (t : Bool) (v w : Verdict) → Num (left_by v) → Num (left_by w) → Num (left_by (cond t v w))
left-cond true v w p q = p
left-cond false v w p q = q

-- a verdict whose block goes on to the next check
left-then : (v : Verdict) (f : Block → Verdict) → Num (left_by v) → ((c : Block) → v ≡ on c → Num c → Num (left_by (f c))) → Num (left_by (and_then v f))
left-then (over c) f h g = h
left-then (go c) f h g = h
left-then (on c) f h g = g c refl h

pub listen-num : (c : Block) → Num (to_listen c)
unfolding to_listen
listen-num c = record { una_is = λ e. absurd (false≢true e); before = λ e. absurd (false≢true e); small = omega arith; asked = λ e. absurd (false≢true e); last = λ e. absurd (false≢true e); held = omega arith; low = omega arith; high = omega arith }

pub new-num : Num new_block
unfolding new_block
new-num = record { una_is = λ e. absurd (false≢true e); before = λ e. absurd (false≢true e); small = omega arith; asked = λ e. absurd (false≢true e); last = λ e. absurd (false≢true e); held = omega arith; low = omega arith; high = omega arith }

-- LISTEN

untouched : (iss : ℕ) (b : Block) → b ≡ to_listen b → IsUntouched iss iss b.acked b.sent b.out b.fin_wanted b.fin_sent
unfolding to_listen
untouched iss b e = record {
  at_first = refl;
  none_acked = ap (λ (x : Block). x.acked) e;
  none_sent = ap (λ (x : Block). x.sent) e;
  none_offered = ap (λ (x : Block). length x.out) e;
  not_wanted = ap (λ (x : Block). x.fin_wanted) e;
  not_finished = ap (λ (x : Block). x.fin_sent) e;
}

first-num : (iss acked sent : ℕ) (out : List ℕ) (wanted fin : Bool) → iss < 2 ^ 32 → IsUntouched iss iss acked sent out wanted fin → N SynReceived iss iss acked sent out wanted fin
first-num iss acked sent out wanted fin h u =
    let f = u.not_finished in
    let a = u.none_acked in
    let s = u.none_sent in
    let o = u.none_offered in
    record { una_is = λ e. absurd (false≢true e); before = λ e. u; small = h; asked = λ e. absurd (false≢true (sym f ∙ e)); last = λ e. absurd (false≢true (sym f ∙ e)); held = omega (arith, o); low = omega (arith, a, s); high = omega (arith, a, s) }

open-num : (s : Seg) (iss : ℕ) (b : Block) → iss < 2 ^ 32 → b ≡ to_listen b → Num (opened s iss b)
unfolding opened
open-num s iss b h n = first-num iss b.acked b.sent b.out b.fin_wanted b.fin_sent h (untouched iss b n)

listens : (s : Seg) (iss : ℕ) (b : Block) → iss < 2 ^ 32 → b ≡ to_listen b → Num b → Num (left_by (listen s iss b))
unfolding listen
listens s iss b i e h =
    left-cond (has s.flags rst) (over b) _ h
    (left-cond (has s.flags ack) (over (sends (rst_of s b) b)) _ h
    (left-cond (has s.flags syn) (over (sends_syn_ack (opened s iss b))) (over b) (open-num s iss b i e) h))

-- the first checks

refuses : (s : Seg) (c : Block) → Num c → Num (left_by (refused s c))
unfolding refused
refuses s c h =
    left-cond (has s.flags rst) (over c) _ h
    (left-cond (is_time_wait c.state && has s.flags fin) (over (waits (sends_ack c))) (over (sends_ack c)) h h)

sequences : (s : Seg) (text : List ℕ) (c : Block) → Num c → Num (left_by (check_sequence s text c))
unfolding check_sequence
sequences s text c h = left-cond (is_acceptable s text c) (on c) (refused s c) h (refuses s c h)

resets : (s : Seg) (c : Block) → Num c → Num (left_by (check_reset s c))
unfolding check_reset
resets s c h =
    left-cond (not (has s.flags rst)) (on c) _ h
    (left-cond (s.seq == rcv_nxt c) (over (to_listen c)) (over (sends_ack c)) (listen-num c) h)

again : (st : State) (c : Block) → Num c → Num (left_by (syn_again st c))
again SynReceived c h = listen-num c
again Listen c h = h
again Established c h = h
again FinWait1 c h = h
again FinWait2 c h = h
again CloseWait c h = h
again Closing c h = h
again LastAck c h = h
again TimeWait c h = h

syns : (s : Seg) (c : Block) → Num c → Num (left_by (check_syn s c))
unfolding check_syn
syns s c h = left-cond (has s.flags syn) (syn_again c.state c) (on c) (again c.state c h) h

-- a new acknowledgement

-- of what was sent behind it, so much is acknowledged
fresh : (f : Bool) (iss acked sent una ack : ℕ) → una ≡ end_of iss acked (f && (una == end_of iss sent f)) → acked ≤ sent → sent ≤ acked + 65535 → ack < 2 ^ 32
    → 0 < dist una ack → dist una ack ≤ dist una (end_of iss sent f) → ack ≡ end_of iss (acked + min (sent - acked) (dist una ack)) (f && (ack == end_of iss sent f))
fresh false iss acked sent una ack u l w a n m = omega (arith, u, l, w, a, n, m)
fresh true iss acked sent una ack u l w a n m =
    elim (eqb_tells una (end_of iss sent true)) [
      | inl e ↦ let same = e.1 in absurd (omega (arith, same, n, m))
      | inr e ↦
          let u' : una ≡ (iss + 1 + acked) % 2 ^ 32 = u ∙ ap (λ (t : Bool). end_of iss acked t) e.0 ∙ omega arith in
          elim (eqb_tells ack (end_of iss sent true)) [
            | inl d ↦
                let is = d.1 in
                let all : ack ≡ end_of iss (acked + min (sent - acked) (dist una ack)) true = omega (arith, u', l, w, a, n, m, is) in
                all ∙ ap (λ (t : Bool). end_of iss (acked + min (sent - acked) (dist una ack)) t) (sym d.0)
            | inr d ↦
                let isnt = d.1 in
                let some : ack ≡ end_of iss (acked + min (sent - acked) (dist una ack)) false = omega (arith, u', l, w, a, n, m, isnt) in
                some ∙ ap (λ (t : Bool). end_of iss (acked + min (sent - acked) (dist una ack)) t) (sym d.0)
          ]
    ]

-- of the SYN
fresh-syn : (iss ack : ℕ) → iss < 2 ^ 32 → ack < 2 ^ 32 → 0 < dist iss ack → dist iss ack ≤ dist iss ((iss + 1) % 2 ^ 32) → ack ≡ (iss + 1) % 2 ^ 32
fresh-syn iss ack i a n m = omega (arith, i, a, n, m)

is_fresh : AckKind → Bool
is_fresh Fresh = true
is_fresh Equal = false
is_fresh Old = false
is_fresh Beyond = false

record IsFresh (n : ℕ) (c : Block) : Type 0 where
  some : 0 < dist c.una n
  within : dist c.una n ≤ dist c.una (snd_nxt c)

fresh-tells : (d most : ℕ) → cond (d == 0) Equal (cond (nat_le d most) Fresh (cond (nat_le (2 ^ 31) d) Old Beyond)) ≡ Fresh → (0 < d) × (d ≤ most)
unfolding is_fresh
fresh-tells d most e =
    elim (eqb_tells d 0) [
      | inl z ↦ absurd (false≢true (ap is_fresh (sym (ap (λ (t : Bool). cond t Equal (cond (nat_le d most) Fresh (cond (nat_le (2 ^ 31) d) Old Beyond))) z.0) ∙ e)))
      | inr z ↦
          elim (leb_tells d most) [
            | inl w ↦ let some = z.1 in (omega (arith, some), w.1)
            | inr w ↦ absurd (later (nat_le (2 ^ 31) d) (sym (ap (λ (t : Bool). cond t Equal (cond (nat_le d most) Fresh (cond (nat_le (2 ^ 31) d) Old Beyond))) z.0 ∙ ap (λ (t : Bool). cond t Fresh (cond (nat_le (2 ^ 31) d) Old Beyond)) w.0) ∙ e))
          ]
    ]
  where
    later : (t : Bool) → cond t Old Beyond ≡ Fresh → ⊥
    later true f = false≢true (ap is_fresh f)
    later false f = false≢true (ap is_fresh f)

fresh-kind : (n : ℕ) (c : Block) → ack_kind n c ≡ Fresh → IsFresh n c
unfolding ack_kind
fresh-kind n c e = let k = fresh-tells (dist c.una n) (dist c.una (snd_nxt c)) e in record { some = k.0; within = k.1 }

-- the bytes that are acknowledged leave
leaves : (from st : State) (una iss acked sent : ℕ) (out : List ℕ) (wanted f : Bool) (ack n : ℕ) → is_syn_received st ≡ false → n ≤ sent - acked
    → (is_synchronized st ≡ true → ack ≡ end_of iss (acked + n) (f && (ack == end_of iss sent f))) → N from una iss acked sent out wanted f → N st ack iss (acked + n) sent (drop n out) wanted f
leaves from st una iss acked sent out wanted f ack n o h e k =
    let l = length-drop n out in
    let low = k.low in
    let high = k.high in
    let held = k.held in
    record {
      una_is = e;
      before = λ b. absurd (false≢true (sym o ∙ b));
      small = k.small;
      asked = k.asked;
      last = λ b. let w = k.last b in omega (arith, w, l, h, low, high);
      held = omega (arith, l, held);
      low = omega (arith, h, low);
      high = omega (arith, l, h, low, high);
    }

takes-new : (s : Seg) (c : Block) → s.ack < 2 ^ 32 → IsFresh s.ack c → is_synchronized c.state ≡ true → is_syn_received c.state ≡ false → Num c → Num (takes_ack s c)
unfolding takes_ack snd_nxt
takes-new s c a i y o k =
    let low = k.low in
    let high = k.high in
    let held = k.held in
    leaves c.state c.state c.una c.iss c.acked c.sent c.out c.fin_wanted c.fin_sent s.ack (min (in_flight c) (dist c.una s.ack)) o (omega arith)
    (λ e. fresh c.fin_sent c.iss c.acked c.sent c.una s.ack (k.una_is y) low (omega (arith, high, held)) a i.some i.within) k

-- our SYN is acknowledged
takes-first : (s : Seg) (c : Block) → s.ack < 2 ^ 32 → IsFresh s.ack c → is_syn_received c.state ≡ true → Num c → Num (takes_ack s (record (with_window s c) { state = Established }))
unfolding takes_ack snd_nxt
takes-first s c a i e k =
    let u = k.before e in
    let first = u.at_first in
    let low = u.none_acked in
    let high = u.none_sent in
    let small = k.small in
    let nxt : (c.iss + 1 + c.sent + one_if c.fin_sent) % 2 ^ 32 ≡ (c.iss + 1) % 2 ^ 32 = ap (λ (t : Bool). (c.iss + 1 + c.sent + one_if t) % 2 ^ 32) u.not_finished ∙ ap (λ (m : ℕ). (c.iss + 1 + m + 0) % 2 ^ 32) high ∙ omega arith in
    let some = i.some in
    let within = i.within in
    let is : s.ack ≡ (c.iss + 1) % 2 ^ 32 = fresh-syn c.iss s.ack small a (omega (arith, some, first)) (omega (arith, within, first, nxt)) in
    let n = min (in_flight c) (dist c.una s.ack) in
    let m = in_flight c in
    leaves c.state Established c.una c.iss c.acked c.sent c.out c.fin_wanted c.fin_sent s.ack n refl (omega arith)
    (λ t. omega (arith, is, low, high) ∙ ap (λ (b : Bool). end_of c.iss (c.acked + n) (b && (s.ack == end_of c.iss c.sent c.fin_sent))) (sym u.not_finished))
    k

-- a window, and what the state becomes then

window-num : (s : Seg) (c : Block) → Num c → Num (takes_window s c)
unfolding takes_window
window-num s c h = num-cond (is_before c.wl1 s.seq || ((c.wl1 == s.seq) && not (is_before s.ack c.wl2))) (with_window s c) c h h

-- from one state behind the handshake to another
restated : (st : State) (c : Block) → is_synchronized c.state ≡ true → is_syn_received st ≡ false → Num c → Num (record c { state = st })
restated st c y o k = record { una_is = λ e. k.una_is y; before = λ e. absurd (false≢true (sym o ∙ e)); small = k.small; asked = k.asked; last = k.last; held = k.held; low = k.low; high = k.high }

waiting : (c : Block) → is_synchronized c.state ≡ true → Num c → Num (in_time_wait c)
unfolding in_time_wait
waiting c y k = restated TimeWait c y refl k

after-num : (st : State) (t : Bool) (c : Block) → c.state ≡ st → Num c → Num (left_by (after_ack st t c))
after-num Established t c e k = k
after-num FinWait1 true c e k = restated FinWait2 c (ap is_synchronized e) refl k
after-num FinWait1 false c e k = k
after-num FinWait2 t c e k = k
after-num CloseWait t c e k = k
after-num Closing true c e k = waiting c (ap is_synchronized e) k
after-num Closing false c e k = k
after-num LastAck true c e k = listen-num c
after-num LastAck false c e k = k
after-num Listen t c e k = k
after-num SynReceived t c e k = k
after-num TimeWait t c e k = k

settles : (c : Block) → Num c → Num (left_by (after c))
settles c k = after-num c.state (is_fin_acked c) c refl k

acknowledges : (k : AckKind) (s : Seg) (c : Block) → s.ack < 2 ^ 32 → ack_kind s.ack c ≡ k → is_synchronized c.state ≡ true → is_syn_received c.state ≡ false → Num c → Num (left_by (acknowledged k s c))
unfolding acknowledged
acknowledges Fresh s c a e y o h = let d = takes_ack s c in settles (takes_window s d) (window-num s d (takes-new s c a (fresh-kind s.ack c e) y o h))
acknowledges Equal s c a e y o h = settles (takes_window s c) (window-num s c h)
acknowledges Old s c a e y o h = settles c h
acknowledges Beyond s c a e y o h = h

establishes : (k : AckKind) (s : Seg) (c : Block) → s.ack < 2 ^ 32 → ack_kind s.ack c ≡ k → is_syn_received c.state ≡ true → Num c → Num (left_by (established k s c))
unfolding acknowledged
establishes Fresh s c a e o h =
    let d = takes_ack s (record (with_window s c) { state = Established }) in
    settles (takes_window s d) (window-num s d (takes-first s c a (fresh-kind s.ack c e) o h))
establishes Equal s c a e o h = h
establishes Old s c a e o h = h
establishes Beyond s c a e o h = h

ack-in : (st : State) (k : AckKind) (s : Seg) (c : Block) → s.ack < 2 ^ 32 → ack_kind s.ack c ≡ k → c.state ≡ st → Num c → Num (left_by (ack_in st k s c))
ack-in Listen k s c a e st h = h
ack-in SynReceived k s c a e st h = establishes k s c a e (ap is_syn_received st) h
ack-in Established k s c a e st h = acknowledges k s c a e (ap is_synchronized st) (ap is_syn_received st) h
ack-in FinWait1 k s c a e st h = acknowledges k s c a e (ap is_synchronized st) (ap is_syn_received st) h
ack-in FinWait2 k s c a e st h = acknowledges k s c a e (ap is_synchronized st) (ap is_syn_received st) h
ack-in CloseWait k s c a e st h = acknowledges k s c a e (ap is_synchronized st) (ap is_syn_received st) h
ack-in Closing k s c a e st h = acknowledges k s c a e (ap is_synchronized st) (ap is_syn_received st) h
ack-in LastAck k s c a e st h = acknowledges k s c a e (ap is_synchronized st) (ap is_syn_received st) h
ack-in TimeWait k s c a e st h = h

checks-ack : (s : Seg) (c : Block) → s.ack < 2 ^ 32 → Num c → Num (left_by (check_ack s c))
unfolding check_ack
checks-ack s c a h = left-cond (has s.flags ack) (ack_in c.state (ack_kind s.ack c) s c) (over c) (ack-in c.state (ack_kind s.ack c) s c a refl refl h) h

-- text and FIN

consumes-fin : (st : State) (c : Block) → c.state ≡ st → Num c → Num (consumes st c)
consumes-fin Listen c e k = k
consumes-fin SynReceived c e k = k
consumes-fin Established c e k = restated CloseWait c (ap is_synchronized e) refl k
consumes-fin FinWait1 c e k = restated Closing c (ap is_synchronized e) refl k
consumes-fin FinWait2 c e k = waiting c (ap is_synchronized e) k
consumes-fin CloseWait c e k = k
consumes-fin Closing c e k = k
consumes-fin LastAck c e k = k
consumes-fin TimeWait c e k = k

closing : (c : Block) → Num c → Num (left_by (closes c))
unfolding closes
closing c k = left-cond (is_ended c.recv) (go (consumes c.state (record c { ack_due = true }))) (go c) (consumes-fin c.state (record c { ack_due = true }) refl k) k

fins : (s : Seg) (f : ℕ) (c : Block) → Num c → Num (takes_fin s f c)
unfolding takes_fin
fins s f c k = num-cond (has s.flags fin) (record c { recv = keeps_end f c.recv; ack_due = true }) c k k

texts : (o : Option Recv) (s : Seg) (f : ℕ) (c : Block) → Num c → Num (takes_text o s f c)
texts None s f c k = k
texts (Some q) s f c k = fins s f (record c { recv = q; ack_due = true }) k

checks-text : (s : Seg) (text : List ℕ) (c : Block) → Num c → Num (left_by (check_text s text c))
unfolding check_text
checks-text s text c k =
    let at = next_of c.recv + ahead s c in
    let f = at + length text - repeated s c in
    let kept = takes_text (placed at (drop (repeated s c) text) c.recv) s f c in
    left-cond (length text == 0) (closes (takes_fin s f c)) (closes kept) (closing (takes_fin s f c) (fins s f c k))
    (closing kept (texts (placed at (drop (repeated s c) text) c.recv) s f c k))

arriving : (s : Seg) (text : List ℕ) (c : Block) → s.ack < 2 ^ 32 → Num c → Num (left_by (arrives s text c))
unfolding arrives first_checks
arriving s text c a k =
    let v1 = check_sequence s text c in
    let v2 = and_then v1 (check_reset s) in
    let v3 = and_then v2 (check_syn s) in
    let v4 = and_then v3 (check_ack s) in
    left-then v4 (check_text s text)
    (left-then v3 (check_ack s)
    (left-then v2 (check_syn s)
    (left-then v1 (check_reset s) (sequences s text c k) (λ d e h. resets s d h))
    (λ d e h. syns s d h))
    (λ d e h. checks-ack s d a h))
    (λ d e h. checks-text s text d h)

in-its-state : (st : State) (s : Seg) (iss : ℕ) (text : List ℕ) (b : Block) → b.state ≡ st → iss < 2 ^ 32 → s.ack < 2 ^ 32 → IsValid b → Num b → Num (left_by (in_state st s iss text b))
in-its-state Listen s iss text b e i a v h = listens s iss b i (v.new (ap is_listen e)) h
in-its-state SynReceived s iss text b e i a v h = arriving s text b a h
in-its-state Established s iss text b e i a v h = arriving s text b a h
in-its-state FinWait1 s iss text b e i a v h = arriving s text b a h
in-its-state FinWait2 s iss text b e i a v h = arriving s text b a h
in-its-state CloseWait s iss text b e i a v h = arriving s text b a h
in-its-state Closing s iss text b e i a v h = arriving s text b a h
in-its-state LastAck s iss text b e i a v h = arriving s text b a h
in-its-state TimeWait s iss text b e i a v h = arriving s text b a h

segment-num : (now iss : ℕ) (s : Seg) (text : List ℕ) (b : Block) → iss < 2 ^ 32 → s.ack < 2 ^ 32 → IsValid b → Num b → Num (left_by (tcp_segment now iss s text b))
unfolding tcp_segment
segment-num now iss s text b i a v h = in-its-state b.state s iss text (record b { clock = now }) refl i a (clock-valid now b v) h

-- what is sent

-- text that wasn't sent yet
sends-some : (st : State) (una iss acked sent : ℕ) (out : List ℕ) (wanted f : Bool) (n : ℕ) → n ≤ length out - (sent - acked) → N st una iss acked sent out wanted f → N st una iss acked (sent + n) out wanted f
sends-some st una iss acked sent out wanted f zero h k = let e : sent ≡ sent + zero = omega arith in subst (λ (m : ℕ). N st una iss acked m out wanted f) e k
sends-some st una iss acked sent out wanted true (suc n) h k =
    let l = k.last refl in
    absurd (omega (arith, h, l))
sends-some st una iss acked sent out wanted false (suc n) h k =
    let low = k.low in
    let high = k.high in
    record {
      una_is = k.una_is;
      before = λ e. absurd (none (k.before e).none_offered);
      small = k.small;
      asked = k.asked;
      last = λ e. absurd (false≢true e);
      held = k.held;
      low = omega (arith, low);
      high = omega (arith, high, h, low);
    }
  where
    none : length out ≡ 0 → ⊥
    none o = omega (arith, o, h)

text-num : (flags : ℕ) (text : List ℕ) (c : Block) → length text ≤ length c.out - (c.sent - c.acked) → Num c → Num (sends_text flags text c)
unfolding sends_text
text-num flags text c h k = sends-some c.state c.una c.iss c.acked c.sent c.out c.fin_wanted c.fin_sent (length text) h k

pieces-num : (ps : List (List ℕ)) (c : Block) → total ps ≤ length c.out - (c.sent - c.acked) → Num c → Num (sends_pieces ps c)
unfolding total sends_text
pieces-num [] c h k = k
pieces-num (t ∷ []) c h k = text-num 24 t c (omega (arith, h)) k
pieces-num (t ∷ u ∷ ts) c h k =
    let low = k.low in
    pieces-num (u ∷ ts) (sends_text 16 t c) (omega (arith, h, low)) (text-num 16 t c (omega (arith, h)) k)

outputs-text-num : (c : Block) → Num c → Num (outputs_text c)
unfolding outputs_text sendable
outputs-text-num c k =
    let t = sendable c in
    let l = length-take (c.wnd - dist c.una (snd_nxt c)) (unsent c) in
    let u = unsent-length c in
    let p = pieces-total (length t) c.agreed.mss t in
    pieces-num (pieces (length t) c.agreed.mss t) c (omega (arith, l, u, p)) k

-- our FIN, behind all text
finishes : (st : State) (una iss acked sent : ℕ) (out : List ℕ) (wanted f : Bool) → wanted ≡ true → f ≡ false → length out - (sent - acked) ≡ 0 → N st una iss acked sent out wanted f → N st una iss acked sent out wanted true
finishes st una iss acked sent out wanted f w n u k =
    let low = k.low in
    let high = k.high in
    let held = k.held in
    record {
      una_is = λ e. unacked (k.una_is e ∙ ap (λ (t : Bool). end_of iss acked (t && (una == end_of iss sent t))) n);
      before = λ e. absurd (false≢true (sym (k.before e).not_wanted ∙ w));
      small = k.small;
      asked = λ e. w;
      last = λ e. omega (arith, u, low, high);
      held = held;
      low = low;
      high = high;
    }
  where
    unacked : una ≡ end_of iss acked false → una ≡ end_of iss acked (una == end_of iss sent true)
    unacked e =
        elim (eqb_tells una (end_of iss sent true)) [
          | inl d ↦ let is = d.1 in let low = k.low in let high = k.high in let held = k.held in absurd (omega (arith, e, is, low, high, held))
          | inr d ↦ e ∙ ap (λ (t : Bool). end_of iss acked t) (sym d.0)
        ]

pub both : (a b : Bool) → (a && b) ≡ true → (a ≡ true) × (b ≡ true)
both true b e = (refl, e)
both false b e = absurd (false≢true e)

is-zero : (n : ℕ) → (n == 0) ≡ true → n ≡ 0
is-zero n e =
    elim (eqb_tells n 0) [
      | inl d ↦ d.1
      | inr d ↦ absurd (false≢true (sym d.0 ∙ e))
    ]

not-true : (t : Bool) → not t ≡ true → t ≡ false
not-true true e = absurd (false≢true e)
not-true false e = refl

num-if : (t : Bool) (x y : Block) → (t ≡ true → Num x) → Num y → Num (cond t x y)
num-if true x y p q = p refl
num-if false x y p q = q

outputs-fin-num : (c : Block) → Num c → Num (outputs_fin c)
unfolding outputs_fin
outputs-fin-num c k =
    num-if (c.fin_wanted && (not c.fin_sent && (length (unsent c) == 0))) (record (sends (segment_of 17 (snd_nxt c) [] c) c) { fin_sent = true }) c
    (λ e. sent_behind (both c.fin_wanted (not c.fin_sent && (length (unsent c) == 0)) e)) k
  where
    sent_behind : (c.fin_wanted ≡ true) × ((not c.fin_sent && (length (unsent c) == 0)) ≡ true) → N c.state c.una c.iss c.acked c.sent c.out c.fin_wanted true
    sent_behind e =
        let d = both (not c.fin_sent) (length (unsent c) == 0) e.1 in
        let u = unsent-length c in
        let z = is-zero (length (unsent c)) d.1 in
        finishes c.state c.una c.iss c.acked c.sent c.out c.fin_wanted c.fin_sent e.0 (not-true c.fin_sent d.0) (omega (arith, u, z)) k

outputs-ack-num : (n : ℕ) (c : Block) → Num c → Num (outputs_ack n c)
unfolding outputs_ack
outputs-ack-num n c k = num-cond (c.ack_due && (length c.replies == n)) (sends (segment_of ack (snd_nxt c) [] c) c) c k k

starts-num : (o : Option ℕ) (c : Block) → Num c → Num (starts o c)
starts-num (Some at) c k = k
starts-num None c k = k

outputs-deadline-num : (c : Block) → Num c → Num (outputs_deadline c)
unfolding outputs_deadline
outputs-deadline-num c k = num-cond (not (c.una == snd_nxt c) || nat_lt 0 (length (unsent c))) (starts c.retransmit_at c) (record c { retransmit_at = None }) (starts-num c.retransmit_at c k) k

output-num : (b : Block) → Num b → Num (output b)
unfolding output
output-num b k =
    let n = length b.replies in
    let b1 = outputs_text b in
    let b2 = outputs_fin b1 in
    let b3 = outputs_ack n b2 in
    num-cond (is_sending b.state) (outputs_deadline b3) (outputs_ack n b) (outputs-deadline-num b3 (outputs-ack-num n b2 (outputs-fin-num b1 (outputs-text-num b k)))) (outputs-ack-num n b k)

-- the timers

sends-again-num : (c : Block) → Num c → Num (sends_again c)
unfolding sends_again
sends-again-num c k =
    let one = length-take 1 (unsent c) in
    let u = unsent-length c in
    num-cond (nat_lt 0 (in_flight c)) (sends (segment_of 24 c.una (take (min c.agreed.mss (min (in_flight c) (max 1 c.wnd))) c.out) c) c) _ k
    (num-cond (c.fin_sent && not (c.una == snd_nxt c)) (sends (segment_of 17 (snd_end c) [] c) c) (sends_text 24 (take 1 (unsent c)) c) k
    (text-num 24 (take 1 (unsent c)) c (omega (arith, one, u)) k))

retransmitting : (st : State) (c : Block) → Num c → Num (retransmits st c)
retransmitting SynReceived c k = k
retransmitting Listen c k = sends-again-num c k
retransmitting Established c k = sends-again-num c k
retransmitting FinWait1 c k = sends-again-num c k
retransmitting FinWait2 c k = sends-again-num c k
retransmitting CloseWait c k = sends-again-num c k
retransmitting Closing c k = sends-again-num c k
retransmitting LastAck c k = sends-again-num c k
retransmitting TimeWait c k = sends-again-num c k

fires-num : (f : Firing) (c : Block) → Num c → Num (fires f c)
unfolding fires
fires-num (time_wait at) c k = listen-num (record c { clock = at })
fires-num (gives_up at) c k = listen-num (record c { clock = at })
fires-num (retransmission at) c k = retransmitting c.state (record c { clock = at }) k

all-num : (fs : List Firing) (c : Block) → Num c → Num (fires_all fs c)
all-num [] c k = k
all-num (f ∷ fs) c k = all-num fs (fires f c) (fires-num f c k)

time-num : (to : ℕ) (b : Block) → Num b → Num (tcp_time to b)
unfolding tcp_time
time-num to b k = all-num (firings to b) b k

-- calls

buffers : (st : State) (n : ℕ) (c : Block) → Num c → Num (with_buffer st n c)
buffers Listen n c k = k
buffers SynReceived n c k = k
buffers Established n c k = k
buffers FinWait1 n c k = k
buffers FinWait2 n c k = k
buffers CloseWait n c k = k
buffers Closing n c k = k
buffers LastAck n c k = k
buffers TimeWait n c k = k

pub wanting : (st : State) (c : Block) → is_synchronized c.state ≡ true → is_syn_received st ≡ false → Num c → Num (wants_fin st c)
wanting st c y o k = record { una_is = λ e. k.una_is y; before = λ e. absurd (false≢true (sym o ∙ e)); small = k.small; asked = λ e. refl; last = k.last; held = k.held; low = k.low; high = k.high }

closes-in : (st : State) (c : Block) → c.state ≡ st → Num c → Num (left_by (close_in st c).verdict)
closes-in Listen c e k = k
closes-in SynReceived c e k = k
closes-in Established c e k = wanting FinWait1 c (ap is_synchronized e) refl k
closes-in CloseWait c e k = wanting LastAck c (ap is_synchronized e) refl k
closes-in FinWait1 c e k = k
closes-in FinWait2 c e k = k
closes-in Closing c e k = k
closes-in LastAck c e k = k
closes-in TimeWait c e k = k

call-num : (a : Call) (b : Block) → Num b → Num (left_by (tcp_call a b).verdict)
unfolding tcp_call
call-num call.Status b k = k
call-num (call.Buffer n) b k = buffers b.state n b k
call-num call.Close b k = closes-in b.state b refl k

-- the laws

pub segment-numbered : (now iss : ℕ) (s : Seg) (text : List ℕ) (b : Block) → iss < 2 ^ 32 → s.ack < 2 ^ 32 → IsValid b → IsNumbered b → IsNumbered (left_by (tcp_segment now iss s text b))
segment-numbered now iss s text b i a v n = numbered (left_by (tcp_segment now iss s text b)) (segment-num now iss s text b i a v (num b v n))

pub time-numbered : (to : ℕ) (b : Block) → IsValid b → IsNumbered b → IsNumbered (tcp_time to b)
time-numbered to b v n = numbered (tcp_time to b) (time-num to b (num b v n))

pub call-numbered : (a : Call) (b : Block) → IsValid b → IsNumbered b → IsNumbered (left_by (tcp_call a b).verdict)
call-numbered a b v n = numbered (left_by (tcp_call a b).verdict) (call-num a b (num b v n))

pub output-numbered : (b : Block) → IsValid b → IsNumbered b → IsNumbered (output b)
output-numbered b v n = numbered (output b) (output-num b (num b v n))

pub resent-numbered : (b : Block) → IsValid b → IsNumbered b → IsNumbered (retransmits b.state b)
resent-numbered b v n = numbered (retransmits b.state b) (retransmitting b.state b (num b v n))

pub new-numbered : IsNumbered new_block
new-numbered = numbered new_block new-num
