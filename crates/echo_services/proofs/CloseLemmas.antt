-- What echo offers is what it took, also behind the close: where no program closes, our FIN is wanted only once nothing is left to take.
use Rattle.std.proofs.Common.{◌≡◌, ℕ, ◌+◌, ◌-◌, List, [], ◌∷◌, ◌++◌, Option, None, Some, Bool, true, false, cond, not, ◌==◌, ◌&&◌, ◌||◌, ◌⊎◌, inl, inr, length, drop, take, min, max, refl, sym, ap, ◌∙◌, subst, arith, append_assoc, append-nil}
use Rattle.std.specs.Prelude.{nat_lt}
use Rattle.std.proofs.lemmas.Bool.{false≢true}
use Rattle.std.proofs.lemmas.Bool.Decides.{eqb_tells}
use Rattle.std.proofs.lemmas.List.{take-append-drop}
use Rattle.segment_codec.specs.declared.packet.Seg.{Seg}
use Rattle.byte_queues.specs.ReceiveQueue.{Recv, next_of, ready_of, next_bytes, without, with_cap, placed, is_ended}
use Rattle.tcb_machine.specs.BlockState.{Block, rst_of, segment_of, to_listen, new_block, has, in_flight, rcv_nxt, snd_nxt, snd_end, unsent, sends_ack, sends}
use Rattle.segment_codec.specs.ControlBits.{ack, fin, rst, syn}
use Rattle.tcb_machine.specs.CallAnswers.{tcp_call, with_buffer, wants_fin}
use Rattle.tcb_machine.specs.Output.{sends_text, sends_pieces, pieces, sendable, outputs_text, outputs_fin, outputs_ack, outputs_deadline, starts, is_sending, output}
use Rattle.tcb_machine.specs.States.{is_listen}
use Rattle.tcb_machine.specs.TcpStep.{sends_syn_ack, waits, ahead, Verdict, over, go, on, and_then, opened, listen, is_acceptable, is_time_wait, refused, check_sequence, check_reset, syn_again, check_syn, ack_kind, is_before, with_window, takes_window, takes_ack, in_time_wait, after_ack, is_fin_acked, after, acknowledged, established, ack_in, check_ack, consumes, closes, keeps_end, takes_fin, takes_text, check_text, repeated, first_checks, arrives, in_state, tcp_segment}
use Rattle.tcb_machine.specs.Timers.{Firing, time_wait, retransmission, gives_up, firings, sends_again, retransmits, fires, fires_all, tcp_time}
use Rattle.tcb_machine.specs.Validity.{IsValid, left_by}
use Rattle.tcb_machine.specs.declared.kinds.Call.{Call}
use Rattle.tcb_machine.specs.declared.kinds.Call.TheVariants as call
use Rattle.tcb_machine.specs.declared.kinds.State.{State}
use Rattle.tcb_machine.specs.declared.kinds.State.TheVariants.{Listen, SynReceived, Established, FinWait1, FinWait2, CloseWait, Closing, LastAck, TimeWait}
use Rattle.tcb_machine.specs.declared.kinds.AckKind.{AckKind}
use Rattle.tcb_machine.specs.declared.kinds.AckKind.TheVariants.{Fresh, Equal, Old, Beyond}
use Rattle.tcb_machine.proofs.QueueLemmas.{next_without}
use Rattle.tcb_machine.proofs.ValidLemmas.{Moved, moves, as_new, Says, new-valid, moves-valid, segment-says, call-moved, output-moved, time-moved, new-out}
use Rattle.echo_services.specs.Closing.{ends, is_close_wait, throws}
use Rattle.echo_services.specs.Echo.{echoes_in, moves as moves_text}
use Rattle.echo_services.specs.Pump.{pump}
use Rattle.echo_services.specs.Serving.{Entry, segment, time, asks}
use Rattle.echo_services.specs.WholeStreams.{Whole, follows, all_offered, whole_followed, whole_enters, whole_serves, whole_new, IsEntry, AreEntries, IsNoClose, HasNoClose}
use Rattle.echo_services.specs.declared.service.Service.TheVariants.{Echo}
use Rattle.echo_services.proofs.EchoLemmas.{Echoed, echoed-in, no-bytes, nothing-gone, join-open, join-new, clock-says}
use Rattle.echo_services.proofs.PumpsLemmas.{service-pumps}
use Rattle.echo_services.proofs.ServingLemmas.{pumps-valid, enters-valid, enters-block}
use Rattle.tcb_machine.proofs.NumberLemmas.{both}

-- a step that wants no FIN, and in LAST-ACK takes nothing in

record Q (b : Block) (st : State) (q : Recv) (fin_asked : Bool) : Type 0 where
  asked : fin_asked ≡ true → b.fin_wanted ≡ true
  last : b.state ≡ LastAck → (is_listen st ≡ true) ⊎ ((st ≡ LastAck) × (ready_of q ≡ ready_of b.recv))

abbrev Quiet : Block → Block → Type 0
Quiet b c = Q b c.state c.recv c.fin_wanted

abbrev is_last : State → Bool
is_last LastAck = true
is_last Listen = false
is_last SynReceived = false
is_last Established = false
is_last FinWait1 = false
is_last FinWait2 = false
is_last CloseWait = false
is_last Closing = false
is_last TimeWait = false

-- neither LISTEN nor LAST-ACK
abbrev Busy : State → Type 0
Busy st = (is_listen st ≡ false) × (is_last st ≡ false)

elsewhere : (b c : Block) → Quiet b c → Busy c.state → b.state ≡ LastAck → ⊥
elsewhere b c h k e =
    elim (h.last e) [
      | inl l ↦ false≢true (sym k.0 ∙ l)
      | inr l ↦ let st : c.state ≡ LastAck = l.0 in false≢true (sym k.1 ∙ ap is_last st)
    ]

moved-on : (st : State) (q : Recv) (b c : Block) → Busy c.state → Quiet b c → Q b st q c.fin_wanted
moved-on st q b c k h = record { asked = h.asked; last = λ e. absurd (elsewhere b c h k e) }

own : (b : Block) → Quiet b b
own b = record { asked = λ e. e; last = λ e. inr (e, refl) }

listened : (b c : Block) → Quiet b (to_listen c)
unfolding to_listen
listened b c = record { asked = λ e. absurd (false≢true e); last = λ e. inl refl }

left-cond : (t : Bool) (b : Block) (v w : Verdict) → Quiet b (left_by v) → Quiet b (left_by w) → Quiet b (left_by (cond t v w))
left-cond true b v w p q = p
left-cond false b v w p q = q

left-then : (b : Block) (v : Verdict) (f : Block → Verdict) → Quiet b (left_by v) → ((c : Block) → Quiet b c → Quiet b (left_by (f c))) → Quiet b (left_by (and_then v f))
left-then b (over c) f h g = h
left-then b (go c) f h g = h
left-then b (on c) f h g = g c h

quiet-cond : (t : Bool) (b x y : Block) → Quiet b x → Quiet b y → Quiet b (cond t x y)
quiet-cond true b x y p q = p
quiet-cond false b x y p q = q

-- LISTEN

not-last : (b : Block) → b.state ≡ Listen → b.state ≡ LastAck → ⊥
not-last b e f = false≢true (ap is_last (sym e ∙ f))

opens : (s : Seg) (iss : ℕ) (b : Block) → b.state ≡ Listen → Quiet b (opened s iss b)
unfolding opened
opens s iss b e = record { asked = λ f. f; last = λ f. absurd (not-last b e f) }

listens : (s : Seg) (iss : ℕ) (b : Block) → b.state ≡ Listen → Quiet b (left_by (listen s iss b))
unfolding listen
listens s iss b e =
    left-cond (has s.flags rst) b (over b) _ (own b)
    (left-cond (has s.flags ack) b (over (sends (rst_of s b) b)) _ (own b)
    (left-cond (has s.flags syn) b (over (sends_syn_ack (opened s iss b))) (over b) (opens s iss b e) (own b)))

-- the first checks

refuses : (s : Seg) (b c : Block) → Quiet b c → Quiet b (left_by (refused s c))
unfolding refused
refuses s b c h =
    left-cond (has s.flags rst) b (over c) _ h
    (left-cond (is_time_wait c.state && has s.flags fin) b (over (waits (sends_ack c))) (over (sends_ack c)) h h)

sequences : (s : Seg) (text : List ℕ) (b c : Block) → Quiet b c → Quiet b (left_by (check_sequence s text c))
unfolding check_sequence
sequences s text b c h = left-cond (is_acceptable s text c) b (on c) (refused s c) h (refuses s b c h)

resets : (s : Seg) (b c : Block) → Quiet b c → Quiet b (left_by (check_reset s c))
unfolding check_reset
resets s b c h =
    left-cond (not (has s.flags rst)) b (on c) _ h
    (left-cond (s.seq == rcv_nxt c) b (over (to_listen c)) (over (sends_ack c)) (listened b c) h)

again : (st : State) (b c : Block) → Quiet b c → Quiet b (left_by (syn_again st c))
again SynReceived b c h = listened b c
again Listen b c h = h
again Established b c h = h
again FinWait1 b c h = h
again FinWait2 b c h = h
again CloseWait b c h = h
again Closing b c h = h
again LastAck b c h = h
again TimeWait b c h = h

syns : (s : Seg) (b c : Block) → Quiet b c → Quiet b (left_by (check_syn s c))
unfolding check_syn
syns s b c h = left-cond (has s.flags syn) b (syn_again c.state c) (on c) (again c.state b c h) h

-- the ACK: behind it text is looked at only in three states

abbrev Goes : Block → Verdict → Type 0
Goes b (over c) = Quiet b c
Goes b (go c) = Quiet b c
Goes b (on c) = Quiet b c × Busy c.state

goes-cond : (t : Bool) (b : Block) (v w : Verdict) → Goes b v → Goes b w → Goes b (cond t v w)
goes-cond true b v w p q = p
goes-cond false b v w p q = q

window-quiet : (s : Seg) (b c : Block) → Quiet b c → Quiet b (takes_window s c)
unfolding takes_window
window-quiet s b c h = quiet-cond (is_before c.wl1 s.seq || ((c.wl1 == s.seq) && not (is_before s.ack c.wl2))) b (with_window s c) c h h

ack-quiet : (s : Seg) (b c : Block) → Quiet b c → Quiet b (takes_ack s c)
unfolding takes_ack
ack-quiet s b c h = h

waiting : (b c : Block) → Busy c.state → Quiet b c → Quiet b (in_time_wait c)
unfolding in_time_wait
waiting b c k h = moved-on TimeWait c.recv b c k h

busy : (st : State) (c : Block) → c.state ≡ st → Busy st → Busy c.state
busy st c e k = subst Busy (sym e) k

after-goes : (st : State) (t : Bool) (b c : Block) → c.state ≡ st → Quiet b c → Goes b (after_ack st t c)
after-goes Established t b c e h = (h, busy Established c e (refl, refl))
after-goes FinWait1 true b c e h = (moved-on FinWait2 c.recv b c (busy FinWait1 c e (refl, refl)) h, (refl, refl))
after-goes FinWait1 false b c e h = (h, busy FinWait1 c e (refl, refl))
after-goes FinWait2 t b c e h = (h, busy FinWait2 c e (refl, refl))
after-goes CloseWait t b c e h = h
after-goes Closing true b c e h = waiting b c (busy Closing c e (refl, refl)) h
after-goes Closing false b c e h = h
after-goes LastAck true b c e h = listened b c
after-goes LastAck false b c e h = h
after-goes Listen t b c e h = h
after-goes SynReceived t b c e h = h
after-goes TimeWait t b c e h = h

settles : (b c : Block) → Quiet b c → Goes b (after c)
settles b c h = after-goes c.state (is_fin_acked c) b c refl h

acknowledges : (k : AckKind) (s : Seg) (b c : Block) → Quiet b c → Goes b (acknowledged k s c)
unfolding acknowledged
acknowledges Fresh s b c h = let d = takes_ack s c in settles b (takes_window s d) (window-quiet s b d (ack-quiet s b c h))
acknowledges Equal s b c h = settles b (takes_window s c) (window-quiet s b c h)
acknowledges Old s b c h = settles b c h
acknowledges Beyond s b c h = h

establishes : (k : AckKind) (s : Seg) (b c : Block) → Busy c.state → Quiet b c → Goes b (established k s c)
establishes Fresh s b c k h = acknowledges Fresh s b (record (with_window s c) { state = Established }) (moved-on Established c.recv b c k h)
establishes Equal s b c k h = h
establishes Old s b c k h = h
establishes Beyond s b c k h = h

ack-in : (st : State) (k : AckKind) (s : Seg) (b c : Block) → c.state ≡ st → Quiet b c → Goes b (ack_in st k s c)
ack-in Listen k s b c e h = h
ack-in SynReceived k s b c e h = establishes k s b c (busy SynReceived c e (refl, refl)) h
ack-in Established k s b c e h = acknowledges k s b c h
ack-in FinWait1 k s b c e h = acknowledges k s b c h
ack-in FinWait2 k s b c e h = acknowledges k s b c h
ack-in CloseWait k s b c e h = acknowledges k s b c h
ack-in Closing k s b c e h = acknowledges k s b c h
ack-in LastAck k s b c e h = acknowledges k s b c h
ack-in TimeWait k s b c e h = h

checks-ack : (s : Seg) (b c : Block) → Quiet b c → Goes b (check_ack s c)
unfolding check_ack
checks-ack s b c h = goes-cond (has s.flags ack) b (ack_in c.state (ack_kind s.ack c) s c) (over c) (ack-in c.state (ack_kind s.ack c) s b c refl h) h

-- text and FIN

with-recv : (q : Recv) (b c : Block) → Busy c.state → Quiet b c → Quiet b (record c { recv = q; ack_due = true })
with-recv q b c k h = moved-on c.state q b c k h

consumes-quiet : (st : State) (b c : Block) → c.state ≡ st → Quiet b c → Quiet b (consumes st c)
consumes-quiet Listen b c e h = h
consumes-quiet SynReceived b c e h = h
consumes-quiet Established b c e h = moved-on CloseWait c.recv b c (busy Established c e (refl, refl)) h
consumes-quiet FinWait1 b c e h = moved-on Closing c.recv b c (busy FinWait1 c e (refl, refl)) h
consumes-quiet FinWait2 b c e h = waiting b c (busy FinWait2 c e (refl, refl)) h
consumes-quiet CloseWait b c e h = h
consumes-quiet Closing b c e h = h
consumes-quiet LastAck b c e h = h
consumes-quiet TimeWait b c e h = h

closing : (b c : Block) → Quiet b c → Quiet b (left_by (closes c))
unfolding closes
closing b c h = left-cond (is_ended c.recv) b (go (consumes c.state (record c { ack_due = true }))) (go c) (consumes-quiet c.state b (record c { ack_due = true }) refl h) h

fins : (s : Seg) (f : ℕ) (b c : Block) → Busy c.state → Quiet b c → Quiet b (takes_fin s f c)
unfolding takes_fin
fins s f b c k h = quiet-cond (has s.flags fin) b (record c { recv = keeps_end f c.recv; ack_due = true }) c (with-recv (keeps_end f c.recv) b c k h) h

texts : (o : Option Recv) (s : Seg) (f : ℕ) (b c : Block) → Busy c.state → Quiet b c → Quiet b (takes_text o s f c)
texts None s f b c k h = h
texts (Some q) s f b c k h = fins s f b (record c { recv = q; ack_due = true }) k (with-recv q b c k h)

checks-text : (s : Seg) (text : List ℕ) (b c : Block) → Busy c.state → Quiet b c → Quiet b (left_by (check_text s text c))
unfolding check_text
checks-text s text b c k h =
    let at = next_of c.recv + ahead s c in
    let f = at + length text - repeated s c in
    let kept = takes_text (placed at (drop (repeated s c) text) c.recv) s f c in
    left-cond (length text == 0) b (closes (takes_fin s f c)) (closes kept) (closing b (takes_fin s f c) (fins s f b c k h))
    (closing b kept (texts (placed at (drop (repeated s c) text) c.recv) s f b c k h))

goes-then : (b : Block) (v : Verdict) (f : Block → Verdict) → Goes b v → ((c : Block) → Busy c.state → Quiet b c → Quiet b (left_by (f c))) → Quiet b (left_by (and_then v f))
goes-then b (over c) f h g = h
goes-then b (go c) f h g = h
goes-then b (on c) f h g = g c h.1 h.0

acks-then : (s : Seg) (b : Block) (v : Verdict) → Quiet b (left_by v) → Goes b (and_then v (check_ack s))
acks-then s b (over c) h = h
acks-then s b (go c) h = h
acks-then s b (on c) h = checks-ack s b c h

arriving : (s : Seg) (text : List ℕ) (b : Block) → Quiet b (left_by (arrives s text b))
unfolding arrives first_checks
arriving s text b =
    let v1 = check_sequence s text b in
    let v2 = and_then v1 (check_reset s) in
    let v3 = and_then v2 (check_syn s) in
    goes-then b (and_then v3 (check_ack s)) (check_text s text)
    (acks-then s b v3 (left-then b v2 (check_syn s) (left-then b v1 (check_reset s) (sequences s text b b (own b)) (resets s b)) (syns s b)))
    (λ c k h. checks-text s text b c k h)

in-its-state : (st : State) (s : Seg) (iss : ℕ) (text : List ℕ) (b : Block) → b.state ≡ st → Quiet b (left_by (in_state st s iss text b))
in-its-state Listen s iss text b e = listens s iss b e
in-its-state SynReceived s iss text b e = arriving s text b
in-its-state Established s iss text b e = arriving s text b
in-its-state FinWait1 s iss text b e = arriving s text b
in-its-state FinWait2 s iss text b e = arriving s text b
in-its-state CloseWait s iss text b e = arriving s text b
in-its-state Closing s iss text b e = arriving s text b
in-its-state LastAck s iss text b e = arriving s text b
in-its-state TimeWait s iss text b e = arriving s text b

segment-quiet : (now iss : ℕ) (s : Seg) (text : List ℕ) (b : Block) → Quiet b (left_by (tcp_segment now iss s text b))
unfolding tcp_segment
segment-quiet now iss s text b = let h = in-its-state b.state s iss text (record b { clock = now }) refl in record { asked = h.asked; last = h.last }

-- output and timers

pieces-quiet : (ps : List (List ℕ)) (b c : Block) → Quiet b c → Quiet b (sends_pieces ps c)
unfolding sends_text
pieces-quiet [] b c h = h
pieces-quiet (t ∷ []) b c h = h
pieces-quiet (t ∷ u ∷ ts) b c h = pieces-quiet (u ∷ ts) b (sends_text 16 t c) h

outputs-text-quiet : (b c : Block) → Quiet b c → Quiet b (outputs_text c)
unfolding outputs_text
outputs-text-quiet b c h = pieces-quiet (pieces (length (sendable c)) c.agreed.mss (sendable c)) b c h

outputs-fin-quiet : (b c : Block) → Quiet b c → Quiet b (outputs_fin c)
unfolding outputs_fin
outputs-fin-quiet b c h = quiet-cond (c.fin_wanted && (not c.fin_sent && (length (unsent c) == 0))) b (record (sends (segment_of 17 (snd_nxt c) [] c) c) { fin_sent = true }) c h h

outputs-ack-quiet : (n : ℕ) (b c : Block) → Quiet b c → Quiet b (outputs_ack n c)
unfolding outputs_ack
outputs-ack-quiet n b c h = quiet-cond (c.ack_due && (length c.replies == n)) b (sends (segment_of ack (snd_nxt c) [] c) c) c h h

starts-quiet : (o : Option ℕ) (b c : Block) → Quiet b c → Quiet b (starts o c)
starts-quiet (Some at) b c h = h
starts-quiet None b c h = h

outputs-deadline-quiet : (b c : Block) → Quiet b c → Quiet b (outputs_deadline c)
unfolding outputs_deadline
outputs-deadline-quiet b c h = quiet-cond (not (c.una == snd_nxt c) || nat_lt 0 (length (unsent c))) b (starts c.retransmit_at c) (record c { retransmit_at = None }) (starts-quiet c.retransmit_at b c h) h

output-quiet : (b : Block) → Quiet b (output b)
unfolding output
output-quiet b =
    let n = length b.replies in
    let b1 = outputs_text b in
    let b2 = outputs_fin b1 in
    let b3 = outputs_ack n b2 in
    quiet-cond (is_sending b.state) b (outputs_deadline b3) (outputs_ack n b)
    (outputs-deadline-quiet b b3 (outputs-ack-quiet n b b2 (outputs-fin-quiet b b1 (outputs-text-quiet b b (own b))))) (outputs-ack-quiet n b b (own b))

sends-again-quiet : (b c : Block) → Quiet b c → Quiet b (sends_again c)
unfolding sends_again sends_text
sends-again-quiet b c h =
    quiet-cond (nat_lt 0 (in_flight c)) b (sends (segment_of 24 c.una (take (min c.agreed.mss (min (in_flight c) (max 1 c.wnd))) c.out) c) c) _ h
    (quiet-cond (c.fin_sent && not (c.una == snd_nxt c)) b (sends (segment_of 17 (snd_end c) [] c) c) (sends_text 24 (take 1 (unsent c)) c) h h)

retransmitting : (st : State) (b c : Block) → Quiet b c → Quiet b (retransmits st c)
retransmitting SynReceived b c h = h
retransmitting Listen b c h = sends-again-quiet b c h
retransmitting Established b c h = sends-again-quiet b c h
retransmitting FinWait1 b c h = sends-again-quiet b c h
retransmitting FinWait2 b c h = sends-again-quiet b c h
retransmitting CloseWait b c h = sends-again-quiet b c h
retransmitting Closing b c h = sends-again-quiet b c h
retransmitting LastAck b c h = sends-again-quiet b c h
retransmitting TimeWait b c h = sends-again-quiet b c h

fires-quiet : (f : Firing) (b c : Block) → Quiet b c → Quiet b (fires f c)
unfolding fires
fires-quiet (time_wait at) b c h = listened b (record c { clock = at })
fires-quiet (gives_up at) b c h = listened b (record c { clock = at })
fires-quiet (retransmission at) b c h = retransmitting c.state b (record c { clock = at }) h

all-quiet : (fs : List Firing) (b c : Block) → Quiet b c → Quiet b (fires_all fs c)
all-quiet [] b c h = h
all-quiet (f ∷ fs) b c h = all-quiet fs b (fires f c) (fires-quiet f b c h)

time-quiet : (to : ℕ) (b : Block) → Quiet b (tcp_time to b)
unfolding tcp_time
time-quiet to b = all-quiet (firings to b) b b (own b)

-- calls other than a close

buffer-quiet : (st : State) (n : ℕ) (b : Block) → b.state ≡ st → Quiet b (with_buffer st n b)
unfolding with_cap ready_of next_of
buffer-quiet Listen n b e = record { asked = λ f. f; last = λ f. absurd (not-last b e f) }
buffer-quiet SynReceived n b e = record { asked = λ f. f; last = λ f. inr (f, refl) }
buffer-quiet Established n b e = record { asked = λ f. f; last = λ f. inr (f, refl) }
buffer-quiet FinWait1 n b e = record { asked = λ f. f; last = λ f. inr (f, refl) }
buffer-quiet FinWait2 n b e = record { asked = λ f. f; last = λ f. inr (f, refl) }
buffer-quiet CloseWait n b e = record { asked = λ f. f; last = λ f. inr (f, refl) }
buffer-quiet Closing n b e = record { asked = λ f. f; last = λ f. inr (f, refl) }
buffer-quiet LastAck n b e = record { asked = λ f. f; last = λ f. inr (f, refl) }
buffer-quiet TimeWait n b e = record { asked = λ f. f; last = λ f. inr (f, refl) }

-- the invariant

record IsGiven (w : Whole) : Type 0 where
  same : all_offered w ≡ w.read
  -- our FIN is wanted only where nothing is left
  last : w.block.fin_wanted ≡ true → (w.block.state ≡ LastAck) × (ready_of w.block.recv ≡ 0)

new-wanted : (c : Block) → c ≡ to_listen c → c.fin_wanted ≡ false
unfolding to_listen
new-wanted c e = ap (λ (x : Block). x.fin_wanted) e

-- what leaves is what was taken
joined : (w : Whole) (c : Block) → is_listen c.state ≡ false → all_offered w ≡ w.read
    → take (c.acked - w.block.acked) w.block.out ++ c.out ≡ w.block.out ++ next_bytes (c.recv.taken - w.block.recv.taken) w.block.recv
    → all_offered (follows w c) ≡ (follows w c).read
joined w c o h l =
    let b = w.block in
    let gone = take (c.acked - b.acked) b.out in
    let more = next_bytes (c.recv.taken - b.recv.taken) b.recv in
    let whole : (w.confirmed ++ gone) ++ c.out ≡ w.read ++ more =
    append_assoc w.confirmed gone c.out
    ∙ (ap (λ (xs : List ℕ). w.confirmed ++ xs) l ∙ (sym (append_assoc w.confirmed b.out more) ∙ ap (λ (xs : List ℕ). xs ++ more) h)) in
    join-open (is_listen c.state) (w.confirmed ++ gone) (w.read ++ more) c.out o whole

given-moved : (w : Whole) (c : Block) → IsGiven w → Moved w.block c → Quiet w.block c → IsGiven (follows w c)
given-moved w c h (moves m) q =
    let b = w.block in
    let k = m.keeps in
    let t = k.taken in
    let n = c.acked - b.acked in
    record {
      same = joined w c m.opened h.same
          (ap (λ (xs : List ℕ). take n b.out ++ xs) k.out
          ∙ (take-append-drop n b.out
          ∙ (sym (append-nil b.out) ∙ ap (λ (xs : List ℕ). b.out ++ xs) (sym (no-bytes (c.recv.taken - b.recv.taken) b.recv (omega (arith, t)))))));
      last = λ f. rests (h.last (q.asked f));
    }
  where
    rests : (w.block.state ≡ LastAck) × (ready_of w.block.recv ≡ 0) → (c.state ≡ LastAck) × (ready_of c.recv ≡ 0)
    rests l =
        elim (q.last l.0) [
          | inl e ↦ absurd (false≢true (sym m.opened ∙ e))
          | inr e ↦ (e.0, e.1 ∙ l.1)
        ]
given-moved w c h (as_new e v) q = record {
  same = join-new (is_listen c.state) _ _ c.out e (new-out c (v.new e));
  last = λ f. absurd (false≢true (sym (new-wanted c (v.new e)) ∙ f));
}

-- the pump

zero-left : (q : Recv) → next_of (without 0 q) ≡ next_of q → ready_of (without 0 q) ≡ ready_of q
unfolding ready_of without
zero-left q n = omega (arith, n)

none-ready : (q : Recv) → ready_of q ≡ 0 → ready_of (without (ready_of q) q) ≡ 0
none-ready q e = ap (λ (n : ℕ). ready_of (without n q)) e ∙ (zero-left q (next_without 0 q (omega arith)) ∙ e)

thrown : (b : Block) → ready_of b.recv ≡ 0 → Echoed b (throws (ready_of b.recv) b)
unfolding without
thrown b e = record {
  acked = refl;
  wanted = refl;
  out = sym (append-nil b.out) ∙ ap (λ (xs : List ℕ). b.out ++ xs) (sym (no-bytes (b.recv.taken + ready_of b.recv - b.recv.taken) b.recv (omega (arith, e))));
}

-- what leaves a block at the pump, and what is left then
record Took (b d : Block) : Type 0 where
  acked : d.acked ≡ b.acked
  out : d.out ≡ b.out ++ next_bytes (d.recv.taken - b.recv.taken) b.recv
  rest : d.fin_wanted ≡ true → (d.state ≡ LastAck) × (ready_of d.recv ≡ 0)

zero-is : (n : ℕ) → (n == 0) ≡ true → n ≡ 0
zero-is n e =
    elim (eqb_tells n 0) [
      | inl d ↦ d.1
      | inr d ↦ absurd (false≢true (sym d.0 ∙ e))
    ]

-- where all came back, our FIN is wanted
ends-took : (t : Bool) (b x : Block) → Echoed b x → (t ≡ true → ready_of x.recv ≡ 0) → (x.fin_wanted ≡ true → (x.state ≡ LastAck) × (ready_of x.recv ≡ 0)) → Took b (cond t (wants_fin LastAck x) x)
ends-took true b x h z l = record { acked = h.acked; out = h.out; rest = λ e. (refl, z refl) }
ends-took false b x h z l = record { acked = h.acked; out = h.out; rest = l }

ending : (b x : Block) → Echoed b x → (x.fin_wanted ≡ true → (x.state ≡ LastAck) × (ready_of x.recv ≡ 0)) → Took b (ends x)
ending b x h l =
    ends-took (is_close_wait x.state && ((ready_of x.recv == 0) && not x.fin_wanted)) b x h
    (λ e. zero-is (ready_of x.recv) (both (ready_of x.recv == 0) (not x.fin_wanted) (both (is_close_wait x.state) ((ready_of x.recv == 0) && not x.fin_wanted) e).1).0) l

pump-took : (b : Block) → (b.fin_wanted ≡ true → (b.state ≡ LastAck) × (ready_of b.recv ≡ 0)) → Took b (pump Echo b)
unfolding pump
pump-took b l = chosen b.fin_wanted refl
  where
    chosen : (t : Bool) → b.fin_wanted ≡ t → Took b (ends (moves_text t b))
    chosen true e = let r = l e in ending b (throws (ready_of b.recv) b) (thrown b r.1) (λ f. (r.0, none-ready b.recv r.1))
    chosen false e = let h = echoed-in b.state b in ending b (echoes_in b.state b) h (λ f. absurd (false≢true (sym (h.wanted ∙ e) ∙ f)))

given-pumped : (w : Whole) → is_listen w.block.state ≡ false → IsValid w.block → IsGiven w → IsGiven (follows w (pump Echo w.block))
given-pumped w o v h =
    let d = pump Echo w.block in
    let k = pump-took w.block h.last in
    let a = k.acked in
    record {
      same = joined w d (service-pumps Echo w.block o v).opened h.same (nothing-gone (d.acked - w.block.acked) w.block.out d.out (omega (arith, a)) ∙ k.out);
      last = k.rest;
    }

given-followed : (w : Whole) (v : Verdict) → IsGiven w → Says w.block v → Quiet w.block (left_by v) → IsGiven (whole_followed (pump Echo) w v)
given-followed w (over c) h s q = given-moved w c h s q
given-followed w (on c) h s q = given-moved w c h (moves s) q
given-followed w (go c) h s q =
    let v = moves-valid w.block c s in
    let d = pump Echo c in
    let w1 = follows w c in
    let w2 = follows w1 d in
    given-moved w2 (output d) (given-pumped w1 s.opened v (given-moved w c h (moves s) q)) (output-moved d (pumps-valid c d v (service-pumps Echo c s.opened v))) (output-quiet d)

given-asked : (c : Call) (w : Whole) → IsEntry (asks c) → IsNoClose (asks c) → IsValid w.block → IsGiven w → IsGiven (whole_enters (pump Echo) (asks c) w)
unfolding tcp_call
given-asked call.Status w i n v h = given-moved w w.block h (call-moved call.Status w.block i v) (own w.block)
given-asked (call.Buffer m) w i n v h = given-moved w (with_buffer w.block.state m w.block) h (call-moved (call.Buffer m) w.block i v) (buffer-quiet w.block.state m w.block refl)
given-asked call.Close w i n v h = absurd n

given-enters : (e : Entry) (w : Whole) → IsEntry e → IsNoClose e → IsValid w.block → IsGiven w → IsGiven (whole_enters (pump Echo) e w)
given-enters (segment now iss s text) w i n v h =
    given-followed w (tcp_segment now iss s text w.block) h (clock-says now w.block (tcp_segment now iss s text w.block) (segment-says now iss s text w.block v)) (segment-quiet now iss s text w.block)
given-enters (time to) w i n v h = given-moved w (tcp_time to w.block) h (time-moved to w.block v) (time-quiet to w.block)
given-enters (asks c) w i n v h = given-asked c w i n v h

given-serves : (es : List Entry) (w : Whole) → AreEntries es → HasNoClose es → IsValid w.block → IsGiven w → IsGiven (whole_serves (pump Echo) es w)
given-serves [] w i n v h = h
given-serves (e ∷ es) w i n v h =
    given-serves es (whole_enters (pump Echo) e w) i.1 n.1 (subst (λ (b : Block). IsValid b) (sym (enters-block (pump Echo) e w)) (enters-valid (pump Echo) (service-pumps Echo) e w.block i.0 v)) (given-enters e w i.0 n.0 v h)

pub gives-back-all : (es : List Entry) → AreEntries es → HasNoClose es → all_offered (whole_serves (pump Echo) es whole_new) ≡ (whole_serves (pump Echo) es whole_new).read
unfolding new_block
gives-back-all es i n = (given-serves es whole_new i n new-valid (record { same = refl; last = λ f. absurd (false≢true f) })).same
