-- Every step takes a valid block to a valid one. Beside it: where the block isn't in LISTEN then, no byte was taken, and what was acknowledged was offered.
use Rattle.std.proofs.Common.{◌⊎◌, inl, inr, ◌≡◌, ℕ, ◌+◌, ◌-◌, ◌^◌, ◌<◌, ◌≤◌, List, [], ◌∷◌, ◌++◌, Option, None, Some, Bool, true, false, cond, not, ◌==◌, ◌&&◌, ◌||◌, length, drop, take, min, max, refl, sym, ap, ◌∙◌, subst, arith, length-drop, length-take}
use Rattle.std.specs.Prelude.{suc, zero, All, nat_lt, nat_le}
use Rattle.std.proofs.lemmas.Bool.{false≢true, leb-true}
use Rattle.std.proofs.lemmas.Option.{none-some}
use Rattle.std.proofs.lemmas.List.{drop-drop}
use Rattle.std.proofs.lemmas.List.Elements.{All-append, All-cons}
use Rattle.segment_codec.specs.declared.packet.Seg.{Seg}
use Rattle.segment_codec.specs.declared.packet.Reply.{Reply}
use Rattle.byte_queues.specs.ReceiveQueue.{Recv, empty_recv, front, up_to, next_of, placed, with_end, with_cap, is_ended, ready_of, without}
use Rattle.sq_base.specs.SerialOrder.{dist}
use Rattle.tcb_machine.specs.States.{is_listen}
use Rattle.tcb_machine.specs.BlockState.{Block, IsOurs, rst_of, syn_ack_of, segment_of, to_listen, new_block, has, in_flight, rcv_nxt, snd_nxt, snd_end, unsent, sends_ack, sends, listening, offered}
use Rattle.segment_codec.specs.ControlBits.{ack, fin, rst, syn}
use Rattle.tcb_machine.specs.Agreed.{send_mss, space_of, taken_from}
use Rattle.tcb_machine.specs.declared.agreed.Agreed.{Agreed}
use Rattle.tcb_machine.specs.TcpStep.{sends_syn_ack, waits, ahead, Verdict, over, go, on, and_then, opened, listen, is_acceptable, is_time_wait, refused, check_sequence, check_reset, syn_again, check_syn, ack_kind, is_before, with_window, takes_window, takes_ack, in_time_wait, after_ack, is_fin_acked, acknowledged, established, ack_in, check_ack, consumes, closes, is_none, is_end_kept, keeps_end, takes_fin, takes_text, check_text, repeated, first_checks, arrives, in_state, tcp_segment}
use Rattle.tcb_machine.specs.Output.{sends_text, sends_pieces, pieces, sendable, outputs_text, outputs_fin, outputs_ack, outputs_deadline, starts, is_sending, output}
use Rattle.tcb_machine.specs.Timers.{Firing, time_wait, retransmission, gives_up, until, timers, retransmissions_from, backed_off, firings, sends_again, retransmits, fires, fires_all, tcp_time}
use Rattle.tcb_machine.specs.CallAnswers.{tcp_call, with_buffer, close_in, wants_fin}
use Rattle.tcb_machine.specs.declared.kinds.Call.{Call}
use Rattle.tcb_machine.specs.declared.kinds.Call.TheVariants as call
use Rattle.tcb_machine.proofs.KeepLemmas.{rest-same, resent-same}
use Rattle.tcb_machine.proofs.PieceLemmas.{unsent-length}
use Rattle.tcb_machine.specs.Validity.{IsReceiving, IsSending, IsTimed, IsValid, IsAskable, left_by}
use Rattle.tcb_machine.specs.declared.kinds.State.{State}
use Rattle.tcb_machine.specs.declared.kinds.State.TheVariants.{Listen, SynReceived, Established, FinWait1, FinWait2, CloseWait, Closing, LastAck, TimeWait}
use Rattle.tcb_machine.specs.declared.kinds.AckKind.{AckKind}
use Rattle.tcb_machine.specs.declared.kinds.AckKind.TheVariants.{Fresh, Equal, Old, Beyond}
use Rattle.tcb_machine.proofs.QueueLemmas.{next_near, placed_taken, placed_edge, placed_cap, placed_below, placed_read, without_below, without_read}
use Rattle.tcb_machine.specs.Limits.{most_mss, most_retransmissions, plain_space, whole_space}
use Rattle.tcb_machine.proofs.SteadyLemmas.{end-taken}

none-gone : (n : ℕ) (xs : List ℕ) → xs ≡ drop (n - n) xs
none-gone n xs = let e : 0 ≡ n - n = omega arith in ap (λ (k : ℕ). drop k xs) e

-- from one block to a valid one, by a step that takes no text
pub record Keeps (b c : Block) : Type 0 where
  pub recv : IsReceiving c.want c.recv
  pub send : IsSending c.acked c.sent c.out
  pub mss : c.agreed.mss ≤ most_mss
  pub ours : All IsOurs c.replies
  pub taken : c.recv.taken ≡ b.recv.taken
  pub from : b.acked ≤ c.acked
  pub offered : c.acked + length c.out ≤ b.acked + length b.out
  pub out : c.out ≡ drop (c.acked - b.acked) b.out
  pub wanted : c.fin_wanted ≡ false → b.fin_wanted ≡ false
  pub timed : IsTimed c.state c.time_wait_at c.retransmit_at

-- outside LISTEN
pub record Moves (b c : Block) : Type 0 where
  pub opened : is_listen c.state ≡ false
  pub keeps : Keeps b c

-- or into it
pub data Moved (b c : Block) : Type 0 where
  moves : Moves b c → Moved b c
  as_new : is_listen c.state ≡ true → IsValid c → Moved b c

pub not-listen : (st : State) (b : Block) → is_listen st ≡ false → is_listen st ≡ true → b ≡ to_listen b
not-listen st b e f = absurd (false≢true (sym e ∙ f))

-- a queue from which so many bytes that are ready leave
pub without-receiving : (want n : ℕ) (q : Recv) → n ≤ ready_of q → IsReceiving want q → IsReceiving want (without n q)
unfolding without
without-receiving want n q w r =
    let c = r.cap in
    let s = r.space in
    record { asked = r.asked; cap = c; space = omega (arith, c, s); below = without_below n q r.below; read = without_read n q w r.read }

pub moves-valid : (b c : Block) → Moves b c → IsValid c
moves-valid b c m = let k = m.keeps in record { recv = k.recv; send = k.send; mss = k.mss; timed = k.timed; ours = k.ours; new = not-listen c.state c m.opened }

pub moved-valid : (b c : Block) → Moved b c → IsValid c
moved-valid b c (moves m) = moves-valid b c m
moved-valid b c (as_new e v) = v

pub valid-keeps : (b : Block) → IsValid b → Keeps b b
valid-keeps b v = record { recv = v.recv; send = v.send; mss = v.mss; ours = v.ours; taken = refl; from = omega arith; offered = omega arith; out = none-gone b.acked b.out; wanted = λ e. e; timed = v.timed }

-- as new

empty-receiving : (want n : ℕ) → want ≤ whole_space → n ≤ whole_space → IsReceiving want (empty_recv n)
unfolding next_of
empty-receiving want n h w = record { asked = h; cap = w; space = omega (arith, w); below = omega arith; read = omega arith }

pub listen-valid : (want retransmissions clock : ℕ) (replies : List Reply) → want ≤ whole_space → All IsOurs replies → IsValid (listening want retransmissions clock replies)
unfolding to_listen
listen-valid want retransmissions clock replies h r =
    record { recv = empty-receiving want want h h; send = record { acked_sent = omega arith; sent_out = omega arith }; mss = omega arith; timed = record { elsewhere = λ e. refl; there = λ e. refl }; ours = r; new = λ e. refl }

pub listened : (c : Block) → c.want ≤ whole_space → All IsOurs c.replies → IsValid (to_listen c)
unfolding to_listen
listened c h r = listen-valid c.want c.retransmissions c.clock c.replies h r

goes-to-listen : (b c : Block) → Keeps b c → Moved b (to_listen c)
unfolding to_listen
goes-to-listen b c k = as_new refl (listen-valid c.want c.retransmissions c.clock c.replies k.recv.asked k.ours)

-- what is sent

none-ours : All IsOurs []
none-ours k d h = absurd (omega (arith, h))

pub ours-more : (rs : List Reply) (r : Reply) → All IsOurs rs → IsOurs r → All IsOurs (rs ++ r ∷ [])
ours-more rs r h o = All-append IsOurs rs (r ∷ []) h (All-cons IsOurs r [] o none-ours)

pub new-valid : IsValid new_block
unfolding new_block
new-valid = listen-valid whole_space 0 0 [] (omega arith) none-ours

pub segment-ours : (flags seq : ℕ) (text : List ℕ) (c : Block) → flags < 64 → length text ≤ most_mss → IsOurs (segment_of flags seq text c)
unfolding segment_of
segment-ours flags seq text c f t = record { text = t; flags = f; options = inl refl }

pub ack-ours : (c : Block) → IsOurs (segment_of ack (snd_nxt c) [] c)
ack-ours c = segment-ours ack (snd_nxt c) [] c (omega arith) (omega arith)

reset-ours : (s : Seg) (c : Block) → IsOurs (rst_of s c)
unfolding rst_of
reset-ours s c = record { text = omega arith; flags = omega arith; options = inl refl }

pub syn-ours : (c : Block) → IsOurs (syn_ack_of c)
unfolding syn_ack_of
syn-ours c = record { text = omega arith; flags = omega arith; options = inr (c.agreed, refl) }

pub sent-keeps : (r : Reply) (b c : Block) → IsOurs r → Keeps b c → Keeps b (sends r c)
sent-keeps r b c o k = record { recv = k.recv; send = k.send; mss = k.mss; ours = ours-more c.replies r k.ours o; taken = k.taken; from = k.from; offered = k.offered; out = k.out; wanted = k.wanted; timed = k.timed }

sent-moves : (r : Reply) (b c : Block) → IsOurs r → Moves b c → Moves b (sends r c)
sent-moves r b c o m = record { opened = m.opened; keeps = sent-keeps r b c o m.keeps }

acks : (b c : Block) → Moves b c → Moved b (sends_ack c)
acks b c m = moves (sent-moves (segment_of ack (snd_nxt c) [] c) b c (ack-ours c) m)

-- verdicts

abbrev pub Says : Block → Verdict → Type 0
Says b (over c) = Moved b c
Says b (go c) = Moves b c
Says b (on c) = Moves b c

says-cond : (t : Bool) (b : Block) (v w : Verdict) → Says b v → Says b w → Says b (cond t v w)
says-cond true b v w p q = p
says-cond false b v w p q = q

says-if : (t : Bool) (b : Block) (v w : Verdict) → (t ≡ true → Says b v) → Says b w → Says b (cond t v w)
says-if true b v w p q = p refl
says-if false b v w p q = q

both-left : (x y : Bool) → (x && y) ≡ true → x ≡ true
both-left true y e = refl
both-left false y e = absurd (false≢true e)

says-then : (b : Block) (v : Verdict) (f : Block → Verdict) → Says b v → ((c : Block) → Moves b c → Says b (f c)) → Says b (and_then v f)
says-then b (over c) f h g = h
says-then b (go c) f h g = h
says-then b (on c) f h g = g c h

-- LISTEN

sends-new : (r : Reply) (b : Block) → b ≡ to_listen b → sends r b ≡ to_listen (sends r b)
unfolding to_listen
sends-new r b e = ap (sends r) e

sends-valid : (r : Reply) (b : Block) → IsOurs r → IsValid b → IsValid (sends r b)
sends-valid r b o v = record { recv = v.recv; send = v.send; mss = v.mss; timed = v.timed; ours = ours-more b.replies r v.ours o; new = λ e. sends-new r b (v.new e) }

pub new-taken : (b : Block) → b ≡ to_listen b → b.recv.taken ≡ 0
unfolding to_listen
new-taken b e = ap (λ (x : Block). x.recv.taken) e

pub new-out : (b : Block) → b ≡ to_listen b → b.out ≡ []
unfolding to_listen
new-out b e = ap (λ (x : Block). x.out) e

pub new-acked : (b : Block) → b ≡ to_listen b → b.acked ≡ 0
unfolding to_listen
new-acked b e = ap (λ (x : Block). x.acked) e

space-within : (a : Agreed) (want : ℕ) → want ≤ whole_space → space_of a want ≤ whole_space
space-within a want h = by a.scaled
  where
    by : (t : Bool) → cond t want (min want plain_space) ≤ whole_space
    by true = h
    by false = omega (arith, h)

mss-most : (o : Option ℕ) → send_mss o ≤ most_mss
mss-most None = omega arith
mss-most (Some n) = omega arith

opens : (s : Seg) (iss : ℕ) (b : Block) → b.recv.taken ≡ 0 → b.time_wait_at ≡ None → IsValid b → Moves b (opened s iss b)
unfolding opened
opens s iss b z w v =
    let h = v.recv.asked in
    let space = space_of (taken_from s.options) b.want in
    record { opened = refl; keeps = record { recv = empty-receiving b.want space h (space-within (taken_from s.options) b.want h); send = v.send; mss = mss-most s.options.mss; ours = v.ours; taken = sym z; from = omega arith; offered = omega arith; out = none-gone b.acked b.out; wanted = λ e. e; timed = record { elsewhere = λ e. w; there = λ e. absurd (false≢true e) } } }

listen-elsewhere : (st : State) → is_listen st ≡ true → is_time_wait st ≡ false
listen-elsewhere Listen e = refl
listen-elsewhere SynReceived e = refl
listen-elsewhere Established e = refl
listen-elsewhere FinWait1 e = refl
listen-elsewhere FinWait2 e = refl
listen-elsewhere CloseWait e = refl
listen-elsewhere Closing e = refl
listen-elsewhere LastAck e = refl
listen-elsewhere TimeWait e = absurd (false≢true e)

listens : (s : Seg) (iss : ℕ) (b : Block) → is_listen b.state ≡ true → IsValid b → Says b (listen s iss b)
unfolding listen
listens s iss b e v =
    let quiet : Says b (over b) = as_new e v in
    let open_one = opens s iss b (new-taken b (v.new e)) (v.timed.elsewhere (listen-elsewhere b.state e)) v in
    says-cond (has s.flags rst) b (over b) _ quiet
    (says-cond (has s.flags ack) b (over (sends (rst_of s b) b)) _ (as_new e (sends-valid (rst_of s b) b (reset-ours s b) v))
    (says-cond (has s.flags syn) b (over (sends_syn_ack (opened s iss b))) (over b)
    (moves (sent-moves (syn_ack_of (opened s iss b)) b (opened s iss b) (syn-ours (opened s iss b)) open_one)) quiet))

-- the other states

refuses : (s : Seg) (b c : Block) → Moves b c → Says b (refused s c)
unfolding refused
refuses s b c m =
    says-cond (has s.flags rst) b (over c) _ (moves m)
    (says-if (is_time_wait c.state && has s.flags fin) b (over (waits (sends_ack c))) (over (sends_ack c)) (λ e. moves (later (sends_ack c) (both-left (is_time_wait c.state) (has s.flags fin) e) (sent-moves (segment_of ack (snd_nxt c) [] c) b c (ack-ours c) m))) (acks b c m))
  where
    later : (d : Block) → is_time_wait d.state ≡ true → Moves b d → Moves b (waits d)
    later d e n = let k = n.keeps in record { opened = n.opened; keeps = record { recv = k.recv; send = k.send; mss = k.mss; ours = k.ours; taken = k.taken; from = k.from; offered = k.offered; out = k.out; wanted = k.wanted; timed = record { elsewhere = λ f. absurd (false≢true (sym f ∙ e)); there = k.timed.there } } }

sequences : (s : Seg) (text : List ℕ) (b c : Block) → Moves b c → Says b (check_sequence s text c)
unfolding check_sequence
sequences s text b c m = says-cond (is_acceptable s text c) b (on c) (refused s c) m (refuses s b c m)

resets : (s : Seg) (b c : Block) → Moves b c → Says b (check_reset s c)
unfolding check_reset
resets s b c m =
    says-cond (not (has s.flags rst)) b (on c) _ m
    (says-cond (s.seq == rcv_nxt c) b (over (to_listen c)) (over (sends_ack c)) (goes-to-listen b c m.keeps) (acks b c m))

again : (st : State) (b c : Block) → Moves b c → Says b (syn_again st c)
again SynReceived b c m = goes-to-listen b c m.keeps
again Listen b c m = acks b c m
again Established b c m = acks b c m
again FinWait1 b c m = acks b c m
again FinWait2 b c m = acks b c m
again CloseWait b c m = acks b c m
again Closing b c m = acks b c m
again LastAck b c m = acks b c m
again TimeWait b c m = acks b c m

syns : (s : Seg) (b c : Block) → Moves b c → Says b (check_syn s c)
unfolding check_syn
syns s b c m = says-cond (has s.flags syn) b (syn_again c.state c) (on c) (again c.state b c m) m

moves-cond : (t : Bool) (b x y : Block) → Moves b x → Moves b y → Moves b (cond t x y)
moves-cond true b x y p q = p
moves-cond false b x y p q = q

windows : (s : Seg) (b c : Block) → Moves b c → Moves b (with_window s c)
windows s b c m = let k = m.keeps in record { opened = m.opened; keeps = record { recv = k.recv; send = k.send; mss = k.mss; ours = k.ours; taken = k.taken; from = k.from; offered = k.offered; out = k.out; wanted = k.wanted; timed = k.timed } }

takes-window : (s : Seg) (b c : Block) → Moves b c → Moves b (takes_window s c)
unfolding takes_window
takes-window s b c m = moves-cond (is_before c.wl1 s.seq || ((c.wl1 == s.seq) && not (is_before s.ack c.wl2))) b (with_window s c) c (windows s b c m) m

takes-ack : (s : Seg) (b c : Block) → Moves b c → Moves b (takes_ack s c)
unfolding takes_ack
takes-ack s b c m =
    let k = m.keeps in
    let n = min (in_flight c) (dist c.una s.ack) in
    let l = length-drop n c.out in
    let o = k.offered in
    let f = k.from in
    let a = k.send.acked_sent in
    let w = k.send.sent_out in
    record {
      opened = m.opened;
      keeps = record {
        recv = k.recv;
        send = record { acked_sent = omega (arith, a); sent_out = omega (arith, l, a, w) };
        mss = k.mss;
        ours = k.ours;
        taken = k.taken;
        from = omega (arith, f);
        offered = omega (arith, l, o, a, w);
        out = ap (drop n) k.out ∙ (drop-drop n (c.acked - b.acked) b.out ∙ ap (λ (i : ℕ). drop i b.out) (omega (arith, f)));
        wanted = k.wanted;
        timed = record { elsewhere = k.timed.elsewhere; there = λ e. refl };
      };
    }

waits-on : (b c : Block) → Moves b c → Moves b (in_time_wait c)
unfolding in_time_wait
waits-on b c m = let k = m.keeps in record { opened = refl; keeps = record { recv = k.recv; send = k.send; mss = k.mss; ours = k.ours; taken = k.taken; from = k.from; offered = k.offered; out = k.out; wanted = k.wanted; timed = record { elsewhere = λ e. absurd (false≢true (sym e)); there = λ e. refl } } }

becomes : (st : State) (b c : Block) → is_listen st ≡ false → is_time_wait st ≡ false → is_time_wait c.state ≡ false → Moves b c → Moves b (record c { state = st })
becomes st b c e w from m =
    let k = m.keeps in
    record { opened = e; keeps = record { recv = k.recv; send = k.send; mss = k.mss; ours = k.ours; taken = k.taken; from = k.from; offered = k.offered; out = k.out; wanted = k.wanted; timed = record { elsewhere = λ f. k.timed.elsewhere from; there = λ f. absurd (false≢true (sym w ∙ f)) } } }

after-ack : (st : State) (t : Bool) (b c : Block) → c.state ≡ st → Moves b c → Says b (after_ack st t c)
after-ack Established t b c e m = m
after-ack FinWait1 true b c e m = becomes FinWait2 b c refl refl (ap is_time_wait e) m
after-ack FinWait1 false b c e m = m
after-ack FinWait2 t b c e m = m
after-ack CloseWait t b c e m = m
after-ack Closing true b c e m = waits-on b c m
after-ack Closing false b c e m = m
after-ack LastAck true b c e m = goes-to-listen b c m.keeps
after-ack LastAck false b c e m = m
after-ack Listen t b c e m = moves m
after-ack SynReceived t b c e m = moves m
after-ack TimeWait t b c e m = moves m

acknowledges : (k : AckKind) (s : Seg) (b c : Block) → Moves b c → Says b (acknowledged k s c)
unfolding acknowledged
acknowledges Fresh s b c m = let d = takes_window s (takes_ack s c) in after-ack d.state (is_fin_acked d) b d refl (takes-window s b (takes_ack s c) (takes-ack s b c m))
acknowledges Equal s b c m = let d = takes_window s c in after-ack d.state (is_fin_acked d) b d refl (takes-window s b c m)
acknowledges Old s b c m = after-ack c.state (is_fin_acked c) b c refl m
acknowledges Beyond s b c m = acks b c m

establishes : (k : AckKind) (s : Seg) (b c : Block) → is_time_wait c.state ≡ false → Moves b c → Says b (established k s c)
establishes Fresh s b c w m = acknowledges Fresh s b (record (with_window s c) { state = Established }) (becomes Established b (with_window s c) refl refl w (windows s b c m))
establishes Equal s b c w m = moves (sent-moves (rst_of s c) b c (reset-ours s c) m)
establishes Old s b c w m = moves (sent-moves (rst_of s c) b c (reset-ours s c) m)
establishes Beyond s b c w m = moves (sent-moves (rst_of s c) b c (reset-ours s c) m)

ack-in : (st : State) (k : AckKind) (s : Seg) (b c : Block) → c.state ≡ st → Moves b c → Says b (ack_in st k s c)
ack-in Listen k s b c e m = moves m
ack-in SynReceived k s b c e m = establishes k s b c (ap is_time_wait e) m
ack-in Established k s b c e m = acknowledges k s b c m
ack-in FinWait1 k s b c e m = acknowledges k s b c m
ack-in FinWait2 k s b c e m = acknowledges k s b c m
ack-in CloseWait k s b c e m = acknowledges k s b c m
ack-in Closing k s b c e m = acknowledges k s b c m
ack-in LastAck k s b c e m = acknowledges k s b c m
ack-in TimeWait k s b c e m = moves m

checks-ack : (s : Seg) (b c : Block) → Moves b c → Says b (check_ack s c)
unfolding check_ack
checks-ack s b c m = says-cond (has s.flags ack) b (ack_in c.state (ack_kind s.ack c) s c) (over c) (ack-in c.state (ack_kind s.ack c) s b c refl m) (moves m)

-- text and FIN

due : (b c : Block) → Moves b c → Moves b (record c { ack_due = true })
due b c m = let k = m.keeps in record { opened = m.opened; keeps = record { recv = k.recv; send = k.send; mss = k.mss; ours = k.ours; taken = k.taken; from = k.from; offered = k.offered; out = k.out; wanted = k.wanted; timed = k.timed } }

consumes-fin : (st : State) (b c : Block) → c.state ≡ st → Moves b c → Moves b (consumes st c)
consumes-fin Listen b c e m = m
consumes-fin SynReceived b c e m = m
consumes-fin Established b c e m = becomes CloseWait b c refl refl (ap is_time_wait e) m
consumes-fin FinWait1 b c e m = becomes Closing b c refl refl (ap is_time_wait e) m
consumes-fin FinWait2 b c e m = waits-on b c m
consumes-fin CloseWait b c e m = m
consumes-fin Closing b c e m = m
consumes-fin LastAck b c e m = m
consumes-fin TimeWait b c e m = m

closing : (b c : Block) → Moves b c → Says b (closes c)
unfolding closes
closing b c m = says-cond (is_ended c.recv) b (go (consumes c.state (record c { ack_due = true }))) (go c) (consumes-fin c.state b (record c { ack_due = true }) refl (due b c m)) m

receives : (b c : Block) (q : Recv) → Moves b c → IsReceiving c.want q → q.taken ≡ c.recv.taken → Moves b (record c { recv = q; ack_due = true })
receives b c q m r e = let k = m.keeps in record { opened = m.opened; keeps = record { recv = r; send = k.send; mss = k.mss; ours = k.ours; taken = e ∙ k.taken; from = k.from; offered = k.offered; out = k.out; wanted = k.wanted; timed = k.timed } }

up-to-most : (e : Option ℕ) (n : ℕ) → up_to e n ≤ n
up-to-most None n = omega arith
up-to-most (Some k) n = omega arith

end-receiving : (want f : ℕ) (q : Recv) → IsReceiving want q → next_of q ≤ f → IsReceiving want (with_end f q)
unfolding with_end next_of
end-receiving want f q r h =
    let a = r.read in
    let u = up-to-most q.stream_end (q.taken + front q.got) in
    record { asked = r.asked; cap = r.cap; space = r.space; below = r.below; read = omega (arith, a, h, u) }

third : (a b c : Bool) → (a && (b && c)) ≡ true → c ≡ true
third true true c e = e
third true false c e = absurd (false≢true e)
third false b c e = absurd (false≢true e)

end-kept : (want f : ℕ) (q : Recv) → IsReceiving want q → IsReceiving want (keeps_end f q)
unfolding keeps_end
end-kept want f q r = chosen (is_end_kept f q) refl
  where
    chosen : (t : Bool) → is_end_kept f q ≡ t → IsReceiving want (cond t (with_end f q) q)
    chosen true e = end-receiving want f q r (leb-true (next_of q) f (third (is_none q.stream_end) (nat_lt f q.edge) (nat_le (next_of q) f) e))
    chosen false e = r

fins : (s : Seg) (f : ℕ) (b c : Block) → Moves b c → Moves b (takes_fin s f c)
unfolding takes_fin
fins s f b c m =
    moves-cond (has s.flags fin) b (record c { recv = keeps_end f c.recv; ack_due = true }) c (receives b c (keeps_end f c.recv) m (end-kept c.want f c.recv m.keeps.recv) (end-taken f c.recv)) m

text-receiving : (want at : ℕ) (fresh : List ℕ) (q p : Recv) → placed at fresh q ≡ Some p → q.taken ≤ at → IsReceiving want q → IsReceiving want p
text-receiving want at fresh q p e h r =
    let t = placed_taken at fresh q p e in
    let g = placed_edge at fresh q p e in
    let c = placed_cap at fresh q p e in
    let s = r.space in
    let k = r.cap in
    record { asked = r.asked; cap = omega (arith, c, k); space = omega (arith, t, g, s); below = placed_below at fresh q p e h r.below; read = placed_read at fresh q p e r.read }

texts : (at : ℕ) (fresh : List ℕ) (o : Option Recv) (s : Seg) (f : ℕ) (b c : Block) → placed at fresh c.recv ≡ o → c.recv.taken ≤ at → Moves b c → Moves b (takes_text o s f c)
texts at fresh None s f b c e h m = due b c m
texts at fresh (Some q) s f b c e h m =
    fins s f b (record c { recv = q; ack_due = true }) (receives b c q m (text-receiving c.want at fresh c.recv q e h m.keeps.recv) (placed_taken at fresh c.recv q e))

checks-text : (s : Seg) (text : List ℕ) (b c : Block) → Moves b c → Says b (check_text s text c)
unfolding check_text
checks-text s text b c m =
    let at = next_of c.recv + ahead s c in
    let f = at + length text - repeated s c in
    let fresh = drop (repeated s c) text in
    let kept = takes_text (placed at fresh c.recv) s f c in
    let read = m.keeps.recv.read in
    says-cond (length text == 0) b (closes (takes_fin s f c)) (closes kept) (closing b (takes_fin s f c) (fins s f b c m))
    (closing b kept (texts at fresh (placed at fresh c.recv) s f b c refl (omega (arith, read)) m))

arriving : (s : Seg) (text : List ℕ) (b c : Block) → Moves b c → Says b (arrives s text c)
unfolding arrives first_checks
arriving s text b c m =
    let v1 = check_sequence s text c in
    let v2 = and_then v1 (check_reset s) in
    let v3 = and_then v2 (check_syn s) in
    let v4 = and_then v3 (check_ack s) in
    says-then b v4 (check_text s text)
    (says-then b v3 (check_ack s)
    (says-then b v2 (check_syn s)
    (says-then b v1 (check_reset s) (sequences s text b c m) (resets s b))
    (syns s b))
    (checks-ack s b))
    (checks-text s text b)

own : (b : Block) → is_listen b.state ≡ false → IsValid b → Moves b b
own b e v = record { opened = e; keeps = valid-keeps b v }

in-its-state : (st : State) (s : Seg) (iss : ℕ) (text : List ℕ) (b : Block) → b.state ≡ st → IsValid b → Says b (in_state st s iss text b)
in-its-state Listen s iss text b e v = listens s iss b (ap is_listen e) v
in-its-state SynReceived s iss text b e v = arriving s text b b (own b (ap is_listen e) v)
in-its-state Established s iss text b e v = arriving s text b b (own b (ap is_listen e) v)
in-its-state FinWait1 s iss text b e v = arriving s text b b (own b (ap is_listen e) v)
in-its-state FinWait2 s iss text b e v = arriving s text b b (own b (ap is_listen e) v)
in-its-state CloseWait s iss text b e v = arriving s text b b (own b (ap is_listen e) v)
in-its-state Closing s iss text b e v = arriving s text b b (own b (ap is_listen e) v)
in-its-state LastAck s iss text b e v = arriving s text b b (own b (ap is_listen e) v)
in-its-state TimeWait s iss text b e v = arriving s text b b (own b (ap is_listen e) v)

clock-new : (n : ℕ) (b : Block) → b ≡ to_listen b → record b { clock = n } ≡ to_listen (record b { clock = n })
unfolding to_listen
clock-new n b e = ap (λ (x : Block). record x { clock = n }) e

pub clock-valid : (n : ℕ) (b : Block) → IsValid b → IsValid (record b { clock = n })
clock-valid n b v = record { recv = v.recv; send = v.send; mss = v.mss; timed = v.timed; ours = v.ours; new = λ e. clock-new n b (v.new e) }

-- from the block with its clock set
pub segment-says : (now iss : ℕ) (s : Seg) (text : List ℕ) (b : Block) → IsValid b → Says (record b { clock = now }) (tcp_segment now iss s text b)
unfolding tcp_segment
segment-says now iss s text b v = in-its-state b.state s iss text (record b { clock = now }) refl (clock-valid now b v)

says-valid : (b : Block) (v : Verdict) → Says b v → IsValid (left_by v)
says-valid b (over c) h = moved-valid b c h
says-valid b (go c) h = moves-valid b c h
says-valid b (on c) h = moves-valid b c h

pub segment-valid : (now iss : ℕ) (s : Seg) (text : List ℕ) (b : Block) → IsValid b → IsValid (left_by (tcp_segment now iss s text b))
segment-valid now iss s text b v = says-valid (record b { clock = now }) (tcp_segment now iss s text b) (segment-says now iss s text b v)

pub says-moved : (b : Block) (v : Verdict) → Says b v → Moved b (left_by v)
says-moved b (over c) h = h
says-moved b (go c) h = moves h
says-moved b (on c) h = moves h

-- output

unfoldable pub total : List (List ℕ) → ℕ
total [] = 0
total (t ∷ ts) = length t + total ts

AreSmall : List (List ℕ) → Type 0
AreSmall [] = Unit {0}
AreSmall (t ∷ ts) = (length t ≤ most_mss) × AreSmall ts

total-cond : (x : Bool) (p : List ℕ) (ps : List (List ℕ)) (n : ℕ) → length p + total ps ≤ n → total (cond x [] (p ∷ ps)) ≤ n
unfolding total
total-cond true p ps n h = omega arith
total-cond false p ps n h = h

pub pieces-total : (k n : ℕ) (t : List ℕ) → total (pieces k n t) ≤ length t
unfolding total
pieces-total zero n t = omega arith
pieces-total (suc k) n t =
    let r = pieces-total k n (drop n t) in
    let l = length-take n t in
    let d = length-drop n t in
    total-cond (length t == 0) (take n t) (pieces k n (drop n t)) (length t) (omega (arith, r, l, d))

small-cond : (x : Bool) (p : List ℕ) (ps : List (List ℕ)) → length p ≤ most_mss → AreSmall ps → AreSmall (cond x [] (p ∷ ps))
unfolding AreSmall
small-cond true p ps h w = tt
small-cond false p ps h w = (h, w)

pieces-small : (k n : ℕ) (t : List ℕ) → n ≤ most_mss → AreSmall (pieces k n t)
unfolding AreSmall
pieces-small zero n t h = tt
pieces-small (suc k) n t h =
    let l = length-take n t in
    small-cond (length t == 0) (take n t) (pieces k n (drop n t)) (omega (arith, l, h)) (pieces-small k n (drop n t) h)

sends-text : (flags : ℕ) (text : List ℕ) (b c : Block) → flags < 64 → length text ≤ most_mss → c.sent + length text ≤ c.acked + length c.out → Moves b c → Moves b (sends_text flags text c)
unfolding sends_text
sends-text flags text b c f t w m =
    let k = (sent-moves (segment_of flags (snd_nxt c) text c) b c (segment-ours flags (snd_nxt c) text c f t) m).keeps in
    let a = k.send.acked_sent in
    record { opened = m.opened; keeps = record { recv = k.recv; send = record { acked_sent = omega (arith, a); sent_out = w }; mss = k.mss; ours = k.ours; taken = k.taken; from = k.from; offered = k.offered; out = k.out; wanted = k.wanted; timed = k.timed } }

sends-pieces : (ps : List (List ℕ)) (b c : Block) → AreSmall ps → c.sent + total ps ≤ c.acked + length c.out → Moves b c → Moves b (sends_pieces ps c)
unfolding total AreSmall sends_text
sends-pieces [] b c s w m = m
sends-pieces (t ∷ []) b c s w m = sends-text 24 t b c (omega arith) s.0 (omega (arith, w)) m
sends-pieces (t ∷ u ∷ ts) b c s w m = sends-pieces (u ∷ ts) b (sends_text 16 t c) s.1 (omega (arith, w)) (sends-text 16 t b c (omega arith) s.0 (omega (arith, w)) m)

outputs-text : (b c : Block) → Moves b c → Moves b (outputs_text c)
unfolding outputs_text sendable
outputs-text b c m =
    let t = sendable c in
    let l = length-take (c.wnd - dist c.una (snd_nxt c)) (unsent c) in
    let u = unsent-length c in
    let p = pieces-total (length t) c.agreed.mss t in
    let a = m.keeps.send.acked_sent in
    let w = m.keeps.send.sent_out in
    sends-pieces (pieces (length t) c.agreed.mss t) b c (pieces-small (length t) c.agreed.mss t m.keeps.mss) (omega (arith, l, u, p, a, w)) m

outputs-fin : (b c : Block) → Moves b c → Moves b (outputs_fin c)
unfolding outputs_fin
outputs-fin b c m =
    let r = segment_of 17 (snd_nxt c) [] c in
    moves-cond (c.fin_wanted && (not c.fin_sent && (length (unsent c) == 0))) b (record (sends r c) { fin_sent = true }) c (finished (sends r c) (sent-moves r b c (segment-ours 17 (snd_nxt c) [] c (omega arith) (omega arith)) m)) m
  where
    finished : (d : Block) → Moves b d → Moves b (record d { fin_sent = true })
    finished d n = let k = n.keeps in record { opened = n.opened; keeps = record { recv = k.recv; send = k.send; mss = k.mss; ours = k.ours; taken = k.taken; from = k.from; offered = k.offered; out = k.out; wanted = k.wanted; timed = k.timed } }

outputs-ack : (n : ℕ) (b c : Block) → Moves b c → Moves b (outputs_ack n c)
unfolding outputs_ack
outputs-ack n b c m =
    let r = segment_of ack (snd_nxt c) [] c in
    quiet (cond (c.ack_due && (length c.replies == n)) (sends r c) c) (moves-cond (c.ack_due && (length c.replies == n)) b (sends r c) c (sent-moves r b c (ack-ours c) m) m)
  where
    quiet : (d : Block) → Moves b d → Moves b (record d { ack_due = false })
    quiet d n = let k = n.keeps in record { opened = n.opened; keeps = record { recv = k.recv; send = k.send; mss = k.mss; ours = k.ours; taken = k.taken; from = k.from; offered = k.offered; out = k.out; wanted = k.wanted; timed = k.timed } }

sets-deadline : (o : Option ℕ) (b c : Block) → is_time_wait c.state ≡ false → Moves b c → Moves b (record c { retransmit_at = o })
sets-deadline o b c w m = let k = m.keeps in record { opened = m.opened; keeps = record { recv = k.recv; send = k.send; mss = k.mss; ours = k.ours; taken = k.taken; from = k.from; offered = k.offered; out = k.out; wanted = k.wanted; timed = record { elsewhere = k.timed.elsewhere; there = λ e. absurd (false≢true (sym w ∙ e)) } } }

starting : (o : Option ℕ) (b c : Block) → is_time_wait c.state ≡ false → Moves b c → Moves b (starts o c)
starting (Some at) b c w m = m
starting None b c w m = let k = m.keeps in record { opened = m.opened; keeps = record { recv = k.recv; send = k.send; mss = k.mss; ours = k.ours; taken = k.taken; from = k.from; offered = k.offered; out = k.out; wanted = k.wanted; timed = record { elsewhere = k.timed.elsewhere; there = λ e. absurd (false≢true (sym w ∙ e)) } } }

outputs-deadline : (b c : Block) → is_time_wait c.state ≡ false → Moves b c → Moves b (outputs_deadline c)
unfolding outputs_deadline
outputs-deadline b c w m =
    moves-cond (not (c.una == snd_nxt c) || nat_lt 0 (length (unsent c))) b (starts c.retransmit_at c) (record c { retransmit_at = None }) (starting c.retransmit_at b c w m) (sets-deadline None b c w m)

output-new : (b : Block) → b ≡ to_listen b → output b ≡ to_listen b
unfolding output outputs_ack to_listen
output-new b e = ap output e

sending-elsewhere : (st : State) → is_sending st ≡ true → is_time_wait st ≡ false
sending-elsewhere Listen e = refl
sending-elsewhere SynReceived e = refl
sending-elsewhere Established e = refl
sending-elsewhere FinWait1 e = refl
sending-elsewhere FinWait2 e = refl
sending-elsewhere CloseWait e = refl
sending-elsewhere Closing e = refl
sending-elsewhere LastAck e = refl
sending-elsewhere TimeWait e = absurd (false≢true e)

moves-if : (t : Bool) (b x y : Block) → (t ≡ true → Moves b x) → Moves b y → Moves b (cond t x y)
moves-if true b x y p q = p refl
moves-if false b x y p q = q

outputs-all : (b : Block) → Moves b b → Moves b (output b)
unfolding output
outputs-all b m =
    let n = length b.replies in
    let b1 = outputs_text b in
    let b2 = outputs_fin b1 in
    let b3 = outputs_ack n b2 in
    moves-if (is_sending b.state) b (outputs_deadline b3) (outputs_ack n b) (λ e. outputs-deadline b b3 (ap is_time_wait (rest-same n b).state ∙ sending-elsewhere b.state e) (outputs-ack n b b2 (outputs-fin b b1 (outputs-text b b m)))) (outputs-ack n b b m)

pub output-moved : (b : Block) → IsValid b → Moved b (output b)
output-moved b v = chosen (is_listen b.state) refl
  where
    chosen : (t : Bool) → is_listen b.state ≡ t → Moved b (output b)
    chosen true e = subst (λ (x : Block). Moved b x) (sym (output-new b (v.new e))) (goes-to-listen b b (valid-keeps b v))
    chosen false e = moves (outputs-all b (own b e v))

-- timers

sends-again : (b c : Block) → Moves b c → Moves b (sends_again c)
unfolding sends_again
sends-again b c m =
    let n = min c.agreed.mss (min (in_flight c) (max 1 c.wnd)) in
    let l = length-take n c.out in
    let s = m.keeps.mss in
    let one = length-take 1 (unsent c) in
    let u = unsent-length c in
    let a = m.keeps.send.acked_sent in
    let w = m.keeps.send.sent_out in
    let first = segment_of 24 c.una (take n c.out) c in
    let last = segment_of 17 (snd_end c) [] c in
    moves-cond (nat_lt 0 (in_flight c)) b (sends first c) _ (sent-moves first b c (segment-ours 24 c.una (take n c.out) c (omega arith) (omega (arith, l, s))) m)
    (moves-cond (c.fin_sent && not (c.una == snd_nxt c)) b (sends last c) (sends_text 24 (take 1 (unsent c)) c)
    (sent-moves last b c (segment-ours 17 (snd_end c) [] c (omega arith) (omega arith)) m)
    (sends-text 24 (take 1 (unsent c)) b c (omega arith) (omega (arith, one)) (omega (arith, one, u, a, w)) m))

retransmitting : (st : State) (b c : Block) → Moves b c → Moves b (retransmits st c)
retransmitting SynReceived b c m = sent-moves (syn_ack_of c) b c (syn-ours c) m
retransmitting Listen b c m = sends-again b c m
retransmitting Established b c m = sends-again b c m
retransmitting FinWait1 b c m = sends-again b c m
retransmitting FinWait2 b c m = sends-again b c m
retransmitting CloseWait b c m = sends-again b c m
retransmitting Closing b c m = sends-again b c m
retransmitting LastAck b c m = sends-again b c m
retransmitting TimeWait b c m = sends-again b c m

pub resent-valid : (b : Block) → is_listen b.state ≡ false → IsValid b → IsValid (retransmits b.state b)
resent-valid b e v = moves-valid b (retransmits b.state b) (retransmitting b.state b b (own b e v))

forgotten-new : (b : Block) → b ≡ to_listen b → record b { retransmissions = 0 } ≡ to_listen (record b { retransmissions = 0 })
unfolding to_listen
forgotten-new b e = ap (λ (x : Block). record x { retransmissions = 0 }) e

pub forgotten-valid : (b : Block) → IsValid b → IsValid (record b { retransmissions = 0 })
forgotten-valid b v = record { recv = v.recv; send = v.send; mss = v.mss; timed = v.timed; ours = v.ours; new = λ e. forgotten-new b (v.new e) }

at-time : (n : ℕ) (b c : Block) → Moves b c → Moves b (record c { clock = n })
at-time n b c m = let k = m.keeps in record { opened = m.opened; keeps = record { recv = k.recv; send = k.send; mss = k.mss; ours = k.ours; taken = k.taken; from = k.from; offered = k.offered; out = k.out; wanted = k.wanted; timed = k.timed } }

counted : (n rto : ℕ) (o : Option ℕ) (b c : Block) → is_time_wait c.state ≡ false → Moves b c → Moves b (record c { retransmissions = n; rto = rto; retransmit_at = o })
counted n rto o b c w m = let k = m.keeps in record { opened = m.opened; keeps = record { recv = k.recv; send = k.send; mss = k.mss; ours = k.ours; taken = k.taken; from = k.from; offered = k.offered; out = k.out; wanted = k.wanted; timed = record { elsewhere = k.timed.elsewhere; there = λ e. absurd (false≢true (sym w ∙ e)) } } }

fires-again : (at : ℕ) (b c : Block) → is_time_wait c.state ≡ false → Moves b c → Moves b (fires (retransmission at) c)
unfolding fires
fires-again at b c w m = counted (c.retransmissions + 1) (backed_off c.rto) (Some (at + backed_off c.rto)) b (retransmits c.state (record c { clock = at })) (ap is_time_wait (resent-same c.state (record c { clock = at })).state ∙ w) (retransmitting c.state b (record c { clock = at }) (at-time at b c m))

fires-cond : (t : Bool) (f : Firing) (fs : List Firing) (b c : Block) → Moves b c → Moved b (fires_all fs (fires f c)) → Moved b (fires_all (cond t (f ∷ fs) []) c)
fires-cond true f fs b c m h = h
fires-cond false f fs b c m h = moves m

all-from : (left rto at to : ℕ) (b c : Block) → is_time_wait c.state ≡ false → Moves b c → Moved b (fires_all (until to (retransmissions_from left rto at)) c)
unfolding fires
all-from zero rto at to b c w m = fires-cond (nat_le at to) (gives_up at) [] b c m (goes-to-listen b (record c { clock = at }) (at-time at b c m).keeps)
all-from (suc left) rto at to b c w m =
    fires-cond (nat_le at to) (retransmission at) (until to (retransmissions_from left (backed_off rto) (at + backed_off rto))) b c m
    (all-from left (backed_off rto) (at + backed_off rto) to b (fires (retransmission at) c) (ap is_time_wait (resent-same c.state (record c { clock = at })).state ∙ w) (fires-again at b c w m))

some-elsewhere : (b : Block) (at : ℕ) → b.retransmit_at ≡ Some at → IsTimed b.state b.time_wait_at b.retransmit_at → is_time_wait b.state ≡ false
some-elsewhere b at e i = chosen (is_time_wait b.state) refl
  where
    chosen : (t : Bool) → is_time_wait b.state ≡ t → is_time_wait b.state ≡ false
    chosen true f = absurd (none-some at (sym (i.there f) ∙ e))
    chosen false f = f

all-timers : (wait retransmit : Option ℕ) (to : ℕ) (b : Block) → b.retransmit_at ≡ retransmit → Moves b b → Moved b (fires_all (until to (timers wait retransmit b)) b)
unfolding fires
all-timers (Some at) retransmit to b e m =
    let n = max b.clock at in
    fires-cond (nat_le n to) (time_wait n) [] b b m (goes-to-listen b (record b { clock = n }) (at-time n b b m).keeps)
all-timers None None to b e m = moves m
all-timers None (Some at) to b e m = all-from (most_retransmissions - b.retransmissions) b.rto (max b.clock at) to b b (some-elsewhere b at e m.keeps.timed) m

moved-at-time : (n : ℕ) (b c : Block) → Moved b c → Moved b (record c { clock = n })
moved-at-time n b c (moves m) = moves (at-time n b c m)
moved-at-time n b c (as_new e v) = as_new e (clock-valid n c v)

time-new : (to : ℕ) (b : Block) → b ≡ to_listen b → tcp_time to b ≡ to_listen (record b { clock = to })
unfolding tcp_time firings to_listen
time-new to b e = ap (tcp_time to) e

later-keeps : (n : ℕ) (b : Block) → IsValid b → Keeps b (record b { clock = n })
later-keeps n b v = record { recv = v.recv; send = v.send; mss = v.mss; ours = v.ours; taken = refl; from = omega arith; offered = omega arith; out = none-gone b.acked b.out; wanted = λ e. e; timed = v.timed }

pub time-moved : (to : ℕ) (b : Block) → IsValid b → Moved b (tcp_time to b)
unfolding tcp_time firings
time-moved to b v = chosen (is_listen b.state) refl
  where
    chosen : (t : Bool) → is_listen b.state ≡ t → Moved b (tcp_time to b)
    chosen true e = subst (λ (x : Block). Moved b x) (sym (time-new to b (v.new e))) (goes-to-listen b (record b { clock = to }) (later-keeps to b v))
    chosen false e = moved-at-time to b (fires_all (firings to b) b) (all-timers b.time_wait_at b.retransmit_at to b refl (own b e v))

-- calls

pub stays : (b : Block) → IsValid b → Moved b b
stays b v = chosen (is_listen b.state) refl
  where
    chosen : (t : Bool) → is_listen b.state ≡ t → Moved b b
    chosen true e = as_new e v
    chosen false e = moves (own b e v)

cap-receiving : (want n : ℕ) (q : Recv) → n ≤ plain_space → IsReceiving want q → IsReceiving n (with_cap n q)
unfolding with_cap next_of
cap-receiving want n q h r =
    let s = r.space in
    let w = r.below in
    record { asked = omega (arith, h); cap = omega (arith, h); space = omega (arith, s, h); below = omega (arith, w); read = r.read }

capped : (n : ℕ) (b : Block) → is_listen b.state ≡ false → n ≤ plain_space → IsValid b → Moved b (record b { want = n; recv = with_cap n b.recv })
unfolding with_cap
capped n b e h v = moves (record { opened = e; keeps = record { recv = cap-receiving b.want n b.recv h v.recv; send = v.send; mss = v.mss; ours = v.ours; taken = refl; from = omega arith; offered = omega arith; out = none-gone b.acked b.out; wanted = λ e. e; timed = v.timed } })

asked-new : (n : ℕ) (b : Block) → b ≡ to_listen b → record b { want = n; recv = empty_recv n } ≡ to_listen (record b { want = n; recv = empty_recv n })
unfolding to_listen
asked-new n b e = ap (λ (x : Block). record x { want = n; recv = empty_recv n }) e

buffers : (st : State) (n : ℕ) (b : Block) → b.state ≡ st → n ≤ plain_space → IsValid b → Moved b (with_buffer st n b)
buffers Listen n b e h v = as_new (ap is_listen e) (record { recv = empty-receiving n n (omega (arith, h)) (omega (arith, h)); send = v.send; mss = v.mss; timed = v.timed; ours = v.ours; new = λ f. asked-new n b (v.new f) })
buffers SynReceived n b e h v = capped n b (ap is_listen e) h v
buffers Established n b e h v = capped n b (ap is_listen e) h v
buffers FinWait1 n b e h v = capped n b (ap is_listen e) h v
buffers FinWait2 n b e h v = capped n b (ap is_listen e) h v
buffers CloseWait n b e h v = capped n b (ap is_listen e) h v
buffers Closing n b e h v = capped n b (ap is_listen e) h v
buffers LastAck n b e h v = capped n b (ap is_listen e) h v
buffers TimeWait n b e h v = capped n b (ap is_listen e) h v

pub wanting : (st : State) (b : Block) → is_listen st ≡ false → is_time_wait st ≡ false → is_time_wait b.state ≡ false → IsValid b → Moves b (wants_fin st b)
wanting st b e w from v = let k = valid-keeps b v in record { opened = e; keeps = record { recv = k.recv; send = k.send; mss = k.mss; ours = k.ours; taken = k.taken; from = k.from; offered = k.offered; out = k.out; wanted = λ f. absurd (false≢true (sym f)); timed = record { elsewhere = λ f. v.timed.elsewhere from; there = λ f. absurd (false≢true (sym w ∙ f)) } } }

closes-in : (st : State) (b : Block) → b.state ≡ st → IsValid b → Says b (close_in st b).verdict
closes-in Listen b e v = stays b v
closes-in SynReceived b e v = stays b v
closes-in Established b e v = wanting FinWait1 b refl refl (ap is_time_wait e) v
closes-in CloseWait b e v = wanting LastAck b refl refl (ap is_time_wait e) v
closes-in FinWait1 b e v = stays b v
closes-in FinWait2 b e v = stays b v
closes-in Closing b e v = stays b v
closes-in LastAck b e v = stays b v
closes-in TimeWait b e v = stays b v

pub call-says : (c : Call) (b : Block) → IsAskable c → IsValid b → Says b (tcp_call c b).verdict
unfolding tcp_call
call-says call.Status b h v = stays b v
call-says (call.Buffer n) b h v = buffers b.state n b refl h v
call-says call.Close b h v = closes-in b.state b refl v

pub call-moved : (c : Call) (b : Block) → IsAskable c → IsValid b → Moved b (left_by (tcp_call c b).verdict)
call-moved c b h v = says-moved b (tcp_call c b).verdict (call-says c b h v)

-- how much comes with one step

new-next : (b : Block) → b ≡ to_listen b → next_of b.recv ≡ 0
unfolding to_listen next_of
new-next b e = ap (λ (x : Block). next_of x.recv) e

new-length : (b : Block) → b ≡ to_listen b → length b.out ≡ 0
unfolding to_listen
new-length b e = ap (λ (x : Block). length x.out) e

pub moved-next : (b c : Block) → Moved b c → b.recv.taken ≤ next_of b.recv → next_of c.recv ≤ next_of b.recv + whole_space
moved-next b c (moves m) h =
    let r = m.keeps.recv in
    let n = next_near c.recv r.below r.space in
    let t = m.keeps.taken in
    omega (arith, n, t, h)
moved-next b c (as_new e v) h = let n = new-next c (v.new e) in omega (arith, n)

pub moved-offered : (b c : Block) → Moved b c → c.acked + length c.out ≤ b.acked + length b.out
moved-offered b c (moves m) = m.keeps.offered
moved-offered b c (as_new e v) = let a = new-acked c (v.new e) in let o = new-length c (v.new e) in omega (arith, a, o)

pub segment-next : (now iss : ℕ) (s : Seg) (text : List ℕ) (b : Block) → IsValid b → next_of (left_by (tcp_segment now iss s text b)).recv < next_of b.recv + 2 ^ 21
segment-next now iss s text b v =
    let b' = record b { clock = now } in
    let n = moved-next b' (left_by (tcp_segment now iss s text b)) (says-moved b' (tcp_segment now iss s text b) (segment-says now iss s text b v)) v.recv.read in
    omega (arith, n)

pub segment-offered : (now iss : ℕ) (s : Seg) (text : List ℕ) (b : Block) → IsValid b → offered (left_by (tcp_segment now iss s text b)) ≤ offered b
unfolding offered
segment-offered now iss s text b v =
    let b' = record b { clock = now } in
    moved-offered b' (left_by (tcp_segment now iss s text b)) (says-moved b' (tcp_segment now iss s text b) (segment-says now iss s text b v))

buffer-next : (st : State) (n : ℕ) (b : Block) → next_of (with_buffer st n b).recv ≤ next_of b.recv
unfolding next_of with_cap
buffer-next Listen n b = omega arith
buffer-next SynReceived n b = omega arith
buffer-next Established n b = omega arith
buffer-next FinWait1 n b = omega arith
buffer-next FinWait2 n b = omega arith
buffer-next CloseWait n b = omega arith
buffer-next Closing n b = omega arith
buffer-next LastAck n b = omega arith
buffer-next TimeWait n b = omega arith

close-next : (st : State) (b : Block) → next_of (left_by (close_in st b).verdict).recv ≤ next_of b.recv
close-next Listen b = omega arith
close-next SynReceived b = omega arith
close-next Established b = omega arith
close-next FinWait1 b = omega arith
close-next FinWait2 b = omega arith
close-next CloseWait b = omega arith
close-next Closing b = omega arith
close-next LastAck b = omega arith
close-next TimeWait b = omega arith

pub call-next : (c : Call) (b : Block) → next_of (left_by (tcp_call c b).verdict).recv ≤ next_of b.recv
unfolding tcp_call
call-next call.Status b = omega arith
call-next (call.Buffer n) b = buffer-next b.state n b
call-next call.Close b = close-next b.state b

pub buffer-offered : (st : State) (n : ℕ) (b : Block) → offered (with_buffer st n b) ≡ offered b
unfolding offered
buffer-offered Listen n b = refl
buffer-offered SynReceived n b = refl
buffer-offered Established n b = refl
buffer-offered FinWait1 n b = refl
buffer-offered FinWait2 n b = refl
buffer-offered CloseWait n b = refl
buffer-offered Closing n b = refl
buffer-offered LastAck n b = refl
buffer-offered TimeWait n b = refl

pub close-offered : (st : State) (b : Block) → offered (left_by (close_in st b).verdict) ≡ offered b
unfolding offered
close-offered Listen b = refl
close-offered SynReceived b = refl
close-offered Established b = refl
close-offered FinWait1 b = refl
close-offered FinWait2 b = refl
close-offered CloseWait b = refl
close-offered Closing b = refl
close-offered LastAck b = refl
close-offered TimeWait b = refl

pub call-offered : (c : Call) (b : Block) → offered (left_by (tcp_call c b).verdict) ≡ offered b
unfolding tcp_call
call-offered call.Status b = refl
call-offered (call.Buffer n) b = buffer-offered b.state n b
call-offered call.Close b = close-offered b.state b

-- at most one deadline is set
pub one-deadline : (b : Block) → IsValid b → (b.time_wait_at ≡ None) ⊎ (b.retransmit_at ≡ None)
one-deadline b v = chosen (is_time_wait b.state) refl
  where
    chosen : (t : Bool) → is_time_wait b.state ≡ t → (b.time_wait_at ≡ None) ⊎ (b.retransmit_at ≡ None)
    chosen true e = inr (v.timed.there e)
    chosen false e = inl (v.timed.elsewhere e)
