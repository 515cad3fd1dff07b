-- A served connection: its block stays valid, the lists beside it keep their counts, and a segment adds little.
use Rattle.std.proofs.Common.{◌≡◌, ℕ, ◌+◌, ◌-◌, ◌^◌, ◌<◌, ◌≤◌, List, [], ◌∷◌, ◌++◌, Bool, true, false, cond, length, take, refl, sym, ap, ◌∙◌, subst, arith, length-take, length-append}
use Rattle.std.specs.Prelude.{All}
use Rattle.std.proofs.lemmas.Bool.{false≢true}
use Rattle.segment_codec.specs.declared.packet.Seg.{Seg}
use Rattle.segment_codec.specs.declared.packet.Reply.{Reply}
use Rattle.byte_queues.specs.ReceiveQueue.{Recv, next_of, ready_of, next_bytes}
use Rattle.byte_queues.proofs.WholeLemmas.{next-count}
use Rattle.tcb_machine.specs.BlockState.{Block, IsOurs, new_block, offered}
use Rattle.tcb_machine.specs.CallAnswers.{tcp_call, close_in}
use Rattle.tcb_machine.specs.Output.{output}
use Rattle.tcb_machine.specs.States.{is_listen}
use Rattle.tcb_machine.specs.TcpStep.{Verdict, over, go, on, tcp_segment}
use Rattle.tcb_machine.specs.Timers.{tcp_time}
use Rattle.tcb_machine.specs.Validity.{IsAskable, IsValid, left_by}
use Rattle.tcb_machine.specs.declared.kinds.Call.{Call}
use Rattle.tcb_machine.specs.declared.kinds.Call.TheVariants as call
use Rattle.tcb_machine.specs.declared.kinds.State.{State}
use Rattle.tcb_machine.specs.declared.kinds.State.TheVariants.{Listen, SynReceived, Established, FinWait1, FinWait2, CloseWait, Closing, LastAck, TimeWait}
use Rattle.tcb_machine.proofs.KeepLemmas.{output-same, output-offered, time-less, time-offered}
use Rattle.tcb_machine.proofs.ValidLemmas.{Moved, moves, as_new, Says, new-valid, moves-valid, moved-valid, segment-says, segment-next, segment-offered, call-says, call-next, output-moved, time-moved, not-listen, new-taken, new-acked, call-offered}
use Rattle.echo_services.specs.Pumping.{IsPump, Pumps, may_offer}
use Rattle.echo_services.specs.Serving.{Entry, segment, time, asks, enters, followed, serves}
use Rattle.echo_services.specs.WholeStreams.{Whole, follows, whole_followed, whole_enters, whole_serves, whole_new, IsBeside, IsEntry, AreEntries, AreBetween}

pub pumps-valid : (b c : Block) → IsValid b → Pumps b c → IsValid c
pumps-valid b c v p =
    let m = p.mss in
    let o = v.mss in
    record { recv = p.recv; send = p.send; mss = omega (arith, m, o); timed = p.timed; ours = subst (λ (rs : List Reply). All IsOurs rs) (sym p.replies) v.ours; new = not-listen c.state c p.opened }

-- the block after pump and output, where they follow

followed-valid : (pump : Block → Block) (law : IsPump pump) (b : Block) (w : Verdict) → Says b w → IsValid (followed pump w)
followed-valid pump law b (over c) h = moved-valid b c h
followed-valid pump law b (go c) h =
    let v = moves-valid b c h in
    let d = pump c in
    moved-valid d (output d) (output-moved d (pumps-valid c d v (law c h.opened v)))
followed-valid pump law b (on c) h = moves-valid b c h

pub enters-valid : (pump : Block → Block) (law : IsPump pump) (e : Entry) (b : Block) → IsEntry e → IsValid b → IsValid (enters pump e b)
enters-valid pump law (segment now iss s text) b h v = followed-valid pump law (record b { clock = now }) (tcp_segment now iss s text b) (segment-says now iss s text b v)
enters-valid pump law (time to) b h v = moved-valid b (tcp_time to b) (time-moved to b v)
enters-valid pump law (asks c) b h v = followed-valid pump law b (tcp_call c b).verdict (call-says c b h v)

pub serves-valid : (pump : Block → Block) (law : IsPump pump) (es : List Entry) (b : Block) → AreEntries es → IsValid b → IsValid (serves pump es b)
serves-valid pump law [] b h v = v
serves-valid pump law (e ∷ es) b h v = serves-valid pump law es (enters pump e b) h.1 (enters-valid pump law e b h.0 v)

-- the same block with the whole streams beside it

followed-block : (pump : Block → Block) (w : Whole) (v : Verdict) → (whole_followed pump w v).block ≡ followed pump v
followed-block pump w (over b) = refl
followed-block pump w (go b) = refl
followed-block pump w (on b) = refl

pub enters-block : (pump : Block → Block) (e : Entry) (w : Whole) → (whole_enters pump e w).block ≡ enters pump e w.block
enters-block pump (segment now iss s text) w = followed-block pump w (tcp_segment now iss s text w.block)
enters-block pump (time to) w = refl
enters-block pump (asks c) w = followed-block pump w (tcp_call c w.block).verdict

pub serves-block : (pump : Block → Block) (es : List Entry) (w : Whole) → (whole_serves pump es w).block ≡ serves pump es w.block
serves-block pump [] w = refl
serves-block pump (e ∷ es) w = serves-block pump es (whole_enters pump e w) ∙ ap (serves pump es) (enters-block pump e w)

-- the counts of the lists beside

chosen-length : (t : Bool) (xs : List ℕ) (n : ℕ) → (t ≡ true → n ≡ 0) → (t ≡ false → length xs ≡ n) → length (cond t [] xs) ≡ n
chosen-length true xs n p q = sym (p refl)
chosen-length false xs n p q = q refl

-- a step that takes what is ready, and acknowledges what was offered
beside-after : (w : Whole) (c : Block) → IsBeside w → IsValid c
    → (is_listen c.state ≡ false → w.block.recv.taken ≤ c.recv.taken)
    → (is_listen c.state ≡ false → c.recv.taken - w.block.recv.taken ≤ ready_of w.block.recv)
    → (is_listen c.state ≡ false → w.block.acked ≤ c.acked)
    → (is_listen c.state ≡ false → c.acked ≤ w.block.acked + length w.block.out)
    → IsBeside (follows w c)
beside-after w c h v least most from upto =
    let b = w.block in
    let n = c.recv.taken - b.recv.taken in
    let k = c.acked - b.acked in
    record {
      read = chosen-length (is_listen c.state) (w.read ++ next_bytes n b.recv) c.recv.taken (λ e. new-taken c (v.new e)) (λ e. read_count e);
      confirmed = chosen-length (is_listen c.state) (w.confirmed ++ take k b.out) c.acked (λ e. new-acked c (v.new e)) (λ e. confirmed_count e);
    }
  where
    read_count : is_listen c.state ≡ false → length (w.read ++ next_bytes (c.recv.taken - w.block.recv.taken) w.block.recv) ≡ c.recv.taken
    read_count e =
        let l = length-append w.read (next_bytes (c.recv.taken - w.block.recv.taken) w.block.recv) in
        let m = next-count (c.recv.taken - w.block.recv.taken) w.block.recv (most e) in
        let r = h.read in
        let o = least e in
        omega (arith, l, m, r, o)

    confirmed_count : is_listen c.state ≡ false → length (w.confirmed ++ take (c.acked - w.block.acked) w.block.out) ≡ c.acked
    confirmed_count e =
        let l = length-append w.confirmed (take (c.acked - w.block.acked) w.block.out) in
        let m = length-take (c.acked - w.block.acked) w.block.out in
        let r = h.confirmed in
        let o = from e in
        let u = upto e in
        omega (arith, l, m, r, o, u)

beside-moved : (w : Whole) (b c : Block) → b.recv ≡ w.block.recv → b.acked ≡ w.block.acked → b.out ≡ w.block.out → IsBeside w → Moved b c → IsBeside (follows w c)
beside-moved w b c q a o h (moves m) =
    let t = ap (λ (x : Recv). x.taken) q ∙ refl in
    let k = m.keeps.taken in
    let f = m.keeps.from in
    let g = m.keeps.offered in
    let n = ap length o in
    beside-after w c h (moves-valid b c m) (λ e. omega (arith, t, k)) (λ e. omega (arith, t, k)) (λ e. omega (arith, a, f)) (λ e. omega (arith, a, g, n))
beside-moved w b c q a o h (as_new e v) =
    beside-after w c h v (λ f. absurd (false≢true (sym f ∙ e))) (λ f. absurd (false≢true (sym f ∙ e))) (λ f. absurd (false≢true (sym f ∙ e))) (λ f. absurd (false≢true (sym f ∙ e)))

beside-pumped : (w : Whole) (c : Block) → IsBeside w → IsValid w.block → Pumps w.block c → IsBeside (follows w c)
beside-pumped w c h v p =
    let a = p.acked in
    beside-after w c h (pumps-valid w.block c v p) (λ e. p.least) (λ e. p.most) (λ e. omega (arith, a)) (λ e. omega (arith, a))

beside-followed : (pump : Block → Block) (law : IsPump pump) (w : Whole) (b : Block) (v : Verdict) → b.recv ≡ w.block.recv → b.acked ≡ w.block.acked → b.out ≡ w.block.out → IsBeside w → Says b v → IsBeside (whole_followed pump w v)
beside-followed pump law w b (over c) q a o h s = beside-moved w b c q a o h s
beside-followed pump law w b (on c) q a o h s = beside-moved w b c q a o h (moves s)
beside-followed pump law w b (go c) q a o h s =
    let v = moves-valid b c s in
    let d = pump c in
    let p = law c s.opened v in
    let w1 = follows w c in
    let w2 = follows w1 d in
    beside-moved w2 d (output d) refl refl refl (beside-pumped w1 d (beside-moved w b c q a o h (moves s)) v p) (output-moved d (pumps-valid c d v p))

beside-enters : (pump : Block → Block) (law : IsPump pump) (e : Entry) (w : Whole) → IsEntry e → IsValid w.block → IsBeside w → IsBeside (whole_enters pump e w)
beside-enters pump law (segment now iss s text) w h v i = beside-followed pump law w (record w.block { clock = now }) (tcp_segment now iss s text w.block) refl refl refl i (segment-says now iss s text w.block v)
beside-enters pump law (time to) w h v i = beside-moved w w.block (tcp_time to w.block) refl refl refl i (time-moved to w.block v)
beside-enters pump law (asks c) w h v i = beside-followed pump law w w.block (tcp_call c w.block).verdict refl refl refl i (call-says c w.block h v)

beside-serves : (pump : Block → Block) (law : IsPump pump) (es : List Entry) (w : Whole) → AreEntries es → IsValid w.block → IsBeside w → IsBeside (whole_serves pump es w)
beside-serves pump law [] w h v i = i
beside-serves pump law (e ∷ es) w h v i =
    beside-serves pump law es (whole_enters pump e w) h.1 (subst (λ (b : Block). IsValid b) (sym (enters-block pump e w)) (enters-valid pump law e w.block h.0 v)) (beside-enters pump law e w h.0 v i)

pub serves-beside : (pump : Block → Block) (law : IsPump pump) (es : List Entry) → AreEntries es → IsBeside (whole_serves pump es whole_new)
unfolding new_block
serves-beside pump law es h = beside-serves pump law es whole_new h new-valid (record { read = refl; confirmed = refl })

-- how much a segment adds

output-next : (b : Block) → next_of (output b).recv ≡ next_of b.recv
output-next b = ap next_of (output-same b).recv

followed-next : (pump : Block → Block) (law : IsPump pump) (b : Block) (w : Verdict) → Says b w → next_of (followed pump w).recv ≡ next_of (left_by w).recv
followed-next pump law b (over c) h = refl
followed-next pump law b (on c) h = refl
followed-next pump law b (go c) h = output-next (pump c) ∙ (law c h.opened (moves-valid b c h)).next

followed-offered : (pump : Block → Block) (law : IsPump pump) (b : Block) (w : Verdict) → Says b w → offered (followed pump w) ≤ offered (left_by w) + 65535
unfolding offered
followed-offered pump law b (over c) h = omega arith
followed-offered pump law b (on c) h = omega arith
followed-offered pump law b (go c) h =
    let p = law c h.opened (moves-valid b c h) in
    let o = output-offered (pump c) in
    let a = p.acked in
    let n = p.out in
    omega (arith, o, a, n)

-- a call offers nothing: where pump and output follow, no more text may be offered

abbrev Silent : Verdict → Type 0
Silent (over b) = Unit {0}
Silent (go b) = may_offer b.state ≡ false
Silent (on b) = Unit {0}

silent-offered : (pump : Block → Block) (law : IsPump pump) (b : Block) (w : Verdict) → Says b w → Silent w → offered (followed pump w) ≡ offered (left_by w)
unfolding offered
silent-offered pump law b (over c) h q = refl
silent-offered pump law b (on c) h q = refl
silent-offered pump law b (go c) h q =
    let k = law c h.opened (moves-valid b c h) in
    let o = output-offered (pump c) in
    let a = k.acked in
    let n = k.silent q in
    omega (arith, o, a, n)

close-silent : (st : State) (b : Block) → Silent (close_in st b).verdict
close-silent Listen b = tt
close-silent SynReceived b = tt
close-silent Established b = refl
close-silent CloseWait b = refl
close-silent FinWait1 b = tt
close-silent FinWait2 b = tt
close-silent Closing b = tt
close-silent LastAck b = tt
close-silent TimeWait b = tt

asks-silent : (c : Call) (b : Block) → Silent (tcp_call c b).verdict
unfolding tcp_call
asks-silent call.Status b = tt
asks-silent (call.Buffer n) b = tt
asks-silent call.Close b = close-silent b.state b

asks-offered : (pump : Block → Block) (law : IsPump pump) (c : Call) (b : Block) → IsAskable c → IsValid b → offered (followed pump (tcp_call c b).verdict) ≡ offered b
asks-offered pump law c b h v = silent-offered pump law b (tcp_call c b).verdict (call-says c b h v) (asks-silent c b) ∙ call-offered c b

between-next : (pump : Block → Block) (law : IsPump pump) (es : List Entry) (b : Block) → AreBetween es → IsValid b → next_of (serves pump es b).recv ≤ next_of b.recv
between-next pump law [] b h v = omega arith
between-next pump law (segment now iss s text ∷ es) b h v = absurd h
between-next pump law (time to ∷ es) b h v =
    let r = between-next pump law es (tcp_time to b) h (moved-valid b (tcp_time to b) (time-moved to b v)) in
    let l = (time-less to b).next in
    omega (arith, r, l)
between-next pump law (asks c ∷ es) b h v =
    let r = between-next pump law es (followed pump (tcp_call c b).verdict) h.1 (enters-valid pump law (asks c) b h.0 v) in
    let f = followed-next pump law b (tcp_call c b).verdict (call-says c b h.0 v) in
    let l = call-next c b in
    omega (arith, r, f, l)

between-offered : (pump : Block → Block) (law : IsPump pump) (es : List Entry) (b : Block) → AreBetween es → IsValid b → offered (serves pump es b) ≤ offered b
between-offered pump law [] b h v = omega arith
between-offered pump law (segment now iss s text ∷ es) b h v = absurd h
between-offered pump law (time to ∷ es) b h v =
    let r = between-offered pump law es (tcp_time to b) h (moved-valid b (tcp_time to b) (time-moved to b v)) in
    let l = time-offered to b in
    omega (arith, r, l)
between-offered pump law (asks c ∷ es) b h v =
    let r = between-offered pump law es (followed pump (tcp_call c b).verdict) h.1 (enters-valid pump law (asks c) b h.0 v) in
    let l = asks-offered pump law c b h.0 v in
    omega (arith, r, l)

pub adds-next : (pump : Block → Block) (law : IsPump pump) (now iss : ℕ) (s : Seg) (text : List ℕ) (es : List Entry) (b : Block) → AreBetween es → IsValid b → next_of (serves pump (segment now iss s text ∷ es) b).recv < next_of b.recv + 2 ^ 21
adds-next pump law now iss s text es b h v =
    let step = tcp_segment now iss s text b in
    let r = between-next pump law es (followed pump step) h (enters-valid pump law (segment now iss s text) b tt v) in
    let f = followed-next pump law (record b { clock = now }) step (segment-says now iss s text b v) in
    let l = segment-next now iss s text b v in
    omega (arith, r, f, l)

pub adds-offered : (pump : Block → Block) (law : IsPump pump) (now iss : ℕ) (s : Seg) (text : List ℕ) (es : List Entry) (b : Block) → AreBetween es → IsValid b → offered (serves pump (segment now iss s text ∷ es) b) < offered b + 2 ^ 21
adds-offered pump law now iss s text es b h v =
    let step = tcp_segment now iss s text b in
    let r = between-offered pump law es (followed pump step) h (enters-valid pump law (segment now iss s text) b tt v) in
    let f = followed-offered pump law (record b { clock = now }) step (segment-says now iss s text b v) in
    let l = segment-offered now iss s text b v in
    omega (arith, r, f, l)
