-- What echo offers is what it took, as long as our FIN isn't wanted.
use Rattle.std.proofs.Common.{◌≡◌, ℕ, ◌+◌, ◌-◌, List, [], ◌∷◌, ◌++◌, Bool, true, false, cond, not, ◌==◌, ◌&&◌, take, min, refl, sym, ap, ◌∙◌, subst, arith, append_assoc, append-nil}
use Rattle.std.proofs.lemmas.Bool.{false≢true}
use Rattle.std.proofs.lemmas.List.{take-append-drop}
use Rattle.byte_queues.specs.ReceiveQueue.{Recv, ready_of, next_bytes, without}
use Rattle.byte_queues.specs.SendQueue.{room_of}
use Rattle.tcb_machine.specs.BlockState.{Block, new_block}
use Rattle.tcb_machine.specs.CallAnswers.{tcp_call, wants_fin}
use Rattle.tcb_machine.specs.Output.{output}
use Rattle.tcb_machine.specs.States.{is_listen}
use Rattle.tcb_machine.specs.TcpStep.{Verdict, over, go, on, tcp_segment}
use Rattle.tcb_machine.specs.Timers.{tcp_time}
use Rattle.tcb_machine.specs.Validity.{IsValid}
use Rattle.tcb_machine.specs.declared.kinds.State.{State}
use Rattle.tcb_machine.specs.declared.kinds.State.TheVariants.{Listen, SynReceived, Established, FinWait1, FinWait2, CloseWait, Closing, LastAck, TimeWait}
use Rattle.tcb_machine.proofs.ValidLemmas.{Moves, Moved, moves, as_new, Says, new-valid, moves-valid, segment-says, call-says, output-moved, time-moved, new-out}
use Rattle.echo_services.specs.Closing.{is_close_wait}
use Rattle.echo_services.specs.Echo.{echoes, echoes_in, moves as moves_text}
use Rattle.echo_services.specs.Pump.{pump}
use Rattle.echo_services.specs.Serving.{Entry, segment, time, asks}
use Rattle.echo_services.specs.WholeStreams.{Whole, follows, all_offered, whole_followed, whole_enters, whole_serves, whole_new, IsEntry, AreEntries}
use Rattle.echo_services.specs.declared.service.Service.TheVariants.{Echo}
use Rattle.echo_services.proofs.PumpsLemmas.{service-pumps}
use Rattle.echo_services.proofs.ServingLemmas.{pumps-valid, enters-valid, enters-block}

abbrev IsEchoing : Whole → Type 0
IsEchoing w = w.block.fin_wanted ≡ false → all_offered w ≡ w.read

-- what leaves a block in one step, and what is left
record Leaves (b c : Block) : Type 0 where
  opened : is_listen c.state ≡ false
  wanted : c.fin_wanted ≡ false → b.fin_wanted ≡ false
  out : c.fin_wanted ≡ false → take (c.acked - b.acked) b.out ++ c.out ≡ b.out ++ next_bytes (c.recv.taken - b.recv.taken) b.recv

pub join-open : (t : Bool) (xs ys zs : List ℕ) → t ≡ false → xs ++ zs ≡ ys → cond t [] xs ++ zs ≡ cond t [] ys
join-open true xs ys zs e h = absurd (false≢true (sym e))
join-open false xs ys zs e h = h

pub join-new : (t : Bool) (xs ys zs : List ℕ) → t ≡ true → zs ≡ [] → cond t [] xs ++ zs ≡ cond t [] ys
join-new true xs ys zs e h = h
join-new false xs ys zs e h = absurd (false≢true e)

echoing-open : (w : Whole) (c : Block) → IsEchoing w → Leaves w.block c → IsEchoing (follows w c)
echoing-open w c h l f =
    let b = w.block in
    let gone = take (c.acked - b.acked) b.out in
    let more = next_bytes (c.recv.taken - b.recv.taken) b.recv in
    let same : (w.confirmed ++ gone) ++ c.out ≡ w.read ++ more =
    append_assoc w.confirmed gone c.out
    ∙ (ap (λ (xs : List ℕ). w.confirmed ++ xs) (l.out f) ∙ (sym (append_assoc w.confirmed b.out more) ∙ ap (λ (xs : List ℕ). xs ++ more) (h (l.wanted f)))) in
    join-open (is_listen c.state) (w.confirmed ++ gone) (w.read ++ more) c.out l.opened same

echoing-new : (w : Whole) (c : Block) → is_listen c.state ≡ true → IsValid c → IsEchoing (follows w c)
echoing-new w c e v f = join-new (is_listen c.state) _ _ c.out e (new-out c (v.new e))

pub no-bytes : (n : ℕ) (q : Recv) → n ≡ 0 → next_bytes n q ≡ []
unfolding next_bytes
no-bytes n q e = ap (λ (k : ℕ). next_bytes k q) e

-- a step that takes nothing
moves-leaves : (b c : Block) → Moves b c → Leaves b c
moves-leaves b c m =
    let k = m.keeps in
    let t = k.taken in
    let n = c.acked - b.acked in
    record {
      opened = m.opened;
      wanted = k.wanted;
      out = λ f.
          ap (λ (xs : List ℕ). take n b.out ++ xs) k.out
          ∙ (take-append-drop n b.out
          ∙ (sym (append-nil b.out) ∙ ap (λ (xs : List ℕ). b.out ++ xs) (sym (no-bytes (c.recv.taken - b.recv.taken) b.recv (omega (arith, t))))));
    }

echoing-moved : (w : Whole) (c : Block) → IsEchoing w → Moved w.block c → IsEchoing (follows w c)
echoing-moved w c h (moves m) = echoing-open w c h (moves-leaves w.block c m)
echoing-moved w c h (as_new e v) = echoing-new w c e v

-- with the clock set first
clock-moves : (n : ℕ) (b c : Block) → Moves (record b { clock = n }) c → Moves b c
clock-moves n b c m = let k = m.keeps in record { opened = m.opened; keeps = record { recv = k.recv; send = k.send; mss = k.mss; ours = k.ours; taken = k.taken; from = k.from; offered = k.offered; out = k.out; wanted = k.wanted; timed = k.timed } }

clock-moved : (n : ℕ) (b c : Block) → Moved (record b { clock = n }) c → Moved b c
clock-moved n b c (moves m) = moves (clock-moves n b c m)
clock-moved n b c (as_new e v) = as_new e v

-- the pump

pub record Echoed (b c : Block) : Type 0 where
  pub acked : c.acked ≡ b.acked
  pub wanted : c.fin_wanted ≡ b.fin_wanted
  pub out : c.out ≡ b.out ++ next_bytes (c.recv.taken - b.recv.taken) b.recv

rests : (b : Block) → Echoed b b
rests b = record { acked = refl; wanted = refl; out = sym (append-nil b.out) ∙ ap (λ (xs : List ℕ). b.out ++ xs) (sym (no-bytes (b.recv.taken - b.recv.taken) b.recv (omega arith))) }

gives-back : (n : ℕ) (b : Block) → Echoed b (echoes n b)
unfolding without
gives-back n b = let e : n ≡ b.recv.taken + n - b.recv.taken = omega arith in record { acked = refl; wanted = refl; out = ap (λ (k : ℕ). b.out ++ next_bytes k b.recv) e }

pub echoed-in : (st : State) (b : Block) → Echoed b (echoes_in st b)
echoed-in Listen b = rests b
echoed-in SynReceived b = rests b
echoed-in Established b = gives-back (min (ready_of b.recv) (room_of b.out)) b
echoed-in FinWait1 b = rests b
echoed-in FinWait2 b = rests b
echoed-in CloseWait b = gives-back (min (ready_of b.recv) (room_of b.out)) b
echoed-in Closing b = rests b
echoed-in LastAck b = rests b
echoed-in TimeWait b = rests b

pub nothing-gone : (n : ℕ) (xs ys : List ℕ) → n ≡ 0 → take n xs ++ ys ≡ ys
nothing-gone n xs ys e = ap (λ (k : ℕ). take k xs ++ ys) e

-- where our FIN isn't wanted afterwards
ends-leaves : (t : Bool) (b x : Block) → is_listen (cond t (wants_fin LastAck x) x).state ≡ false → Echoed b x → Leaves b (cond t (wants_fin LastAck x) x)
ends-leaves true b x o h = record { opened = o; wanted = λ f. absurd (false≢true (sym f)); out = λ f. absurd (false≢true (sym f)) }
ends-leaves false b x o h =
    let a = h.acked in
    record { opened = o; wanted = λ f. sym h.wanted ∙ f; out = λ f. nothing-gone (x.acked - b.acked) b.out x.out (omega (arith, a)) ∙ h.out }

moves-echoed : (t : Bool) (b : Block) → t ≡ false → Echoed b (moves_text t b)
moves-echoed true b e = absurd (false≢true (sym e))
moves-echoed false b e = echoed-in b.state b

wanted-in : (t : Bool) (b : Block) → t ≡ true → b.fin_wanted ≡ true → (moves_text t b).fin_wanted ≡ true
wanted-in true b e h = h
wanted-in false b e h = absurd (false≢true e)

ends-wanted : (t : Bool) (x : Block) → x.fin_wanted ≡ true → (cond t (wants_fin LastAck x) x).fin_wanted ≡ true
ends-wanted true x h = refl
ends-wanted false x h = h

pump-wanted : (b : Block) → b.fin_wanted ≡ true → (pump Echo b).fin_wanted ≡ true
unfolding pump
pump-wanted b e =
    let x = moves_text b.fin_wanted b in
    ends-wanted (is_close_wait x.state && ((ready_of x.recv == 0) && not x.fin_wanted)) x (wanted-in b.fin_wanted b e e)

pump-leaves : (b : Block) → is_listen b.state ≡ false → IsValid b → b.fin_wanted ≡ false → Leaves b (pump Echo b)
unfolding pump
pump-leaves b o v e =
    let x = moves_text b.fin_wanted b in
    ends-leaves (is_close_wait x.state && ((ready_of x.recv == 0) && not x.fin_wanted)) b x (service-pumps Echo b o v).opened (moves-echoed b.fin_wanted b e)

echoing-pumped : (w : Whole) → is_listen w.block.state ≡ false → IsValid w.block → IsEchoing w → IsEchoing (follows w (pump Echo w.block))
echoing-pumped w o v h = chosen w.block.fin_wanted refl
  where
    chosen : (t : Bool) → w.block.fin_wanted ≡ t → IsEchoing (follows w (pump Echo w.block))
    chosen true e = λ f. absurd (false≢true (sym f ∙ pump-wanted w.block e))
    chosen false e = echoing-open w (pump Echo w.block) h (pump-leaves w.block o v e)

echoing-followed : (w : Whole) (v : Verdict) → IsEchoing w → Says w.block v → IsEchoing (whole_followed (pump Echo) w v)
echoing-followed w (over c) h s = echoing-moved w c h s
echoing-followed w (on c) h s = echoing-moved w c h (moves s)
echoing-followed w (go c) h s =
    let v = moves-valid w.block c s in
    let d = pump Echo c in
    let w1 = follows w c in
    let w2 = follows w1 d in
    echoing-moved w2 (output d) (echoing-pumped w1 s.opened v (echoing-moved w c h (moves s))) (output-moved d (pumps-valid c d v (service-pumps Echo c s.opened v)))

pub clock-says : (n : ℕ) (b : Block) (v : Verdict) → Says (record b { clock = n }) v → Says b v
clock-says n b (over c) s = clock-moved n b c s
clock-says n b (go c) s = clock-moves n b c s
clock-says n b (on c) s = clock-moves n b c s

echoing-enters : (e : Entry) (w : Whole) → IsEntry e → IsValid w.block → IsEchoing w → IsEchoing (whole_enters (pump Echo) e w)
echoing-enters (segment now iss s text) w i v h = echoing-followed w (tcp_segment now iss s text w.block) h (clock-says now w.block (tcp_segment now iss s text w.block) (segment-says now iss s text w.block v))
echoing-enters (time to) w i v h = echoing-moved w (tcp_time to w.block) h (time-moved to w.block v)
echoing-enters (asks c) w i v h = echoing-followed w (tcp_call c w.block).verdict h (call-says c w.block i v)

echoing-serves : (es : List Entry) (w : Whole) → AreEntries es → IsValid w.block → IsEchoing w → IsEchoing (whole_serves (pump Echo) es w)
echoing-serves [] w i v h = h
echoing-serves (e ∷ es) w i v h =
    echoing-serves es (whole_enters (pump Echo) e w) i.1 (subst (λ (b : Block). IsValid b) (sym (enters-block (pump Echo) e w)) (enters-valid (pump Echo) (service-pumps Echo) e w.block i.0 v)) (echoing-enters e w i.0 v h)

pub offers-what-it-took : (es : List Entry) → AreEntries es → (whole_serves (pump Echo) es whole_new).block.fin_wanted ≡ false → all_offered (whole_serves (pump Echo) es whole_new) ≡ (whole_serves (pump Echo) es whole_new).read
unfolding new_block
offers-what-it-took es i = echoing-serves es whole_new i new-valid (λ f. refl)
