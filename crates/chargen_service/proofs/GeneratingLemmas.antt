-- A block that generates: it stays valid, and all that it offered is the pattern's first bytes.
use Rattle.std.proofs.Common.{◌≡◌, ℕ, ◌+◌, ◌-◌, ◌≤◌, List, [], ◌∷◌, ◌++◌, Bool, true, false, cond, take, drop, refl, sym, ap, ◌∙◌, subst, arith, append_assoc, append-nil}
use Rattle.std.proofs.lemmas.Bool.{false≢true}
use Rattle.std.proofs.lemmas.List.{take-append-drop}
use Rattle.segment_codec.specs.declared.packet.Seg.{Seg}
use Rattle.byte_queues.specs.ReceiveQueue.{next_of, ready_of}
use Rattle.tcb_machine.specs.BlockState.{Block, new_block, offered}
use Rattle.tcb_machine.specs.CallAnswers.{wants_fin}
use Rattle.tcb_machine.specs.Limits.{segment_growth}
use Rattle.tcb_machine.specs.Output.{output}
use Rattle.tcb_machine.specs.Room.{StreamsBelow}
use Rattle.tcb_machine.specs.States.{is_listen}
use Rattle.tcb_machine.specs.TcpStep.{Verdict, over, go, on, tcp_segment}
use Rattle.tcb_machine.specs.Timers.{tcp_time}
use Rattle.tcb_machine.specs.Validity.{IsValid, left_by}
use Rattle.tcb_machine.specs.declared.kinds.State.{State}
use Rattle.tcb_machine.specs.declared.kinds.State.TheVariants.{Listen, SynReceived, Established, FinWait1, FinWait2, CloseWait, Closing, LastAck, TimeWait}
use Rattle.tcb_machine.proofs.KeepLemmas.{output-same, output-offered, time-less, time-offered}
use Rattle.tcb_machine.proofs.ValidLemmas.{Moved, moves, as_new, Says, new-valid, moves-valid, moved-valid, segment-says, segment-next, segment-offered, output-moved, time-moved, new-out}
use Rattle.echo_services.specs.Chargen.{chargen, given_after, given_in, gives_in, next_given, pattern_from}
use Rattle.echo_services.specs.Closing.{throws}
use Rattle.echo_services.specs.Limits.{most_given}
use Rattle.echo_services.specs.Pumping.{Pumps}
use Rattle.echo_services.specs.Serving.{followed as followed_by, kept}
use Rattle.echo_services.proofs.PatternLemmas.{pattern_begins}
use Rattle.echo_services.proofs.PumpsLemmas.{chargen-pumps}
use Rattle.echo_services.proofs.ServingLemmas.{pumps-valid}
use Rattle.chargen_service.specs.Chargen.{Generating, new_generating, pump, followed, Entry, segment, time, enters, serves}
use Rattle.chargen_service.specs.WholeStream.{Whole, all_offered, follows, whole_followed, whole_enters, whole_serves, whole_new}

-- the block that a step leaves, and how many bytes were offered then
pub followed_is : (g : ℕ) (v : Verdict) → record { block = followed_by (chargen g) v; given = kept given_after g v } ≡ followed g v
unfolding pump
followed_is g (over b) = refl
followed_is g (go b) = refl
followed_is g (on b) = refl

-- the pump, outside LISTEN: so many bytes more of the pattern are offered
record Gives (b c : Block) (g h : ℕ) : Type 0 where
  more : ℕ
  out : c.out ≡ b.out ++ pattern_from g more
  given : h ≡ g + more
  most : g ≤ most_given → h ≤ most_given

no-more : (b c : Block) (g : ℕ) → c.out ≡ b.out → Gives b c g g
no-more b c g e = record { more = 0; out = e ∙ sym (append-nil b.out); given = omega arith; most = λ h. h }

giving-in : (st : State) (g : ℕ) (b : Block) → Gives b (gives_in st g (throws (ready_of b.recv) b)) g (given_in st g b)
giving-in Listen g b = no-more b (throws (ready_of b.recv) b) g refl
giving-in SynReceived g b = no-more b (throws (ready_of b.recv) b) g refl
giving-in Established g b = record { more = next_given g b; out = refl; given = refl; most = λ h. omega (arith, h) }
giving-in FinWait1 g b = no-more b (throws (ready_of b.recv) b) g refl
giving-in FinWait2 g b = no-more b (throws (ready_of b.recv) b) g refl
giving-in CloseWait g b = no-more b (wants_fin LastAck (throws (ready_of b.recv) b)) g refl
giving-in Closing g b = no-more b (throws (ready_of b.recv) b) g refl
giving-in LastAck g b = no-more b (throws (ready_of b.recv) b) g refl
giving-in TimeWait g b = no-more b (throws (ready_of b.recv) b) g refl

gives : (g : ℕ) (b : Block) → Gives b (chargen g b) g (given_after g b)
unfolding chargen given_after
gives g b = giving-in b.state g b

record Pumped (x y : Generating) : Type 0 where
  opened : is_listen y.block.state ≡ false
  valid : IsValid y.block
  pumps : Pumps x.block y.block
  gives : Gives x.block y.block x.given y.given

pumping : (x : Generating) → is_listen x.block.state ≡ false → IsValid x.block → Pumped x (pump x)
unfolding pump
pumping x e v =
    let p = chargen-pumps x.given x.block e v in
    record { opened = p.opened; valid = pumps-valid x.block (chargen x.given x.block) v p; pumps = p; gives = gives x.given x.block }

-- a valid block

followed-valid : (given : ℕ) (b : Block) (w : Verdict) → Says b w → IsValid (followed given w).block
followed-valid given b (over c) h = moved-valid b c h
followed-valid given b (on c) h = moves-valid b c h
followed-valid given b (go c) h =
    let x : Generating = record { block = c; given = given } in
    let p = pumping x h.opened (moves-valid b c h) in
    moved-valid (pump x).block (output (pump x).block) (output-moved (pump x).block p.valid)

pub enters-valid : (e : Entry) (x : Generating) → IsValid x.block → IsValid (enters e x).block
enters-valid (segment now iss s text) x v = followed-valid x.given (record x.block { clock = now }) (tcp_segment now iss s text x.block) (segment-says now iss s text x.block v)
enters-valid (time to) x v = moved-valid x.block (tcp_time to x.block) (time-moved to x.block v)

pub serves-valid : (es : List Entry) (x : Generating) → IsValid x.block → IsValid (serves es x).block
serves-valid [] x v = v
serves-valid (e ∷ es) x v = serves-valid es (enters e x) (enters-valid e x v)

-- the same block with all that was offered beside it

followed-now : (w : Whole) (v : Verdict) → (whole_followed w v).now ≡ followed w.now.given v
followed-now w (over b) = refl
followed-now w (on b) = refl
followed-now w (go b) = refl

enters-now : (e : Entry) (w : Whole) → (whole_enters e w).now ≡ enters e w.now
enters-now (segment now iss s text) w = followed-now w (tcp_segment now iss s text w.now.block)
enters-now (time to) w = refl

pub serves-now : (es : List Entry) (w : Whole) → (whole_serves es w).now ≡ serves es w.now
serves-now [] w = refl
serves-now (e ∷ es) w = serves-now es (whole_enters e w) ∙ ap (serves es) (enters-now e w)

-- what is offered

open-all : (t : Bool) (gone out rest : List ℕ) (k : ℕ) → t ≡ false → rest ≡ drop k out → (gone ++ cond t out (take k out)) ++ rest ≡ gone ++ out
open-all true gone out rest k e h = absurd (false≢true (sym e))
open-all false gone out rest k e h =
    append_assoc gone (take k out) rest
    ∙ (ap (λ (xs : List ℕ). gone ++ (take k out ++ xs)) h ∙ ap (λ (xs : List ℕ). gone ++ xs) (take-append-drop k out))

new-all : (t : Bool) (gone out rest : List ℕ) (k : ℕ) → t ≡ true → rest ≡ [] → (gone ++ cond t out (take k out)) ++ rest ≡ gone ++ out
new-all true gone out rest k e h = ap (λ (xs : List ℕ). (gone ++ out) ++ xs) h ∙ append-nil (gone ++ out)
new-all false gone out rest k e h = absurd (false≢true e)

more-all : (t : Bool) (gone out rest more : List ℕ) (k : ℕ) → t ≡ false → k ≡ 0 → rest ≡ out ++ more → (gone ++ cond t out (take k out)) ++ rest ≡ (gone ++ out) ++ more
more-all true gone out rest more k e z h = absurd (false≢true (sym e))
more-all false gone out rest more k e z h =
    ap (λ (j : ℕ). (gone ++ take j out) ++ rest) z
    ∙ (ap (λ (xs : List ℕ). xs ++ rest) (append-nil gone) ∙ (ap (λ (xs : List ℕ). gone ++ xs) h ∙ sym (append_assoc gone out more)))

record IsPattern (w : Whole) : Type 0 where
  valid : IsValid w.now.block
  all : all_offered w ≡ pattern_from 0 w.now.given
  most : w.now.given ≤ most_given

-- the block moves: nothing is offered
moved-all : (w : Whole) (b c : Block) → b.acked ≡ w.now.block.acked → b.out ≡ w.now.block.out → Moved b c → all_offered (follows w (record w.now { block = c })) ≡ all_offered w
moved-all w b c a o (moves m) =
    let d = w.now.block in
    open-all (is_listen c.state) w.gone d.out c.out (c.acked - d.acked) m.opened
    (m.keeps.out ∙ (ap (λ (n : ℕ). drop (c.acked - n) b.out) a ∙ ap (λ (xs : List ℕ). drop (c.acked - d.acked) xs) o))
moved-all w b c a o (as_new e v) = let d = w.now.block in new-all (is_listen c.state) w.gone d.out c.out (c.acked - d.acked) e (new-out c (v.new e))

moved-pattern : (w : Whole) (b c : Block) → b.acked ≡ w.now.block.acked → b.out ≡ w.now.block.out → Moved b c → IsPattern w → IsPattern (follows w (record w.now { block = c }))
moved-pattern w b c a o m i = record { valid = moved-valid b c m; all = moved-all w b c a o m ∙ i.all; most = i.most }

pumped-pattern : (w : Whole) (y : Generating) → Pumped w.now y → IsPattern w → IsPattern (follows w y)
pumped-pattern w y p i =
    let d = w.now.block in
    let g = w.now.given in
    let a = p.pumps.acked in
    let z : y.block.acked - d.acked ≡ 0 = omega (arith, a) in
    let more = pattern_from g p.gives.more in
    record {
      valid = p.valid;
      all =
          more-all (is_listen y.block.state) w.gone d.out y.block.out more (y.block.acked - d.acked) p.opened z p.gives.out
          ∙ (ap (λ (xs : List ℕ). xs ++ more) i.all ∙ (pattern_begins g p.gives.more ∙ ap (pattern_from 0) (sym p.gives.given)));
      most = p.gives.most i.most;
    }

followed-pattern : (w : Whole) (b : Block) (v : Verdict) → b.acked ≡ w.now.block.acked → b.out ≡ w.now.block.out → Says b v → IsPattern w → IsPattern (whole_followed w v)
followed-pattern w b (over c) a o s i = moved-pattern w b c a o s i
followed-pattern w b (on c) a o s i = moved-pattern w b c a o (moves s) i
followed-pattern w b (go c) a o s i =
    let x : Generating = record w.now { block = c } in
    let p = pumping x s.opened (moves-valid b c s) in
    let w1 = follows w x in
    let w2 = follows w1 (pump x) in
    let d = (pump x).block in
    moved-pattern w2 d (output d) refl refl (output-moved d p.valid) (pumped-pattern w1 (pump x) p (moved-pattern w b c a o (moves s) i))

enters-pattern : (e : Entry) (w : Whole) → IsPattern w → IsPattern (whole_enters e w)
enters-pattern (segment now iss s text) w i =
    followed-pattern w (record w.now.block { clock = now }) (tcp_segment now iss s text w.now.block) refl refl (segment-says now iss s text w.now.block i.valid) i
enters-pattern (time to) w i = moved-pattern w w.now.block (tcp_time to w.now.block) refl refl (time-moved to w.now.block i.valid) i

serves-pattern : (es : List Entry) (w : Whole) → IsPattern w → IsPattern (whole_serves es w)
serves-pattern [] w i = i
serves-pattern (e ∷ es) w i = serves-pattern es (whole_enters e w) (enters-pattern e w i)

new-pattern : IsPattern whole_new
unfolding new_block
new-pattern = record { valid = new-valid; all = refl; most = omega arith }

pub offers-the-pattern : (es : List Entry) → all_offered (whole_serves es whole_new) ≡ pattern_from 0 (serves es new_generating).given
offers-the-pattern es = (serves-pattern es whole_new new-pattern).all ∙ ap (λ (x : Generating). pattern_from 0 x.given) (serves-now es whole_new)

pub offers-little : (es : List Entry) → (serves es new_generating).given ≤ most_given
offers-little es = subst (λ (x : Generating). x.given ≤ most_given) (serves-now es whole_new) (serves-pattern es whole_new new-pattern).most

-- how much a segment adds

followed-next : (given : ℕ) (b : Block) (w : Verdict) → Says b w → next_of (followed given w).block.recv ≡ next_of (left_by w).recv
followed-next given b (over c) h = refl
followed-next given b (on c) h = refl
followed-next given b (go c) h =
    let x : Generating = record { block = c; given = given } in
    ap next_of (output-same (pump x).block).recv ∙ (pumping x h.opened (moves-valid b c h)).pumps.next

followed-offered : (given : ℕ) (b : Block) (w : Verdict) → Says b w → offered (followed given w).block ≤ offered (left_by w) + 65535
unfolding offered
followed-offered given b (over c) h = omega arith
followed-offered given b (on c) h = omega arith
followed-offered given b (go c) h =
    let x : Generating = record { block = c; given = given } in
    let p = pumping x h.opened (moves-valid b c h) in
    let o = output-offered (pump x).block in
    let a = p.pumps.acked in
    let n = p.pumps.out in
    omega (arith, o, a, n)

pub segment-adds : (most now iss : ℕ) (s : Seg) (text : List ℕ) (x : Generating) → IsValid x.block → StreamsBelow most x.block → StreamsBelow (most + segment_growth) (enters (segment now iss s text) x).block
segment-adds most now iss s text x v h =
    let step = tcp_segment now iss s text x.block in
    let says = segment-says now iss s text x.block v in
    let n = segment-next now iss s text x.block v in
    let f = followed-next x.given (record x.block { clock = now }) step says in
    let o = segment-offered now iss s text x.block v in
    let p = followed-offered x.given (record x.block { clock = now }) step says in
    let hn = h.0 in
    let ho = h.1 in
    (omega (arith, n, f, hn), omega (arith, o, p, ho))

pub time-adds : (most to : ℕ) (x : Generating) → StreamsBelow most x.block → StreamsBelow most (enters (time to) x).block
time-adds most to x h =
    let n = (time-less to x.block).next in
    let o = time-offered to x.block in
    let hn = h.0 in
    let ho = h.1 in
    (omega (arith, n, hn), omega (arith, o, ho))
