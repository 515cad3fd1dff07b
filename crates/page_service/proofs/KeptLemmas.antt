-- A served connection: all that was offered, with what is left of the answer under way, is the answers to what was taken.
use Rattle.std.proofs.Common.{◌≡◌, ℕ, ◌-◌, List, [], ◌∷◌, ◌++◌, Bool, true, false, cond, take, refl, sym, ap, ◌∙◌, subst, arith, append_assoc, append-nil}
use Rattle.std.specs.Prelude.{replicate, suc, zero}
use Rattle.std.proofs.lemmas.Bool.{false≢true}
use Rattle.std.proofs.lemmas.List.{take-append-drop}
use Rattle.byte_queues.specs.ReceiveQueue.{next_bytes}
use Rattle.tcb_machine.specs.BlockState.{Block, new_block}
use Rattle.tcb_machine.specs.CallAnswers.{close_in, tcp_call}
use Rattle.tcb_machine.specs.Output.{output}
use Rattle.tcb_machine.specs.States.{is_listen}
use Rattle.tcb_machine.specs.TcpStep.{Verdict, over, go, on, tcp_segment}
use Rattle.tcb_machine.specs.Timers.{tcp_time}
use Rattle.tcb_machine.specs.Validity.{IsValid}
use Rattle.tcb_machine.specs.declared.kinds.Call.{Call}
use Rattle.tcb_machine.specs.declared.kinds.Call.TheVariants as call
use Rattle.tcb_machine.specs.declared.kinds.State.{State}
use Rattle.tcb_machine.specs.declared.kinds.State.TheVariants.{Listen, SynReceived, Established, FinWait1, FinWait2, CloseWait, Closing, LastAck, TimeWait}
use Rattle.tcb_machine.proofs.SteadyLemmas.{block_in, segment-steady}
use Rattle.tcb_machine.proofs.ValidLemmas.{Moves, Moved, moves, as_new, Says, new-valid, moves-valid, segment-says, call-says, output-moved, time-moved, new-out}
use Rattle.echo_services.specs.Serving.{Entry, segment, time, asks, kept}
use Rattle.echo_services.specs.WholeStreams.{Whole, follows, all_offered, whole_followed, IsEntry, AreEntries}
use Rattle.echo_services.proofs.EchoLemmas.{clock-says, no-bytes}
use Rattle.echo_services.proofs.ServingLemmas.{pumps-valid, enters-valid, enters-block}
use Rattle.page_service.specs.declared.phase.Phase.{Phase}
use Rattle.page_service.specs.declared.phase.Phase.TheVariants.{Reads}
use Rattle.page_service.specs.Protocol.{Protocol, IsProtocol}
use Rattle.page_service.specs.Pump.{Open, pump}
use Rattle.page_service.specs.Kept.{AreTimesOf, Held, kept_enters, kept_serves, kept_new, service_of}
use Rattle.page_service.proofs.PumpsLemmas.{pump-pumps}
use Rattle.page_service.proofs.SentLemmas.{MayFollow, Sent, pump-sends, sent-at}
use Rattle.page_service.proofs.WorkLemmas.{Adds}

-- the lists beside a block after a step

chosen-open : (t : Bool) (xs : List ℕ) → t ≡ false → cond t [] xs ≡ xs
chosen-open true xs e = absurd (false≢true (sym e))
chosen-open false xs e = refl

chosen-new : (t : Bool) (xs : List ℕ) → t ≡ true → cond t [] xs ≡ []
chosen-new true xs e = refl
chosen-new false xs e = absurd (false≢true e)

record Behind (w : Whole) (c : Block) (taken offered : List ℕ) : Type 0 where
  read : (follows w c).read ≡ w.read ++ taken
  all : all_offered (follows w c) ≡ all_offered w ++ offered

behind-moves : (w : Whole) (c : Block) → Moves w.block c → Behind w c [] []
behind-moves w c m =
    let b = w.block in
    let k = m.keeps in
    let t = k.taken in
    let n = c.acked - b.acked in
    let gone = take n b.out in
    record {
      read =
          chosen-open (is_listen c.state) (w.read ++ next_bytes (c.recv.taken - b.recv.taken) b.recv) m.opened
          ∙ ap (λ (xs : List ℕ). w.read ++ xs) (no-bytes (c.recv.taken - b.recv.taken) b.recv (omega (arith, t)));
      all =
          ap (λ (xs : List ℕ). xs ++ c.out) (chosen-open (is_listen c.state) (w.confirmed ++ gone) m.opened)
          ∙ (append_assoc w.confirmed gone c.out
          ∙ (ap (λ (xs : List ℕ). w.confirmed ++ (gone ++ xs)) k.out
          ∙ (ap (λ (xs : List ℕ). w.confirmed ++ xs) (take-append-drop n b.out) ∙ sym (append-nil (all_offered w)))));
    }

behind-adds : (w : Whole) (c : Block) (r o : List ℕ) → is_listen c.state ≡ false → c.acked ≡ w.block.acked → Adds w.block c r o → Behind w c r o
behind-adds w c r o e a h =
    let b = w.block in
    let z : c.acked - b.acked ≡ 0 = omega (arith, a) in
    record {
      read = chosen-open (is_listen c.state) (w.read ++ next_bytes (c.recv.taken - b.recv.taken) b.recv) e ∙ ap (λ (xs : List ℕ). w.read ++ xs) h.read;
      all =
          ap (λ (xs : List ℕ). xs ++ c.out) (chosen-open (is_listen c.state) (w.confirmed ++ take (c.acked - b.acked) b.out) e)
          ∙ (ap (λ (n : ℕ). (w.confirmed ++ take n b.out) ++ c.out) z
          ∙ (ap (λ (xs : List ℕ). xs ++ c.out) (append-nil w.confirmed)
          ∙ (ap (λ (xs : List ℕ). w.confirmed ++ xs) h.out ∙ sym (append_assoc w.confirmed b.out o))));
    }

new-read : (w : Whole) (c : Block) → is_listen c.state ≡ true → (follows w c).read ≡ []
new-read w c e = chosen-new (is_listen c.state) (w.read ++ next_bytes (c.recv.taken - w.block.recv.taken) w.block.recv) e

new-all : (w : Whole) (c : Block) → is_listen c.state ≡ true → c.out ≡ [] → all_offered (follows w c) ≡ []
new-all w c e o = ap (λ (xs : List ℕ). xs ++ c.out) (chosen-new (is_listen c.state) (w.confirmed ++ take (c.acked - w.block.acked) w.block.out) e) ∙ o

-- a time of which this is so, where a pump that may read follows

abbrev MayRead : (ℕ → Type 0) → Verdict → Type 0
MayRead P (over b) = Unit {0}
MayRead P (go b) = b.fin_wanted ≡ false → P b.clock
MayRead P (on b) = Unit {0}

segment-time : (P : ℕ → Type 0) (now : ℕ) (v : Verdict) → (block_in v).clock ≡ now → P now → MayRead P v
segment-time P now (over b) e q = tt
segment-time P now (go b) e q = λ f. subst P (sym e) q
segment-time P now (on b) e q = tt

close-time : (P : ℕ → Type 0) (st : State) (b : Block) → MayRead P (close_in st b).verdict
close-time P Listen b = tt
close-time P SynReceived b = tt
close-time P Established b = λ f. absurd (false≢true (sym f))
close-time P CloseWait b = λ f. absurd (false≢true (sym f))
close-time P FinWait1 b = tt
close-time P FinWait2 b = tt
close-time P Closing b = tt
close-time P LastAck b = tt
close-time P TimeWait b = tt

call-time : (P : ℕ → Type 0) (c : Call) (b : Block) → MayRead P (tcp_call c b).verdict
unfolding tcp_call
call-time P call.Status b = tt
call-time P (call.Buffer n) b = tt
call-time P call.Close b = close-time P b.state b

-- the times of segments

abbrev EntryTime : (ℕ → Type 0) → Entry → Type 0
EntryTime P (segment now iss s text) = P now
EntryTime P (time to) = Unit {0}
EntryTime P (asks c) = Unit {0}

no-times : (es : List Entry) → AreTimesOf es []
no-times [] = refl
no-times (segment now iss s text ∷ es) = (0, [], refl, no-times es)
no-times (time to ∷ es) = no-times es
no-times (asks c ∷ es) = no-times es

-- what comes later changes none
times-stay : (es : List Entry) (e : Entry) (times : List ℕ) → AreTimesOf es times → AreTimesOf (es ++ e ∷ []) times
times-stay [] e times h = subst (λ (xs : List ℕ). AreTimesOf (e ∷ []) xs) (sym h) (no-times (e ∷ []))
times-stay (segment now iss s text ∷ es) e times h = (h.0, h.1, h.2, times-stay es e h.1 h.3)
times-stay (time to ∷ es) e times h = times-stay es e times h
times-stay (asks c ∷ es) e times h = times-stay es e times h

once-more : (n at : ℕ) → replicate n at ++ at ∷ [] ≡ at ∷ replicate n at
once-more zero at = refl
once-more (suc n) at = ap (λ (xs : List ℕ). at ∷ xs) (once-more n at)

-- that of the last segment may follow
last-follows : (es : List Entry) (e : Entry) → EntryTime (MayFollow (AreTimesOf (es ++ e ∷ []))) e
last-follows es (time to) = tt
last-follows es (asks c) = tt
last-follows es (segment now iss s text) = λ times h. behind es times h
  where
    behind : (es : List Entry) (times : List ℕ) → AreTimesOf (es ++ segment now iss s text ∷ []) times → AreTimesOf (es ++ segment now iss s text ∷ []) (times ++ now ∷ [])
    behind [] times h =
        let n = h.0 in
        let all : times ≡ replicate n now = h.2 ∙ (ap (λ (xs : List ℕ). replicate n now ++ xs) h.3 ∙ append-nil (replicate n now)) in
        (suc n, [], ap (λ (xs : List ℕ). xs ++ now ∷ []) all ∙ (once-more n now ∙ sym (append-nil (now ∷ replicate n now))), refl)
    behind (segment first iss s text ∷ es) times h =
        (h.0, h.1 ++ now ∷ [], ap (λ (xs : List ℕ). xs ++ now ∷ []) h.2 ∙ append_assoc (replicate h.0 first) h.1 (now ∷ []), behind es h.1 h.3)
    behind (time to ∷ es) times h = behind es times h
    behind (asks c ∷ es) times h = behind es times h

module _ {A : Type 0} (p : Protocol A) (Q : List ℕ → Type 0) where
  pub record Served (w : Whole) (x : Phase A) : Type 0 where
    pub times : List ℕ
    pub sends : Sent p Q times w.read (all_offered w) x
    pub opens : w.block.fin_wanted ≡ false → Open p times w.read x

module _ {A : Type 0} (p : Protocol A) where
  -- of other times, too
  served-as : (Q R : List ℕ → Type 0) (w : Whole) (x : Phase A) → ((times : List ℕ) → Q times → R times) → Served p Q w x → Served p R w x
  served-as Q R w x f h = record {
    times = h.times;
    sends = record { same = h.sends.same; stays = h.sends.stays; timely = f h.times h.sends.timely };
    opens = h.opens;
  }

module _ {A : Type 0} (p : Protocol A) (Q : List ℕ → Type 0) (none : Q []) where
  abbrev renewed : Bool → Phase A → Phase A
  renewed t x = cond t Reads x

  from-behind : (w : Whole) (c : Block) (x : Phase A) (taken offered times : List ℕ) → Behind w c taken offered → Sent p Q times (w.read ++ taken) (all_offered w ++ offered) x
      → (c.fin_wanted ≡ false → Open p times (w.read ++ taken) x) → Served p Q (follows w c) x
  from-behind w c x taken offered times h s o = record {
    times = times;
    sends = sent-at p Q times (w.read ++ taken) (all_offered w ++ offered) (follows w c).read (all_offered (follows w c)) x h.read h.all s;
    opens = λ f. subst (λ (xs : List ℕ). Open p times xs x) (sym h.read) (o f);
  }

  served-moves : (w : Whole) (c : Block) (x : Phase A) → Moves w.block c → Served p Q w x → Served p Q (follows w c) x
  served-moves w c x m h =
      from-behind w c x [] [] h.times (behind-moves w c m)
      (sent-at p Q h.times w.read (all_offered w) (w.read ++ []) (all_offered w ++ []) x (append-nil w.read) (append-nil (all_offered w)) h.sends)
      (λ f. subst (λ (xs : List ℕ). Open p h.times xs x) (sym (append-nil w.read)) (h.opens (m.keeps.wanted f)))

  served-new : (w : Whole) (c : Block) → is_listen c.state ≡ true → IsValid c → Served p Q (follows w c) Reads
  served-new w c e v = record {
    times = [];
    sends = sent-at p Q [] [] [] (follows w c).read (all_offered (follows w c)) Reads (new-read w c e) (new-all w c e (new-out c (v.new e))) (record { same = refl; stays = λ xs. refl; timely = none });
    opens = λ f. new-read w c e;
  }

  as-open : (t : Bool) (w : Whole) (x : Phase A) → t ≡ false → Served p Q w x → Served p Q w (renewed t x)
  as-open true w x e h = absurd (false≢true (sym e))
  as-open false w x e h = h

  as-renewed : (t : Bool) (w : Whole) (x : Phase A) → t ≡ true → Served p Q w Reads → Served p Q w (renewed t x)
  as-renewed true w x e h = h
  as-renewed false w x e h = absurd (false≢true e)

  served-moved : (w : Whole) (c : Block) (x : Phase A) → Moved w.block c → Served p Q w x → Served p Q (follows w c) (renewed (is_listen c.state) x)
  served-moved w c x (moves m) h = as-open (is_listen c.state) (follows w c) x m.opened (served-moves w c x m h)
  served-moved w c x (as_new e v) h = as-renewed (is_listen c.state) (follows w c) x e (served-new w c e v)

module _ {A : Type 0} (p : Protocol A) (Q : List ℕ → Type 0) (none : Q []) (law : IsProtocol p) where
  served-pumped : (w : Whole) (x : Phase A) → is_listen w.block.state ≡ false → IsValid w.block → (w.block.fin_wanted ≡ false → MayFollow Q w.block.clock) → Served p Q w x → Served p Q (follows w (pump p x w.block).1) (pump p x w.block).0
  served-pumped w x o v q h =
      let b = w.block in
      let c = (pump p x b).1 in
      let k = pump-pumps p law x b o v in
      let g = pump-sends p Q law x b h.times w.read (all_offered w) q h.sends h.opens in
      from-behind p Q none w c (pump p x b).0 g.taken g.offered g.times (behind-adds w c g.taken g.offered k.opened k.acked g.adds) g.sends g.opens

  served-followed : (w : Whole) (x : Phase A) (v : Verdict) → Says w.block v → MayRead (MayFollow Q) v → Served p Q w x
      → let u = whole_followed (λ b. (pump p x b).1) w v in Served p Q u (renewed p Q none (is_listen u.block.state) (kept (λ y b. (pump p y b).0) x v))
  served-followed w x (over c) s q h = served-moved p Q none w c x s h
  served-followed w x (on c) s q h = served-moved p Q none w c x (moves s) h
  served-followed w x (go c) s q h =
      let v = moves-valid w.block c s in
      let d = (pump p x c).1 in
      let w1 = follows w c in
      let w2 = follows w1 d in
      served-moved p Q none w2 (output d) (pump p x c).0 (output-moved d (pumps-valid c d v (pump-pumps p law x c s.opened v))) (served-pumped w1 x s.opened v q (served-moves p Q none w c x s h))

  served-enters : (e : Entry) (h : Held (Phase A)) → IsEntry e → EntryTime (MayFollow Q) e → IsValid h.whole.block → Served p Q h.whole h.service
      → let g = kept_enters (service_of p) e h in Served p Q g.whole g.service
  served-enters (segment now iss s text) h i q v g =
      let b = h.whole.block in
      let step = tcp_segment now iss s text b in
      served-followed h.whole h.service step (clock-says now b step (segment-says now iss s text b v)) (segment-time (MayFollow Q) now step (segment-steady now iss s text b v.send.sent_out).steady.clock q) g
  served-enters (time to) h i q v g = served-moved p Q none h.whole (tcp_time to h.whole.block) h.service (time-moved to h.whole.block v) g
  served-enters (asks c) h i q v g = served-followed h.whole h.service (tcp_call c h.whole.block).verdict (call-says c h.whole.block i v) (call-time (MayFollow Q) c h.whole.block) g

module _ {A : Type 0} (p : Protocol A) (law : IsProtocol p) where
  entered-valid : (e : Entry) (h : Held (Phase A)) → IsEntry e → IsValid h.whole.block → IsValid (kept_enters (service_of p) e h).whole.block
  entered-valid e h i v =
      let pumps = (service_of p).pumps h.service in
      subst (λ (b : Block). IsValid b) (sym (enters-block pumps e h.whole)) (enters-valid pumps (pump-pumps p law h.service) e h.whole.block i v)

  served-serves : (es done : List Entry) (h : Held (Phase A)) → AreEntries es → IsValid h.whole.block → Served p (AreTimesOf done) h.whole h.service
      → let g = kept_serves (service_of p) es h in Served p (AreTimesOf (done ++ es)) g.whole g.service
  served-serves [] done h i v g = subst (λ (es : List Entry). Served p (AreTimesOf es) h.whole h.service) (sym (append-nil done)) g
  served-serves (e ∷ es) done h i v g =
      let now = done ++ e ∷ [] in
      let next = kept_enters (service_of p) e h in
      let last = kept_serves (service_of p) es next in
      let begun = served-as p (AreTimesOf done) (AreTimesOf now) h.whole h.service (times-stay done e) g in
      subst (λ (es : List Entry). Served p (AreTimesOf es) last.whole last.service) (append_assoc done (e ∷ []) es)
      (served-serves es now next i.1 (entered-valid e h i.0 v) (served-enters p (AreTimesOf now) (no-times now) law e h i.0 (last-follows done e) v begun))

pub answers-come : {A : Type 0} (p : Protocol A) (law : IsProtocol p) (es : List Entry) → AreEntries es
    → let h = kept_serves (service_of p) es (kept_new (service_of p)) in Served p (AreTimesOf es) h.whole h.service
unfolding new_block
answers-come p law es i =
    served-serves p law es [] (kept_new (service_of p)) i new-valid
    (record { times = []; sends = record { same = refl; stays = λ xs. refl; timely = refl }; opens = λ f. refl })
