-- The list of firings, one firing after another: what a loop over the deadlines needs.
use Rattle.std.proofs.Common.{◌≡◌, ℕ, ◌+◌, ◌-◌, ◌<◌, ◌≤◌, List, [], ◌∷◌, Bool, true, false, cond, leb, ltb, not, ◌&&◌, ◌==◌, take, Option, None, Some, min, max, ◌*◌, inl, inr, refl, sym, ap, ◌∙◌, subst, arith}
use Rattle.std.specs.Prelude.{suc, zero, IsTrue, ◌↔◌}
use Rattle.sq_base.specs.SerialOrder.{IsBefore}
use Rattle.tcb_machine.specs.TcpStep.{is_before}
use Rattle.std.specs.Option.{ForSome}
use Rattle.std.proofs.lemmas.Bool.Decides.{nat_tests, leb_tells}
use Rattle.tcb_machine.specs.declared.kinds.State.{State}
use Rattle.tcb_machine.specs.declared.kinds.State.TheVariants.{Listen, SynReceived, Established, FinWait1, FinWait2, CloseWait, Closing, LastAck, TimeWait}
use Rattle.tcb_machine.specs.BlockState.{Block, to_listen, sends, segment_of, in_flight, snd_nxt, snd_end, unsent}
use Rattle.segment_codec.specs.declared.packet.Reply.{Reply}
use Rattle.tcb_machine.specs.Output.{sends_text}
use Rattle.tcb_machine.specs.Timers.{Firing, first_time, next_deadline, time_wait, fired, retransmission, gives_up, backed_off, retransmissions_from, timers, until, firings, sends_again, retransmits, fires, fires_all, tcp_time}
use Rattle.tcb_machine.specs.Limits.{most_retransmissions}

record Kept (b c : Block) : Type 0 where
  wait : c.time_wait_at ≡ b.time_wait_at
  clock : c.clock ≡ b.clock

-- one of three segments is sent
three : (t u : Bool) (q r : Reply) (flags : ℕ) (text : List ℕ) (b : Block) → Kept b (cond t (sends q b) (cond u (sends r b) (sends_text flags text b)))
unfolding sends_text
three true u q r flags text b = record { wait = refl; clock = refl }
three false true q r flags text b = record { wait = refl; clock = refl }
three false false q r flags text b = record { wait = refl; clock = refl }

again-kept : (b : Block) → Kept b (sends_again b)
unfolding sends_again
again-kept b = three (ltb 0 (in_flight b)) (b.fin_sent && not (b.una == snd_nxt b))
    (segment_of 24 b.una (take (min b.agreed.mss (min (in_flight b) (max 1 b.wnd))) b.out) b)
    (segment_of 17 (snd_end b) [] b) 24 (take 1 (unsent b)) b

retransmits-kept : (st : State) (b : Block) → Kept b (retransmits st b)
retransmits-kept Listen b = again-kept b
retransmits-kept SynReceived b = record { wait = refl; clock = refl }
retransmits-kept Established b = again-kept b
retransmits-kept FinWait1 b = again-kept b
retransmits-kept FinWait2 b = again-kept b
retransmits-kept CloseWait b = again-kept b
retransmits-kept Closing b = again-kept b
retransmits-kept LastAck b = again-kept b
retransmits-kept TimeWait b = again-kept b

reached : (t to : ℕ) → t ≤ to → leb t to ≡ true
reached t to h = grind (arith, nat_tests)

passed : (t to : ℕ) → to < t → leb t to ≡ false
passed t to h = grind (arith, nat_tests)

-- the retransmission deadline is due
pub time-retransmits : (to at : ℕ) (b : Block) → b.time_wait_at ≡ None → b.retransmit_at ≡ Some at → at ≤ to → b.clock ≤ to → b.retransmissions < most_retransmissions
    → tcp_time to b ≡ tcp_time to (fires (retransmission (max b.clock at)) b)
unfolding tcp_time firings fires
time-retransmits to at b none some due now few =
    let t = max b.clock at in
    let rto = backed_off b.rto in
    let rest = until to (retransmissions_from (most_retransmissions - 1 - b.retransmissions) rto (t + rto)) in
    let b' = fires (retransmission t) b in
    let kept = retransmits-kept b.state (record b { clock = t }) in
    let wait : b'.time_wait_at ≡ None = kept.wait ∙ none in
    let count : most_retransmissions - b.retransmissions ≡ suc (most_retransmissions - 1 - b.retransmissions) = omega (arith, few) in
    let left : most_retransmissions - (b.retransmissions + 1) ≡ most_retransmissions - 1 - b.retransmissions = omega arith in
    let on : t ≤ to = omega (arith, due, now) in
    let later : max b'.clock (t + rto) ≡ t + rto = omega (arith, kept.clock) in
    let here : firings to b ≡ retransmission t ∷ rest =
    ap (λ (o : Option ℕ). until to (timers o b.retransmit_at b)) none
    ∙ (ap (λ (o : Option ℕ). until to (timers None o b)) some
    ∙ (ap (λ (k : ℕ). until to (retransmissions_from k b.rto t)) count
    ∙ ap (λ (c : Bool). cond c (retransmission t ∷ rest) []) (reached t to on))) in
    let there : firings to b' ≡ rest =
    ap (λ (o : Option ℕ). until to (timers o (Some (t + rto)) b')) wait
    ∙ (ap (λ (k : ℕ). until to (retransmissions_from k rto (max b'.clock (t + rto)))) left
    ∙ ap (λ (k : ℕ). until to (retransmissions_from (most_retransmissions - 1 - b.retransmissions) rto k)) later) in
    ap (λ (fs : List Firing). record (fires_all fs b) { clock = to }) here ∙ ap (λ (fs : List Firing). record (fires_all fs b') { clock = to }) (sym there)

-- all retransmissions were made
pub time-gives-up : (to at : ℕ) (b : Block) → b.time_wait_at ≡ None → b.retransmit_at ≡ Some at → at ≤ to → b.clock ≤ to → b.retransmissions ≡ most_retransmissions
    → tcp_time to b ≡ record (to_listen b) { clock = to }
unfolding tcp_time firings fires to_listen
time-gives-up to at b none some due now all =
    let t = max b.clock at in
    let on : t ≤ to = omega (arith, due, now) in
    let count : most_retransmissions - b.retransmissions ≡ zero = omega (arith, all) in
    let here : firings to b ≡ gives_up t ∷ [] =
    ap (λ (o : Option ℕ). until to (timers o b.retransmit_at b)) none
    ∙ (ap (λ (o : Option ℕ). until to (timers None o b)) some
    ∙ (ap (λ (k : ℕ). until to (retransmissions_from k b.rto t)) count
    ∙ ap (λ (c : Bool). cond c (gives_up t ∷ []) []) (reached t to on))) in
    ap (λ (fs : List Firing). record (fires_all fs b) { clock = to }) here

-- no deadline is set, or it lies behind the time
pub time-idle : (to : ℕ) (b : Block) → b.time_wait_at ≡ None → b.retransmit_at ≡ None → tcp_time to b ≡ record b { clock = to }
unfolding tcp_time firings
time-idle to b none unset = ap (λ (fs : List Firing). record (fires_all fs b) { clock = to }) (ap (λ (o : Option ℕ). until to (timers o b.retransmit_at b)) none ∙ ap (λ (o : Option ℕ). until to (timers None o b)) unset)

-- the retransmission deadline lies behind the time
later-none : (k to rto t : ℕ) → to < t → until to (retransmissions_from k rto t) ≡ []
later-none zero to rto t h = ap (λ (c : Bool). cond c (gives_up t ∷ []) []) (passed t to h)
later-none (suc k) to rto t h = ap (λ (c : Bool). cond c (retransmission t ∷ until to (retransmissions_from k (backed_off rto) (t + backed_off rto))) []) (passed t to h)

pub time-later : (to at : ℕ) (b : Block) → b.time_wait_at ≡ None → b.retransmit_at ≡ Some at → to < max b.clock at → tcp_time to b ≡ record b { clock = to }
unfolding tcp_time firings
time-later to at b none some late =
    ap (λ (fs : List Firing). record (fires_all fs b) { clock = to })
    (ap (λ (o : Option ℕ). until to (timers o b.retransmit_at b)) none
    ∙ (ap (λ (o : Option ℕ). until to (timers None o b)) some
    ∙ later-none (most_retransmissions - b.retransmissions) to b.rto (max b.clock at) late))

pub time-rest : (to : ℕ) (o : Option ℕ) (b : Block) → b.time_wait_at ≡ None → b.retransmit_at ≡ o → ForSome o (λ at. to < at) → tcp_time to b ≡ record b { clock = to }
time-rest to None b none is late = time-idle to b none is
time-rest to (Some at) b none is late = let l = late at refl in time-later to at b none is (omega (arith, l))

-- the TIME-WAIT deadline
pub time_waits : (to at : ℕ) (b : Block) → b.time_wait_at ≡ Some at → to < max b.clock at → tcp_time to b ≡ record b { clock = to }
unfolding tcp_time firings
time_waits to at b some late =
    let t = max b.clock at in
    ap (λ (fs : List Firing). record (fires_all fs b) { clock = to })
    (ap (λ (o : Option ℕ). until to (timers o b.retransmit_at b)) some
    ∙ ap (λ (c : Bool). cond c (time_wait t ∷ []) []) (passed t to late))

pub time_ends : (to at : ℕ) (b : Block) → b.time_wait_at ≡ Some at → at ≤ to → b.clock ≤ to → tcp_time to b ≡ record (to_listen b) { clock = to }
unfolding tcp_time firings fires to_listen
time_ends to at b some due now =
    let t = max b.clock at in
    ap (λ (fs : List Firing). record (fires_all fs b) { clock = to })
    (ap (λ (o : Option ℕ). until to (timers o b.retransmit_at b)) some
    ∙ ap (λ (c : Bool). cond c (time_wait t ∷ []) []) (reached t to (omega (arith, due, now))))

-- one turn of a loop over the retransmission deadline

abbrev pub is_set : Option ℕ → ℕ
is_set None = 0
is_set (Some at) = 1

pub record Turn (to : ℕ) (b c : Block) : Type 0 where
  pub same : tcp_time to b ≡ tcp_time to c
  pub none : c.time_wait_at ≡ None
  pub clock : c.clock ≤ to
  pub smaller : 2 * (most_retransmissions - c.retransmissions) + is_set c.retransmit_at < 2 * (most_retransmissions - b.retransmissions) + is_set b.retransmit_at

turn-retransmits : (to at : ℕ) (b : Block) → b.time_wait_at ≡ None → b.retransmit_at ≡ Some at → at ≤ to → b.clock ≤ to → b.retransmissions < most_retransmissions → Turn to b (fires (retransmission (max b.clock at)) b)
unfolding fires
turn-retransmits to at b none some due now few =
    let kept = retransmits-kept b.state (record b { clock = max b.clock at }) in
    let size : is_set b.retransmit_at ≡ 1 = ap is_set some in
    record {
      same = time-retransmits to at b none some due now few;
      none = kept.wait ∙ none;
      clock = let e = kept.clock in omega (arith, e, due, now);
      smaller = omega (arith, size, few);
    }

turn-gives-up : (to at : ℕ) (b : Block) → b.time_wait_at ≡ None → b.retransmit_at ≡ Some at → at ≤ to → b.clock ≤ to → b.retransmissions ≡ most_retransmissions → Turn to b (fires (gives_up (max b.clock at)) b)
unfolding fires to_listen
turn-gives-up to at b none some due now all =
    let size : is_set b.retransmit_at ≡ 1 = ap is_set some in
    let c = to_listen (record b { clock = max b.clock at }) in
    record {
      same = time-gives-up to at b none some due now all ∙ sym (time-idle to c refl refl);
      none = refl;
      clock = omega (arith, due, now);
      smaller = omega (arith, size);
    }

pub turn : (to at : ℕ) (b : Block) → b.time_wait_at ≡ None → b.retransmit_at ≡ Some at → at ≤ to → b.clock ≤ to → b.retransmissions ≤ most_retransmissions → Turn to b (fired at b)
turn to at b none some due now most =
    elim (leb_tells (suc b.retransmissions) most_retransmissions) [
      | inl e ↦
          subst (λ (t : Bool). Turn to b (cond t (fires (retransmission (max b.clock at)) b) (fires (gives_up (max b.clock at)) b))) (sym e.0)
          (let few = e.1 in turn-retransmits to at b none some due now (omega (arith, few)))
      | inr e ↦
          subst (λ (t : Bool). Turn to b (cond t (fires (retransmission (max b.clock at)) b) (fires (gives_up (max b.clock at)) b))) (sym e.0)
          (let all = e.1 in turn-gives-up to at b none some due now (omega (arith, all, most)))
    ]

-- the first of the firings to come

pub first_retransmission : (left rto at : ℕ) → first_time (retransmissions_from left rto at) ≡ Some at
first_retransmission zero rto at = refl
first_retransmission (suc left) rto at = refl

until-quiet : (to : ℕ) (wait retransmit : Option ℕ) (b : Block) → b.time_wait_at ≡ wait → b.retransmit_at ≡ retransmit → ForSome (first_time (timers wait retransmit b)) (λ at. to < at) → tcp_time to b ≡ record b { clock = to }
until-quiet to (Some at) retransmit b w r late = time_waits to at b w (late (max b.clock at) refl)
until-quiet to None None b w r late = time-idle to b w r
until-quiet to None (Some at) b w r late = time-later to at b w r (late (max b.clock at) (first_retransmission (most_retransmissions - b.retransmissions) b.rto (max b.clock at)))

pub time-quiet : (to : ℕ) (b : Block) → ForSome (next_deadline b) (λ at. to < at) → tcp_time to b ≡ record b { clock = to }
unfolding next_deadline
time-quiet to b late = until-quiet to b.time_wait_at b.retransmit_at b refl refl late

-- the order of sequence numbers, as a test and as a relation
pub one-order : (a b : ℕ) → IsTrue (is_before a b) ↔ IsBefore a b
one-order a b = grind (arith, nat_tests)
