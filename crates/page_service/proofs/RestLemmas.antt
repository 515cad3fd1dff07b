-- Behind a pump nothing waits that could go: so many turns are always enough.
use Rattle.std.proofs.Common.{◌≡◌, ℕ, ◌+◌, ◌-◌, ◌*◌, ◌<◌, ◌≤◌, ◌++◌, Option, None, Some, Bool, true, false, cond, ◌⊎◌, inl, inr, length, min, refl, sym, ap, ◌∙◌, arith, length-take, length-drop, length-append}
use Rattle.std.specs.Prelude.{nat_le, suc, zero}
use Rattle.std.proofs.lemmas.Bool.{false≢true}
use Rattle.std.proofs.lemmas.Bool.Decides.{leb_tells}
use Rattle.byte_queues.specs.ReceiveQueue.{ready_of, without}
use Rattle.byte_queues.specs.SendQueue.{room_of}
use Rattle.tcb_machine.specs.BlockState.{Block}
use Rattle.tcb_machine.specs.CallAnswers.{close_in}
use Rattle.tcb_machine.specs.Validity.{left_by}
use Rattle.tcb_machine.specs.declared.kinds.State.{State}
use Rattle.tcb_machine.specs.declared.kinds.State.TheVariants.{Listen, SynReceived, Established, FinWait1, FinWait2, CloseWait, Closing, LastAck, TimeWait}
use Rattle.tcb_machine.proofs.QueueLemmas.{next_without}
use Rattle.echo_services.specs.Closing.{is_close_wait, throws}
use Rattle.echo_services.specs.Pumping.{may_offer}
use Rattle.page_service.specs.declared.phase.Phase.{Phase}
use Rattle.page_service.specs.declared.phase.Phase.TheVariants.{Reads, Answers, Ends}
use Rattle.page_service.specs.Protocol.{Protocol, IsProtocol}
use Rattle.page_service.specs.Pump.{Turn, goes, rests, RestsAt, behind, closes, left_from, more_of, most_turns, pump, reads, said, then_on, turn, turns, waiting}
use Rattle.page_service.proofs.CloseLemmas.{closed_recv}

-- all is over once CLOSE was called
closed-in : (st : State) (c : Block) → may_offer st ≡ true → (left_by (close_in st c).verdict).fin_wanted ≡ true
closed-in Established c m = refl
closed-in CloseWait c m = refl
closed-in Listen c m = absurd (false≢true m)
closed-in SynReceived c m = absurd (false≢true m)
closed-in FinWait1 c m = absurd (false≢true m)
closed-in FinWait2 c m = absurd (false≢true m)
closed-in Closing c m = absurd (false≢true m)
closed-in LastAck c m = absurd (false≢true m)
closed-in TimeWait c m = absurd (false≢true m)

none-ready : (b : Block) → ready_of (throws (ready_of b.recv) b).recv ≡ 0
unfolding ready_of without
none-ready b = let n = next_without (ready_of b.recv) b.recv (omega arith) in omega (arith, n)

pub closed-rests : (b : Block) → may_offer b.state ≡ true → ((closes b).fin_wanted ≡ true) × (ready_of (closes b).recv ≡ 0)
closed-rests b m =
    let c = throws (ready_of b.recv) b in
    (closed-in b.state c m, ap ready_of (closed_recv b.state c) ∙ none-ready b)

module _ {A : Type 0} (p : Protocol A) (law : IsProtocol p) where
  -- that many turns are enough: two for each answer for which there is room, and two at the end
  abbrev Enough : Phase A → ℕ → Block → Type 0
  Enough Reads n b = (k : ℕ) × (room_of b.out < 64 * k) × (2 * k ≤ n)
  Enough (Answers a given) n b = (k : ℕ) × (room_of b.out < 64 * k) × ((2 * k + 1 ≤ n) ⊎ ((given ≡ 0) × (2 * k ≤ n + 1)))
  Enough Ends n b = 1 ≤ n

  abbrev EnoughBehind : ℕ → Turn A → Type 0
  EnoughBehind n (goes w c) = Enough w n c × (may_offer c.state ≡ true)
  EnoughBehind n (rests w c) = RestsAt p w c

  read-enough : (o : Option (A × ℕ)) (n : ℕ) (b : Block) → p.answers b.clock (waiting b) ≡ o → may_offer b.state ≡ true → Enough Reads (suc n) b → EnoughBehind n (reads p o b)
  read-enough (Some found) n b e m h = ((h.0, h.1, inr (refl, omega (arith, h.2))), m)
  read-enough None n b e m h = by_close (is_close_wait b.state) refl
    where
      by_close : (t : Bool) → is_close_wait b.state ≡ t → EnoughBehind n (cond t (goes Ends b) (rests Reads b))
      by_close true f = (omega (arith, h.1, h.2), m)
      by_close false f = (e, f)

  -- an answer was offered to its end: it used up so much of the room
  behind-enough : (t : Bool) (n k : ℕ) (c : Block) → room_of c.out < 64 * k → 2 * k ≤ n → may_offer c.state ≡ true → EnoughBehind n (goes (cond t Reads Ends) c)
  behind-enough true n k c r h m = ((k, r, h), m)
  behind-enough false n k c r h m = (omega (arith, r, h), m)

  used-up : (a : A) (given : ℕ) (b : Block) → room_of (b.out ++ more_of p a given b) ≡ room_of b.out - min (room_of b.out) (length (p.text a) - given)
  used-up a given b =
      let l = length-append b.out (more_of p a given b) in
      let t = length-take (room_of b.out) (left_from p a given) in
      let d = length-drop given (p.text a) in
      omega (arith, l, t, d)

  give-by : (t : Bool) (a : A) (given n : ℕ) (b : Block) → may_offer b.state ≡ true → Enough (Answers a given) (suc n) b
      → ((t ≡ true) × (length (p.text a) ≤ given + length (more_of p a given b))) ⊎ ((t ≡ false) × (given + length (more_of p a given b) < length (p.text a)))
      → EnoughBehind n (said t (cond t (behind p a) (Answers a (given + length (more_of p a given b)))) (record b { out = b.out ++ more_of p a given b }))
  give-by true a given n b m h (inr g) = absurd (false≢true (sym g.0))
  give-by false a given n b m h (inl g) = absurd (false≢true g.0)
  give-by false a given n b m h (inr g) =
      let u = used-up a given b in
      let t = length-take (room_of b.out) (left_from p a given) in
      let d = length-drop given (p.text a) in
      let w = g.1 in
      omega (arith, u, t, d, w)
  give-by true a given n b m h (inl g) = by_k h.2
    where
      by_k : ((2 * h.0 + 1 ≤ suc n) ⊎ ((given ≡ 0) × (2 * h.0 ≤ suc n + 1))) → EnoughBehind n (goes (behind p a) (record b { out = b.out ++ more_of p a given b }))
      by_k (inl k) =
          let u = used-up a given b in
          let r = h.1 in
          behind-enough (p.keeps a) n h.0 (record b { out = b.out ++ more_of p a given b }) (omega (arith, u, r)) (omega (arith, k)) m
      by_k (inr k) =
          let u = used-up a given b in
          let t = length-take (room_of b.out) (left_from p a given) in
          let d = length-drop given (p.text a) in
          let w = g.1 in
          let r = h.1 in
          let z = k.0 in
          let e = k.1 in
          let l = law.long a in
          behind-enough (p.keeps a) n (h.0 - 1) (record b { out = b.out ++ more_of p a given b }) (omega (arith, u, t, d, w, r, z, l)) (omega (arith, e)) m

  turn-enough : (w : Phase A) (n : ℕ) (b : Block) → may_offer b.state ≡ true → Enough w (suc n) b → EnoughBehind n (turn p w b)
  turn-enough Reads n b m h = read-enough (p.answers b.clock (waiting b)) n b refl m h
  turn-enough (Answers a given) n b m h =
      give-by (nat_le (length (p.text a)) (given + length (more_of p a given b))) a given n b m h (leb_tells (length (p.text a)) (given + length (more_of p a given b)))
  turn-enough Ends n b m h = closed-rests b m

  then-rests : (n : ℕ) (t : Turn A) → EnoughBehind n t → ((w : Phase A) (c : Block) → Enough w n c → may_offer c.state ≡ true → RestsAt p (turns p n w c).0 (turns p n w c).1)
      → RestsAt p (then_on (turns p n) t).0 (then_on (turns p n) t).1
  then-rests n (goes w c) h f = f w c h.0 h.1
  then-rests n (rests w c) h f = h

  never-none : (w : Phase A) (b : Block) → Enough w 0 b → ⊥
  never-none Reads b h = omega (arith, h.1, h.2)
  never-none (Answers a given) b h =
      elim h.2 [
        | inl k ↦ omega (arith, k)
        | inr k ↦ omega (arith, h.1, k.1)
      ]
  never-none Ends b h = omega (arith, h)

  turns-rest : (n : ℕ) (w : Phase A) (b : Block) → may_offer b.state ≡ true → Enough w n b → RestsAt p (turns p n w b).0 (turns p n w b).1
  unfolding turns
  turns-rest zero w b m h = absurd (never-none w b h)
  turns-rest (suc n) w b m h = then-rests n (turn p w b) (turn-enough w n b m h) (λ x c g m'. turns-rest n x c m' g)

  first-enough : (w : Phase A) (b : Block) → Enough w most_turns b
  first-enough Reads b = (1024, omega arith, omega arith)
  first-enough (Answers a given) b = (1024, omega arith, inl (omega arith))
  first-enough Ends b = omega arith

  choosing : (t m : Bool) (w : Phase A) (b : Block) → t ≡ false → m ≡ true → may_offer b.state ≡ true
      → let x = cond t (w, throws (ready_of b.recv) b) (cond m (turns p most_turns w b) (w, b)) in RestsAt p x.0 x.1
  choosing true m w b f e o = absurd (false≢true (sym f))
  choosing false false w b f e o = absurd (false≢true e)
  choosing false true w b f e o = turns-rest most_turns w b o (first-enough w b)

  pub pump-rests : (w : Phase A) (b : Block) → b.fin_wanted ≡ false → may_offer b.state ≡ true → RestsAt p (pump p w b).0 (pump p w b).1
  unfolding pump
  pump-rests w b f m = choosing b.fin_wanted (may_offer b.state) w b f m m
