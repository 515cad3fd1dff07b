-- The pump is such as the laws of serving speak of.
use Rattle.std.proofs.Common.{◌≡◌, ℕ, ◌+◌, ◌≤◌, ◌++◌, Option, None, Some, Bool, true, false, cond, ◌⊎◌, inl, inr, length, refl, sym, ap, ◌∙◌, subst, arith, length-take}
use Rattle.std.specs.Prelude.{nat_le, suc, zero}
use Rattle.std.proofs.lemmas.Bool.{false≢true}
use Rattle.byte_queues.specs.ReceiveQueue.{ready_of}
use Rattle.byte_queues.specs.SendQueue.{room_of}
use Rattle.byte_queues.proofs.WholeLemmas.{next-count}
use Rattle.tcb_machine.specs.BlockState.{Block}
use Rattle.tcb_machine.specs.CallAnswers.{close_in, wants_fin}
use Rattle.tcb_machine.specs.States.{is_listen}
use Rattle.tcb_machine.specs.TcpStep.{is_time_wait}
use Rattle.tcb_machine.specs.Validity.{IsValid, left_by}
use Rattle.tcb_machine.specs.declared.kinds.State.{State}
use Rattle.tcb_machine.specs.declared.kinds.State.TheVariants.{Listen, SynReceived, Established, FinWait1, FinWait2, CloseWait, Closing, LastAck, TimeWait}
use Rattle.echo_services.specs.Closing.{is_close_wait, throws}
use Rattle.echo_services.specs.Pumping.{IsPump, Pumps, may_offer}
use Rattle.page_service.specs.declared.phase.Phase.{Phase}
use Rattle.page_service.specs.declared.phase.Phase.TheVariants.{Reads, Answers, Ends}
use Rattle.page_service.specs.Protocol.{Protocol, IsProtocol}
use Rattle.page_service.specs.Pump.{Turn, goes, rests, behind, closes, more_of, left_from, most_turns, pump, reads, said, then_on, turn, turns, waiting}
use Rattle.page_service.proofs.WorkLemmas.{Works, works-same, works-both, works-taken, works-offered}

-- what was worked on is such as a pump leaves
pub worked : (b c : Block) → is_listen b.state ≡ false → (may_offer b.state ≡ false → length c.out ≡ length b.out) → Works b c → Pumps b c
unfolding ready_of
worked b c o m w =
    let n = w.next in
    let k = w.out in
    let r = w.valid.recv.read in
    record {
      opened = ap is_listen w.state ∙ o;
      recv = w.valid.recv;
      send = w.valid.send;
      mss = w.mss;
      timed = w.valid.timed;
      replies = w.replies;
      least = w.least;
      most = omega (arith, n, r);
      next = w.next;
      acked = w.acked;
      out = omega (arith, k);
      silent = m;
    }

wanting : (st : State) (b c : Block) → is_listen st ≡ false → is_time_wait st ≡ false → is_time_wait c.state ≡ false → Pumps b c → Pumps b (wants_fin st c)
wanting st b c o w e p = record {
  opened = o;
  recv = p.recv;
  send = p.send;
  mss = p.mss;
  timed = record { elsewhere = λ f. p.timed.elsewhere e; there = λ f. absurd (false≢true (sym w ∙ f)) };
  replies = p.replies;
  least = p.least;
  most = p.most;
  next = p.next;
  acked = p.acked;
  out = p.out;
  silent = p.silent;
}

-- CLOSE, where text may be offered
closed-in : (st : State) (b c : Block) → c.state ≡ st → may_offer st ≡ true → Pumps b c → Pumps b (left_by (close_in st c).verdict)
closed-in Established b c e m p = wanting FinWait1 b c refl refl (ap is_time_wait e) p
closed-in CloseWait b c e m p = wanting LastAck b c refl refl (ap is_time_wait e) p
closed-in Listen b c e m p = p
closed-in SynReceived b c e m p = p
closed-in FinWait1 b c e m p = p
closed-in FinWait2 b c e m p = p
closed-in Closing b c e m p = p
closed-in LastAck b c e m p = p
closed-in TimeWait b c e m p = p

-- what turns leave

abbrev pub Done : Block → Block → Type 0
Done b c = Works b c ⊎ ((d : Block) × Works b d × (c ≡ closes d))

pub done-pumps : (b c : Block) → is_listen b.state ≡ false → may_offer b.state ≡ true → Done b c → Pumps b c
unfolding ready_of
done-pumps b c o m (inl w) = worked b c o (λ f. absurd (false≢true (sym f ∙ m))) w
done-pumps b c o m (inr h) =
    let d = h.0 in
    let w = h.1 in
    let opened : is_listen d.state ≡ false = ap is_listen w.state ∙ o in
    let t = works-taken (ready_of d.recv) d opened w.valid (omega arith) in
    let e = throws (ready_of d.recv) d in
    let p = worked b e o (λ f. absurd (false≢true (sym f ∙ m))) (works-both b d e w t) in
    subst (λ (x : Block). Pumps b x) (sym h.2) (closed-in d.state b e refl (ap may_offer w.state ∙ m) p)

done-both : (b c d : Block) → Works b c → Done c d → Done b d
done-both b c d w (inl x) = inl (works-both b c d w x)
done-both b c d w (inr h) = inr (h.0, works-both b c h.0 w h.1, h.2)

abbrev pub TurnDone : {A : Type 0} → Block → Turn A → Type 0
TurnDone b (goes w c) = Works b c
TurnDone b (rests w c) = Done b c

done-said : {A : Type 0} (t : Bool) (w : Phase A) (b c : Block) → Works b c → TurnDone b (said t w c)
done-said true w b c h = h
done-said false w b c h = inl h

done-if : {A : Type 0} (t : Bool) (x y : Turn A) (b : Block) → TurnDone b x → TurnDone b y → TurnDone b (cond t x y)
done-if true x y b g h = g
done-if false x y b g h = h

module _ {A : Type 0} (p : Protocol A) (law : IsProtocol p) where
  pub more-fits : (a : A) (given : ℕ) (b : Block) → length (more_of p a given b) ≤ room_of b.out
  more-fits a given b = let l = length-take (room_of b.out) (left_from p a given) in omega (arith, l)

  -- a request is among the bytes that are ready
  pub found-ready : (b : Block) (found : A × ℕ) → p.answers b.clock (waiting b) ≡ Some found → found.1 ≤ ready_of b.recv
  found-ready b found e =
      let c = law.counted b.clock (waiting b) found e in
      let n = next-count (ready_of b.recv) b.recv (omega arith) in
      omega (arith, c, n)

  read-done : (o : Option (A × ℕ)) (b : Block) → is_listen b.state ≡ false → IsValid b → p.answers b.clock (waiting b) ≡ o → TurnDone b (reads p o b)
  read-done (Some found) b o v e = works-taken found.1 b o v (found-ready b found e)
  read-done None b o v e = done-if (is_close_wait b.state) (goes Ends b) (rests Reads b) b (works-same b v) (inl (works-same b v))

  turn-done : (w : Phase A) (b : Block) → is_listen b.state ≡ false → IsValid b → TurnDone b (turn p w b)
  turn-done Reads b o v = read-done (p.answers b.clock (waiting b)) b o v refl
  turn-done (Answers a given) b o v =
      let all = nat_le (length (p.text a)) (given + length (more_of p a given b)) in
      done-said all (cond all (behind p a) (Answers a (given + length (more_of p a given b)))) b (record b { out = b.out ++ more_of p a given b })
      (works-offered (more_of p a given b) b o v (more-fits a given b))
  turn-done Ends b o v = inr (b, works-same b v, refl)

  then-done : (n : ℕ) (b : Block) (t : Turn A) → TurnDone b t → ((w : Phase A) (c : Block) → Works b c → Done c (turns p n w c).1) → Done b (then_on (turns p n) t).1
  then-done n b (goes w c) h f = done-both b c (turns p n w c).1 h (f w c h)
  then-done n b (rests w c) h f = h

  pub turns-done : (n : ℕ) (w : Phase A) (b : Block) → is_listen b.state ≡ false → IsValid b → Done b (turns p n w b).1
  unfolding turns
  turns-done zero w b o v = inl (works-same b v)
  turns-done (suc n) w b o v = then-done n b (turn p w b) (turn-done w b o v) (λ x c h. turns-done n x c (ap is_listen h.state ∙ o) h.valid)

  pumped : (t m : Bool) (w : Phase A) (b : Block) → may_offer b.state ≡ m → is_listen b.state ≡ false → IsValid b
      → Pumps b (cond t (w, throws (ready_of b.recv) b) (cond m (turns p most_turns w b) (w, b))).1
  pumped true m w b e o v = worked b (throws (ready_of b.recv) b) o (λ f. refl) (works-taken (ready_of b.recv) b o v (omega arith))
  pumped false true w b e o v = done-pumps b (turns p most_turns w b).1 o e (turns-done most_turns w b o v)
  pumped false false w b e o v = worked b b o (λ f. refl) (works-same b v)

  pub pump-pumps : (w : Phase A) → IsPump (λ b. (pump p w b).1)
  unfolding pump
  pump-pumps w b o v = pumped b.fin_wanted (may_offer b.state) w b refl o v
