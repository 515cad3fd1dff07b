-- One more element behind the gate.
use Rattle.std.proofs.Common.{◌≡◌, ◌≢◌, ◌≤◌, ℕ, ◌||◌, List, [], ◌∷◌, ◌++◌, ◌+◌, ap, sym, ◌∙◌, None, Some, Option, not, Bool, true, false, refl, length, length-set, slice_set, append-nil, arith}
use Rattle.std.specs.Prelude.{vec_capacity, IsSome}
use Rattle.turn_gate.specs.History.{only}
use Rattle.turn_gate.proofs.Histories.{only-append, only_same, only_other}
use Rattle.std.specs.Prelude.{Vec}
use Rattle.perimeter_core.specs.declared.resident.Resident.{Ghosts}
use Rattle.perimeter_core.specs.declared.entries.Entry.{Entry}
use Rattle.perimeter_core.specs.declared.entries.Entry.TheVariants as Entry'
use Rattle.perimeter_core.specs.declared.entries.Feed.{Feed}
use Rattle.perimeter_core.specs.declared.entries.Act.{Act}
use Rattle.perimeter_core.specs.declared.marks.SynchAct.{SynchAct}
use Rattle.perimeter_core.specs.declared.marks.SynchAct.TheVariants as Done
use Rattle.perimeter_core.specs.declared.marks.Own.{Own}
use Rattle.perimeter_core.specs.declared.marks.Own.TheVariants.{Free, Out, Granted}
use Rattle.perimeter_core.specs.Perimeter.{State, Idle, is_free, is_empty, polls, processed, unprocessed, here_after, after}
use Rattle.perimeter_core.specs.History.{Element, Setting, start, run}
use Rattle.perimeter_core.specs.Legal.{May, feed_count}
use Rattle.squeue_state.proofs.QueuedRoom.{fits_after, short_queue, feed_entries}
use Rattle.perimeter_core.specs.Deeds.{entries, entries_of}
use Rattle.perimeter_core.specs.Blocks.{Blocks, peri, with_feeds, with_act}
use Rattle.perimeter_core.proofs.OneMore.{run_push, legal_more}
use Rattle.perimeter_core.proofs.BlocksFollow.{peri_push}
use Rattle.perimeter_core.proofs.FeedActs.{with_none}
use Rattle.squeue_state.specs.declared.inner.Inner.{Inner}
use Rattle.squeue_state.specs.Naming.{Given, setting_of}
use Rattle.squeue_state.specs.Lone.{is_fast, ends_fast, is_lone, buffer_of}
use Rattle.squeue_state.specs.Hands.{AreBuffers, GoBack}
use Rattle.histories.specs.Elements.{number_of, filled_by, fast_by, claimed_by, ask_claimed_by, taken_by, left_by_pass, asked_by, granted_by, accepted_by, worked_by, closed_by}
use Rattle.squeue_state.specs.Behind.{Behind, IsPeri, Lies, Spare, HasEmpty, FeedsFit, ActBelow}
use Rattle.perimeter_core.specs.Legal.{InRange}
use Rattle.perimeter_core.specs.History.{conns}
use Rattle.perimeter_core.specs.declared.marks.Mark.TheVariants as On

module _ {R P O : Type 0} (G : Ghosts R P O) where
  -- where a pass is out, the resident isn't here
  pub none_out : (g : Given R) (o : Own) (p : ℕ) (r : Option R) (blocks : Blocks) → Lies G g o r blocks → o ≡ Out p → r ≡ None
  none_out g o p None blocks l out = refl
  none_out g o p (Some x) blocks l out = absurd (rw out at l)

ends_push : (xs : List Element) (e : Element) → ends_fast (xs ++ e ∷ []) ≡ is_fast e.mark
ends_push [] e = refl
ends_push (x ∷ []) e = refl
ends_push (x ∷ y ∷ xs) e = ends_push (y ∷ xs) e

-- an owner's own mark says whether it came by Fast
pub own_lone : (p : ℕ) (H : List Element) (e : Element) → number_of e ≡ p → is_lone (Out p) (H ++ e ∷ []) ≡ is_fast e.mark
own_lone p H e is =
    ap ends_fast (only-append number_of p H (e ∷ []) ∙ ap (λ (xs : List Element). only number_of p H ++ xs) (only_same number_of p e is)) ∙ ends_push (only number_of p H) e

-- and another's mark changes nothing
pub others_lone : (o : Own) (p : ℕ) (H : List Element) (e : Element) → number_of e ≡ p → o ≢ Out p → is_lone o (H ++ e ∷ []) ≡ is_lone o H
others_lone Free p H e is not = refl
others_lone (Granted q) p H e is not = refl
others_lone (Out q) p H e is not =
    ap ends_fast (only-append number_of q H (e ∷ []) ∙ (ap (λ (xs : List Element). only number_of q H ++ xs) (only_other number_of q e (λ same. not (ap Out (sym same ∙ is)))) ∙ append-nil (only number_of q H)))

-- the second buffer isn't here
no_spare : {A : Type 0} (room k p : ℕ) (s : Option (Vec Entry A)) → s ≡ None → Spare room false k (Out p) s
no_spare room k p s none = rw none tt

spare_still : {A : Type 0} (room : ℕ) (a b : Bool) (k l : ℕ) (o q : Own) (s t : Option (Vec Entry A)) → b ≡ a → l ≡ k → q ≡ o → t ≡ s → Spare room a k o s → Spare room b l q t
spare_still room a b k l o q s t lone many own same sp = rw (lone, many, own, same) sp

-- where nobody is out, the second buffer is there
pub empty_more : {A : Type 0} (n k : ℕ) (s t : Option (Vec Entry A)) → t ≡ s → k ≡ n → HasEmpty n s → HasEmpty k t
empty_more n k None t is le h = absurd h
empty_more n k (Some v) t is le h = rw is (h.0, omega (arith, le, h.1))

pub empty_free : {A : Type 0} (room : ℕ) (lone : Bool) (k : ℕ) (o : Own) (s : Option (Vec Entry A)) → Spare room lone k o s → o ≡ Free → HasEmpty room s
empty_free room true k o s sp free = sp.0
empty_free room false k o s sp free = rw free at sp

pub spare_granted : {A : Type 0} (room : ℕ) (lone : Bool) (k : ℕ) (o : Own) (p : ℕ) (s : Option (Vec Entry A)) (v : Vec Entry A) → Spare room lone k o s → o ≡ Granted p → s ≡ Some v → (v.items ≡ []) × (room ≡ vec_capacity v)
spare_granted room true k o p s v sp granted is = rw is at sp.0
spare_granted room false k o p s v sp granted is = rw (granted, is) at sp

-- an owner by Fast has one entry
pub lone_one : {A : Type 0} (room : ℕ) (lone : Bool) (k : ℕ) (o : Own) (s : Option (Vec Entry A)) → Spare room lone k o s → lone ≡ true → k ≡ 1
lone_one room true k o s sp is = sp.1
lone_one room false k o s sp is = cc is

-- the two buffers, where a pass is out
pub out_buffers : {A : Type 0} (room : ℕ) (lone : Bool) (k : ℕ) (o : Own) (s : Option (Vec Entry A)) (chain : ℕ) (its : Option ℕ) → Spare room lone k o s → room ≡ chain → its ≡ buffer_of room lone → AreBuffers room its chain s
out_buffers room true k o s chain its sp full is = rw is (full, sp.0)
out_buffers room false k o s chain its sp full is = rw is (full, refl)

-- what is left of the hand goes back
pub go_back : (room : ℕ) (lone : Bool) (left queued : ℕ) (its : Option ℕ) → its ≡ buffer_of room lone → (lone ≡ true → left ≡ 0) → left + queued ≤ room → GoBack its left queued
go_back room true left queued its is none fits = rw is (none refl)
go_back room false left queued its is none fits = rw is fits

pub spare_there : {A : Type 0} (room : ℕ) (lone : Bool) (k : ℕ) (o : Own) (s : Option (Vec Entry A)) (its : Option ℕ) → Spare room lone k o s → its ≡ buffer_of room lone → its ≡ None → IsSome s
spare_there room true k o (Some v) its sp is none = refl
spare_there room true k o None its sp is none = absurd sp.0
spare_there room false k o s its sp is none = cc (sym is ∙ none)

module _ {R P O : Type 0} (G : Ghosts R P O) (g : Given R) (i j : Inner R) (H : List Element) where
  abbrev S : Setting
  S = setting_of G.limits g

  abbrev B : Inner R → List Element → Type 0
  B = Behind G g

  -- all but the resident and the buffers follow from the state after the mark
  pub goes_on : (e : Element) → B i H → May S H e
      → j.own ≡ (after (run S H) e.mark).own → j.chain.items ≡ (after (run S H) e.mark).chain → j.wake ≡ (after (run S H) e.mark).wake → j.polling ≡ (after (run S H) e.mark).polling
      → j.here.items ≡ (after (run S H) e.mark).here → j.closed.items ≡ (after (run S H) e.mark).closed
      → Lies G g j.own j.resident (peri S (H ++ e ∷ [])) → Spare g.room (is_lone j.own (H ++ e ∷ [])) j.in_hand j.own j.spare → g.room ≡ vec_capacity j.chain
      → j.in_hand ≡ length (after (run S H) e.mark).hand → FeedsFit S g.room H (feed_count (entries_of e.mark))
      → B j (H ++ e ∷ [])
  goes_on e b m own chain wake polling here closed resident spare room out fits =
      let s = sym (run_push (start S) H e) in
      let legal = legal_more S H e b.legal m in
      let within = fits_after S g.room H e b.legal m fits in
      record {
        legal = legal;
        own = own ∙ ap (λ (t : State). t.own) s;
        chain = chain ∙ ap (λ (t : State). t.chain) s;
        wake = wake ∙ ap (λ (t : State). t.wake) s;
        polling = polling ∙ ap (λ (t : State). t.polling) s;
        here = here ∙ ap (λ (t : State). t.here) s;
        closed = closed ∙ ap (λ (t : State). t.closed) s;
        resident = resident;
        spare = spare;
        room = room;
        out = out ∙ ap (λ (t : State). length t.hand) s;
        fits = within;
        short = short_queue S g.room (H ++ e ∷ []) legal within;
        few = b.few;
      }

  -- the second buffer after a mark of one who isn't owner, and after an owner's
  still : (e : Element) (p : ℕ) → B i H → number_of e ≡ p → Idle (run S H) p → j.own ≡ i.own → j.in_hand ≡ i.in_hand → j.spare ≡ i.spare → Spare g.room (is_lone j.own (H ++ e ∷ [])) j.in_hand j.own j.spare
  still e p b is idle own many spare =
      spare_still g.room (is_lone i.own H) (is_lone j.own (H ++ e ∷ [])) i.in_hand j.in_hand i.own j.own i.spare j.spare
      (ap (λ (o : Own). is_lone o (H ++ e ∷ [])) own ∙ others_lone i.own p H e is (λ out. idle.no_owner (sym b.own ∙ out))) many own spare b.spare

  now_out : (e : Element) (p : ℕ) → number_of e ≡ p → j.own ≡ Out p → Spare g.room (is_fast e.mark) j.in_hand (Out p) j.spare → Spare g.room (is_lone j.own (H ++ e ∷ [])) j.in_hand j.own j.spare
  now_out e p is own spare =
      spare_still g.room (is_fast e.mark) (is_lone j.own (H ++ e ∷ [])) j.in_hand j.in_hand (Out p) j.own j.spare j.spare
      (ap (λ (o : Own). is_lone o (H ++ e ∷ [])) own ∙ own_lone p H e is) refl own refl spare

  pub fill_behind : (p : ℕ) (es : List Feed) → B i H → May S H (filled_by p es)
      → j.own ≡ i.own → j.chain.items ≡ i.chain.items ++ entries es → j.wake ≡ (is_free i.own || i.wake) → j.polling ≡ polls (i.chain.items ++ entries es) i.polling
      → j.here.items ≡ i.here.items → j.closed.items ≡ i.closed.items → j.resident ≡ i.resident → j.spare ≡ i.spare → g.room ≡ vec_capacity j.chain → j.in_hand ≡ i.in_hand → FeedsFit S g.room H (length es) → B j (H ++ filled_by p es ∷ [])
  fill_behind p es b m own chain wake polling here closed resident spare room out fits =
      let e = filled_by p es in
      goes_on e b m (own ∙ b.own) (rw b.chain at chain) (rw (b.own, b.wake) at wake) (rw (b.chain, b.polling) at polling) (here ∙ b.here) (closed ∙ b.closed)
      (rw (own, resident, peri_push S H e m, with_none (peri S H)) b.resident)
      (still e p b refl m.idle own out spare) room (out ∙ b.out) (omega (arith, fits, feed_entries es))

  pub close_behind : (p : ℕ) → B i H → May S H (closed_by p)
      → j.own ≡ i.own → j.chain.items ≡ i.chain.items → j.wake ≡ i.wake → j.polling ≡ polls i.chain.items i.polling
      → j.here.items ≡ i.here.items → j.closed.items ≡ slice_set i.closed.items p true → j.resident ≡ i.resident → j.spare ≡ i.spare → g.room ≡ vec_capacity j.chain → j.in_hand ≡ i.in_hand → B j (H ++ closed_by p ∷ [])
  close_behind p b m own chain wake polling here closed resident spare room out =
      let e = closed_by p in
      goes_on e b m (own ∙ b.own) (chain ∙ b.chain) (wake ∙ b.wake) (rw (b.chain, b.polling) at polling) (here ∙ b.here) (rw b.closed at closed)
      (rw (own, resident, peri_push S H e m, with_none (peri S H)) b.resident)
      (still e p b refl m.idle own out spare) room (out ∙ b.out) b.fits

  pub accept_behind : (p : ℕ) → B i H → May S H (accepted_by p)
      → j.own ≡ Out p → j.chain.items ≡ i.chain.items → j.wake ≡ i.wake → j.polling ≡ polls i.chain.items i.polling
      → j.here.items ≡ i.here.items → j.closed.items ≡ i.closed.items → j.resident ≡ None → j.spare ≡ None → g.room ≡ vec_capacity j.chain → j.in_hand ≡ 0 → B j (H ++ accepted_by p ∷ [])
  accept_behind p b m own chain wake polling here closed resident spare room out =
      let e = accepted_by p in
      goes_on e b m own (chain ∙ b.chain) (wake ∙ b.wake) (rw (b.chain, b.polling) at polling) (here ∙ b.here) (closed ∙ b.closed)
      (rw (own, resident) tt) (now_out e p refl own (no_spare g.room j.in_hand p j.spare spare)) room out b.fits

  -- the pass has the perimeter: neither resident nor second buffer lies in the gate
  pub out_behind : (e : Element) (p : ℕ) → B i H → May S H e
      → (after (run S H) e.mark).own ≡ Out p → (after (run S H) e.mark).here ≡ (run S H).here → (after (run S H) e.mark).closed ≡ (run S H).closed
      → j.own ≡ Out p → j.chain.items ≡ (after (run S H) e.mark).chain → j.wake ≡ (after (run S H) e.mark).wake → j.polling ≡ (after (run S H) e.mark).polling
      → j.here.items ≡ i.here.items → j.closed.items ≡ i.closed.items → j.resident ≡ None → number_of e ≡ p → Spare g.room (is_fast e.mark) j.in_hand (Out p) j.spare → g.room ≡ vec_capacity j.chain → j.in_hand ≡ length (after (run S H) e.mark).hand → FeedsFit S g.room H (feed_count (entries_of e.mark)) → B j (H ++ e ∷ [])
  out_behind e p b m is_out same_here same_closed own chain wake polling here closed resident number spare room out fits =
      goes_on e b m (own ∙ sym is_out) chain wake polling (here ∙ (b.here ∙ sym same_here)) (closed ∙ (b.closed ∙ sym same_closed))
      (rw (own, resident) tt) (now_out e p number own spare) room out fits

  pub work_behind : (p : ℕ) → B i H → May S H (worked_by p)
      → j.own ≡ Out p → j.chain.items ≡ [] → j.wake ≡ false → j.polling ≡ polls j.chain.items i.polling
      → j.here.items ≡ i.here.items → j.closed.items ≡ i.closed.items → j.resident ≡ None → j.spare ≡ None → g.room ≡ vec_capacity j.chain → j.in_hand ≡ length i.chain.items → B j (H ++ worked_by p ∷ [])
  work_behind p b m own chain wake polling here closed resident spare room out =
      out_behind (worked_by p) p b m refl refl refl own chain wake (rw (chain, b.polling) at polling) here closed resident refl (no_spare g.room j.in_hand p j.spare spare) room (out ∙ ap length b.chain) b.fits

  pub claim_behind : (p : ℕ) (es : List Feed) → B i H → May S H (claimed_by p es)
      → j.own ≡ Out p → j.chain.items ≡ [] → j.wake ≡ false → j.polling ≡ polls j.chain.items i.polling
      → j.here.items ≡ i.here.items → j.closed.items ≡ i.closed.items → j.resident ≡ None → j.spare ≡ None → g.room ≡ vec_capacity j.chain → j.in_hand ≡ length (i.chain.items ++ entries es) → FeedsFit S g.room H (length es) → B j (H ++ claimed_by p es ∷ [])
  claim_behind p es b m own chain wake polling here closed resident spare room out fits =
      out_behind (claimed_by p es) p b m refl refl refl own chain wake (rw (chain, b.polling) at polling) here closed resident refl (no_spare g.room j.in_hand p j.spare spare) room (out ∙ ap (λ xs. length (xs ++ entries es)) b.chain) (omega (arith, fits, feed_entries es))

  pub claim_ask_behind : (p : ℕ) → B i H → May S H (ask_claimed_by p)
      → j.own ≡ Out p → j.chain.items ≡ [] → j.wake ≡ false → j.polling ≡ polls j.chain.items i.polling
      → j.here.items ≡ i.here.items → j.closed.items ≡ i.closed.items → j.resident ≡ None → j.spare ≡ None → g.room ≡ vec_capacity j.chain → j.in_hand ≡ length (i.chain.items ++ Entry'.Ask p ∷ []) → B j (H ++ ask_claimed_by p ∷ [])
  claim_ask_behind p b m own chain wake polling here closed resident spare room out =
      out_behind (ask_claimed_by p) p b m refl refl refl own chain wake (rw (chain, b.polling) at polling) here closed resident refl (no_spare g.room j.in_hand p j.spare spare) room (out ∙ ap (λ xs. length (xs ++ Entry'.Ask p ∷ [])) b.chain) b.fits

  pub fast_behind : (p : ℕ) (e : Feed) → B i H → May S H (fast_by p e)
      → j.own ≡ Out p → j.chain.items ≡ i.chain.items → j.wake ≡ i.wake → j.polling ≡ polls i.chain.items i.polling
      → j.here.items ≡ i.here.items → j.closed.items ≡ i.closed.items → j.resident ≡ None → j.spare ≡ i.spare → g.room ≡ vec_capacity j.chain → j.in_hand ≡ 1 → FeedsFit S g.room H 1 → B j (H ++ fast_by p e ∷ [])
  fast_behind p e b m own chain wake polling here closed resident spare room out fits =
      out_behind (fast_by p e) p b m refl refl refl own (chain ∙ b.chain) (wake ∙ b.wake) (rw (b.chain, b.polling) at polling) here closed resident refl (empty_more g.room g.room i.spare j.spare spare refl (empty_free g.room (is_lone i.own H) i.in_hand i.own i.spare b.spare (b.own ∙ m.step.0)), out) room out (omega (arith, fits))

  pub take_behind : (p : ℕ) → B i H → May S H (taken_by p)
      → j.own ≡ i.own → j.chain.items ≡ [] → j.wake ≡ i.wake → j.polling ≡ polls [] i.polling
      → j.here.items ≡ i.here.items → j.closed.items ≡ i.closed.items → j.resident ≡ i.resident → j.spare ≡ None → g.room ≡ vec_capacity j.chain → j.in_hand ≡ length i.chain.items → B j (H ++ taken_by p ∷ [])
  take_behind p b m own chain wake polling here closed resident spare room taken_out =
      let out : i.own ≡ Out p = b.own ∙ m.step.0 in
      out_behind (taken_by p) p b m m.step.0 refl refl (own ∙ out) chain (wake ∙ b.wake) (rw b.polling at polling) here closed
      (resident ∙ none_out G g i.own p i.resident (peri S H) b.resident out) refl (no_spare g.room j.in_hand p j.spare spare) room (taken_out ∙ ap length b.chain) b.fits

  pub ask_behind : (p : ℕ) → B i H → May S H (asked_by p)
      → j.own ≡ i.own → j.chain.items ≡ i.chain.items ++ Entry'.Ask p ∷ [] → j.wake ≡ i.wake → j.polling ≡ polls (i.chain.items ++ Entry'.Ask p ∷ []) i.polling
      → j.here.items ≡ i.here.items → j.closed.items ≡ i.closed.items → j.resident ≡ i.resident → j.spare ≡ i.spare → g.room ≡ vec_capacity j.chain → j.in_hand ≡ i.in_hand → B j (H ++ asked_by p ∷ [])
  ask_behind p b m own chain wake polling here closed resident spare room out =
      let e = asked_by p in
      goes_on e b m (own ∙ b.own) (rw b.chain at chain) (wake ∙ b.wake) (rw (b.chain, b.polling) at polling) (here ∙ b.here) (closed ∙ b.closed)
      (rw (own, resident, peri_push S H e m, with_none (peri S H)) b.resident)
      (still e p b refl m.idle own out spare) room (out ∙ b.out) b.fits

  pub leave_behind : (p rest : ℕ) (act : SynchAct) (note : List Act) (left : List Entry) (r : R)
      → B i H → left ≡ unprocessed rest (run S H).hand → IsPeri G g r (with_act act note (with_feeds (processed rest (run S H).hand) (peri S H))) → May S H (left_by_pass p rest act note)
      → j.own ≡ Free → j.chain.items ≡ left ++ i.chain.items → j.wake ≡ not (is_empty (left ++ i.chain.items)) → j.polling ≡ polls (left ++ i.chain.items) i.polling
      → j.here.items ≡ here_after act i.here.items → j.closed.items ≡ i.closed.items → j.resident ≡ Some r → HasEmpty g.room j.spare → g.room ≡ vec_capacity j.chain
      → j.in_hand ≡ 0 → B j (H ++ left_by_pass p rest act note ∷ [])
  leave_behind p rest act note left r b is peri_r m own chain wake polling here closed resident spare room out =
      let e = left_by_pass p rest act note in
      goes_on e b m own (rw (is, b.chain) at chain) (rw (is, b.chain) at wake) (rw (is, b.chain, b.polling) at polling) (rw b.here at here) (closed ∙ b.closed)
      (rw (own, resident, peri_push S H e m) peri_r) (rw own spare) room out b.fits

  pub grant_behind : (p j' rest : ℕ) (left : List Entry) (r : R)
      → B i H → left ≡ unprocessed rest (run S H).hand → IsPeri G g r (with_feeds (processed rest (run S H).hand) (peri S H)) → May S H (granted_by p j' rest)
      → j.own ≡ Granted j' → j.chain.items ≡ left ++ i.chain.items → j.wake ≡ i.wake → j.polling ≡ polls (left ++ i.chain.items) i.polling
      → j.here.items ≡ i.here.items → j.closed.items ≡ i.closed.items → j.resident ≡ Some r → HasEmpty g.room j.spare → g.room ≡ vec_capacity j.chain
      → j.in_hand ≡ 0 → B j (H ++ granted_by p j' rest ∷ [])
  grant_behind p j' rest left r b is peri_r m own chain wake polling here closed resident spare room out =
      let e = granted_by p j' rest in
      goes_on e b m own (rw (is, b.chain) at chain) (wake ∙ b.wake) (rw (is, b.chain, b.polling) at polling) (here ∙ b.here) (closed ∙ b.closed)
      (rw (own, resident, peri_push S H e m) peri_r) (rw own spare) room out b.fits

pub same_flags : (act : SynchAct) (here : List Bool) → length (here_after act here) ≡ length here
same_flags Done.None here = refl
same_flags (Done.Call c j k) here = refl
same_flags Done.Away here = refl
same_flags (Done.Out c) here = length-set here c false
same_flags (Done.In c) here = length-set here c true

pub act_below : (n : ℕ) (S : Setting) (p rest : ℕ) (act : SynchAct) → n ≡ conns S → InRange S (On.Leave p rest act) → ActBelow n act
act_below n S p rest Done.None e r = tt
act_below n S p rest (Done.Call c j k) e r = tt
act_below n S p rest Done.Away e r = tt
act_below n S p rest (Done.Out c) e r = rw e r.1
act_below n S p rest (Done.In c) e r = rw e r.1
