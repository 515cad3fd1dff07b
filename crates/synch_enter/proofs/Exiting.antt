-- An owner at its Ask that leaves.
use Rattle.std.proofs.Common.{◌≡◌, ◌≢◌, ℕ, ◌<◌, ◌%◌, ◌⊎◌, inl, Bool, true, false, if◌then◌else◌, Some, None, List, [], ◌∷◌, ◌++◌, length, refl, ap, sym, ◌∙◌, subst, arith}
use Rattle.std.proofs.lemmas.List.{append-nil}
use Rattle.std.specs.Prelude.{slice_index, slice_index_or}
use Rattle.turn_gate.specs.History.{only as by_number}
use Rattle.turn_gate.specs.Passes.{IsPassOf, number, seen, mine, steps}
use Rattle.turn_gate.specs.declared.pass.Pass.{Pass}
use Rattle.perimeter_core.specs.declared.resident.Resident.{Ghosts}
use Rattle.perimeter_core.specs.declared.entries.Act.{Act}
use Rattle.perimeter_core.specs.declared.entries.Entry.{Entry}
use Rattle.perimeter_core.specs.declared.marks.Own.TheVariants.{Out}
use Rattle.perimeter_core.specs.declared.marks.SynchAct.{SynchAct}
use Rattle.perimeter_core.specs.declared.marks.SynchAct.TheVariants as Done
use Rattle.perimeter_core.specs.declared.marks.Mark.TheVariants as On
use Rattle.perimeter_core.specs.Perimeter.{State, Idle, after, is_here, is_closed, has_ask, ends_with_ask, processed, unprocessed}
use Rattle.perimeter_core.specs.History.{Element, Setting, start, run, made_by}
use Rattle.perimeter_core.specs.Deeds.{acts, acts_after, feed_acts, times_left}
use Rattle.perimeter_core.specs.Legal.{May, Legal, ActFits, NoteFits, only_last_ask}
use Rattle.perimeter_core.specs.Blocks.{Blocks, peri}
use Rattle.perimeter_core.proofs.OneMore.{run_push, legal_front}
use Rattle.perimeter_core.proofs.BlocksFollow.{acts_push}
use Rattle.perimeter_core.proofs.AtItsAsk.{nothing_queued}
use Rattle.perimeter_core.proofs.OwnAsk.{waits_no_more}
use Rattle.perimeter_core.proofs.Rests.{rests_since}
use Rattle.perimeter_core.proofs.RingKnows.{ring_knows}
use Rattle.perimeter_core.proofs.Since.{known_since}
use Rattle.squeue_state.specs.Naming.{Named, Turned, setting_of}
use Rattle.histories.specs.Elements.{number_of, left_by_pass}
use Rattle.squeue_state.specs.Clauses.{Found, Marked, Added}
use Rattle.squeue_state.proofs.Makers.{made-append}
use Rattle.squeue_state.proofs.Turns.{one_turn}
use Rattle.squeue_drain.specs.declared.owner.Owner.{Owner}
use Rattle.squeue_drain.specs.Owning.{state_of}
use Rattle.squeue_drain.proofs.Hands.{none_left, within}
use Rattle.histories.proofs.OwnersFacts.{owner_below}
use Rattle.histories.proofs.Counts.{quota_kept}
use Rattle.squeue_drain.proofs.Turning.{others, AtTurn, at_turn}
use Rattle.synch_enter.specs.Synch.{StandsAtItsAsk, acts_at}

note_at : (p q rest k : ℕ) (act : SynchAct) (note : List Act) → NoteFits (On.Leave p rest act) note → NoteFits (On.Leave q k act) note
note_at p q rest k Done.None note h = h
note_at p q rest k (Done.Call c j n) note h = h
note_at p q rest k Done.Away note h = h
note_at p q rest k (Done.Out c) note h = h
note_at p q rest k (Done.In c) note h = h

times_same : (S : Setting) (H K : List Element) (c p : ℕ) → Legal S (H ++ K) → made_by p K ≡ [] → p ≡ c % S.rings → times_left c (H ++ K) ≡ times_left c H
times_same S H K c p l none ring =
    let made : made_by p (H ++ K) ≡ made_by p H = made-append p H K ∙ (ap (λ (xs : List Element). made_by p H ++ xs) none ∙ append-nil (made_by p H)) in
    let same : made_by (c % S.rings) (H ++ K) ≡ made_by (c % S.rings) H = subst (λ (r : ℕ). made_by r (H ++ K) ≡ made_by r H) ring made in
    (ring_knows S (H ++ K) c l).left ∙ (ap (times_left c) same ∙ sym (ring_knows S H c (legal_front S H K l)).left)

-- an act that fits still does after what others made meanwhile
fits_since : (S : Setting) (H K : List Element) (p : ℕ) (act : SynchAct) → Legal S (H ++ K) → made_by p K ≡ [] → (run S H).own ≡ Out p → ((run S H).hand ≡ []) ⊎ (ends_with_ask p (run S H).hand ≡ true)
    → ActFits S H (run S H) p (run S H).chain act → ActFits S (H ++ K) (run S (H ++ K)) p (run S (H ++ K)).chain act
fits_since S H K p Done.None l none own at f = tt
fits_since S H K p (Done.Call c j k) l none own at f =
    let k = (known_since S H K p l none).owner own in (f.0, ap (λ (t : List Bool). slice_index_or t c false) k.3 ∙ f.1, f.2)
fits_since S H K p Done.Away l none own at f = f
fits_since S H K p (Done.Out c) l none own at f =
    let k = (known_since S H K p l none).owner own in
    let here = ap (λ (t : List Bool). slice_index_or t c false) k.3 in
    let ask : ((run S (H ++ K)).hand ≡ []) ⊎ (ends_with_ask p (run S (H ++ K)).hand ≡ true) = subst (λ (xs : List Entry). (xs ≡ []) ⊎ (ends_with_ask p xs ≡ true)) (sym k.1) at in
    let behind = nothing_queued S (H ++ K) c l (k.0 ∙ ap Out f.0) (subst (λ (q : ℕ). ((run S (H ++ K)).hand ≡ []) ⊎ (ends_with_ask q (run S (H ++ K)).hand ≡ true)) f.0 ask) in
    (f.0, here ∙ f.1, subst (λ (n : ℕ). n < slice_index S.limits.leaves c) (sym (times_same S H K c p l none f.0)) f.2, behind)
fits_since S H K p (Done.In c) l none own at f =
    let k = (known_since S H K p l none).owner own in (f.0, ap (λ (t : List Bool). slice_index_or t c false) k.3 ∙ f.1)

some_same : (b : Bool) (xs ys : List Act) → b ≡ true → (if b then Some xs else None) ≡ (if b then Some ys else None) → xs ≡ ys
some_same true xs ys h e = cc e
some_same false xs ys h e = absurd (cc h)

-- so do the acts of a connection that is here
acts_same : (S : Setting) (H K : List Element) (p c : ℕ) → Legal S (H ++ K) → made_by p K ≡ [] → (run S H).own ≡ Out p → is_here (run S H) c ≡ true → acts S (H ++ K) c ≡ acts S H c
acts_same S H K p c l none own here =
    let k = (known_since S H K p l none).owner own in
    let same : is_here (run S (H ++ K)) c ≡ is_here (run S H) c = ap (λ (t : List Bool). slice_index_or t c false) k.3 in
    let blocks : peri S (H ++ K) c ≡ peri S H c = ap (λ (b : Blocks). b c) (rests_since S H K p l none (inl own)) in
    some_same (is_here (run S H) c) (acts S (H ++ K) c) (acts S H c) here
    (ap (λ (b : Bool). if b then Some (acts S (H ++ K) c) else None) (sym same) ∙ blocks)

act_here : (S : Setting) (H : List Element) (t : State) (p c : ℕ) (queue : List Entry) (act : SynchAct) → act ≡ Done.Out c → ActFits S H t p queue act → is_here t c ≡ true
act_here S H t p c queue act e f = (subst (λ (a : SynchAct). ActFits S H t p queue a) e f).1

-- the acts of a connection that is taken out
acts_out : (c p rest : ℕ) (t : State) (had : List Act) (act : SynchAct) (note : List Act) → act ≡ Done.Out c → acts_after c t had (left_by_pass p rest act note) ≡ had ++ feed_acts c (processed rest t.hand)
acts_out c p rest t had act note e = rw e (ap (λ (xs : List Act). had ++ xs) (append-nil (feed_acts c (processed rest t.hand))))

module _ {R P O : Type 0} (G : Ghosts R P O) (s : Named R) (note : List Act) (o : Owner R) (u : Turned R) (is : StandsAtItsAsk G s note o) (f : Found G.limits s o.pass u) where
  abbrev S : Setting
  S = setting_of G.limits s.given

  pub at : AtTurn G s note o u
  at = at_turn G s note o u is.owns f

  none : made_by (number o.pass) f.goes_on.0 ≡ []
  none = others G.limits s o.pass u is.owns.pass f

  legal : Legal S (seen o.pass ++ f.goes_on.0)
  legal = subst (λ (G : List Element). Legal S G) f.goes_on.1 f.legal

  all : processed (length o.hand.left) (run S u.found).hand ≡ (state_of G.limits s o).hand
  all = none_left (run S u.found).hand o.hand.left at.left.is_left is.left ∙ at.hand

  rest : unprocessed (length o.hand.left) (run S u.found).hand ≡ []
  rest = sym at.left.is_left ∙ is.left

  fits : ActFits S u.found (run S u.found) u.number (unprocessed (length o.hand.left) (run S u.found).hand ++ (run S u.found).chain) o.act
  fits =
      let now = fits_since S (seen o.pass) f.goes_on.0 (number o.pass) o.act legal none is.owns.own is.at_ask is.fits in
      let found : ActFits S u.found (run S u.found) (number o.pass) (run S u.found).chain o.act = subst (λ (G : List Element). ActFits S G (run S G) (number o.pass) (run S G).chain o.act) (sym f.goes_on.1) now in
      subst (λ (xs : List Entry). ActFits S u.found (run S u.found) u.number (xs ++ (run S u.found).chain) o.act) (sym rest)
      (subst (λ (p : ℕ). ActFits S u.found (run S u.found) p (run S u.found).chain o.act) (sym f.same_number) found)

  pub exits : May S u.found (left_by_pass u.number (length o.hand.left) o.act note)
  exits =
      let nothing : length o.hand.left ≡ 0 = ap length is.left in
      let below : u.number < length s.given.quotas = subst (λ (k : ℕ). k < length s.given.quotas) (sym f.same_number) is.no_worker in
      record {
        step = (at.own, within (run S u.found).hand o.hand.left at.left.is_left);
        range = (owner_below S u.found u.number f.legal at.own, is.range);
        worker_only = λ w. absurd (omega (arith, below, w));
        idle = tt;
        kind = tt;
        enters = tt;
        quota = quota_kept S u.number u.found (left_by_pass u.number (length o.hand.left) o.act note) f.legal refl;
        asks_last = ap (only_last_ask u.number) all ∙ (ap (λ (k : ℕ). only_last_ask k (state_of G.limits s o).hand) f.same_number ∙ is.only);
        at_its_ask = λ some. ask_at;
        act = fits;
        progress = λ some. subst (λ (k : ℕ). k < length (run S u.found).hand) (sym nothing) (more (run S u.found).hand some);
        note = note_at (number o.pass) u.number 0 (length o.hand.left) o.act note is.note_fits;
      }
    where
      more : (xs : List Entry) → xs ≢ [] → 0 < length xs
      more [] some = absurd (some refl)
      more (x ∷ xs) some = omega arith

      ask_at : ((run S u.found).hand ≡ []) ⊎ (ends_with_ask u.number (processed (length o.hand.left) (run S u.found).hand) ≡ true)
      ask_at =
          subst (λ (p : ℕ). ((run S u.found).hand ≡ []) ⊎ (ends_with_ask p (processed (length o.hand.left) (run S u.found).hand) ≡ true)) (sym f.same_number)
          (subst (λ (xs : List Entry). ((run S u.found).hand ≡ []) ⊎ (ends_with_ask (number o.pass) xs ≡ true)) (sym all)
          (subst (λ (xs : List Entry). (xs ≡ []) ⊎ (ends_with_ask (number o.pass) (state_of G.limits s o).hand ≡ true)) (sym at.hand) is.at_ask))

  pub left_by : (q : Pass Element) → Marked u (left_by_pass u.number (length o.hand.left) o.act note) q → Added G.limits s o.pass (left_by_pass (number o.pass) (length o.hand.left) o.act note) q
  left_by q m =
      let same : left_by_pass u.number (length o.hand.left) o.act note ≡ left_by_pass (number o.pass) (length o.hand.left) o.act note = ap (λ (k : ℕ). left_by_pass k (length o.hand.left) o.act note) f.same_number in
      record {
        found = u.found;
        goes_on = f.goes_on;
        legal = f.legal;
        own = ap (λ (k : ℕ). by_number number_of k u.found) (sym f.same_number) ∙ (f.own ∙ f.same_mine);
        is_pass = subst (λ (t : Named R). IsPassOf number_of t.gate q) f.squeue m.is_pass;
        same_number = m.same_number ∙ f.same_number;
        now_seen = m.now_seen ∙ ap (λ (e : Element). u.found ++ e ∷ []) same;
        now_mine = m.now_mine ∙ (ap (λ (h : List Element). h ++ left_by_pass u.number (length o.hand.left) o.act note ∷ []) f.same_mine ∙ ap (λ (e : Element). mine o.pass ++ e ∷ []) same);
        one_turn = one_turn (steps o.pass) u.made (steps q) f.no_turn_yet m.one_step;
      }

  state : (q : Pass Element) → Marked u (left_by_pass u.number (length o.hand.left) o.act note) q → run S (seen q) ≡ after (run S u.found) (On.Leave u.number (length o.hand.left) o.act)
  state q m = ap (run S) m.now_seen ∙ run_push (start S) u.found (left_by_pass u.number (length o.hand.left) o.act note)

  pub idle_again : (q : Pass Element) → Marked u (left_by_pass u.number (length o.hand.left) o.act note) q → Idle (run S (seen q)) (number o.pass)
  idle_again q m =
      let k = known_since S (seen o.pass) f.goes_on.0 (number o.pass) legal none in
      let closed : is_closed (run S u.found) (number o.pass) ≡ false = ap (λ (G : List Element). is_closed (run S G) (number o.pass)) f.goes_on.1 ∙ (k.closed ∙ is.open_pass) in
      let no_ask : has_ask (number o.pass) (run S u.found).chain ≡ false = ap (λ (p : ℕ). has_ask p (run S u.found).chain) (sym f.same_number) ∙ (waits_no_more S u.found u.number f.legal).owner_chain at.own in
      subst (λ (t : State). Idle t (number o.pass)) (sym (state q m))
      (record {
        open_pass = closed;
        no_owner = λ e. cc e;
        not_granted = λ e. cc e;
        not_in_hand = refl;
        not_in_chain = ap (λ (xs : List Entry). has_ask (number o.pass) (xs ++ (run S u.found).chain)) rest ∙ no_ask;
      })

  pub taken_acts : (q : Pass Element) → Marked u (left_by_pass u.number (length o.hand.left) o.act note) q → (c : ℕ) → o.act ≡ Done.Out c → acts S (seen q) c ≡ acts_at G.limits s c o
  taken_acts q m c out =
      let here : is_here (state_of G.limits s o) c ≡ true = act_here S (seen o.pass) (state_of G.limits s o) (number o.pass) c (state_of G.limits s o).chain o.act out is.fits in
      let same : acts S u.found c ≡ acts S (seen o.pass) c = ap (λ (G : List Element). acts S G c) f.goes_on.1 ∙ acts_same S (seen o.pass) f.goes_on.0 (number o.pass) c legal none is.owns.own here in
      ap (λ (G : List Element). acts S G c) m.now_seen
      ∙ (acts_push c (start S) [] u.found (left_by_pass u.number (length o.hand.left) o.act note)
      ∙ (acts_out c u.number (length o.hand.left) (run S u.found) (acts S u.found c) o.act note out
      ∙ (ap (λ (xs : List Act). xs ++ feed_acts c (processed (length o.hand.left) (run S u.found).hand)) same
      ∙ ap (λ (xs : List Entry). acts S (seen o.pass) c ++ feed_acts c xs) at.same_front)))
