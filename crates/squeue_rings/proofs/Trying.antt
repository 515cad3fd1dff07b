-- What a try to make a call did.
use Rattle.std.proofs.Common.{◌≡◌, ℕ, ◌+◌, ◌<◌, ◌≤◌, inl, inr, Bool, true, false, List, [], ◌∷◌, ◌++◌, length, length-append, slice_index, refl, ap, sym, ◌∙◌, subst, arith}
use Rattle.turn_gate.specs.Passes.{IsPassOf, mine, number, seen}
use Rattle.turn_gate.specs.declared.pass.Pass.{Pass}
use Rattle.perimeter_core.specs.declared.resident.Resident.{Ghosts}
use Rattle.perimeter_core.specs.declared.marks.SynchAct.{SynchAct}
use Rattle.perimeter_core.specs.declared.marks.SynchAct.TheVariants as Done
use Rattle.perimeter_core.specs.Perimeter.{Idle, is_here}
use Rattle.perimeter_core.specs.History.{Element, Limits, ask_quota, made_by, run}
use Rattle.perimeter_core.specs.Deeds.{times_left}
use Rattle.perimeter_core.specs.Legal.{Legal, asks_by}
use Rattle.perimeter_core.proofs.LeavesFew.{leaves_few}
use Rattle.perimeter_core.proofs.OwnCounts.{own_counts}
use Rattle.squeue_state.proofs.Makers.{only_made}
use Rattle.squeue_state.specs.Naming.{Named, setting_of}
use Rattle.histories.specs.Elements.{left_by_pass, number_of}
use Rattle.squeue_state.specs.Clauses.{Added}
use Rattle.squeue_drain.specs.declared.owner.Owner.{Owner}
use Rattle.squeue_drain.specs.Draining.{GoesOn}
use Rattle.squeue_drain.proofs.Deciding.{begins_trans}
use Rattle.synch_enter.specs.declared.acts.Called.{Called}
use Rattle.synch_enter.specs.declared.acts.Called.TheVariants as Called'
use Rattle.synch_enter.specs.Synch.{CameFor, HasCalled, MayCall, StandsAtItsAsk}
use Rattle.synch_enter.proofs.Knowing.{gone_with_nothing}
use Rattle.conn_migrate.specs.Moving.{Moved}
use Rattle.conn_migrate.proofs.OwnMarks.{asks_away, asks_called}
use Rattle.squeue_rings.specs.Calling.{CallerAt, HasTried, MayMake, MayTry, TriesAt, asks_for, is_done}
use Rattle.histories.proofs.Counts.{left_append}
use Rattle.squeue_rings.proofs.ThreadMarks.{away_kept, call_exact, gone_exact, none_exact}

module _ {R P O : Type 0} (G : Ghosts R P O) (s : Named R) (c j k : ℕ) (from : Pass Element) (o : Owner R) (try : MayTry G.limits s c j k from) (at : StandsAtItsAsk G s [] o × (o.act ≡ Done.None)) (came : CameFor G.limits s c from o.pass) where
  pub may_call : MayCall G s c j k o
  may_call = record { stands_at = at.0; no_act = at.1; thread = came.0.goes_on.same_number ∙ try.thread; exists = try.exists }

  module _ (n : Owner R) (to : Pass Element) (pass : n.pass ≡ o.pass) (hand : n.hand ≡ o.hand) (goes : GoesOn G.limits s n.pass to) (idle : Idle (run (setting_of G.limits s.given) (seen to)) (number n.pass)) (left : Added G.limits s n.pass (left_by_pass (number n.pass) (length n.hand.left) n.act []) to) (none : n.hand.left ≡ []) where
    came_now : CameFor G.limits s c from n.pass
    came_now = subst (λ (q : Pass Element). CameFor G.limits s c from q) (sym pass) came

    same : number n.pass ≡ number from
    same = came_now.0.goes_on.same_number

    made : (act : SynchAct) → n.act ≡ act → Moved G.limits s act [] from to
    made act did =
        record {
          goes_on = record { is_pass = goes.is_pass; same_number = goes.same_number ∙ same; grows = begins_trans (seen from) (seen n.pass) (seen to) came_now.0.goes_on.grows goes.grows; legal = goes.legal };
          idle = subst (λ (p : ℕ). Idle (run (setting_of G.limits s.given) (seen to)) p) same idle;
          owner = n.pass;
          came = came_now.0;
          left = subst (λ (e : Element). Added G.limits s n.pass e to) (gone_with_nothing (number n.pass) (number from) n.hand.left n.act act [] same none did) left;
        }

    pub tried : (called : Called) (b : Bool) → b ≡ is_done called → HasCalled G s c j k o n called → HasTried G.limits s b c j k from to
    unfolding made came_now
    tried Called'.Done b e h = subst (λ (b : Bool). HasTried G.limits s b c j k from to) (sym e) (made (Done.Call c j k) h.answers.1)
    tried Called'.Elsewhere b e h =
        subst (λ (b : Bool). HasTried G.limits s b c j k from to) (sym e)
        (inr (record {
          moved = made Done.Away h.answers.1;
          away = away_kept G.limits s Done.Away from to (made Done.Away h.answers.1) c h.stands_at.owns.own
              (subst (λ (q : Pass Element). is_here (run (setting_of G.limits s.given) (seen q)) c ≡ false) (sym pass) h.answers.0);
          gone = (subst (λ (q : Pass Element). (came : CameFor G.limits s c from q) → Called'.Elsewhere ≡ Called'.Elsewhere → 0 < times_left c came.0.behind.since) (sym pass) (h.gone from)) came_now refl;
        }))

module _ {R : Type 0} (limits : R → Limits) (s : Named R) (j : ℕ) where
  pub for_more : (cs : List ℕ) (c : ℕ) → asks_for limits s (cs ++ c ∷ []) ≡ asks_for limits s cs + (1 + slice_index (limits s.given.first).leaves c)
  for_more [] c = omega arith
  for_more (d ∷ cs) c = let r = for_more cs c in omega (arith, r)

  -- a caller begins to try a call
  pub begins : (cs : List ℕ) (c : ℕ) (x : Pass Element) → CallerAt limits s j cs x → TriesAt limits s j cs c x
  begins cs c x known = record { pass = known.pass; is_number = known.is_number; idle = known.idle; legal = known.legal; asks = let a = known.asks in omega (arith, a); exact = known.exact; next = known.next }

  few : (c : ℕ) (x : Pass Element) → Legal (setting_of limits s.given) (seen x) → times_left c (seen x) ≤ slice_index (limits s.given.first).leaves c
  few c x legal = leaves_few (setting_of limits s.given) (seen x) c legal

  pub may_try : (k : ℕ) (cs : List ℕ) (c : ℕ) (x : Pass Element) → MayMake limits s j k cs c → TriesAt limits s j cs c x → MayTry limits s c j k x
  may_try k cs c x may known =
      record {
        may_ask =
            record {
              pass = known.pass;
              no_worker = omega (arith, known.is_number, may.no_worker);
              idle = subst (Idle (run (setting_of limits s.given) (seen x))) (sym known.is_number) known.idle;
              quota = subst (λ (p : ℕ). asks_by p (seen x) < ask_quota (setting_of limits s.given) p) (sym known.is_number) (let a = known.asks in let f = few c x known.legal in let q = may.quota in omega (arith, a, f, q));
            };
        thread = known.is_number;
        range = may.range;
        exists = may.exists;
      }

  -- where another call was made or none, the caller has asked for no more than it may
  pub ends : (cs : List ℕ) (c : ℕ) (x : Pass Element) → TriesAt limits s j cs c x → CallerAt limits s j (cs ++ c ∷ []) x
  ends cs c x known = record { pass = known.pass; is_number = known.is_number; idle = known.idle; legal = known.legal; asks = let a = known.asks in let f = few c x known.legal in let m = for_more cs c in omega (arith, a, f, m); exact = known.exact; next = let n = known.next in let m = length-append cs (c ∷ []) in omega (arith, n, m) }

  -- the call was made
  pub has_made : (k : ℕ) (cs : List ℕ) (c : ℕ) (x y : Pass Element) → length cs ≡ k → TriesAt limits s j cs c x → HasTried limits s true c j k x y → CallerAt limits s j (cs ++ c ∷ []) y
  has_made k cs c x y is_next known m =
      let own = call_exact limits s j x y known.pass known.is_number known.exact c k m (let n = known.next in omega (arith, n, is_next)) in
      record {
        pass = m.goes_on.is_pass;
        is_number = m.goes_on.same_number ∙ known.is_number;
        idle = subst (Idle (run (setting_of limits s.given) (seen y))) known.is_number m.idle;
        legal = m.goes_on.legal;
        asks =
            let one = subst (λ (p : ℕ). asks_by p (seen y) ≡ asks_by p (seen x) + 1) known.is_number (asks_called known.pass c j k m) in
            let a = known.asks in
            let f = few c x known.legal in
            let n = for_more cs c in
            omega (arith, one, a, f, n);
        exact = own.0;
        next = let one = own.1 in let m = length-append cs (c ∷ []) in omega (arith, one, m, is_next);
      }

  -- it wasn't
  pub still_tries : (k : ℕ) (cs : List ℕ) (c : ℕ) (x y : Pass Element) → length cs ≡ k → MayMake limits s j k cs c → TriesAt limits s j cs c x → HasTried limits s false c j k x y → TriesAt limits s j cs c y
  still_tries k cs c x y is_next may known (inl away) =
      let kept = none_exact limits s j x y known.pass known.is_number known.exact c away in
      record {
        pass = away.goes_on.is_pass;
        is_number = away.goes_on.same_number ∙ known.is_number;
        idle = subst (Idle (run (setting_of limits s.given) (seen y))) (away.goes_on.same_number ∙ known.is_number) away.may_ask.idle;
        legal = away.goes_on.legal;
        asks =
            let p = s.given.rings + j in
            let now = own_counts p (seen y) in
            let before = own_counts p (seen x) in
            let own : made_by p (seen y) ≡ made_by p (seen x) = own_is y (away.goes_on.same_number ∙ known.is_number) away.goes_on.is_pass ∙ (away.same_mine ∙ sym (own_is x known.is_number known.pass)) in
            let same = ap (asks_by p) own in
            let t = ap (times_left c) away.goes_on.grows.1 ∙ left_append c (seen x) away.goes_on.grows.0 in
            let a = known.asks in
            omega (arith, now.1, before.1, same, t, a);
        exact = kept.0;
        next = let e = kept.1 in let n = known.next in omega (arith, e, n);
      }
    where
      own_is : (z : Pass Element) → number z ≡ s.given.rings + j → IsPassOf number_of s.gate z → made_by (s.given.rings + j) (seen z) ≡ mine z
      own_is z is pass = subst (λ (p : ℕ). made_by p (seen z) ≡ mine z) is (sym (only_made (number z) (seen z)) ∙ pass.2)
  still_tries k cs c x y is_next may known (inr gone) =
      let m = gone.moved in
      let kept = gone_exact limits s j x y known.pass known.is_number known.exact c k gone (let n = known.next in omega (arith, n, is_next)) may.exists in
      record {
        pass = m.goes_on.is_pass;
        is_number = m.goes_on.same_number ∙ known.is_number;
        idle = subst (Idle (run (setting_of limits s.given) (seen y))) known.is_number m.idle;
        legal = m.goes_on.legal;
        asks =
            let one = subst (λ (p : ℕ). asks_by p (seen y) ≡ asks_by p (seen x) + 1) known.is_number (asks_away known.pass m) in
            let b = m.came.behind in
            let t0 = ap (times_left c) m.came.begins.1 ∙ left_append c (seen x) m.came.begins.0 in
            let t1 = ap (times_left c) b.now_seen ∙ left_append c (m.came.found ++ b.ask ∷ []) b.since in
            let t2 = left_append c m.came.found (b.ask ∷ []) in
            let t3 = ap (times_left c) m.left.goes_on.1 ∙ left_append c (seen m.owner) m.left.goes_on.0 in
            let t4 = ap (times_left c) m.left.now_seen in
            let t5 = left_append c m.left.found (last m) in
            let a = known.asks in
            let g = gone.gone in
            omega (arith, one, t0, t1, t2, t3, t4, t5, a, g);
        exact = kept.0;
        next = let e = kept.1 in let n = known.next in omega (arith, e, n);
      }
    where
      last : Moved limits s Done.Away [] x y → List Element
      last m = left_by_pass (number x) 0 Done.Away [] ∷ []
