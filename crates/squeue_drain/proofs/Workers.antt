-- The worker, turn by turn.
use Rattle.std.proofs.Common.{◌≡◌, ℕ, ◌+◌, true, false, List, [], ◌∷◌, ◌++◌, length, refl, ap, sym, ◌∙◌, subst, append_assoc, arith, ◌⊎◌, inl, inr}
use Rattle.std.proofs.lemmas.List.{append-nil, nil_from_length}
use Rattle.turn_gate.specs.Passes.{IsPassOf, number, seen}
use Rattle.turn_gate.specs.declared.pass.Pass.{Pass}
use Rattle.perimeter_core.specs.declared.resident.Resident.{Ghosts}
use Rattle.perimeter_core.specs.declared.entries.Entry.{Entry}
use Rattle.perimeter_core.specs.declared.marks.SynchAct.TheVariants as Done
use Rattle.perimeter_core.specs.declared.marks.Own.TheVariants.{Free, Out}
use Rattle.perimeter_core.specs.declared.marks.Mark.{Mark}
use Rattle.perimeter_core.specs.declared.marks.Mark.TheVariants as On
use Rattle.perimeter_core.specs.Perimeter.{State, after, has_ask}
use Rattle.perimeter_core.specs.History.{Element, Setting, Limits, start, worker, run, made_by}
use Rattle.perimeter_core.specs.Legal.{May, Legal}
use Rattle.perimeter_core.specs.Blocks.{peri}
use Rattle.perimeter_core.proofs.OneMore.{run_push}
use Rattle.perimeter_core.proofs.Since.{none_made}
use Rattle.perimeter_core.proofs.OrderAndWake.{sound, wake_of_sound}
use Rattle.perimeter_core.proofs.QueuedRange.{queued_range, range_right}
use Rattle.perimeter_core.proofs.OwnAsk.{no_worker}
use Rattle.squeue_state.specs.Naming.{Named, Turned, Handed, setting_of}
use Rattle.squeue_state.specs.Behind.{IsPeri}
use Rattle.histories.specs.Elements.{number_of, taken_by, worked_by}
use Rattle.squeue_state.specs.Clauses.{Found, Marked, Unmarked, IsWhole}
use Rattle.squeue_drain.specs.declared.owner.Owner.{Owner}
use Rattle.squeue_drain.specs.Owning.{Feeds, HasFeeds, NoFeedFirst}
use Rattle.squeue_drain.specs.Draining.{plain, is_leave, Ends, LeavesNothing, GoesOn, Off, Onward}
use Rattle.squeue_drain.specs.Working.{OnlyLeavesNothing, SomethingWaits, Worked}
use Rattle.squeue_drain.proofs.Marks.{may_work}
use Rattle.squeue_drain.proofs.Fresh.{fresh}
use Rattle.squeue_drain.proofs.Turning.{others}
use Rattle.squeue_drain.proofs.Deciding.{marked_on, same_state}
use Rattle.squeue_drain.proofs.Drains.{on_trans}

-- others leave nothing of p's
others_leave : (S : Setting) (p : ℕ) (H K : List Element) → made_by p K ≡ [] → OnlyLeavesNothing S p H K
others_leave S p H [] none = tt
others_leave S p H (e ∷ K) none = let n = none_made p e K none in (λ is. absurd (n.0 is), others_leave S p (H ++ e ∷ []) K n.1)

join : (S : Setting) (p : ℕ) (H K L : List Element) → OnlyLeavesNothing S p H K → OnlyLeavesNothing S p (H ++ K) L → OnlyLeavesNothing S p H (K ++ L)
join S p H [] L a b = subst (λ (G : List Element). OnlyLeavesNothing S p G L) (append-nil H) b
join S p H (e ∷ K) L a b = (a.0, join S p (H ++ e ∷ []) K L a.1 (subst (λ (G : List Element). OnlyLeavesNothing S p G L) (sym (append_assoc H (e ∷ []) K)) b))

-- others' elements, and then one of p's
one_behind : (S : Setting) (p : ℕ) (H K : List Element) (e : Element) → made_by p K ≡ [] → LeavesNothing (run S (H ++ K)) e.mark → OnlyLeavesNothing S p H (K ++ e ∷ [])
one_behind S p H K e none leaves = join S p H K (e ∷ []) (others_leave S p H K none) (λ is. leaves, tt)

-- where a pass has the perimeter, nothing waits for the worker
taken_calm : (t : State) (p : ℕ) → t.own ≡ Out p → ¬ SomethingWaits t
taken_calm t p out w = absurd (let e = sym out ∙ w.0 in cc)

-- nor does anything after a mark that leaves nothing queued, or grants
off_calm : (S : Setting) (H : List Element) (p : ℕ) (m : Mark) (to : List Element) → to ≡ H ++ plain m ∷ [] → Legal S to → Ends p m → (is_leave m ≡ true → (run S to).chain ≡ []) → ¬ SomethingWaits (run S to)
off_calm S H p (On.Leave q rest act) to e l ends none w = (((wake_of_sound (run S to) (sound S to l)).wake.0 w.1).1) (none refl)
off_calm S H p (On.Grant q j rest) to e l ends none w = absurd (let g = ap (λ (h : List Element). (run S h).own) e ∙ ap (λ (t : State). t.own) (run_push (start S) H (plain (On.Grant q j rest))) in let o = sym g ∙ w.0 in cc)
off_calm S H p (On.Fill q es) to e l ends none w = absurd ends
off_calm S H p (On.Fast q f) to e l ends none w = absurd ends
off_calm S H p (On.Claim q es) to e l ends none w = absurd ends
off_calm S H p (On.Take q) to e l ends none w = absurd ends
off_calm S H p (On.Ask q) to e l ends none w = absurd ends
off_calm S H p (On.Accept q) to e l ends none w = absurd ends
off_calm S H p (On.Work q) to e l ends none w = absurd ends
off_calm S H p (On.Close q) to e l ends none w = absurd ends

pub no_feed : (xs : List Entry) (result b old : ℕ) → (result ≡ 0) ⊎ NoFeedFirst xs → length xs + b ≡ old + result → b ≡ old → NoFeedFirst xs
no_feed xs result b old why count all =
    elim why [
      | inl none ↦ let empty : xs ≡ [] = nil_from_length xs (omega (arith, none, count, all)) in rw empty tt
      | inr stops ↦ stops
    ]

module _ {R : Type 0} (limits : R → Limits) (s : Named R) where
  pub worked_trans : (a b c : Pass Element) → Worked limits s a b → Worked limits s b c → Worked limits s a c
  worked_trans a b c f g =
      let S : Setting = setting_of limits s.given in
      let leaves : OnlyLeavesNothing S (number a) (seen a ++ f.since) g.since =
      subst (λ (p : ℕ). OnlyLeavesNothing S p (seen a ++ f.since) g.since) f.goes_on.same_number (subst (λ (G : List Element). OnlyLeavesNothing S (number b) G g.since) f.now_seen g.leaves) in
      record {
        goes_on = on_trans limits s a b c f.goes_on g.goes_on;
        since = f.since ++ g.since;
        now_seen = g.now_seen ∙ (ap (λ (G : List Element). G ++ g.since) f.now_seen ∙ append_assoc (seen a) f.since g.since);
        leaves = join S (number a) (seen a) f.since g.since f.leaves leaves;
        nothing_waits = g.nothing_waits;
      }

  pub worked_none : (a b : Pass Element) → GoesOn limits s a a → (run (setting_of limits s.given) (seen a)).own ≡ Out (number a) → b ≡ a → Worked limits s a b
  worked_none a b g out same =
      subst (λ (p : Pass Element). Worked limits s a p) (sym same) record { goes_on = g; since = []; now_seen = sym (append-nil (seen a)); leaves = tt; nothing_waits = taken_calm (run (setting_of limits s.given) (seen a)) (number a) out }

  pub worked_off : (o : Owner R) (to : Pass Element) → Off limits s false o to → Worked limits s o.pass to
  worked_off o to off =
      record {
        goes_on = off.goes_on;
        since = off.since ++ plain off.last ∷ [];
        now_seen = off.now_seen ∙ append_assoc (seen o.pass) off.since (plain off.last ∷ []);
        leaves = one_behind (setting_of limits s.given) (number o.pass) (seen o.pass) off.since (plain off.last) off.others (off.nothing refl);
        nothing_waits = off_calm (setting_of limits s.given) ((seen o.pass) ++ off.since) (number o.pass) off.last (seen to) off.now_seen off.goes_on.legal off.ends (off.empty refl);
      }

  -- a turn without a mark
  pub worked_plain : (p q : Pass Element) (u : Turned R) → IsPassOf number_of s.gate p → Found limits s p u → ¬ SomethingWaits (run (setting_of limits u.squeue.given) u.found) → Unmarked u q → Worked limits s p q
  worked_plain p q u is f calm m =
      record {
        goes_on = record {
          is_pass = subst (λ (t : Named R). IsPassOf number_of t.gate q) f.squeue m.is_pass;
          same_number = m.same_number ∙ f.same_number;
          grows = (f.goes_on.0, m.now_seen ∙ f.goes_on.1);
          legal = subst (λ (h : List Element). Legal (setting_of limits s.given) h) (sym m.now_seen) f.legal;
        };
        since = f.goes_on.0;
        now_seen = m.now_seen ∙ f.goes_on.1;
        leaves = others_leave (setting_of limits s.given) (number p) (seen p) f.goes_on.0 (others limits s p u is f);
        nothing_waits = λ w. calm (subst SomethingWaits (ap (run (setting_of limits s.given)) m.now_seen ∙ sym (same_state limits u.squeue s u.found f.squeue)) w);
      }

  -- a turn in which the worker took the queue
  pub worked_on : (p q : Pass Element) (u : Turned R) → IsPassOf number_of s.gate p → Found limits s p u → May (setting_of limits s.given) u.found (worked_by u.number) → Marked u (worked_by u.number) q → Worked limits s p q
  worked_on p q u is f may m =
      record {
        goes_on = marked_on limits s p q u (worked_by u.number) f may m;
        since = f.goes_on.0 ++ worked_by u.number ∷ [];
        now_seen = m.now_seen ∙ (ap (λ (G : List Element). G ++ worked_by u.number ∷ []) f.goes_on.1 ∙ append_assoc (seen p) f.goes_on.0 (worked_by u.number ∷ []));
        leaves = one_behind (setting_of limits s.given) (number p) (seen p) f.goes_on.0 (worked_by u.number) (others limits s p u is f) tt;
        nothing_waits = taken_calm (run (setting_of limits s.given) (seen q)) u.number (ap (λ (h : List Element). (run (setting_of limits s.given) h).own) m.now_seen ∙ ap (λ (t : State). t.own) (run_push (start (setting_of limits s.given)) u.found (worked_by u.number)));
      }

module _ {R P O : Type 0} (G : Ghosts R P O) (s : Named R) where
  pub worked_onward : (o next : Owner R) → Onward G s o next → Worked G.limits s o.pass next.pass
  worked_onward o next on =
      record {
        goes_on = on.goes_on;
        since = on.since ++ taken_by (number o.pass) ∷ [];
        now_seen = on.now_seen ∙ append_assoc (seen o.pass) on.since (taken_by (number o.pass) ∷ []);
        leaves = one_behind (setting_of G.limits s.given) (number o.pass) (seen o.pass) on.since (taken_by (number o.pass)) on.others tt;
        nothing_waits = taken_calm (run (setting_of G.limits s.given) (seen next.pass)) (number next.pass) on.feeds.owns.own;
      }

  -- the worker as owner
  pub record Works (q : Pass Element) (r : R) (h : Handed) : Type 0 where
    pub feeds : Feeds G s record { pass = q; resident = r; hand = h; act = Done.None }
    pub has : HasFeeds G.limits s record { pass = q; resident = r; hand = h; act = Done.None }

  pub works : (p : Pass Element) (u : Turned R) (q : Pass Element) (r : R) (h : Handed) → Found G.limits s p u → number p ≡ worker (setting_of G.limits s.given) → May (setting_of G.limits s.given) u.found (worked_by u.number)
      → Marked u (worked_by u.number) q → IsWhole G.limits s.given (seen q) h → IsPeri G s.given r (peri (setting_of G.limits s.given) (seen q)) → Works q r h
  works p u q r h f is may m whole peri =
      let S : Setting = setting_of G.limits s.given in
      let on = marked_on G.limits s p q u (worked_by u.number) f may m in
      let state : run S (seen q) ≡ after (run S u.found) (On.Work u.number) = ap (run S) m.now_seen ∙ run_push (start S) u.found (worked_by u.number) in
      let hand : (run S (seen q)).hand ≡ (run S u.found).chain = ap (λ (t : State). t.hand) state in
      let queued = ((wake_of_sound (run S u.found) (sound S u.found f.legal)).wake.0 may.step.1).1 in
      let range = range_right S (run S u.found).hand (run S u.found).chain (queued_range S u.found f.legal) in
      let same : number q ≡ worker S = m.same_number ∙ (f.same_number ∙ is) in
      record {
        feeds = fresh G s q r h on.is_pass on.legal (ap (λ (t : State). t.own) state ∙ ap Out (sym m.same_number)) whole peri;
        has = record {
          some = λ e. queued (sym hand ∙ e);
          no_ask = ap (λ (n : ℕ). has_ask n (run S (seen q)).hand) same ∙ (ap (has_ask (worker S)) hand ∙ no_worker S (run S u.found).chain range);
        };
      }

-- where the turn shows that something waits for the worker
pub may_here : {R : Type 0} (limits : R → Limits) (s : Named R) (p : Pass Element) (u : Turned R) → Found limits s p u → number p ≡ worker (setting_of limits s.given)
    → ((run (setting_of limits u.squeue.given) u.found).own ≡ Free) × ((run (setting_of limits u.squeue.given) u.found).wake ≡ true) → May (setting_of limits s.given) u.found (worked_by u.number)
may_here limits s p u f is waits =
    let same = same_state limits u.squeue s u.found f.squeue in
    may_work (setting_of limits s.given) u.found u.number f.legal (ap (λ (t : State). t.own) (sym same) ∙ waits.0) (ap (λ (t : State). t.wake) (sym same) ∙ waits.1) (f.same_number ∙ is)

pub worked_since : {R : Type 0} (limits : R → Limits) (s : Named R) (a b c : Pass Element) → (b ≡ a) ⊎ Worked limits s a b → Worked limits s b c → Worked limits s a c
worked_since {R = R} limits s a b c before w =
    elim before [
      | inl same ↦ subst (λ (p : Pass Element). Worked limits s p c) same w
      | inr more ↦ worked_trans limits s a b c more w
    ]
