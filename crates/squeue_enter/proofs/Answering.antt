-- What an entry adds and answers, by its way.
use Rattle.std.proofs.Common.{◌≡◌, ℕ, ◌<◌, Bool, List, [], ◌∷◌, ◌++◌, length, ap, sym, ◌∙◌, subst, append_assoc}
use Rattle.turn_gate.specs.Passes.{number, seen, mine}
use Rattle.turn_gate.specs.declared.pass.Pass.{Pass}
use Rattle.perimeter_core.specs.declared.resident.Resident.{Ghosts}
use Rattle.perimeter_core.specs.declared.entries.Feed.{Feed as FeedOf}
use Rattle.perimeter_core.specs.declared.marks.SynchAct.TheVariants as Done
use Rattle.perimeter_core.specs.Perimeter.{Idle, is_free, is_empty}
use Rattle.perimeter_core.specs.History.{Element, Setting, Limits, run, made_by}
use Rattle.squeue_state.specs.Naming.{Named, Turned, Handed, setting_of}
use Rattle.turn_gate.specs.History.{only}
use Rattle.histories.specs.Elements.{number_of, filled_by, fast_by, claimed_by, left_by_pass}
use Rattle.squeue_state.specs.Clauses.{Found, Marked}
use Rattle.squeue_drain.specs.declared.owner.Owner.{Owner}
use Rattle.squeue_drain.specs.Draining.{GoesOn, Drained, ServedOne, Tells}
use Rattle.squeue_drain.proofs.Deciding.{marked_on}
use Rattle.squeue_drain.proofs.Drains.{on_trans}
use Rattle.histories.specs.declared.mode.Mode.{Mode}
use Rattle.squeue_enter.specs.declared.entering.How.{How}
use Rattle.squeue_enter.specs.declared.entering.How.TheVariants as How'
use Rattle.squeue_enter.specs.declared.entering.Way.{Way}
use Rattle.squeue_enter.specs.declared.entering.Way.TheVariants as Way'
use Rattle.squeue_enter.specs.Ways.{way_of, is_one}
use Rattle.squeue_enter.specs.Entering.{MayEnter, HasEntered, HasFilled, Went}
use Rattle.squeue_enter.proofs.Entries.{may_fill, idle_filled, Came, drains}

module _ {R : Type 0} (limits : R → Limits) (s : Named R) (p : Pass Element) (es : List FeedOf) (u : Turned R) (may : MayEnter limits s p es) (f : Found limits s p u) where
  abbrev S : Setting
  S = setting_of limits s.given

  abbrev way : Mode → Way
  way m = way_of m (is_free (run S u.found).own) (is_empty (run S u.found).chain) (is_one es)

  pub has_filled : 0 < length es → (q : Pass Element) → Marked u (filled_by u.number es) q → HasFilled limits s p es q
  has_filled some q m =
      record {
        goes_on = marked_on limits s p q u (filled_by u.number es) f (may_fill limits s p es u may f some) m;
        idle = idle_filled limits s p es u may f q m;
        found = u.found;
        begins = f.goes_on;
        legal = f.legal;
        now_seen = m.now_seen ∙ ap (λ (k : ℕ). u.found ++ filled_by k es ∷ []) f.same_number;
        now_mine = m.now_mine ∙ (ap (λ (x : List Element). x ++ filled_by u.number es ∷ []) f.same_mine ∙ ap (λ (k : ℕ). mine p ++ filled_by k es ∷ []) f.same_number);
      }

  -- the entry of a pass that came to `to`
  answer : (mode : Mode) (budget : ℕ) (w : Way) (to : Pass Element) (how : How) (polling : Bool) → way mode ≡ w → GoesOn limits s p to → Idle (run S (seen to)) (number p)
      → Went S w (number p) budget es u.found (mine p) to how → polling ≡ (run S (seen to)).polling → HasEntered limits s mode budget es p record { pass = to; how = how; polling = polling }
  answer mode budget w to how polling is on idle went polls =
      record {
        goes_on = on;
        idle = idle;
        found = u.found;
        begins = f.goes_on;
        legal = f.legal;
        own = subst (λ (k : ℕ). only number_of k u.found ≡ mine p) f.same_number (f.own ∙ f.same_mine);
        went = subst (λ (v : Way). Went S v (number p) budget es u.found (mine p) to how) (sym is) went;
        polling = polls;
      }

  pub entered_fill : (mode : Mode) (budget : ℕ) (woke polling : Bool) (q : Pass Element) → way mode ≡ Way'.Fill → 0 < length es → woke ≡ is_free (run S u.found).own → polling ≡ (run S (seen q)).polling
      → Marked u (filled_by u.number es) q → HasEntered limits s mode budget es p record { pass = q; how = How'.Queued woke; polling = polling }
  unfolding has_filled
  entered_fill mode budget woke polling q is some wakes polls m =
      let h = has_filled some q m in
      answer mode budget Way'.Fill q (How'.Queued woke) polling is h.goes_on h.idle (ap How'.Queued wakes, h.now_seen, h.now_mine) polls

module _ {R P O : Type 0} (G : Ghosts R P O) (s : Named R) (p : Pass Element) (es : List FeedOf) (u : Turned R) (may : MayEnter G.limits s p es) (f : Found G.limits s p u) where
  abbrev T : Setting
  T = setting_of G.limits s.given

  abbrev its_way : Mode → Way
  its_way m = way_of m (is_free (run T u.found).own) (is_empty (run T u.found).chain) (is_one es)

  abbrev made : Pass Element → R → Handed → Owner R
  made q r h = record { pass = q; resident = r; hand = h; act = Done.None }

  pub entered_fast : (mode : Mode) (budget : ℕ) (e : FeedOf) (q : Pass Element) (r : R) (h : Handed) (to : Pass Element) (rest : ℕ) (polling : Bool) → its_way mode ≡ Way'.Fast → es ≡ e ∷ []
      → Came G s p es u may f (fast_by u.number e) q r h → Drained G.limits s budget (made q r h) to → Tells G.limits s to rest polling
      → HasEntered G.limits s mode budget es p record { pass = to; how = How'.Fast rest; polling = polling }
  entered_fast mode budget e q r h to rest polling is one came d tells =
      answer G.limits s p es u may f mode budget Way'.Fast to (How'.Fast rest) polling is (on_trans G.limits s p q to came.goes_on d.goes_on)
      (subst (λ (k : ℕ). Idle (run T (seen to)) k) came.same (d.idle came.open_pass))
      (e, one, ap How'.Fast tells.rest_is, drains G s p es u may f (λ k. fast_by k e) budget q r h to came d) tells.polling_is

  pub entered_claim : (mode : Mode) (budget : ℕ) (q : Pass Element) (r : R) (h : Handed) (to : Pass Element) (rest : ℕ) (polling : Bool) → its_way mode ≡ Way'.Claim
      → Came G s p es u may f (claimed_by u.number es) q r h → Drained G.limits s budget (made q r h) to → Tells G.limits s to rest polling
      → HasEntered G.limits s mode budget es p record { pass = to; how = How'.Drained rest; polling = polling }
  entered_claim mode budget q r h to rest polling is came d tells =
      answer G.limits s p es u may f mode budget Way'.Claim to (How'.Drained rest) polling is (on_trans G.limits s p q to came.goes_on d.goes_on)
      (subst (λ (k : ℕ). Idle (run T (seen to)) k) came.same (d.idle came.open_pass))
      (ap How'.Drained tells.rest_is, drains G s p es u may f (λ k. claimed_by k es) budget q r h to came d) tells.polling_is

  pub entered_alone : (mode : Mode) (budget : ℕ) (e : FeedOf) (q : Pass Element) (r : R) (h : Handed) (to : Pass Element) (rest : ℕ) (polling : Bool) → its_way mode ≡ Way'.Alone → es ≡ e ∷ []
      → Came G s p es u may f (fast_by u.number e) q r h → ServedOne G.limits s (made q r h) to → Tells G.limits s to rest polling
      → HasEntered G.limits s mode budget es p record { pass = to; how = How'.Fast rest; polling = polling }
  entered_alone mode budget e q r h to rest polling is one came d tells =
      let at : seen q ≡ u.found ++ fast_by (number p) e ∷ [] = came.now_seen ∙ ap (λ (k : ℕ). u.found ++ fast_by k e ∷ []) f.same_number in
      let own : mine q ≡ mine p ++ fast_by (number p) e ∷ [] = came.now_mine ∙ ap (λ (k : ℕ). mine p ++ fast_by k e ∷ []) f.same_number in
      answer G.limits s p es u may f mode budget Way'.Alone to (How'.Fast rest) polling is (on_trans G.limits s p q to came.goes_on d.goes_on)
      (subst (λ (k : ℕ). Idle (run T (seen to)) k) came.same (d.idle came.open_pass)) (
        e,
        one,
        ap How'.Fast tells.rest_is,
        record {
          between = d.since;
          others = subst (λ (k : ℕ). made_by k d.since ≡ []) came.same d.others;
          now_seen =
              d.now_seen
              ∙ (ap (λ (x : List Element). (x ++ d.since) ++ left_by_pass (number q) 0 Done.None [] ∷ []) at
              ∙ (append_assoc (u.found ++ fast_by (number p) e ∷ []) d.since (left_by_pass (number q) 0 Done.None [] ∷ [])
              ∙ ap (λ (k : ℕ). (u.found ++ fast_by (number p) e ∷ []) ++ (d.since ++ left_by_pass k 0 Done.None [] ∷ [])) came.same));
          now_mine = d.now_mine ∙ (ap (λ (x : List Element). x ++ left_by_pass (number q) 0 Done.None [] ∷ []) own ∙ ap (λ (k : ℕ). (mine p ++ fast_by (number p) e ∷ []) ++ left_by_pass k 0 Done.None [] ∷ []) came.same);
        },
      ) tells.polling_is
