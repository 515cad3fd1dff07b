-- A pass that asks, or claims with its Ask.
use Rattle.std.proofs.Common.{◌≡◌, ◌≢◌, ℕ, ◌<◌, Bool, true, false, ◌==◌, inr, List, [], ◌∷◌, ◌++◌, length, refl, ap, sym, ◌∙◌, subst, append_assoc, arith}
use Rattle.std.proofs.lemmas.Bool.Decides.{nat_tests}
use Rattle.turn_gate.specs.History.{Begins}
use Rattle.turn_gate.specs.Passes.{IsPassOf, number, seen, mine}
use Rattle.turn_gate.specs.declared.pass.Pass.{Pass}
use Rattle.perimeter_core.specs.declared.entries.Entry.TheVariants as Entry'
use Rattle.perimeter_core.specs.declared.marks.Own.{Own}
use Rattle.perimeter_core.specs.declared.marks.Own.TheVariants.{Free}
use Rattle.perimeter_core.specs.Perimeter.{State, Idle, is_closed, is_free, is_here}
use Rattle.perimeter_core.specs.History.{Element, Setting, Limits, start, ask_quota, pass_of, run, made_by}
use Rattle.perimeter_core.specs.Deeds.{entries_of}
use Rattle.perimeter_core.specs.Legal.{May, Legal, WithinQuota, feeds_by, asks_by, feed_count, ask_count}
use Rattle.perimeter_core.proofs.OneMore.{run_push}
use Rattle.perimeter_core.proofs.Quotas.{within}
use Rattle.perimeter_core.proofs.Since.{known_since, none_made}
use Rattle.squeue_state.specs.Naming.{Named, Turned, setting_of}
use Rattle.histories.specs.Elements.{number_of, asked_by, ask_claimed_by, accepted_by}
use Rattle.squeue_state.specs.Clauses.{Found, Marked, Unmarked}
use Rattle.squeue_drain.proofs.Turning.{others}
use Rattle.squeue_drain.proofs.Deciding.{begins_trans, same_state}
use Rattle.synch_enter.specs.Synch.{MayAsk, MayAskAt, Came, CameFor, CameBehind, IsWay, NotFound}
use Rattle.squeue_enter.proofs.Carrying.{own_count, by_append}

none_by : (p : ℕ) (K : List Element) → made_by p K ≡ [] → asks_by p K ≡ 0
none_by p [] none = refl
none_by p (e ∷ K) none =
    let n = none_made p e K none in
    let other : (pass_of e.mark == p) ≡ false = let ne = n.0 in grind (arith, nat_tests) in
    rw other (omega (arith, none_by p K n.1))

-- one more Ask keeps the quotas, where the pass has one left
quota_asks : (S : Setting) (p : ℕ) (H : List Element) (e : Element) → Legal S H → pass_of e.mark ≡ p → entries_of e.mark ≡ Entry'.Ask p ∷ [] → asks_by p H < ask_quota S p → WithinQuota S p (H ++ e ∷ [])
quota_asks S p H e l is one room =
    let w = within S p H l in
    let more = by_append p H (e ∷ []) in
    let f : feeds_by p (e ∷ []) ≡ 0 = subst (λ (k : ℕ). feeds_by k (e ∷ []) ≡ feed_count (entries_of e.mark)) is (own_count (pass_of e.mark) (feed_count (entries_of e.mark))) ∙ ap feed_count one in
    let a : asks_by p (e ∷ []) ≡ 1 = subst (λ (k : ℕ). asks_by k (e ∷ []) ≡ ask_count (entries_of e.mark)) is (own_count (pass_of e.mark) (ask_count (entries_of e.mark))) ∙ ap ask_count one in
    record { feeds = omega (arith, more.0, f, w.feeds); asks = omega (arith, more.1, a, room) }

pub not_free_of : (own : Own) → is_free own ≡ false → own ≢ Free
not_free_of own h e = absurd (cc (h, ap is_free e))

-- what a turn tells is of its squeue
pub same_free : {R : Type 0} (limits : R → Limits) (t s : Named R) (h : List Element) (own : Own) (b : Bool) → t ≡ s → own ≡ (run (setting_of limits t.given) h).own → b ≡ is_free own → b ≡ is_free (run (setting_of limits s.given) h).own
same_free limits t s h own b same is told = told ∙ ap is_free (is ∙ ap (λ (x : State). x.own) (same_state limits t s h same))

pub same_here : {R : Type 0} (limits : R → Limits) (t s : Named R) (h : List Element) (c : ℕ) (b : Bool) → t ≡ s → b ≡ is_here (run (setting_of limits t.given) h) c → b ≡ is_here (run (setting_of limits s.given) h) c
same_here limits t s h c b same is = is ∙ ap (λ (x : State). is_here x c) (same_state limits t s h same)

module _ {R : Type 0} (limits : R → Limits) (s : Named R) where
  abbrev S : Setting
  S = setting_of limits s.given

  -- what a pass may do, it may after what others made
  pub may_at : (p : Pass Element) (u : Turned R) → MayAsk limits s p → Found limits s p u → MayAskAt limits s u
  may_at p u may f =
      let none = others limits s p u may.pass f in
      let l : Legal S (seen p ++ f.goes_on.0) = subst (λ (G : List Element). Legal S G) f.goes_on.1 f.legal in
      let k = known_since S (seen p) f.goes_on.0 (number p) l none in
      let idle : Idle (run S u.found) (number p) = subst (λ (G : List Element). Idle (run S G) (number p)) (sym f.goes_on.1) (k.idle may.idle) in
      let more = by_append (number p) (seen p) f.goes_on.0 in
      let same : asks_by (number p) u.found ≡ asks_by (number p) (seen p) = ap (asks_by (number p)) f.goes_on.1 ∙ (omega (arith, more.1, none_by (number p) f.goes_on.0 none)) in
      let room : asks_by (number p) u.found < ask_quota S (number p) = omega (arith, same, may.quota) in
      record {
        squeue = f.squeue;
        legal = f.legal;
        no_worker = subst (λ (k : ℕ). k < length s.given.quotas) (sym f.same_number) may.no_worker;
        idle = subst (λ (k : ℕ). Idle (run S u.found) k) (sym f.same_number) idle;
        quota = subst (λ (k : ℕ). asks_by k u.found < ask_quota S k) (sym f.same_number) room;
      }

  -- the turn left no mark
  pub not_found : (p : Pass Element) (u : Turned R) (q : Pass Element) (c : ℕ) → MayAsk limits s p → Found limits s p u → Unmarked u q → is_here (run S u.found) c ≡ false → NotFound limits s c p q
  not_found p u q c may f m away =
      let at = may_at p u may f in
      let is : IsPassOf number_of s.gate q = subst (λ (t : Named R). IsPassOf number_of t.gate q) f.squeue m.is_pass in
      record {
        goes_on = record {
          is_pass = is;
          same_number = m.same_number ∙ f.same_number;
          grows = (f.goes_on.0, m.now_seen ∙ f.goes_on.1);
          legal = subst (λ (h : List Element). Legal S h) (sym m.now_seen) f.legal;
        };
        same_mine = m.now_mine ∙ f.same_mine;
        away = ap (λ (h : List Element). is_here (run S h) c) m.now_seen ∙ away;
        may_ask = record {
          pass = is;
          no_worker = subst (λ (k : ℕ). k < length s.given.quotas) (sym m.same_number) at.no_worker;
          idle = subst (λ (k : ℕ). Idle (run S (seen q)) k) (sym m.same_number) (subst (λ (h : List Element). Idle (run S h) u.number) (sym m.now_seen) at.idle);
          quota = subst (λ (k : ℕ). asks_by k (seen q) < ask_quota S k) (sym m.same_number) (subst (λ (h : List Element). asks_by u.number h < ask_quota S u.number) (sym m.now_seen) at.quota);
        };
      }

  -- who came behind what its turn found, came
  pub came : (p : Pass Element) (u : Turned R) (q : Pass Element) → IsPassOf number_of s.gate p → (f : Found limits s p u) → IsPassOf number_of s.gate q → Legal S (seen q) → number q ≡ u.number → CameBehind S u.number u.found u.mine q → Came limits s p q
  came p u q is f is_pass legal same b =
      record {
        goes_on = record {
          is_pass = is_pass;
          same_number = same ∙ f.same_number;
          grows = begins_trans (seen p) u.found (seen q) f.goes_on (b.ask ∷ b.since, b.now_seen ∙ append_assoc u.found (b.ask ∷ []) b.since);
          legal = legal;
        };
        found = u.found;
        begins = f.goes_on;
        others = others limits s p u is f;
        behind = subst (λ (M : List Element). CameBehind S (number p) u.found M q) f.same_mine (subst (λ (k : ℕ). CameBehind S k u.found u.mine q) f.same_number b);
      }

  pub came_for : (p : Pass Element) (u : Turned R) (q : Pass Element) (c : ℕ) → IsPassOf number_of s.gate p → Found limits s p u → IsPassOf number_of s.gate q → Legal S (seen q) → number q ≡ u.number → CameBehind S u.number u.found u.mine q
      → is_here (run S u.found) c ≡ true → CameFor limits s c p q
  unfolding came
  came_for p u q c is f is_pass legal same b here = (came p u q is f is_pass legal same b, here)

  module _ (u : Turned R) (may : MayAskAt limits s u) where
    pub may_ask : is_free (run S u.found).own ≡ false → May S u.found (asked_by u.number)
    may_ask busy =
        record {
          step = not_free_of (run S u.found).own busy;
          range = (omega (arith, may.no_worker), (omega (arith, may.no_worker), tt));
          worker_only = λ e. absurd (omega (arith, may.no_worker, e));
          idle = may.idle;
          kind = tt;
          enters = tt;
          quota = quota_asks S u.number u.found (asked_by u.number) may.legal refl refl may.quota;
          asks_last = tt;
          at_its_ask = tt;
          act = tt;
          progress = tt;
          note = refl;
        }

    pub may_claim : (run S u.found).own ≡ Free → May S u.found (ask_claimed_by u.number)
    may_claim free =
        record {
          step = (free, λ e. cc e);
          range = (omega (arith, may.no_worker), (omega (arith, may.no_worker), tt));
          worker_only = λ e. absurd (omega (arith, may.no_worker, e));
          idle = may.idle;
          kind = inr refl;
          enters = tt;
          quota = quota_asks S u.number u.found (ask_claimed_by u.number) may.legal refl refl may.quota;
          asks_last = tt;
          at_its_ask = tt;
          act = tt;
          progress = tt;
          note = refl;
        }

    pub pass_of_squeue : (q : Pass Element) → IsPassOf number_of u.squeue.gate q → IsPassOf number_of s.gate q
    pass_of_squeue q is = subst (λ (t : Named R). IsPassOf number_of t.gate q) may.squeue is

    pub below_again : (q : Pass Element) → number q ≡ u.number → number q < length s.given.quotas
    below_again q same = subst (λ (k : ℕ). k < length s.given.quotas) (sym same) may.no_worker

    pub open_asked : (q : Pass Element) → Marked u (asked_by u.number) q → is_closed (run S (seen q)) (number q) ≡ false
    open_asked q m =
        ap (λ (k : ℕ). is_closed (run S (seen q)) k) m.same_number
        ∙ (ap (λ (h : List Element). is_closed (run S h) u.number) m.now_seen
        ∙ (ap (λ (t : State). is_closed t u.number) (run_push (start S) u.found (asked_by u.number)) ∙ may.idle.open_pass))

    -- it asked, and accepted later
    pub came_asked : (q r : Pass Element) → is_free (run S u.found).own ≡ false → Marked u (asked_by u.number) q → Begins (seen q) (seen r) → mine r ≡ mine q ++ accepted_by (number q) ∷ [] → CameBehind S u.number u.found u.mine r
    came_asked q r busy m grows had =
        record {
          ask = asked_by u.number;
          since = grows.0;
          marks = accepted_by u.number ∷ [];
          now_seen = grows.1 ∙ ap (λ (h : List Element). h ++ grows.0) m.now_seen;
          now_mine =
              had
              ∙ (ap (λ (k : ℕ). mine q ++ accepted_by k ∷ []) m.same_number
              ∙ (ap (λ (h : List Element). h ++ accepted_by u.number ∷ []) m.now_mine ∙ append_assoc u.mine (asked_by u.number ∷ []) (accepted_by u.number ∷ [])));
          way = subst (λ (b : Bool). IsWay b u.number (asked_by u.number) (accepted_by u.number ∷ [])) (sym busy) (refl, refl);
        }
