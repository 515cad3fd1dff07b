-- What a pass knows after an entry: its own elements enter the feeds of its chain, and nothing else.
use Rattle.std.proofs.Common.{◌≡◌, ℕ, zero, suc, ◌+◌, ◌<◌, ◌≤◌, ◌%◌, Bool, true, false, if◌then◌else◌, ◌==◌, List, [], ◌∷◌, ◌++◌, length, replicate, refl, ap, sym, ◌∙◌, subst, arith, length-append, append_assoc, append-nil}
use Rattle.turn_gate.specs.History.{Begins, only}
use Rattle.turn_gate.specs.Passes.{IsPassOf, number, seen, mine, steps}
use Rattle.turn_gate.specs.declared.pass.Pass.{Pass}
use Rattle.perimeter_core.specs.declared.entries.Feed.{Feed as FeedOf}
use Rattle.perimeter_core.specs.declared.entries.Entry.{Entry}
use Rattle.perimeter_core.specs.declared.entries.Entry.TheVariants.{Feed, Ask}
use Rattle.perimeter_core.specs.declared.marks.SynchAct.TheVariants as Done
use Rattle.perimeter_core.specs.declared.marks.Mark.{Mark}
use Rattle.perimeter_core.specs.declared.marks.Mark.TheVariants as On
use Rattle.perimeter_core.specs.Perimeter.{State, Idle, is_here}
use Rattle.perimeter_core.specs.History.{Element, Setting, Limits, start, feed_quota, run, made_by}
use Rattle.perimeter_core.specs.Deeds.{entries, feeds_of, puts_in, takes_out, times_left, due_after, due_from, due}
use Rattle.perimeter_core.specs.Legal.{Legal, Enters, one_more, feeds_by, asks_by, feed_count, ask_count}
use Rattle.perimeter_core.specs.Knowledge.{here_by}
use Rattle.perimeter_core.proofs.RingKnows.{ring_knows}
use Rattle.perimeter_core.proofs.OneMore.{legal_front}
use Rattle.perimeter_core.proofs.OwnCounts.{own_counts}
use Rattle.squeue_state.proofs.Makers.{only_made}
use Rattle.perimeter_core.specs.Backlog.{queue}
use Rattle.squeue_state.proofs.Turns.{one_turn}
use Rattle.squeue_state.specs.Clauses.{Found, Unmarked}
use Rattle.squeue_state.specs.Naming.{Named, Turned, setting_of}
use Rattle.squeue_state.proofs.QueuedRoom.{feed_entries}
use Rattle.histories.specs.Elements.{number_of, filled_by, fast_by, claimed_by, taken_by}
use Rattle.squeue_drain.specs.Draining.{plain, Ends, GoesOn}
use Rattle.histories.specs.declared.mode.Mode.{Mode}
use Rattle.squeue_enter.specs.declared.entering.How.{How}
use Rattle.histories.specs.declared.mode.Mode.TheVariants.{Process, NoDrain, Fill}
use Rattle.squeue_enter.specs.declared.entering.Entered.{Entered}
use Rattle.squeue_enter.specs.Ways.{way_of}
use Rattle.squeue_enter.specs.Entering.{MayEnter, HasEntered, HasFilled, WasFull, Went, Brought, MayGoOn}
use Rattle.squeue_enter.proofs.Entries.{idle_here}
use Rattle.squeue_enter.proofs.Carrying.{enters_carried, no_asks_in, by_append, own_count}
use Rattle.histories.proofs.Counts.{only_feeds, left_append}

pub due_append : (c n : ℕ) (H K : List Element) → due_from c n (H ++ K) ≡ due_from c (due_from c n H) K
due_append c n [] K = refl
due_append c n (e ∷ H) K = due_append c (due_after c n e) H K

pub here_append : (c : ℕ) (b : Bool) (H K : List Element) → here_by c b (H ++ K) ≡ here_by c (here_by c b H) K
here_append c b [] K = refl
here_append c b (e ∷ H) K = here_append c (if puts_in c e.mark then true else if takes_out c e.mark then false else b) H K

-- elements of p that enter these feeds, no Ask, and move no block
record Brings (p : ℕ) (es : List FeedOf) (M : List Element) : Type 0 where
  feeds : feeds_by p M ≡ length es
  asks : asks_by p M ≡ 0
  next : (c n : ℕ) → due_from c n M ≡ n + length (feeds_of c (entries es))
  here : (c : ℕ) (b : Bool) → here_by c b M ≡ b
  left : (c : ℕ) → times_left c M ≡ 0

brings_none : (p : ℕ) → Brings p [] []
brings_none p = record { feeds = refl; asks = refl; next = λ c n. omega arith; here = λ c b. refl; left = λ c. refl }

brings_both : (p : ℕ) (es : List FeedOf) (M K : List Element) → Brings p es M → Brings p [] K → Brings p es (M ++ K)
brings_both p es M K a b =
    record {
      feeds = omega (arith, (by_append p M K).0, a.feeds, b.feeds);
      asks = omega (arith, (by_append p M K).1, a.asks, b.asks);
      next = λ c n. due_append c n M K ∙ (b.next c (due_from c n M) ∙ omega (arith, a.next c n));
      here = λ c h. here_append c h M K ∙ (b.here c (here_by c h M) ∙ a.here c h);
      left = λ c. omega (arith, left_append c M K, a.left c, b.left c);
    }

pub none_count : (b : Bool) → (if b then 0 else 0) + 0 ≡ 0
none_count true = refl
none_count false = refl

brings_took : (p n : ℕ) → Brings p [] (replicate n (taken_by p))
brings_took p zero = brings_none p
brings_took p (suc n) =
    let r = brings_took p n in
    let z = none_count (p == p) in
    record { feeds = omega (arith, r.feeds, z); asks = omega (arith, r.asks, z); next = λ c m. r.next c (m + 0) ∙ omega arith; here = λ c b. r.here c b; left = λ c. omega (arith, r.left c) }

brings_last : (p : ℕ) (m : Mark) → Ends p m → Brings p [] (plain m ∷ [])
brings_last p (On.Leave q rest Done.None) e = record { feeds = none_count (q == p); asks = none_count (q == p); next = λ c n. omega arith; here = λ c b. refl; left = λ c. refl }
brings_last p (On.Grant q j rest) e = record { feeds = none_count (q == p); asks = none_count (q == p); next = λ c n. omega arith; here = λ c b. refl; left = λ c. refl }
brings_last p (On.Fill q es) e = absurd e
brings_last p (On.Fast q f) e = absurd e
brings_last p (On.Claim q es) e = absurd e
brings_last p (On.Take q) e = absurd e
brings_last p (On.Leave q rest (Done.Call c j k)) e = absurd e
brings_last p (On.Leave q rest Done.Away) e = absurd e
brings_last p (On.Leave q rest (Done.Out c)) e = absurd e
brings_last p (On.Leave q rest (Done.In c)) e = absurd e
brings_last p (On.Ask q) e = absurd e
brings_last p (On.Accept q) e = absurd e
brings_last p (On.Work q) e = absurd e
brings_last p (On.Close q) e = absurd e

no_asks : (p : ℕ) (es : List FeedOf) → (if p == p then ask_count (entries es) else 0) + 0 ≡ 0
no_asks p es = own_count p (ask_count (entries es)) ∙ no_asks_in (entries es) (only_feeds es)

all_count : (p : ℕ) (es : List FeedOf) → (if p == p then feed_count (entries es) else 0) + 0 ≡ length es
all_count p es = own_count p (feed_count (entries es)) ∙ feed_entries es

brings_fill : (p : ℕ) (es : List FeedOf) → Brings p es (filled_by p es ∷ [])
brings_fill p es = record { feeds = all_count p es; asks = no_asks p es; next = λ c n. refl; here = λ c b. refl; left = λ c. refl }

brings_claim : (p : ℕ) (es : List FeedOf) → Brings p es (claimed_by p es ∷ [])
brings_claim p es = record { feeds = all_count p es; asks = no_asks p es; next = λ c n. refl; here = λ c b. refl; left = λ c. refl }

brings_fast : (p : ℕ) (f : FeedOf) → Brings p (f ∷ []) (fast_by p f ∷ [])
brings_fast p f = record { feeds = all_count p (f ∷ []); asks = no_asks p (f ∷ []); next = λ c n. refl; here = λ c b. refl; left = λ c. refl }

-- what a pass adds to its own elements
abbrev Adds : ℕ → List FeedOf → List Element → List Element → Type 0
Adds p es M N = (T : List Element) × (N ≡ M ++ T) × Brings p es T

adds_two : (p : ℕ) (es : List FeedOf) (e : Element) (M K N : List Element) → N ≡ (M ++ e ∷ []) ++ K → Brings p es (e ∷ []) → Brings p [] K → Adds p es M N
adds_two p es e M K N is a b = (e ∷ K, is ∙ append_assoc M (e ∷ []) K, brings_both p es (e ∷ []) K a b)

brings_end : (p takes : ℕ) (m : Mark) → Ends p m → Brings p [] (replicate takes (taken_by p) ++ plain m ∷ [])
brings_end p takes m e = brings_both p [] (replicate takes (taken_by p)) (plain m ∷ []) (brings_took p takes) (brings_last p m e)

brings_alone : (p : ℕ) (f : FeedOf) (es : List FeedOf) → es ≡ f ∷ [] → Brings p es (fast_by p f ∷ [])
brings_alone p f es is = subst (λ (xs : List FeedOf). Brings p xs (fast_by p f ∷ [])) (sym is) (brings_fast p f)

-- by the table of ways
adds : (S : Setting) (mode : Mode) (free empty one : Bool) (p budget : ℕ) (es : List FeedOf) (H M : List Element) (to : Pass Element) (how : How) → Went S (way_of mode free empty one) p budget es H M to how → Adds p es M (mine to)
adds S Process true true true p budget es H M to how w = adds_two p es (fast_by p w.0) M _ (mine to) w.3.now_mine (brings_alone p w.0 es w.1) (brings_end p w.3.takes w.3.last w.3.ends)
adds S Process true true false p budget es H M to how w = adds_two p es (claimed_by p es) M _ (mine to) w.1.now_mine (brings_claim p es) (brings_end p w.1.takes w.1.last w.1.ends)
adds S Process true false one p budget es H M to how w = adds_two p es (claimed_by p es) M _ (mine to) w.1.now_mine (brings_claim p es) (brings_end p w.1.takes w.1.last w.1.ends)
adds S Process false empty one p budget es H M to how w = (filled_by p es ∷ [], w.2, brings_fill p es)
adds S NoDrain true true true p budget es H M to how w = adds_two p es (fast_by p w.0) M _ (mine to) w.3.now_mine (brings_alone p w.0 es w.1) (brings_last p (On.Leave p 0 Done.None) refl)
adds S NoDrain true true false p budget es H M to how w = (filled_by p es ∷ [], w.2, brings_fill p es)
adds S NoDrain true false one p budget es H M to how w = (filled_by p es ∷ [], w.2, brings_fill p es)
adds S NoDrain false empty one p budget es H M to how w = (filled_by p es ∷ [], w.2, brings_fill p es)
adds S Fill free empty one p budget es H M to how w = (filled_by p es ∷ [], w.2, brings_fill p es)

pub entries_append : (es fs : List FeedOf) → entries (es ++ fs) ≡ entries es ++ entries fs
entries_append [] fs = refl
entries_append (e ∷ es) fs = ap (λ (xs : List Entry). Feed e.c e.n ∷ xs) (entries_append es fs)

pub one_first : (b : Bool) (x n : ℕ) (ns : List ℕ) → x + length (if b then n ∷ ns else ns) ≡ (if b then x + 1 else x) + length ns
one_first true x n ns = omega arith
one_first false x n ns = refl

-- the rest of a chain, behind its front
enters_rest : (S : Setting) (s : State) (p : ℕ) (a b : ℕ → ℕ) (es fs : List Entry) → ((c : ℕ) → b c ≡ a c + length (feeds_of c es)) → Enters S s p a (es ++ fs) → Enters S s p b fs
enters_rest S s p a b [] fs next e = enters_carried S s s p a b fs (λ c is. omega (arith, next c)) (λ c is. refl) e
enters_rest S s p a b (Feed d n ∷ es) fs next e = enters_rest S s p (one_more d a) b es fs (λ c. next c ∙ one_first (d == c) (a c) n (feeds_of c es)) e.4
enters_rest S s p a b (Ask q ∷ es) fs next e = enters_rest S s p a b es fs next e

module _ {R : Type 0} (limits : R → Limits) (s : Named R) (es : List FeedOf) (from to : Pass Element) (before : Legal (setting_of limits s.given) (seen from)) (now : Legal (setting_of limits s.given) (seen to)) (T : List Element) (own : made_by (number from) (seen to) ≡ made_by (number from) (seen from) ++ T) (brings : Brings (number from) es T) where
  abbrev S : Setting
  S = setting_of limits s.given

  abbrev p : ℕ
  p = number from

  ring_by : (F : List Element) (c : ℕ) → Legal S F → p ≡ c % S.rings
      → (is_here (run S F) c ≡ here_by c (is_here (start S) c) (made_by p F)) × (due F c ≡ due (made_by p F) c) × (times_left c F ≡ times_left c (made_by p F))
  ring_by F c l is =
      let k = ring_knows S F c l in
      subst (λ (r : ℕ). (is_here (run S F) c ≡ here_by c (is_here (start S) c) (made_by r F)) × (due F c ≡ due (made_by r F) c) × (times_left c F ≡ times_left c (made_by r F)))
      (sym is) (k.here, k.next, k.left)

  next_now : (c : ℕ) → p ≡ c % S.rings → due (seen to) c ≡ due (seen from) c + length (feeds_of c (entries es))
  next_now c is =
      (ring_by (seen to) c now is).1 ∙ (ap (λ (x : List Element). due x c) own ∙ (due_append c 0 (made_by p (seen from)) T ∙ (brings.next c (due (made_by p (seen from)) c)
      ∙ ap (λ (n : ℕ). n + length (feeds_of c (entries es))) (sym (ring_by (seen from) c before is).1))))

  here_now : (c : ℕ) → p ≡ c % S.rings → is_here (run S (seen to)) c ≡ is_here (run S (seen from)) c
  here_now c is =
      (ring_by (seen to) c now is).0 ∙ (ap (here_by c (is_here (start S) c)) own ∙ (here_append c (is_here (start S) c) (made_by p (seen from)) T
      ∙ (brings.here c (here_by c (is_here (start S) c) (made_by p (seen from))) ∙ sym (ring_by (seen from) c before is).0)))

  left_now : (c : ℕ) → p ≡ c % S.rings → times_left c (seen to) ≡ times_left c (seen from)
  left_now c is =
      let after = (ring_by (seen to) c now is).2 ∙ (ap (times_left c) own ∙ left_append c (made_by p (seen from)) T) in
      omega (arith, after, brings.left c, (ring_by (seen from) c before is).2)

  brought_by : Brought limits s es from to
  brought_by =
      let m = own_counts p (seen to) in
      let k = own_counts p (seen from) in
      let a = by_append p (made_by p (seen from)) T in
      let f : feeds_by p (made_by p (seen to)) ≡ feeds_by p (made_by p (seen from) ++ T) = ap (feeds_by p) own in
      let q : asks_by p (made_by p (seen to)) ≡ asks_by p (made_by p (seen from) ++ T) = ap (asks_by p) own in
      record {
        feeds = omega (arith, m.0, f, a.0, k.0, brings.feeds);
        asks = omega (arith, m.1, q, a.1, k.1, brings.asks);
        next = next_now;
        here = here_now;
        left = left_now;
      }

module _ {R : Type 0} {limits : R → Limits} {s : Named R} {es : List FeedOf} {from to : Pass Element} where
  -- who has brought a chain may bring what might have stood behind it
  goes_on_by : IsPassOf number_of s.gate to → number to ≡ number from → Idle (run (setting_of limits s.given) (seen to)) (number from) → Brought limits s es from to → MayGoOn limits s es from to
  goes_on_by is same idle b = λ more may.
      let S : Setting = setting_of limits s.given in
      let rest : Enters S (run S (seen to)) (number from) (due (seen to)) (entries more) =
      enters_carried S (run S (seen from)) (run S (seen to)) (number from) (λ c. due (seen from) c + length (feeds_of c (entries es))) (due (seen to)) (entries more) (λ c ring. sym (b.next c ring)) (λ c ring. sym (b.here c ring))
      (enters_rest S (run S (seen from)) (number from) (due (seen from)) (λ c. due (seen from) c + length (feeds_of c (entries es))) (entries es) (entries more) (λ c. refl)
      (subst (λ (xs : List Entry). Enters S (run S (seen from)) (number from) (due (seen from)) xs) (entries_append es more) may.enters)) in
      record {
        pass = is;
        no_worker = omega (arith, may.no_worker, same);
        idle = subst (λ (k : ℕ). Idle (run S (seen to)) k) (sym same) idle;
        enters = subst (λ (k : ℕ). Enters S (run S (seen to)) k (due (seen to)) (entries more)) (sym same) rest;
        quota = subst (λ (k : ℕ). feeds_by k (seen to) + length more ≤ feed_quota S k) (sym same) (omega (arith, b.feeds, may.quota, length-append es more));
      }

-- the pass's own elements, before and after
made_of : (p : ℕ) (q : Pass Element) → only number_of p (seen q) ≡ mine q → made_by p (seen q) ≡ mine q
made_of p q is = sym (only_made p (seen q)) ∙ is

module _ {R : Type 0} {limits : R → Limits} {s : Named R} {es : List FeedOf} {from : Pass Element} (is : IsPassOf number_of s.gate from) where
  pub brought : {mode : Mode} {budget : ℕ} {r : Entered} → HasEntered limits s mode budget es from r → Brought limits s es from r.pass
  brought {mode} {budget} {r} h =
      let p : ℕ = number from in
      let a = adds (setting_of limits s.given) mode _ _ _ p budget es h.found (mine from) r.pass r.how h.went in
      let own_to = made_of p r.pass (subst (λ (k : ℕ). only number_of k (seen r.pass) ≡ mine r.pass) h.goes_on.same_number h.goes_on.is_pass.2) in
      brought_by limits s es from r.pass (legal_front (setting_of limits s.given) (seen from) h.begins.0 (subst (λ (F : List Element). Legal (setting_of limits s.given) F) h.begins.1 h.legal)) h.goes_on.legal a.0
      (own_to ∙ (a.1 ∙ ap (λ (x : List Element). x ++ a.0) (sym (made_of p from is.2)))) a.2

  pub goes_on : {mode : Mode} {budget : ℕ} {r : Entered} → HasEntered limits s mode budget es from r → MayGoOn limits s es from r.pass
  goes_on h = goes_on_by h.goes_on.is_pass h.goes_on.same_number h.idle (brought h)

  pub brought_filled : {to : Pass Element} → HasFilled limits s from es to → Brought limits s es from to
  brought_filled {to} h =
      let p : ℕ = number from in
      let own_to = made_of p to (subst (λ (k : ℕ). only number_of k (seen to) ≡ mine to) h.goes_on.same_number h.goes_on.is_pass.2) in
      brought_by limits s es from to (legal_front (setting_of limits s.given) (seen from) h.begins.0 (subst (λ (F : List Element). Legal (setting_of limits s.given) F) h.begins.1 h.legal)) h.goes_on.legal (filled_by p es ∷ [])
      (own_to ∙ (h.now_mine ∙ ap (λ (x : List Element). x ++ filled_by p es ∷ []) (sym (made_of p from is.2)))) (brings_fill p es)

  pub goes_on_filled : {to : Pass Element} → HasFilled limits s from es to → MayGoOn limits s es from to
  goes_on_filled h = goes_on_by h.goes_on.is_pass h.goes_on.same_number h.idle (brought_filled h)

module _ {R : Type 0} {limits : R → Limits} {s : Named R} {from to : Pass Element} {es : List FeedOf} {u : Turned R} (may : MayEnter limits s from es) (f : Found limits s from u) (m : Unmarked u to) where
  kept : GoesOn limits s from to
  kept =
      record {
        is_pass = subst (λ (t : Named R). IsPassOf number_of t.gate to) f.squeue m.is_pass;
        same_number = m.same_number ∙ f.same_number;
        grows = subst (λ (H : List Element). Begins (seen from) H) (sym m.now_seen) f.goes_on;
        legal = subst (λ (H : List Element). Legal (setting_of limits s.given) H) (sym m.now_seen) f.legal;
      }

  -- a turn that ends without a mark, since it found no room
  pub was_full : (n : ℕ) → u.squeue.given.room < length (queue (run (setting_of limits u.squeue.given) u.found)) + n + length u.squeue.given.quotas → WasFull limits s n from to
  was_full n full =
      record {
        goes_on = kept;
        same_mine = m.now_mine ∙ f.same_mine;
        one_turn = one_turn (steps from) u.made (steps to) f.no_turn_yet m.one_step;
        full =
            subst (λ (H : List Element). s.given.room < length (queue (run (setting_of limits s.given) H)) + n + length s.given.quotas) (sym m.now_seen)
            (subst (λ (t : Named R). t.given.room < length (queue (run (setting_of limits t.given) u.found)) + n + length t.given.quotas) f.squeue full);
      }

  pub brought_none : Brought limits s [] from to
  brought_none =
      let p : ℕ = number from in
      let own_to = made_of p to (subst (λ (k : ℕ). only number_of k (seen to) ≡ mine to) kept.same_number kept.is_pass.2) in
      brought_by limits s [] from to (legal_front (setting_of limits s.given) (seen from) f.goes_on.0 (subst (λ (F : List Element). Legal (setting_of limits s.given) F) f.goes_on.1 f.legal)) kept.legal []
      (own_to ∙ (m.now_mine ∙ (f.same_mine ∙ (sym (made_of p from may.pass.2) ∙ sym (append-nil (made_by p (seen from))))))) (brings_none p)

  idle_kept : Idle (run (setting_of limits s.given) (seen to)) (number from)
  idle_kept =
      subst (λ (k : ℕ). Idle (run (setting_of limits s.given) (seen to)) k) f.same_number
      (subst (λ (H : List Element). Idle (run (setting_of limits s.given) H) u.number) (sym m.now_seen) (idle_here limits s from es u may f))

  pub goes_on_none : MayGoOn limits s [] from to
  goes_on_none = goes_on_by kept.is_pass kept.same_number idle_kept brought_none

enters_front : (S : Setting) (s : State) (p : ℕ) (next : ℕ → ℕ) (es fs : List Entry) → Enters S s p next (es ++ fs) → Enters S s p next es
enters_front S s p next [] fs e = tt
enters_front S s p next (Feed c n ∷ es) fs e = (e.0, e.1, e.2, e.3, enters_front S s p (one_more c next) es fs e.4)
enters_front S s p next (Ask q ∷ es) fs e = enters_front S s p next es fs e

-- who may enter a chain and then another may enter the one
pub may_front : {R : Type 0} (limits : R → Limits) (s : Named R) (p : Pass Element) (es fs : List FeedOf) → MayEnter limits s p (es ++ fs) → MayEnter limits s p es
may_front limits s p es fs may =
    let S : Setting = setting_of limits s.given in
    record {
      pass = may.pass;
      no_worker = may.no_worker;
      idle = may.idle;
      enters =
          enters_front S (run S (seen p)) (number p) (due (seen p)) (entries es) (entries fs)
          (subst (λ (xs : List Entry). Enters S (run S (seen p)) (number p) (due (seen p)) xs) (entries_append es fs) may.enters);
      quota = omega (arith, may.quota, length-append es fs);
    }
