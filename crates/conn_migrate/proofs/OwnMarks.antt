-- What the own marks of a ring's pass tell after a move.
use Rattle.std.proofs.Common.{◌≡◌, ◌≢◌, ℕ, ◌+◌, ◌%◌, ◌==◌, Bool, true, false, if◌then◌else◌, inl, inr, List, [], ◌∷◌, ◌++◌, refl, ap, sym, ◌∙◌, subst, append_assoc, arith}
use Rattle.std.proofs.lemmas.Bool.Decides.{nat_tests}
use Rattle.turn_gate.specs.Passes.{IsPassOf, number, seen, mine}
use Rattle.turn_gate.specs.declared.pass.Pass.{Pass}
use Rattle.perimeter_core.specs.declared.entries.Act.{Act}
use Rattle.perimeter_core.specs.declared.marks.SynchAct.{SynchAct}
use Rattle.perimeter_core.specs.declared.marks.SynchAct.TheVariants as Done
use Rattle.perimeter_core.specs.Perimeter.{is_free, is_here}
use Rattle.perimeter_core.specs.History.{Element, Limits, Setting, start, run, made_by}
use Rattle.perimeter_core.specs.Deeds.{fed, due_from, due, times_left}
use Rattle.perimeter_core.specs.Legal.{Legal, feeds_by, asks_by}
use Rattle.perimeter_core.specs.Knowledge.{here_by}
use Rattle.perimeter_core.proofs.OneMore.{legal_front}
use Rattle.perimeter_core.proofs.RingKnows.{ring_knows}
use Rattle.perimeter_core.proofs.OwnCounts.{own_counts}
use Rattle.squeue_state.specs.Naming.{Named, setting_of}
use Rattle.histories.specs.Elements.{number_of, left_by_pass, asked_by, ask_claimed_by, granted_by, accepted_by}
use Rattle.squeue_state.proofs.Makers.{only_made}
use Rattle.synch_enter.specs.Synch.{IsWay}
use Rattle.conn_migrate.specs.Moving.{Moved, IsKept, RingLearns}
use Rattle.squeue_enter.proofs.Bringing.{here_append, none_count, due_append}
use Rattle.histories.proofs.Counts.{left_append}
use Rattle.squeue_enter.proofs.Carrying.{by_append}

-- Elements T of the pass p, with no feed and so many Asks; after them connection d is here or not, has left so many times
-- more, and has its next feed, by what it was before
record Tells (p d asks times : ℕ) (here : Bool → Bool) (next : ℕ → ℕ) (T : List Element) : Type 0 where
  feeds : feeds_by p T ≡ 0
  asks_made : asks_by p T ≡ asks
  is_here_now : (b : Bool) → here_by d b T ≡ here b
  next_feed : (n : ℕ) → due_from d n T ≡ next n
  left : times_left d T ≡ times

both : (p d a b t u : ℕ) (h k : Bool → Bool) (m n : ℕ → ℕ) (T U : List Element) → Tells p d a t h m T → Tells p d b u k n U → Tells p d (a + b) (t + u) (λ x. k (h x)) (λ x. n (m x)) (T ++ U)
both p d a b t u h k m n T U x y =
    record {
      feeds = omega (arith, (by_append p T U).0, x.feeds, y.feeds);
      asks_made = omega (arith, (by_append p T U).1, x.asks_made, y.asks_made);
      is_here_now = λ z. here_append d z T U ∙ (ap (λ w. here_by d w U) (x.is_here_now z) ∙ y.is_here_now (h z));
      next_feed = λ z. due_append d z T U ∙ (ap (λ w. due_from d w U) (x.next_feed z) ∙ y.next_feed (m z));
      left = omega (arith, left_append d T U, x.left, y.left);
    }

pub one_count : (p : ℕ) → (if p == p then 1 else 0) + 0 ≡ 1
one_count p = let e : (p == p) ≡ true = grind (arith, nat_tests) in rw e refl

tells_ask : (p d : ℕ) → Tells p d 1 0 (λ b. b) (λ n. n) (asked_by p ∷ [])
tells_ask p d = record { feeds = none_count (p == p); asks_made = one_count p; is_here_now = λ b. refl; next_feed = λ n. omega arith; left = refl }

tells_claim : (p d : ℕ) → Tells p d 1 0 (λ b. b) (λ n. n) (ask_claimed_by p ∷ [])
tells_claim p d = record { feeds = none_count (p == p); asks_made = one_count p; is_here_now = λ b. refl; next_feed = λ n. omega arith; left = refl }

tells_grant : (p d j rest : ℕ) → Tells p d 0 0 (λ b. b) (λ n. n) (granted_by p j rest ∷ [])
tells_grant p d j rest = record { feeds = none_count (p == p); asks_made = none_count (p == p); is_here_now = λ b. refl; next_feed = λ n. omega arith; left = refl }

tells_accept : (p d : ℕ) → Tells p d 0 0 (λ b. b) (λ n. n) (accepted_by p ∷ [])
tells_accept p d = record { feeds = none_count (p == p); asks_made = none_count (p == p); is_here_now = λ b. refl; next_feed = λ n. omega arith; left = refl }

-- what a pass makes to come
tells_way : (p d : ℕ) (free : Bool) (ask : Element) (marks : List Element) → IsWay free p ask marks → Tells p d 1 0 (λ b. b) (λ n. n) (ask ∷ marks)
tells_way p d false ask marks w = rw (w.0, w.1) (both p d 1 0 0 0 _ _ _ _ _ _ (tells_ask p d) (tells_accept p d))
tells_way p d true ask marks w =
    elim w.1 [
      | inl none ↦ rw (w.0, none) (tells_claim p d)
      | inr hands ↦ rw (w.0, hands.3) (both p d 1 0 0 0 _ _ _ _ _ _ (tells_claim p d) (both p d 0 0 0 0 _ _ _ _ _ _ (tells_grant p d hands.0 hands.1) (tells_accept p d)))
    ]

-- what it makes when it leaves with the act of a move
tells_out : (p c : ℕ) (note : List Act) → Tells p c 0 1 (λ b. false) (λ n. n) (left_by_pass p 0 (Done.Out c) note ∷ [])
tells_out p c note =
    let e : (c == c) ≡ true = grind (arith, nat_tests) in
    record { feeds = none_count (p == p); asks_made = none_count (p == p); is_here_now = λ b. rw e refl; next_feed = λ n. omega arith; left = rw e refl }

tells_out_of : (p c d : ℕ) (note : List Act) → d ≢ c → Tells p d 0 0 (λ b. b) (λ n. n) (left_by_pass p 0 (Done.Out c) note ∷ [])
tells_out_of p c d note other =
    let e : (c == d) ≡ false = grind (arith, nat_tests) in
    record { feeds = none_count (p == p); asks_made = none_count (p == p); is_here_now = λ b. rw e refl; next_feed = λ n. omega arith; left = rw e refl }

tells_in : (p c : ℕ) (note : List Act) → Tells p c 0 0 (λ b. true) (λ n. fed note) (left_by_pass p 0 (Done.In c) note ∷ [])
tells_in p c note =
    let e : (c == c) ≡ true = grind (arith, nat_tests) in
    record { feeds = none_count (p == p); asks_made = none_count (p == p); is_here_now = λ b. rw e refl; next_feed = λ n. rw e refl; left = refl }

tells_in_of : (p c d : ℕ) (note : List Act) → d ≢ c → Tells p d 0 0 (λ b. b) (λ n. n) (left_by_pass p 0 (Done.In c) note ∷ [])
tells_in_of p c d note other =
    let e : (c == d) ≡ false = grind (arith, nat_tests) in
    record { feeds = none_count (p == p); asks_made = none_count (p == p); is_here_now = λ b. rw e refl; next_feed = λ n. rw e (omega arith); left = refl }

tells_call : (p c j k d : ℕ) (note : List Act) → Tells p d 0 0 (λ b. b) (λ n. n) (left_by_pass p 0 (Done.Call c j k) note ∷ [])
tells_call p c j k d note = record { feeds = none_count (p == p); asks_made = none_count (p == p); is_here_now = λ b. refl; next_feed = λ n. omega arith; left = refl }

tells_away : (p d : ℕ) (note : List Act) → Tells p d 0 0 (λ b. b) (λ n. n) (left_by_pass p 0 Done.Away note ∷ [])
tells_away p d note = record { feeds = none_count (p == p); asks_made = none_count (p == p); is_here_now = λ b. refl; next_feed = λ n. omega arith; left = refl }

module _ {R : Type 0} {limits : R → Limits} {s : Named R} {act : SynchAct} {note : List Act} {from to : Pass Element} (is : IsPassOf number_of s.gate from) (moved : Moved limits s act note from to) where
  abbrev S : Setting
  S = setting_of limits s.given

  abbrev p : ℕ
  p = number from

  abbrev last : Element
  last = left_by_pass (number from) 0 act note

  abbrev own : List Element
  own = (moved.came.behind.ask ∷ moved.came.behind.marks) ++ left_by_pass (number from) 0 act note ∷ []

  legal_before : Legal (setting_of limits s.given) (seen from)
  legal_before = legal_front S (seen from) moved.goes_on.grows.0 (subst (λ (H : List Element). Legal S H) moved.goes_on.grows.1 moved.goes_on.legal)

  made_before : made_by (number from) (seen from) ≡ mine from
  made_before = sym (only_made p (seen from)) ∙ is.2

  made_now : made_by (number from) (seen to) ≡ made_by (number from) (seen from) ++ own
  made_now =
      ap (λ (k : ℕ). made_by k (seen to)) (sym moved.goes_on.same_number) ∙ (sym (only_made (number to) (seen to)) ∙ (moved.goes_on.is_pass.2 ∙ (moved.left.now_mine
      ∙ (ap (λ (H : List Element). H ++ last ∷ []) moved.came.behind.now_mine ∙ (append_assoc (mine from) (moved.came.behind.ask ∷ moved.came.behind.marks) (last ∷ [])
      ∙ ap (λ (H : List Element). H ++ own) (sym made_before))))))

  -- what its own elements tell a ring
  ring_by : (H : List Element) (d : ℕ) → Legal (setting_of limits s.given) H → number from ≡ d % s.given.rings
      → (is_here (run (setting_of limits s.given) H) d ≡ here_by d (is_here (start (setting_of limits s.given)) d) (made_by (number from) H)) × (due H d ≡ due (made_by (number from) H) d) × (times_left d H ≡ times_left d (made_by (number from) H))
  ring_by H d l ring =
      let k = ring_knows S H d l in
      subst (λ (r : ℕ). (is_here (run S H) d ≡ here_by d (is_here (start S) d) (made_by r H)) × (due H d ≡ due (made_by r H) d) × (times_left d H ≡ times_left d (made_by r H))) (sym ring) (k.here, k.next, k.left)

  -- the pass's own marks, those by which it came and then its last
  tells_all : (d times : ℕ) (here : Bool → Bool) (next : ℕ → ℕ) → Tells (number from) d 0 times here next (left_by_pass (number from) 0 act note ∷ []) → Tells (number from) d 1 times here next own
  tells_all d times here next t =
      let sum : 0 + times ≡ times = omega arith in
      subst (λ (n : ℕ). Tells (number from) d 1 n here next own) sum
      (both p d 1 0 0 times (λ b. b) here (λ n. n) next _ _ (tells_way p d (is_free (run S moved.came.found).own) moved.came.behind.ask moved.came.behind.marks moved.came.behind.way) t)

  module _ (d times : ℕ) (here : Bool → Bool) (next : ℕ → ℕ) (ring : number from ≡ d % s.given.rings) (t : Tells (number from) d 0 times here next (left_by_pass (number from) 0 act note ∷ [])) where
    here_now : is_here (run (setting_of limits s.given) (seen to)) d ≡ here (is_here (run (setting_of limits s.given) (seen from)) d)
    here_now =
        let all = tells_all d times here next t in
        (ring_by (seen to) d moved.goes_on.legal ring).0 ∙ (ap (here_by d (is_here (start S) d)) made_now ∙ (here_append d (is_here (start S) d) (made_by p (seen from)) own
        ∙ (all.is_here_now (here_by d (is_here (start S) d) (made_by p (seen from))) ∙ ap here (sym (ring_by (seen from) d legal_before ring).0))))

    next_now : due (seen to) d ≡ next (due (seen from) d)
    next_now =
        let all = tells_all d times here next t in
        (ring_by (seen to) d moved.goes_on.legal ring).1 ∙ (ap (λ (H : List Element). due H d) made_now ∙ (due_append d 0 (made_by p (seen from)) own
        ∙ (all.next_feed (due (made_by p (seen from)) d) ∙ ap next (sym (ring_by (seen from) d legal_before ring).1))))

    left_now : times_left d (seen to) ≡ times_left d (seen from) + times
    left_now =
        let all = tells_all d times here next t in
        let after = (ring_by (seen to) d moved.goes_on.legal ring).2 ∙ (ap (times_left d) made_now ∙ left_append d (made_by p (seen from)) own) in
        omega (arith, after, all.left, (ring_by (seen from) d legal_before ring).2)

  -- one connection that the marks leave alone
  kept : (d : ℕ) → number from ≡ d % s.given.rings → Tells (number from) d 0 0 (λ b. b) (λ n. n) (left_by_pass (number from) 0 act note ∷ []) → IsKept (setting_of limits s.given) d (seen from) (seen to)
  kept d ring t =
      record {
        here = here_now d 0 (λ b. b) (λ n. n) ring t;
        next = next_now d 0 (λ b. b) (λ n. n) ring t;
        left = let e = left_now d 0 (λ b. b) (λ n. n) ring t in omega (arith, e);
      }

  -- one Ask more, whatever the act
  asks_once : Tells (number from) 0 0 0 (λ b. b) (λ n. n) (left_by_pass (number from) 0 act note ∷ []) → asks_by (number from) (seen to) ≡ asks_by (number from) (seen from) + 1
  asks_once t =
      let all = tells_all 0 0 (λ b. b) (λ n. n) t in
      let now = own_counts p (seen to) in
      let before = own_counts p (seen from) in
      let more = by_append p (made_by p (seen from)) own in
      let asks : asks_by p (made_by p (seen to)) ≡ asks_by p (made_by p (seen from) ++ own) = ap (asks_by p) made_now in
      omega (arith, now.1, asks, more.1, before.1, all.asks_made)

  knows : (c times : ℕ) (b : Bool) (next : ℕ → ℕ) → number from ≡ c % s.given.rings → Tells (number from) c 0 times (λ x. b) next (left_by_pass (number from) 0 act note ∷ [])
      → ((d : ℕ) → d ≢ c → Tells (number from) d 0 0 (λ x. x) (λ n. n) (left_by_pass (number from) 0 act note ∷ [])) → RingLearns limits s c b times from to
  knows c times b next ring t others =
      let all = tells_all c times (λ x. b) next t in
      let now = own_counts p (seen to) in
      let before = own_counts p (seen from) in
      let more = by_append p (made_by p (seen from)) own in
      let feeds : feeds_by p (made_by p (seen to)) ≡ feeds_by p (made_by p (seen from) ++ own) = ap (feeds_by p) made_now in
      let asks : asks_by p (made_by p (seen to)) ≡ asks_by p (made_by p (seen from) ++ own) = ap (asks_by p) made_now in
      record {
        now_here = here_now c times (λ x. b) next ring t;
        left = left_now c times (λ x. b) next ring t;
        asks = omega (arith, now.1, asks, more.1, before.1, all.asks_made);
        feeds = omega (arith, now.0, feeds, more.0, before.0, all.feeds);
        others = λ d other same. kept d same (others d other);
      }

module _ {R : Type 0} {limits : R → Limits} {s : Named R} {c : ℕ} {note : List Act} {from to : Pass Element} (is : IsPassOf number_of s.gate from) (ring : number from ≡ c % s.given.rings) where
  pub knows_out : Moved limits s (Done.Out c) note from to → RingLearns limits s c false 1 from to
  knows_out m = knows is m c 1 false (λ n. n) ring (tells_out (number from) c note) (λ d other. tells_out_of (number from) c d note other)

  pub knows_in : Moved limits s (Done.In c) note from to → RingLearns limits s c true 0 from to
  knows_in m = knows is m c 0 true (λ n. fed note) ring (tells_in (number from) c note) (λ d other. tells_in_of (number from) c d note other)

  pub next_out : Moved limits s (Done.Out c) note from to → due (seen to) c ≡ due (seen from) c
  next_out m = next_now is m c 1 (λ b. false) (λ n. n) ring (tells_out (number from) c note)

  pub next_in : Moved limits s (Done.In c) note from to → due (seen to) c ≡ fed note
  next_in m = next_now is m c 0 (λ b. true) (λ n. fed note) ring (tells_in (number from) c note)

-- a caller asks once for a call, and once where the block is elsewhere
module _ {R : Type 0} {limits : R → Limits} {s : Named R} {note : List Act} {from to : Pass Element} (is : IsPassOf number_of s.gate from) where
  pub asks_called : (c j k : ℕ) → Moved limits s (Done.Call c j k) note from to → asks_by (number from) (seen to) ≡ asks_by (number from) (seen from) + 1
  asks_called c j k moved = asks_once is moved (tells_call (number from) c j k 0 note)

  pub asks_away : Moved limits s Done.Away note from to → asks_by (number from) (seen to) ≡ asks_by (number from) (seen from) + 1
  asks_away moved = asks_once is moved (tells_away (number from) 0 note)
