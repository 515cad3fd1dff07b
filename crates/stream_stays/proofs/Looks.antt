-- What the own marks of a ring's pass tell after a look.
use Rattle.std.proofs.Common.{◌≡◌, ◌⊎◌, ℕ, ◌+◌, ◌%◌, ◌==◌, ◌<◌, length, Bool, true, false, inl, inr, List, [], ◌∷◌, ◌++◌, refl, ap, sym, ◌∙◌, subst, append_assoc, arith}
use Rattle.turn_gate.specs.Passes.{IsPassOf, number, seen, mine}
use Rattle.turn_gate.specs.declared.pass.Pass.{Pass}
use Rattle.perimeter_core.specs.declared.marks.SynchAct.TheVariants as Done
use Rattle.perimeter_core.specs.declared.resident.Resident.{Ghosts}
use Rattle.perimeter_core.specs.Blocks.{Blocks}
use Rattle.perimeter_core.specs.declared.entries.Entry.{Entry}
use Rattle.perimeter_core.specs.declared.marks.Mark.TheVariants as On
use Rattle.perimeter_core.specs.declared.marks.Own.TheVariants.{Out}
use Rattle.perimeter_core.specs.Perimeter.{Idle, after, ends_with_ask, is_free, is_here, unprocessed}
use Rattle.perimeter_core.specs.History.{Element, Limits, Setting, ask_quota, feed_quota, start, run, made_by}
use Rattle.perimeter_core.specs.Deeds.{acts, due_from, due, fed, feeds_of, times_left}
use Rattle.perimeter_core.specs.Backlog.{queue}
use Rattle.perimeter_core.specs.Legal.{Legal, feeds_by, asks_by}
use Rattle.perimeter_core.specs.Knowledge.{here_by}
use Rattle.perimeter_core.proofs.AtItsAsk.{nothing_queued}
use Rattle.perimeter_core.proofs.NextFeed.{had}
use Rattle.perimeter_core.proofs.OneMore.{legal_front, run_push}
use Rattle.perimeter_core.proofs.RingKnows.{ring_knows}
use Rattle.perimeter_core.proofs.OwnCounts.{own_counts}
use Rattle.squeue_state.specs.Clauses.{Found, Marked}
use Rattle.squeue_state.specs.Naming.{Named, Turned, setting_of}
use Rattle.squeue_state.specs.declared.guarded.Life.{Life}
use Rattle.stream_stays.specs.Staying.{HasLife}
use Rattle.histories.specs.Elements.{number_of, left_by_pass, asked_by, ask_claimed_by, granted_by, accepted_by}
use Rattle.squeue_state.proofs.Makers.{only_made}
use Rattle.squeue_drain.specs.declared.owner.Owner.{Owner}
use Rattle.squeue_drain.proofs.Deciding.{marked_on}
use Rattle.synch_enter.specs.Synch.{Came, IsWay, StandsAtItsAsk}
use Rattle.synch_enter.proofs.Exiting.{at, exits, idle_again, left_by}
use Rattle.synch_enter.proofs.NothingDone.{still}
use Rattle.conn_migrate.specs.Moving.{IsKept, Moved}
use Rattle.conn_migrate.proofs.Halves.{moved}
use Rattle.conn_migrate.proofs.OwnMarks.{one_count}
use Rattle.squeue_enter.proofs.Bringing.{here_append, none_count, due_append}
use Rattle.histories.proofs.Counts.{left_append}
use Rattle.squeue_enter.proofs.Carrying.{by_append}

-- elements T of the pass p with no feed and so many Asks, after which connection d is as it was
record Tells (p d asks : ℕ) (T : List Element) : Type 0 where
  feeds : feeds_by p T ≡ 0
  asks_made : asks_by p T ≡ asks
  is_here_now : (b : Bool) → here_by d b T ≡ b
  next_feed : (n : ℕ) → due_from d n T ≡ n
  left : times_left d T ≡ 0

both : (p d a b : ℕ) (T U : List Element) → Tells p d a T → Tells p d b U → Tells p d (a + b) (T ++ U)
both p d a b T U x y =
    record {
      feeds = omega (arith, (by_append p T U).0, x.feeds, y.feeds);
      asks_made = omega (arith, (by_append p T U).1, x.asks_made, y.asks_made);
      is_here_now = λ z. here_append d z T U ∙ (ap (λ w. here_by d w U) (x.is_here_now z) ∙ y.is_here_now z);
      next_feed = λ z. due_append d z T U ∙ (ap (λ w. due_from d w U) (x.next_feed z) ∙ y.next_feed z);
      left = omega (arith, left_append d T U, x.left, y.left);
    }

tells_ask : (p d : ℕ) → Tells p d 1 (asked_by p ∷ [])
tells_ask p d = record { feeds = none_count (p == p); asks_made = one_count p; is_here_now = λ b. refl; next_feed = λ n. omega arith; left = refl }

tells_claim : (p d : ℕ) → Tells p d 1 (ask_claimed_by p ∷ [])
tells_claim p d = record { feeds = none_count (p == p); asks_made = one_count p; is_here_now = λ b. refl; next_feed = λ n. omega arith; left = refl }

tells_grant : (p d j rest : ℕ) → Tells p d 0 (granted_by p j rest ∷ [])
tells_grant p d j rest = record { feeds = none_count (p == p); asks_made = none_count (p == p); is_here_now = λ b. refl; next_feed = λ n. omega arith; left = refl }

tells_accept : (p d : ℕ) → Tells p d 0 (accepted_by p ∷ [])
tells_accept p d = record { feeds = none_count (p == p); asks_made = none_count (p == p); is_here_now = λ b. refl; next_feed = λ n. omega arith; left = refl }

tells_leave : (p d : ℕ) → Tells p d 0 (left_by_pass p 0 Done.None [] ∷ [])
tells_leave p d = record { feeds = none_count (p == p); asks_made = none_count (p == p); is_here_now = λ b. refl; next_feed = λ n. omega arith; left = refl }

-- what a pass makes to come
tells_way : (p d : ℕ) (free : Bool) (ask : Element) (marks : List Element) → IsWay free p ask marks → Tells p d 1 (ask ∷ marks)
tells_way p d false ask marks w = rw (w.0, w.1) (both p d 1 0 _ _ (tells_ask p d) (tells_accept p d))
tells_way p d true ask marks w =
    elim w.1 [
      | inl none ↦ rw (w.0, none) (tells_claim p d)
      | inr hands ↦ rw (w.0, hands.3) (both p d 1 0 _ _ (tells_claim p d) (both p d 0 0 _ _ (tells_grant p d hands.0 hands.1) (tells_accept p d)))
    ]

module _ {R : Type 0} {limits : R → Limits} {s : Named R} {from to : Pass Element} (is : IsPassOf number_of s.gate from) (one : Moved limits s Done.None [] from to) where
  abbrev S : Setting
  S = setting_of limits s.given

  abbrev p : ℕ
  p = number from

  abbrev last : Element
  last = left_by_pass (number from) 0 Done.None []

  abbrev own : List Element
  own = (one.came.behind.ask ∷ one.came.behind.marks) ++ left_by_pass (number from) 0 Done.None [] ∷ []

  legal_before : Legal (setting_of limits s.given) (seen from)
  legal_before = legal_front S (seen from) one.goes_on.grows.0 (subst (λ (H : List Element). Legal S H) one.goes_on.grows.1 one.goes_on.legal)

  made_before : made_by (number from) (seen from) ≡ mine from
  made_before = sym (only_made p (seen from)) ∙ is.2

  made_now : made_by (number from) (seen to) ≡ made_by (number from) (seen from) ++ own
  made_now =
      ap (λ (k : ℕ). made_by k (seen to)) (sym one.goes_on.same_number) ∙ (sym (only_made (number to) (seen to)) ∙ (one.goes_on.is_pass.2 ∙ (one.left.now_mine
      ∙ (ap (λ (H : List Element). H ++ last ∷ []) one.came.behind.now_mine ∙ (append_assoc (mine from) (one.came.behind.ask ∷ one.came.behind.marks) (last ∷ [])
      ∙ ap (λ (H : List Element). H ++ own) (sym made_before))))))

  -- what its own elements tell a ring
  ring_by : (H : List Element) (d : ℕ) → Legal (setting_of limits s.given) H → number from ≡ d % s.given.rings
      → (is_here (run (setting_of limits s.given) H) d ≡ here_by d (is_here (start (setting_of limits s.given)) d) (made_by (number from) H)) × (due H d ≡ due (made_by (number from) H) d) × (times_left d H ≡ times_left d (made_by (number from) H))
  ring_by H d l ring =
      let k = ring_knows S H d l in
      subst (λ (r : ℕ). (is_here (run S H) d ≡ here_by d (is_here (start S) d) (made_by r H)) × (due H d ≡ due (made_by r H) d) × (times_left d H ≡ times_left d (made_by r H))) (sym ring) (k.here, k.next, k.left)

  -- the pass's own marks, those by which it came and then its last
  tells_all : (d : ℕ) → Tells (number from) d 1 own
  tells_all d = both p d 1 0 _ _ (tells_way p d (is_free (run S one.came.found).own) one.came.behind.ask one.came.behind.marks one.came.behind.way) (tells_leave p d)

  -- a connection of the ring is as it was
  pub look_keeps : (d : ℕ) → number from ≡ d % s.given.rings → IsKept (setting_of limits s.given) d (seen from) (seen to)
  look_keeps d ring =
      let all = tells_all d in
      let now = ring_by (seen to) d one.goes_on.legal ring in
      let before = ring_by (seen from) d legal_before ring in
      let after : times_left d (seen to) ≡ times_left d (made_by p (seen from)) + times_left d own = now.2 ∙ (ap (times_left d) made_now ∙ left_append d (made_by p (seen from)) own) in
      record {
        here =
            now.0 ∙ (ap (here_by d (is_here (start S) d)) made_now ∙ (here_append d (is_here (start S) d) (made_by p (seen from)) own
            ∙ (all.is_here_now (here_by d (is_here (start S) d) (made_by p (seen from))) ∙ sym before.0)));
        next =
            now.1 ∙ (ap (λ (H : List Element). due H d) made_now ∙ (due_append d 0 (made_by p (seen from)) own
            ∙ (all.next_feed (due (made_by p (seen from)) d) ∙ sym before.1)));
        left = omega (arith, after, all.left, before.2);
      }

  -- it has asked once, and entered nothing
  pub look_counts : (asks_by (number from) (seen to) ≡ asks_by (number from) (seen from) + 1) × (feeds_by (number from) (seen to) ≡ feeds_by (number from) (seen from))
  look_counts =
      let all = tells_all 0 in
      let now = own_counts p (seen to) in
      let before = own_counts p (seen from) in
      let more = by_append p (made_by p (seen from)) own in
      let feeds : feeds_by p (made_by p (seen to)) ≡ feeds_by p (made_by p (seen from) ++ own) = ap (feeds_by p) made_now in
      let asks : asks_by p (made_by p (seen to)) ≡ asks_by p (made_by p (seen from) ++ own) = ap (asks_by p) made_now in (
        omega (arith, now.1, asks, more.1, before.1, all.asks_made),
        omega (arith, now.0, feeds, more.0, before.0, all.feeds),
      )

  -- an ask of its life is spent
  pub life_looked : (life after : Life) → HasLife limits s life from → after.feeds ≡ life.feeds → life.asks ≡ after.asks + 1 → HasLife limits s after to
  life_looked life after l feeds asks =
      let same : number to ≡ number from = one.goes_on.same_number in
      let feeds_at : feeds_by (number to) (seen to) ≡ feeds_by (number from) (seen to) = ap (λ (n : ℕ). feeds_by n (seen to)) same in
      let asks_at : asks_by (number to) (seen to) ≡ asks_by (number from) (seen to) = ap (λ (n : ℕ). asks_by n (seen to)) same in
      let feed_at : feed_quota S (number to) ≡ feed_quota S (number from) = ap (feed_quota S) same in
      let ask_at : ask_quota S (number to) ≡ ask_quota S (number from) = ap (ask_quota S) same in
      let was_feeds = l.feeds in
      let was_asks = l.asks in
      let counts = look_counts in
      let more_asks = counts.0 in
      let no_feeds = counts.1 in
      record {
        pass = one.goes_on.is_pass;
        no_worker = subst (λ (k : ℕ). k < length s.given.quotas) (sym same) l.no_worker;
        idle = subst (λ (k : ℕ). Idle (run S (seen to)) k) (sym same) one.idle;
        feeds = omega (arith, feeds_at, feed_at, no_feeds, was_feeds, feeds);
        asks = omega (arith, asks_at, ask_at, more_asks, was_asks, asks);
      }

-- an owner that came, read, and leaves with nothing done
module _ {R P O : Type 0} {G : Ghosts R P O} {s : Named R} {from q : Pass Element} (o : Owner R) (u : Turned R) (came : Came G.limits s from o.pass) (is : StandsAtItsAsk G s [] o) (none : o.act ≡ Done.None) (f : Found G.limits s o.pass u)
    (m : Marked u (left_by_pass u.number (length o.hand.left) o.act []) q) where
  pub looked : Moved G.limits s Done.None [] from q
  looked =
      moved o o came refl is.left none
      (marked_on G.limits s o.pass q u (left_by_pass u.number (length o.hand.left) o.act []) f (exits G s [] o u is f) m)
      (idle_again G s [] o u is f q m) (left_by G s [] o u is f q m)

  -- all feeds that were entered for a connection of its ring are done
  pub all_done : (c : ℕ) → number from ≡ c % s.given.rings → is_here (run (setting_of G.limits s.given) (seen q)) c ≡ true → fed (acts (setting_of G.limits s.given) (seen q) c) ≡ due (seen q) c
  all_done c ring here =
      let S : Setting = setting_of G.limits s.given in
      let t = at G s [] o u is f in
      let mine : u.number ≡ c % s.given.rings = f.same_number ∙ (came.goes_on.same_number ∙ ring) in
      let ask : ((run S u.found).hand ≡ []) ⊎ (ends_with_ask (c % s.given.rings) (run S u.found).hand ≡ true) =
      subst (λ (n : ℕ). ((run S u.found).hand ≡ []) ⊎ (ends_with_ask n (run S u.found).hand ≡ true)) (came.goes_on.same_number ∙ ring)
      (subst (λ (xs : List Entry). (xs ≡ []) ⊎ (ends_with_ask (number o.pass) xs ≡ true)) (sym t.hand) is.at_ask) in
      let behind : feeds_of c (run S u.found).chain ≡ [] = nothing_queued S u.found c f.legal (t.own ∙ ap Out mine) ask in
      let rest : unprocessed (length o.hand.left) (run S u.found).hand ≡ [] = sym t.left.is_left ∙ is.left in
      let state : run S (seen q) ≡ after (run S u.found) (On.Leave u.number (length o.hand.left) o.act) = ap (run S) m.now_seen ∙ run_push (start S) u.found (left_by_pass u.number (length o.hand.left) o.act []) in
      let queued : queue (run S (seen q)) ≡ (run S u.found).chain = ap queue state ∙ ap (λ (xs : List Entry). xs ++ (run S u.found).chain) rest in
      let empty : feeds_of c (queue (run S (seen q))) ≡ [] = ap (feeds_of c) queued ∙ behind in
      let count = had S c (seen q) looked.goes_on.legal here in
      omega (arith, count, ap length empty)

-- an owner whose resident was changed, and stands for whatever it stood for
pub stands_still : {R P O : Type 0} {G : Ghosts R P O} {s : Named R} (o : Owner R) (r : R) → ((b : Blocks) → G.stands o.resident b → G.stands r b) → G.limits r ≡ G.limits o.resident → G.size r ≡ G.size o.resident → G.origin r ≡ G.origin o.resident
    → StandsAtItsAsk G s [] o → StandsAtItsAsk G s [] (record { pass = o.pass; resident = r; hand = o.hand; act = o.act })
stands_still {R} {P} {O} {G} {s} o r stands limits size origin at =
    record {
      owns = record { pass = at.owns.pass; legal = at.owns.legal; own = at.owns.own; hand = at.owns.hand; resident = still G s.given stands limits size origin at.owns.resident };
      no_worker = at.no_worker;
      open_pass = at.open_pass;
      left = at.left;
      at_ask = at.at_ask;
      only = at.only;
      range = at.range;
      fits = at.fits;
      note_fits = at.note_fits;
    }
