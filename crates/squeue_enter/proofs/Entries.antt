-- What a pass that enters may do in its turn, and what follows.
use Rattle.std.specs.Prelude.{replicate}
use Rattle.std.proofs.Common.{◌≡◌, ◌≢◌, ℕ, ◌+◌, ◌^◌, ◌≤◌, ◌<◌, Bool, false, inl, List, [], ◌∷◌, ◌++◌, length, refl, ap, sym, ◌∙◌, subst, arith, length-append}
use Rattle.turn_gate.specs.Passes.{number, seen, mine}
use Rattle.turn_gate.specs.declared.pass.Pass.{Pass}
use Rattle.perimeter_core.specs.declared.resident.Resident.{Ghosts}
use Rattle.perimeter_core.specs.declared.entries.Feed.{Feed as FeedOf}
use Rattle.perimeter_core.specs.declared.entries.Entry.{Entry}
use Rattle.perimeter_core.specs.declared.entries.Entry.TheVariants.{Feed}
use Rattle.perimeter_core.specs.declared.marks.SynchAct.TheVariants as Done
use Rattle.perimeter_core.specs.declared.marks.Own.TheVariants.{Free, Out}
use Rattle.perimeter_core.specs.declared.marks.Mark.TheVariants as On
use Rattle.perimeter_core.specs.Perimeter.{State, Idle, after, polls, processed, has_ask, is_closed}
use Rattle.perimeter_core.specs.History.{Element, Setting, Limits, start, run, made_by, feed_quota}
use Rattle.perimeter_core.specs.Deeds.{entries, entered, due, done}
use Rattle.perimeter_core.specs.Legal.{May, Legal, Enters, feeds_by, feed_count}
use Rattle.perimeter_core.specs.Blocks.{peri}
use Rattle.perimeter_core.proofs.OneMore.{run_push, legal_more}
use Rattle.perimeter_core.proofs.IdleKept.{feeds_no_ask}
use Rattle.perimeter_core.proofs.OneMore.{entered_push}
use Rattle.perimeter_core.proofs.OrderAndWake.{order}
use Rattle.perimeter_core.proofs.Quotas.{feeds_within, feed_count-append}
use Rattle.perimeter_core.specs.Backlog.{queue}
use Rattle.squeue_state.specs.Behind.{FeedsFit}
use Rattle.squeue_state.proofs.QueuedRoom.{queued_few, feed_entries}
use Rattle.squeue_state.specs.Naming.{Named, Turned, Handed, setting_of}
use Rattle.squeue_state.specs.Behind.{IsPeri}
use Rattle.histories.specs.Elements.{filled_by, fast_by, claimed_by, taken_by}
use Rattle.squeue_state.specs.Clauses.{Found, Marked, IsWhole}
use Rattle.squeue_state.proofs.Marks.{entries-length}
use Rattle.squeue_drain.specs.Owning.{Feeds, HasFeeds, fed_so_far}
use Rattle.squeue_drain.specs.Draining.{StaysBelow, plain, Ends, GoesOn, Drained}
use Rattle.perimeter_core.proofs.FeedLists.{nil_right}
use Rattle.perimeter_core.proofs.BehindAnAsk.{has_ask-append}
use Rattle.squeue_drain.proofs.Hands.{whole_left}
use Rattle.squeue_drain.proofs.Fresh.{fresh}
use Rattle.squeue_drain.proofs.Turning.{others}
use Rattle.squeue_drain.proofs.Deciding.{marked_on}
use Rattle.squeue_state.specs.AllRoom.{HasAllRoom}
use Rattle.squeue_enter.specs.Entering.{MayEnter, DrainsFrom}
use Rattle.squeue_enter.proofs.Carrying.{idle_carried, due_carried, here_carried, enters_carried, entries_in_range, quota_enters}
use Rattle.histories.proofs.Counts.{only_feeds}

pub some_entries : (fs : List FeedOf) → 0 < length fs → entries fs ≢ []
some_entries [] some = absurd (omega arith)
some_entries (f ∷ fs) some = λ e. cc e

module _ {R : Type 0} (limits : R → Limits) (s : Named R) (p : Pass Element) (es : List FeedOf) (u : Turned R) (may : MayEnter limits s p es) (f : Found limits s p u) where
  abbrev S : Setting
  S = setting_of limits s.given

  abbrev H : List Element
  H = seen p

  abbrev K : List Element
  K = f.goes_on.0

  abbrev n : ℕ
  n = number p

  none : made_by n K ≡ []
  none = others limits s p u may.pass f

  legal : Legal S (H ++ K)
  legal = subst (λ (G : List Element). Legal S G) f.goes_on.1 f.legal

  -- a fact of the pass at what it had seen and others made, as it is said of the turn
  at_turn : (P : List Element → ℕ → Type 0) → P (H ++ K) n → P u.found u.number
  at_turn P h = subst (λ (G : List Element). P G u.number) (sym f.goes_on.1) (subst (λ (k : ℕ). P (H ++ K) k) (sym f.same_number) h)

  pub idle_here : Idle (run S u.found) u.number
  idle_here = at_turn (λ G k. Idle (run S G) k) (idle_carried S n H K legal none may.idle)

  enters_here : Enters S (run S (H ++ K)) n (due (H ++ K)) (entries es)
  enters_here = enters_carried S (run S H) (run S (H ++ K)) n (due H) (due (H ++ K)) (entries es) (due_carried S n H K legal none) (here_carried S n H K legal none) may.enters

  room : feeds_by n H + feed_count (entries es) ≤ feed_quota S n
  room = omega (arith, may.quota, feed_entries es)

  pub may_fill : 0 < length es → May S u.found (filled_by u.number es)
  may_fill some =
      at_turn (λ G k. May S G (filled_by k es))
      (record {
        step = some_entries es some;
        range = (omega (arith, may.no_worker), entries_in_range S (H ++ K) n (due (H ++ K)) (entries es) (only_feeds es) enters_here);
        worker_only = omega (arith, may.no_worker);
        idle = idle_carried S n H K legal none may.idle;
        kind = only_feeds es;
        enters = enters_here;
        quota = quota_enters S n H K (filled_by n es) legal none refl (only_feeds es) room;
        asks_last = tt;
        at_its_ask = tt;
        act = tt;
        progress = tt;
        note = refl;
      })

  pub may_claim : 0 < length es → (run S u.found).own ≡ Free → May S u.found (claimed_by u.number es)
  may_claim some free =
      at_turn (λ G k. May S G (claimed_by k es))
      (record {
        step = (subst (λ (G : List Element). (run S G).own ≡ Free) f.goes_on.1 free, some_entries es some);
        range = (omega (arith, may.no_worker), entries_in_range S (H ++ K) n (due (H ++ K)) (entries es) (only_feeds es) enters_here);
        worker_only = omega (arith, may.no_worker);
        idle = idle_carried S n H K legal none may.idle;
        kind = inl (only_feeds es);
        enters = enters_here;
        quota = quota_enters S n H K (claimed_by n es) legal none refl (only_feeds es) room;
        asks_last = tt;
        at_its_ask = tt;
        act = tt;
        progress = tt;
        note = refl;
      })

  pub may_fast : (e : FeedOf) → es ≡ e ∷ [] → (run S u.found).own ≡ Free → (run S u.found).chain ≡ [] → May S u.found (fast_by u.number e)
  may_fast e one free empty =
      let one_feed : entries es ≡ Feed e.c e.n ∷ [] = ap entries one in
      at_turn (λ G k. May S G (fast_by k e))
      (record {
        step = (subst (λ (G : List Element). (run S G).own ≡ Free) f.goes_on.1 free, subst (λ (G : List Element). (run S G).chain ≡ []) f.goes_on.1 empty);
        range = (omega (arith, may.no_worker), rw one_feed at (entries_in_range S (H ++ K) n (due (H ++ K)) (entries es) (only_feeds es) enters_here));
        worker_only = omega (arith, may.no_worker);
        idle = idle_carried S n H K legal none may.idle;
        kind = refl;
        enters = rw one_feed at enters_here;
        quota = quota_enters S n H K (fast_by n e) legal none refl refl (rw one_feed at room);
        asks_last = tt;
        at_its_ask = tt;
        act = tt;
        progress = tt;
        note = refl;
      })

  -- the feeds fit where the squeue has room for all that its quotas let come
  pub fits : 0 < length es → HasAllRoom s.given → FeedsFit S s.given.room u.found (length es)
  fits some all =
      let e = filled_by u.number es in
      let within = feeds_within S (u.found ++ e ∷ []) (legal_more S u.found e f.legal (may_fill some)) in
      let more = ap feed_count (entered_push u.found e) ∙ feed_count-append (entered u.found) (entries es) in
      let kept = ap feed_count (order S u.found f.legal) ∙ feed_count-append (done S u.found) (queue (run S u.found)) in
      omega (arith, all, within, more, kept, feed_entries es)

  -- what is queued after the fill fits a number
  pub fill_fits : FeedsFit S s.given.room u.found (length es) → length (run S u.found).chain + length es < 2 ^ 31
  fill_fits fit =
      let few = f.few in
      omega (arith, fit, few.1, queued_few S u.found f.legal, length-append (run S u.found).hand (run S u.found).chain)

  -- after the fill the pass may enter again
  pub idle_filled : (q : Pass Element) → Marked u (filled_by u.number es) q → Idle (run S (seen q)) n
  idle_filled q m =
      let i = idle_here in
      let state : run S (seen q) ≡ after (run S u.found) (On.Fill u.number (entries es)) = ap (run S) m.now_seen ∙ run_push (start S) u.found (filled_by u.number es) in
      subst (λ (k : ℕ). Idle (run S (seen q)) k) f.same_number
      (subst (λ (t : State). Idle t u.number) (sym state)
      (record {
        open_pass = i.open_pass;
        no_owner = i.no_owner;
        not_granted = i.not_granted;
        not_in_hand = i.not_in_hand;
        not_in_chain = has_ask-append u.number (run S u.found).chain (entries es) i.not_in_chain (feeds_no_ask u.number (entries es) (only_feeds es));
      }))

  pub fill_polls : (q : Pass Element) (polling : Bool) → ((xs : List Entry) → length xs ≡ length (run S u.found).chain + length es → polling ≡ polls xs (run S u.found).polling) → Marked u (filled_by u.number es) q
      → polling ≡ (run S (seen q)).polling
  fill_polls q polling told m =
      let state : run S (seen q) ≡ after (run S u.found) (On.Fill u.number (entries es)) = ap (run S) m.now_seen ∙ run_push (start S) u.found (filled_by u.number es) in
      told ((run S u.found).chain ++ entries es) (omega (arith, length-append (run S u.found).chain (entries es), entries-length es)) ∙ sym (ap (λ (t : State). t.polling) state)

module _ {R P O : Type 0} (G : Ghosts R P O) (s : Named R) (p : Pass Element) (es : List FeedOf) (u : Turned R) (may : MayEnter G.limits s p es) (f : Found G.limits s p u) where
  abbrev T : Setting
  T = setting_of G.limits s.given

  -- the owner that the entry became
  pub record Came (e : Element) (q : Pass Element) (r : R) (h : Handed) : Type 0 where
    pub feeds : Feeds G s record { pass = q; resident = r; hand = h; act = Done.None }
    pub has : HasFeeds G.limits s record { pass = q; resident = r; hand = h; act = Done.None }
    pub open_pass : is_closed (run T (seen q)) (number q) ≡ false
    pub same : number q ≡ number p
    pub now_seen : seen q ≡ u.found ++ e ∷ []
    pub now_mine : mine q ≡ mine p ++ e ∷ []
    pub goes_on : GoesOn G.limits s p q
    pub none_fed : fed_so_far G.limits s record { pass = q; resident = r; hand = h; act = Done.None } ≡ feed_count (done T (seen q))

  came : (e : Element) (xs : List Entry) → May T u.found e → (after (run T u.found) e.mark).own ≡ Out u.number → (after (run T u.found) e.mark).hand ≡ xs → is_closed (after (run T u.found) e.mark) u.number ≡ false
      → xs ≢ [] → has_ask u.number xs ≡ false → (q : Pass Element) (r : R) (h : Handed) → Marked u e q → IsWhole G.limits s.given (seen q) h → IsPeri G s.given r (peri T (seen q)) → Came e q r h
  came e xs ok own hand closed some no_ask q r h m whole is =
      let on = marked_on G.limits s p q u e f ok m in
      let state : run T (seen q) ≡ after (run T u.found) e.mark = ap (run T) m.now_seen ∙ run_push (start T) u.found e in
      let held : (run T (seen q)).hand ≡ xs = ap (λ (t : State). t.hand) state ∙ hand in
      let w = whole_left (run T (seen q)).hand h.left whole.is_whole in
      record {
        feeds = fresh G s q r h on.is_pass on.legal (ap (λ (t : State). t.own) state ∙ (own ∙ ap Out (sym m.same_number))) whole is;
        has = record { some = λ z. some (sym held ∙ z); no_ask = ap (λ (k : ℕ). has_ask k (run T (seen q)).hand) m.same_number ∙ (ap (has_ask u.number) held ∙ no_ask) };
        open_pass = ap (λ (k : ℕ). is_closed (run T (seen q)) k) m.same_number ∙ (ap (λ (t : State). is_closed t u.number) state ∙ closed);
        same = m.same_number ∙ f.same_number;
        now_seen = m.now_seen;
        now_mine = m.now_mine ∙ ap (λ (x : List Element). x ++ e ∷ []) f.same_mine;
        goes_on = on;
        none_fed = let zero : feed_count (processed (length h.left) (run T (seen q)).hand) ≡ 0 = ap feed_count w.1 in omega (arith, zero);
      }

  pub came_fast : (e : FeedOf) → es ≡ e ∷ [] → (run T u.found).own ≡ Free → (run T u.found).chain ≡ [] → (q : Pass Element) (r : R) (h : Handed) → Marked u (fast_by u.number e) q → IsWhole G.limits s.given (seen q) h
      → IsPeri G s.given r (peri T (seen q)) → Came (fast_by u.number e) q r h
  came_fast e one free empty q r h m whole is =
      came (fast_by u.number e) (Feed e.c e.n ∷ []) (may_fast G.limits s p es u may f e one free empty) refl refl (idle_here G.limits s p es u may f).open_pass (λ z. cc z) refl q r h m whole is

  pub came_claim : 0 < length es → (run T u.found).own ≡ Free → (q : Pass Element) (r : R) (h : Handed) → Marked u (claimed_by u.number es) q → IsWhole G.limits s.given (seen q) h
      → IsPeri G s.given r (peri T (seen q)) → Came (claimed_by u.number es) q r h
  came_claim some free q r h m whole is =
      let i = idle_here G.limits s p es u may f in
      came (claimed_by u.number es) ((run T u.found).chain ++ entries es) (may_claim G.limits s p es u may f some free) refl refl i.open_pass
      (λ z. some_entries es some (nil_right (run T u.found).chain (entries es) z))
      (has_ask-append u.number (run T u.found).chain (entries es) i.not_in_chain (feeds_no_ask u.number (entries es) (only_feeds es))) q r h m whole is

  -- what the drain then did, as it is said of the history after the first mark
  pub drains : (e : ℕ → Element) (budget : ℕ) (q : Pass Element) (r : R) (h : Handed) (to : Pass Element) → Came (e u.number) q r h → Drained G.limits s budget record { pass = q; resident = r; hand = h; act = Done.None } to
      → DrainsFrom T (number p) budget (u.found ++ e (number p) ∷ []) (mine p ++ e (number p) ∷ []) to
  drains e budget q r h to came d =
      let at : seen q ≡ u.found ++ e (number p) ∷ [] = came.now_seen ∙ ap (λ (k : ℕ). u.found ++ e k ∷ []) f.same_number in
      let own : mine q ≡ mine p ++ e (number p) ∷ [] = came.now_mine ∙ ap (λ (k : ℕ). mine p ++ e k ∷ []) f.same_number in
      let count = ap (λ (x : List Element). feed_count (done T x)) at in
      record {
        between = d.between;
        takes = d.takes;
        last = d.last;
        ends = subst (λ (k : ℕ). Ends k d.last) came.same d.ends;
        now_seen = d.now_seen ∙ ap (λ (x : List Element). x ++ (d.between ++ plain d.last ∷ [])) at;
        now_mine = d.now_mine ∙ (ap (λ (x : List Element). x ++ (replicate d.takes (taken_by (number q)) ++ plain d.last ∷ [])) own
            ∙ ap (λ (k : ℕ). (mine p ++ e (number p) ∷ []) ++ (replicate d.takes (taken_by k) ++ plain d.last ∷ [])) came.same);
        most = omega (arith, d.most, count, came.none_fed);
        full = λ leave some. let all = d.full leave some in omega (arith, all, count, came.none_fed);
        spent =
            let fed : fed_so_far G.limits s record { pass = q; resident = r; hand = h; act = Done.None } + budget ≡ feed_count (done T (u.found ++ e (number p) ∷ [])) + budget = omega (arith, count, came.none_fed) in
            subst (λ (H : List Element). StaysBelow T (number p) (feed_count (done T (u.found ++ e (number p) ∷ [])) + budget) H (d.between ++ plain d.last ∷ [])) at
            (subst (λ (k : ℕ). StaysBelow T k (feed_count (done T (u.found ++ e (number p) ∷ [])) + budget) (seen q) (d.between ++ plain d.last ∷ [])) came.same
            (subst (λ (n : ℕ). StaysBelow T (number q) n (seen q) (d.between ++ plain d.last ∷ [])) fed d.spent));
      }

  -- the hand of the entry of one feed
  pub hand_fast : (e : FeedOf) → es ≡ e ∷ [] → (run T u.found).own ≡ Free → (run T u.found).chain ≡ [] → (q : Pass Element) → Marked u (fast_by u.number e) q → (run T (seen q)).hand ≡ Feed e.c e.n ∷ []
  hand_fast e one free empty q m = ap (λ (h : List Element). (run T h).hand) m.now_seen ∙ ap (λ (t : State). t.hand) (run_push (start T) u.found (fast_by u.number e))
