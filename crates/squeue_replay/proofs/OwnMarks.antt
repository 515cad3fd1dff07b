-- Each mark that enters something, takes what is queued or closes a pass: the squeue stands for the longer history after it, and what
-- is seen where it may be made.
use Rattle.std.proofs.Common.{◌≡◌, ◌≢◌, ℕ, zero, suc, ◌+◌, ◌-◌, ◌<◌, ◌≤◌, Bool, true, false, ◌||◌, inl, inr, if◌then◌else◌, ◌==◌, Some, List, [], ◌∷◌, ◌++◌, length, refl, ap, sym, ◌∙◌, arith, slice_index_or, slice_set}
use Rattle.std.proofs.lemmas.List.{take-append-drop, length-set}
use Rattle.std.proofs.lemmas.Bool.Decides.{nat_tests}
use Rattle.std.specs.Prelude.{slice_get}
use Rattle.std.proofs.Math.Bool.{or-false, or-true}
use Rattle.std.proofs.lemmas.Bool.{or_parts}
use Rattle.std.proofs.lemmas.Option.{slice_get_within}
use Rattle.perimeter_core.specs.declared.entries.Entry.{Entry}
use Rattle.perimeter_core.specs.declared.entries.Entry.TheVariants as Entered
use Rattle.perimeter_core.specs.declared.entries.Feed.{Feed}
use Rattle.perimeter_core.specs.declared.marks.Mark.{Mark}
use Rattle.perimeter_core.specs.declared.marks.Mark.TheVariants as On
use Rattle.perimeter_core.specs.declared.marks.Own.TheVariants.{Free, Out, Granted}
use Rattle.perimeter_core.specs.Perimeter.{Can, Idle, State, after, has_ask, is_closed, is_free, processed, unprocessed}
use Rattle.perimeter_core.specs.History.{Element, Setting, passes, pass_of, run, worker}
use Rattle.perimeter_core.specs.Deeds.{due, entries, entries_of, feeds_of}
use Rattle.perimeter_core.specs.Backlog.{QueuedInRange}
use Rattle.perimeter_core.specs.Legal.{EntriesInRange, Legal, May, WithinQuota, ask_count, feed_count}
use Rattle.perimeter_core.proofs.BehindAnAsk.{ends_has}
use Rattle.perimeter_core.proofs.FeedLists.{length-up}
use Rattle.perimeter_core.proofs.FeedOrder.{feeds_in_order}
use Rattle.perimeter_core.proofs.HistoryLength.{closed_flags}
use Rattle.perimeter_core.proofs.OneMore.{legal_ind, run_push}
use Rattle.perimeter_core.proofs.OrderAndWake.{sound}
use Rattle.perimeter_core.proofs.QueuedRange.{queued_range}
use Rattle.perimeter_core.proofs.Quotas.{within, feeds_push, asks_push, own_count}
use Rattle.perimeter_core.proofs.Sound.{hand_free, hand_granted}
use Rattle.histories.proofs.ListPlaces.{some_at}
use Rattle.squeue_replay.specs.Standing.{GuestOf, PassOf, PassStands, SqueueOf, Stands}
use Rattle.squeue_replay.specs.Entering.{AreSmall, IsIdle, Queues, QueuesAsk}
use Rattle.squeue_replay.proofs.OneMoreMark.{Goes, stands_more}
use Rattle.squeue_replay.proofs.QueuedFeeds.{GuestQueued, Knows, PassQueued, Queued, entries_feeds, entries_some, may_queue, queued, same_there, set_at}
use Rattle.squeue_replay.proofs.EnteringMarks.{IsEntering, PassEntered, entering_guest, entering_pass}

-- a mark without a note
abbrev pub plain : Mark → Element
plain m = record { mark = m; note = [] }

none_else : (b : Bool) → ◌≡◌ {A = ℕ} (if b then 0 else 0) 0
none_else true = refl
none_else false = refl

-- who may enter, ask or close
pub idle_there : (S : Setting) (H : List Element) (p : ℕ) (s : SqueueOf) → Stands S H s → IsIdle p s → Idle (run S H) p × (p < worker S)
idle_there S H p s k i =
    let x = k.each_pass p i.pass i.was in
    let asks = or_parts (has_ask p (run S H).hand) (has_ask p (run S H).chain) (sym x.waiting ∙ i.waits_not) in (
      record {
        open_pass = sym x.closed ∙ i.open_pass;
        no_owner = λ e. i.no_owner (k.own ∙ e);
        not_granted = λ e. i.not_granted (k.own ∙ e);
        not_in_hand = asks.0;
        not_in_chain = asks.1;
      },
      rw k.passes at (slice_get_within s.passes p i.pass i.was),
    )

pub there_idle : (S : Setting) (H : List Element) (p : ℕ) (s : SqueueOf) → Stands S H s → Idle (run S H) p → p < worker S → IsIdle p s
there_idle S H p s k i less =
    let at = some_at s.passes p (rw k.passes less) in
    let x = k.each_pass p at.0 at.1 in
    record {
      pass = at.0;
      was = at.1;
      open_pass = x.closed ∙ i.open_pass;
      waits_not = x.waiting ∙ rw (i.not_in_hand, i.not_in_chain) refl;
      no_owner = λ e. i.no_owner (sym k.own ∙ e);
      not_granted = λ e. i.not_granted (sym k.own ∙ e);
    }

-- quotas, by what the pass has left
quota_left : (S : Setting) (H : List Element) (m : Mark) (p : ℕ) (x : PassOf) → PassStands S H p x → pass_of m ≡ p → feed_count (entries_of m) ≤ x.feeds → ask_count (entries_of m) ≤ x.asks
    → WithinQuota S p (H ++ plain m ∷ [])
quota_left S H m p x k is feeds asks =
    let f = own_count p (feed_count (entries_of m)) in
    let a = own_count p (ask_count (entries_of m)) in
    record {
      feeds = rw feeds_push (rw is (omega (arith, f, k.feeds, feeds)));
      asks = rw asks_push (rw is (omega (arith, a, k.asks, asks)));
    }

left_quota : (S : Setting) (H : List Element) (m : Mark) (p : ℕ) (x : PassOf) → PassStands S H p x → pass_of m ≡ p → WithinQuota S p (H ++ plain m ∷ [])
    → (feed_count (entries_of m) ≤ x.feeds) × (ask_count (entries_of m) ≤ x.asks)
left_quota S H m p x k is w =
    let f = own_count p (feed_count (entries_of m)) in
    let a = own_count p (ask_count (entries_of m)) in
    let feeds = rw is at (rw feeds_push at w.feeds) in
    let asks = rw is at (rw asks_push at w.asks) in
    (omega (arith, f, k.feeds, feeds), omega (arith, a, k.asks, asks))

-- a mark that enters nothing keeps quotas
none_entered : (S : Setting) (H : List Element) (m : Mark) (p : ℕ) → Legal S H → entries_of m ≡ [] → WithinQuota S p (H ++ plain m ∷ [])
none_entered S H m p l none =
    let w = within S p H l in
    let f : (if pass_of m == p then feed_count (entries_of m) else 0) ≡ 0 = rw none (none_else (pass_of m == p)) in
    let a : (if pass_of m == p then ask_count (entries_of m) else 0) ≡ 0 = rw none (none_else (pass_of m == p)) in
    record { feeds = omega (arith, feeds_push p H (plain m), f, w.feeds); asks = omega (arith, asks_push p H (plain m), a, w.asks) }

-- what is known of the connections
knows : (S : Setting) (H : List Element) (s : SqueueOf) → Stands S H s → Knows (run S H) (due H) s.guests
knows S H s k =
    record {
      each = λ c g at.
          let x = k.each_guest c g at in
          let o = feeds_in_order S H c k.legal in
          let n = ap length o.numbers ∙ length-up o.first o.count in
          (x.due, x.here, omega (arith, x.due, x.queued, n, o.ends));
    }

no_ask : (q : ℕ) (fs : List Feed) → has_ask q (entries fs) ≡ false
no_ask q [] = refl
no_ask q (f ∷ fs) = no_ask q fs

-- the feeds were no more than the pass had left
enough : (S : Setting) (st : State) (p : ℕ) (next : ℕ → ℕ) (fs : List Feed) (s u : SqueueOf) (x : PassOf) → Queued S st p next fs s u → slice_get s.passes p ≡ Some x → feed_count (entries fs) ≤ x.feeds
enough S st p next fs s u x r at =
    let now = some_at u.passes p (rw r.passes (slice_get_within s.passes p x at)) in
    let y = r.each_pass p now.0 now.1 in
    let same = same_there (slice_get s.passes p) y.before x y.was at in
    let n : (if p == p then feed_count (entries fs) else 0) ≡ feed_count (entries fs) = own_count p (feed_count (entries fs)) in
    omega (arith, n, y.feeds, ap (λ (v : PassOf). v.feeds) same)

feed_pass : (S : Setting) (H : List Element) (m : Mark) (p : ℕ) (fs : List Feed) (passes : List PassOf) (q : ℕ) (y : PassOf) → pass_of m ≡ p → entries_of m ≡ entries fs
    → ((i : ℕ) → is_closed (after (run S H) m) i ≡ is_closed (run S H) i) → PassQueued passes q (if p == q then feed_count (entries fs) else 0) y → PassEntered passes (run S H) m q y
feed_pass S H m p fs passes q y is feeds closed z =
    record {
      before = z.before;
      was = z.was;
      closed = λ old. z.closed ∙ (old ∙ sym (closed q));
      waiting = rw (feeds, no_ask q fs) (z.waiting ∙ sym (or-false z.before.waiting));
      feeds = rw (is, feeds) z.feeds;
      asks = rw (feeds, (entries_feeds fs).1, none_else (pass_of m == q)) (omega (arith, z.asks));
    }

-- what a mark that enters feeds does
feeds_go : (S : Setting) (H : List Element) (m : Mark) (p : ℕ) (fs : List Feed) (s u t : SqueueOf) → Stands S H s → Can (worker S) (run S H) m → IsEntering m → pass_of m ≡ p → entries_of m ≡ entries fs
    → ((i : ℕ) → is_closed (after (run S H) m) i ≡ is_closed (run S H) i) → Queued S (run S H) p (due H) fs s u → t.passes ≡ u.passes → t.guests ≡ u.guests
    → t.own ≡ (after (run S H) m).own → t.wake ≡ (after (run S H) m).wake → t.chain ≡ (after (run S H) m).chain → t.hand ≡ (after (run S H) m).hand → Goes S H (plain m) s t
feeds_go S H m p fs s u t k can kind is feeds closed r passes_ guests_ own wake chain hand =
    record {
      own = own;
      wake = wake;
      chain = chain;
      hand = hand;
      passes = ap length passes_ ∙ r.passes;
      each_pass = λ q y at.
          entering_pass S H m [] s.passes q y k.legal can kind (k.each_pass q)
          (feed_pass S H m p fs s.passes q y is feeds closed (r.each_pass q y (ap (λ (xs : List PassOf). slice_get xs q) (sym passes_) ∙ at)));
      guests = ap length guests_ ∙ r.guests;
      each_guest = λ c h at.
          entering_guest S H m [] s.guests c h k.legal can kind (k.each_guest c)
          (rw feeds (r.each_guest c h (ap (λ (xs : List GuestOf). slice_get xs c) (sym guests_) ∙ at)));
    }

queued_here : (S : Setting) (H : List Element) (p : ℕ) (fs : List Feed) (s u : SqueueOf) → Stands S H s → AreSmall fs → Queues S p fs s u → Queued S (run S H) p (due H) fs s u
queued_here S H p fs s u k small q = queued S (run S H) p (due H) fs s u small (knows S H s k) k.guests q

abbrev pub taken : ℕ → SqueueOf → SqueueOf
taken p u = record u { own = Out p; wake = false; chain = u.hand; hand = u.chain }

pub fill_stands : (S : Setting) (H : List Element) (p : ℕ) (fs : List Feed) (s u : SqueueOf) (w : Bool) → Stands S H s → IsIdle p s → fs ≢ [] → AreSmall fs → Queues S p fs s u → w ≡ (is_free u.own || u.wake)
    → Stands S (H ++ plain (On.Fill p (entries fs)) ∷ []) (record u { wake = w })
fill_stands S H p fs s u w k i some small q is =
    let r = queued_here S H p fs s u k small q in
    let idle = idle_there S H p s k i in
    let x = k.each_pass p i.pass i.was in
    let m : Mark = On.Fill p (entries fs) in
    let can : Can (worker S) (run S H) m = entries_some fs some in
    let woken : w ≡ (is_free (run S H).own || (run S H).wake) = is ∙ rw (r.own, r.wake, k.own, k.wake) refl in
    stands_more S H (plain m) s (record u { wake = w }) k
    (record {
      step = can;
      range = (omega (arith, idle.1), r.in_range);
      worker_only = λ e. absurd (omega (arith, e, idle.1));
      idle = idle.0;
      kind = (entries_feeds fs).0;
      enters = r.enters;
      quota = quota_left S H m p i.pass x refl (enough S (run S H) p (due H) fs s u i.pass r i.was) (let none = (entries_feeds fs).1 in omega (arith, none));
      asks_last = tt;
      at_its_ask = tt;
      act = tt;
      progress = tt;
      note = refl;
    })
    (feeds_go S H m p fs s u (record u { wake = w }) k can tt refl refl (λ j. refl) r refl refl (r.own ∙ k.own) woken (r.chain ∙ ap (λ (es : List Entry). es ++ entries fs) k.chain) (r.hand ∙ k.hand))

pub fast_stands : (S : Setting) (H : List Element) (p : ℕ) (f : Feed) (s u : SqueueOf) → Stands S H s → s.own ≡ Free → s.chain ≡ [] → IsIdle p s → AreSmall (f ∷ []) → Queues S p (f ∷ []) s u
    → Stands S (H ++ plain (On.Fast p (Entered.Feed f.c f.n)) ∷ []) (taken p u)
fast_stands S H p f s u k free empty i small q =
    let fs : List Feed = f ∷ [] in
    let r = queued_here S H p fs s u k small q in
    let idle = idle_there S H p s k i in
    let x = k.each_pass p i.pass i.was in
    let m : Mark = On.Fast p (Entered.Feed f.c f.n) in
    let owned : (run S H).own ≡ Free = sym k.own ∙ free in
    let none : (run S H).chain ≡ [] = sym k.chain ∙ empty in
    let sleeps : (run S H).wake ≡ false = (sound S H k.legal).wake ∙ rw (owned, none) refl in
    let hand : (run S H).hand ≡ [] = hand_free (run S H) (sound S H k.legal) owned in
    let can : Can (worker S) (run S H) m = (owned, none) in
    stands_more S H (plain m) s (taken p u) k
    (record {
      step = can;
      range = (omega (arith, idle.1), r.in_range);
      worker_only = λ e. absurd (omega (arith, e, idle.1));
      idle = idle.0;
      kind = refl;
      enters = r.enters;
      quota = quota_left S H m p i.pass x refl (enough S (run S H) p (due H) fs s u i.pass r i.was) (omega arith);
      asks_last = tt;
      at_its_ask = tt;
      act = tt;
      progress = tt;
      note = refl;
    })
    (feeds_go S H m p fs s u (taken p u) k can tt refl refl (λ j. refl) r refl refl refl (sym sleeps) (r.hand ∙ (k.hand ∙ (hand ∙ sym none))) (r.chain ∙ ap (λ (es : List Entry). es ++ entries fs) empty))

pub claim_stands : (S : Setting) (H : List Element) (p : ℕ) (fs : List Feed) (s u : SqueueOf) → Stands S H s → s.own ≡ Free → IsIdle p s → fs ≢ [] → AreSmall fs → Queues S p fs s u
    → Stands S (H ++ plain (On.Claim p (entries fs)) ∷ []) (taken p u)
claim_stands S H p fs s u k free i some small q =
    let r = queued_here S H p fs s u k small q in
    let idle = idle_there S H p s k i in
    let x = k.each_pass p i.pass i.was in
    let m : Mark = On.Claim p (entries fs) in
    let owned : (run S H).own ≡ Free = sym k.own ∙ free in
    let hand : (run S H).hand ≡ [] = hand_free (run S H) (sound S H k.legal) owned in
    let can : Can (worker S) (run S H) m = (owned, entries_some fs some) in
    stands_more S H (plain m) s (taken p u) k
    (record {
      step = can;
      range = (omega (arith, idle.1), r.in_range);
      worker_only = λ e. absurd (omega (arith, e, idle.1));
      idle = idle.0;
      kind = inl (entries_feeds fs).0;
      enters = r.enters;
      quota = quota_left S H m p i.pass x refl (enough S (run S H) p (due H) fs s u i.pass r i.was) (let none = (entries_feeds fs).1 in omega (arith, none));
      asks_last = tt;
      at_its_ask = tt;
      act = tt;
      progress = tt;
      note = refl;
    })
    (feeds_go S H m p fs s u (taken p u) k can tt refl refl (λ j. refl) r refl refl refl refl (r.hand ∙ (k.hand ∙ hand)) (r.chain ∙ ap (λ (es : List Entry). es ++ entries fs) k.chain))

-- Asks
ask_pass : (S : Setting) (H : List Element) (m : Mark) (p : ℕ) (s u : SqueueOf) (q : ℕ) (y : PassOf) → pass_of m ≡ p → entries_of m ≡ Entered.Ask p ∷ []
    → ((i : ℕ) → is_closed (after (run S H) m) i ≡ is_closed (run S H) i) → QueuesAsk p s u → slice_get u.passes q ≡ Some y → PassEntered s.passes (run S H) m q y
ask_pass S H m p s u q y is asks closed a at =
    let new : PassOf = record a.pass { asks = a.pass.asks - 1; waiting = true } in
    elim (set_at s.passes p q new y (ap (λ (v : SqueueOf). slice_get v.passes q) (sym a.is) ∙ at)) [
      | inl w ↦
          let same : (p == q) ≡ true = grind (arith, nat_tests, w.0) in
          record {
            before = a.pass;
            was = rw w.0 a.was;
            closed = λ old. ap (λ (v : PassOf). v.closed) w.1 ∙ (old ∙ sym (closed q));
            waiting = ap (λ (v : PassOf). v.waiting) w.1 ∙ rw (asks, same) (sym (or-true a.pass.waiting));
            feeds = rw (is, asks, same) (omega (arith, ap (λ (v : PassOf). v.feeds) w.1));
            asks = rw (is, asks, same) (omega (arith, ap (λ (v : PassOf). v.asks) w.1, a.left));
          }
      | inr w ↦
          let other : (p == q) ≡ false = grind (arith, nat_tests, w.0) in
          record {
            before = y;
            was = w.1;
            closed = λ old. old ∙ sym (closed q);
            waiting = rw (asks, other) (sym (or-false y.waiting));
            feeds = rw (is, other) (omega arith);
            asks = rw (is, other) (omega arith);
          }
    ]

same_guest : (guests : List GuestOf) (c : ℕ) (m : Mark) (h : GuestOf) → feeds_of c (entries_of m) ≡ [] → slice_get guests c ≡ Some h → GuestQueued guests c (length (feeds_of c (entries_of m))) h
same_guest guests c m h none at =
    rw none (record { before = h; was = at; here = refl; due = omega arith; queued = omega arith; left = refl; came = refl; did = refl })

asks_go : (S : Setting) (H : List Element) (m : Mark) (p : ℕ) (s u t : SqueueOf) → Stands S H s → Can (worker S) (run S H) m → IsEntering m → pass_of m ≡ p → entries_of m ≡ Entered.Ask p ∷ []
    → ((i : ℕ) → is_closed (after (run S H) m) i ≡ is_closed (run S H) i) → QueuesAsk p s u → t.passes ≡ u.passes → t.guests ≡ u.guests
    → t.own ≡ (after (run S H) m).own → t.wake ≡ (after (run S H) m).wake → t.chain ≡ (after (run S H) m).chain → t.hand ≡ (after (run S H) m).hand → Goes S H (plain m) s t
asks_go S H m p s u t k can kind is asks closed a passes_ guests_ own wake chain hand =
    record {
      own = own;
      wake = wake;
      chain = chain;
      hand = hand;
      passes = ap length passes_ ∙ (ap (λ (v : SqueueOf). length v.passes) a.is ∙ length-set s.passes p (record a.pass { asks = a.pass.asks - 1; waiting = true }));
      each_pass = λ q y at.
          entering_pass S H m [] s.passes q y k.legal can kind (k.each_pass q)
          (ask_pass S H m p s u q y is asks closed a (ap (λ (xs : List PassOf). slice_get xs q) (sym passes_) ∙ at));
      guests = ap length guests_ ∙ ap (λ (v : SqueueOf). length v.guests) a.is;
      each_guest = λ c h at.
          entering_guest S H m [] s.guests c h k.legal can kind (k.each_guest c)
          (same_guest s.guests c m h (rw asks refl) (ap (λ (v : SqueueOf). slice_get v.guests c) (sym a.is) ∙ (ap (λ (xs : List GuestOf). slice_get xs c) (sym guests_) ∙ at)));
    }

pub claim_ask_stands : (S : Setting) (H : List Element) (p : ℕ) (s u : SqueueOf) → Stands S H s → s.own ≡ Free → IsIdle p s → QueuesAsk p s u
    → Stands S (H ++ plain (On.Claim p (Entered.Ask p ∷ [])) ∷ []) (taken p u)
claim_ask_stands S H p s u k free i a =
    let idle = idle_there S H p s k i in
    let x = k.each_pass p a.pass a.was in
    let m : Mark = On.Claim p (Entered.Ask p ∷ []) in
    let owned : (run S H).own ≡ Free = sym k.own ∙ free in
    let hand : (run S H).hand ≡ [] = hand_free (run S H) (sound S H k.legal) owned in
    let can : Can (worker S) (run S H) m = (owned, λ e. absurd cc) in
    stands_more S H (plain m) s (taken p u) k
    (record {
      step = can;
      range = (omega (arith, idle.1), (omega (arith, idle.1), tt));
      worker_only = λ e. absurd (omega (arith, e, idle.1));
      idle = idle.0;
      kind = inr refl;
      enters = tt;
      quota = quota_left S H m p a.pass x refl (omega arith) (omega (arith, a.left));
      asks_last = tt;
      at_its_ask = tt;
      act = tt;
      progress = tt;
      note = refl;
    })
    (asks_go S H m p s u (taken p u) k can tt refl refl (λ j. refl) a refl refl refl refl
    (ap (λ (v : SqueueOf). v.hand) a.is ∙ (k.hand ∙ hand)) (ap (λ (v : SqueueOf). v.chain) a.is ∙ ap (λ (es : List Entry). es ++ Entered.Ask p ∷ []) k.chain))

pub ask_stands : (S : Setting) (H : List Element) (p : ℕ) (s u : SqueueOf) → Stands S H s → s.own ≢ Free → IsIdle p s → QueuesAsk p s u → Stands S (H ++ plain (On.Ask p) ∷ []) u
ask_stands S H p s u k busy i a =
    let idle = idle_there S H p s k i in
    let x = k.each_pass p a.pass a.was in
    let m : Mark = On.Ask p in
    let can : Can (worker S) (run S H) m = λ e. busy (k.own ∙ e) in
    stands_more S H (plain m) s u k
    (record {
      step = can;
      range = (omega (arith, idle.1), (omega (arith, idle.1), tt));
      worker_only = λ e. absurd (omega (arith, e, idle.1));
      idle = idle.0;
      kind = tt;
      enters = tt;
      quota = quota_left S H m p a.pass x refl (omega arith) (omega (arith, a.left));
      asks_last = tt;
      at_its_ask = tt;
      act = tt;
      progress = tt;
      note = refl;
    })
    (asks_go S H m p s u u k can tt refl refl (λ j. refl) a refl refl
    (ap (λ (v : SqueueOf). v.own) a.is ∙ k.own) (ap (λ (v : SqueueOf). v.wake) a.is ∙ k.wake)
    (ap (λ (v : SqueueOf). v.chain) a.is ∙ ap (λ (es : List Entry). es ++ Entered.Ask p ∷ []) k.chain) (ap (λ (v : SqueueOf). v.hand) a.is ∙ k.hand))

-- marks that enter nothing
pass_kept : (S : Setting) (H : List Element) (m : Mark) (passes : List PassOf) (q : ℕ) (y : PassOf) → entries_of m ≡ []
    → ((i : ℕ) → is_closed (after (run S H) m) i ≡ is_closed (run S H) i) → slice_get passes q ≡ Some y → PassEntered passes (run S H) m q y
pass_kept S H m passes q y none closed at =
    record {
      before = y;
      was = at;
      closed = λ old. old ∙ sym (closed q);
      waiting = rw none (sym (or-false y.waiting));
      feeds = rw (none, none_else (pass_of m == q)) (omega arith);
      asks = rw (none, none_else (pass_of m == q)) (omega arith);
    }

none_go : (S : Setting) (H : List Element) (m : Mark) (s t : SqueueOf) → Stands S H s → Can (worker S) (run S H) m → IsEntering m → entries_of m ≡ []
    → ((i : ℕ) → is_closed (after (run S H) m) i ≡ is_closed (run S H) i) → t.passes ≡ s.passes → t.guests ≡ s.guests
    → t.own ≡ (after (run S H) m).own → t.wake ≡ (after (run S H) m).wake → t.chain ≡ (after (run S H) m).chain → t.hand ≡ (after (run S H) m).hand → Goes S H (plain m) s t
none_go S H m s t k can kind none closed passes_ guests_ own wake chain hand =
    record {
      own = own;
      wake = wake;
      chain = chain;
      hand = hand;
      passes = ap length passes_;
      each_pass = λ q y at.
          entering_pass S H m [] s.passes q y k.legal can kind (k.each_pass q)
          (pass_kept S H m s.passes q y none closed (ap (λ (xs : List PassOf). slice_get xs q) (sym passes_) ∙ at));
      guests = ap length guests_;
      each_guest = λ c h at.
          entering_guest S H m [] s.guests c h k.legal can kind (k.each_guest c)
          (same_guest s.guests c m h (rw none refl) (ap (λ (xs : List GuestOf). slice_get xs c) (sym guests_) ∙ at));
    }

-- the perimeter is granted to a pass but the worker's
asked_below : (S : Setting) (j : ℕ) (es : List Entry) → QueuedInRange S es → has_ask j es ≡ true → j < worker S
asked_below S j [] r h = absurd cc
asked_below S j (Entered.Feed c n ∷ es) r h = asked_below S j es r.2 h
asked_below S j (Entered.Ask p ∷ es) r h = at (p == j) refl h (λ k. asked_below S j es r.1 k)
  where
    at : (b : Bool) → (p == j) ≡ b → (b || has_ask j es) ≡ true → (has_ask j es ≡ true → j < worker S) → j < worker S
    at true is k rest = let same : p ≡ j = grind (arith, nat_tests) in rw same at r.0
    at false is k rest = rest k

range_left : (S : Setting) (xs ys : List Entry) → QueuedInRange S (xs ++ ys) → QueuedInRange S xs
range_left S [] ys r = tt
range_left S (Entered.Feed c n ∷ xs) ys r = (r.0, r.1, range_left S xs ys r.2)
range_left S (Entered.Ask p ∷ xs) ys r = (r.0, range_left S xs ys r.1)

granted_next : (S : Setting) (G : List Element) (m : Mark) (p : ℕ) → Legal S G → ((i : ℕ) → (run S G).own ≡ Granted i → i < worker S) → Can (worker S) (run S G) m → (after (run S G) m).own ≡ Granted p → p < worker S
granted_next S G (On.Fill q es) p l old can own = old p own
granted_next S G (On.Fast q e) p l old can own = absurd cc
granted_next S G (On.Claim q es) p l old can own = absurd cc
granted_next S G (On.Take q) p l old can own = old p own
granted_next S G (On.Leave q rest act) p l old can own = absurd cc
granted_next S G (On.Ask q) p l old can own = old p own
granted_next S G (On.Grant q j rest) p l old can own =
    let hand = (run S G).hand in
    let front : QueuedInRange S (processed rest hand ++ unprocessed rest hand) = rw take-append-drop (range_left S hand (run S G).chain (queued_range S G l)) in
    let same : j ≡ p = cc in
    rw same at (asked_below S j (processed rest hand) (range_left S (processed rest hand) (unprocessed rest hand) front) (ends_has j (processed rest hand) can.2))
granted_next S G (On.Accept q) p l old can own = absurd cc
granted_next S G (On.Work q) p l old can own = absurd cc
granted_next S G (On.Close q) p l old can own = old p own

granted_below : (S : Setting) (H : List Element) (p : ℕ) → Legal S H → (run S H).own ≡ Granted p → p < worker S
granted_below S H p l own =
    legal_ind S (λ (G : List Element). (i : ℕ) → (run S G).own ≡ Granted i → i < worker S) (λ i e. absurd cc)
    (λ G e k old m i own_. granted_next S G e.mark i k old m.step (sym (ap (λ (r : State). r.own) (step G e)) ∙ own_))
    H l p own
  where
    step : (G : List Element) (e : Element) → run S (G ++ e ∷ []) ≡ after (run S G) e.mark
    step G e = run_push (run S []) G e

pub accept_stands : (S : Setting) (H : List Element) (p : ℕ) (s : SqueueOf) → Stands S H s → s.own ≡ Granted p → Stands S (H ++ plain (On.Accept p) ∷ []) (record s { own = Out p })
accept_stands S H p s k granted =
    let m : Mark = On.Accept p in
    let owned : (run S H).own ≡ Granted p = sym k.own ∙ granted in
    let less = granted_below S H p k.legal owned in
    let hand : (run S H).hand ≡ [] = hand_granted (run S H) p (sound S H k.legal) owned in
    stands_more S H (plain m) s (record s { own = Out p }) k
    (record {
      step = owned;
      range = (omega (arith, less), tt);
      worker_only = λ e. absurd (omega (arith, e, less));
      idle = tt;
      kind = tt;
      enters = tt;
      quota = none_entered S H m p k.legal refl;
      asks_last = tt;
      at_its_ask = tt;
      act = tt;
      progress = tt;
      note = refl;
    })
    (none_go S H m s (record s { own = Out p }) k owned tt refl (λ j. refl) refl refl refl k.wake k.chain (k.hand ∙ hand))

pub work_stands : (S : Setting) (H : List Element) (p : ℕ) (s : SqueueOf) → Stands S H s → s.own ≡ Free → s.wake ≡ true → p ≡ worker S → Stands S (H ++ plain (On.Work p) ∷ []) (taken p s)
work_stands S H p s k free wakes is =
    let m : Mark = On.Work p in
    let owned : (run S H).own ≡ Free = sym k.own ∙ free in
    let hand : (run S H).hand ≡ [] = hand_free (run S H) (sound S H k.legal) owned in
    let can : Can (worker S) (run S H) m = (owned, sym k.wake ∙ wakes, is) in
    stands_more S H (plain m) s (taken p s) k
    (record {
      step = can;
      range = (omega (arith, is), tt);
      worker_only = is;
      idle = tt;
      kind = tt;
      enters = tt;
      quota = none_entered S H m p k.legal refl;
      asks_last = tt;
      at_its_ask = tt;
      act = tt;
      progress = tt;
      note = refl;
    })
    (none_go S H m s (taken p s) k can tt refl (λ j. refl) refl refl refl refl (k.hand ∙ hand) k.chain)

flag_set : (xs : List Bool) (i : ℕ) → i < length xs → slice_index_or (slice_set xs i true) i false ≡ true
flag_set [] i h = absurd (omega arith)
flag_set (x ∷ xs) zero h = refl
flag_set (x ∷ xs) (suc i) h = flag_set xs i (omega arith)

flag_other : (xs : List Bool) (i j : ℕ) → j ≢ i → slice_index_or (slice_set xs i true) j false ≡ slice_index_or xs j false
flag_other [] i j h = refl
flag_other (x ∷ xs) zero zero h = absurd (h refl)
flag_other (x ∷ xs) zero (suc j) h = refl
flag_other (x ∷ xs) (suc i) zero h = refl
flag_other (x ∷ xs) (suc i) (suc j) h = flag_other xs i j (λ e. h (ap suc e))

close_pass : (S : Setting) (H : List Element) (p : ℕ) (passes_ : List PassOf) (x y : PassOf) (q : ℕ) → Legal S H → p < worker S → slice_get passes_ p ≡ Some x
    → slice_get (slice_set passes_ p (record x { closed = true })) q ≡ Some y → PassEntered passes_ (run S H) (On.Close p) q y
close_pass S H p passes_ x y q l less was at =
    elim (set_at passes_ p q (record x { closed = true }) y at) [
      | inl w ↦
          let flags = closed_flags S H l in
          record {
            before = x;
            was = rw w.0 was;
            closed = λ old. ap (λ (v : PassOf). v.closed) w.1 ∙ rw w.0 (sym (flag_set (run S H).closed p (omega (arith, flags, less))));
            waiting = ap (λ (v : PassOf). v.waiting) w.1 ∙ sym (or-false x.waiting);
            feeds = rw (none_else (p == q)) (omega (arith, ap (λ (v : PassOf). v.feeds) w.1));
            asks = rw (none_else (p == q)) (omega (arith, ap (λ (v : PassOf). v.asks) w.1));
          }
      | inr w ↦ record {
        before = y;
        was = w.1;
        closed = λ old. old ∙ sym (flag_other (run S H).closed p q w.0);
        waiting = sym (or-false y.waiting);
        feeds = rw (none_else (p == q)) (omega arith);
        asks = rw (none_else (p == q)) (omega arith);
      }
    ]

pub close_stands : (S : Setting) (H : List Element) (p : ℕ) (s : SqueueOf) (x : PassOf) → Stands S H s → IsIdle p s → slice_get s.passes p ≡ Some x
    → Stands S (H ++ plain (On.Close p) ∷ []) (record s { passes = slice_set s.passes p (record x { closed = true }) })
close_stands S H p s x k i at =
    let m : Mark = On.Close p in
    let idle = idle_there S H p s k i in
    let t : SqueueOf = record s { passes = slice_set s.passes p (record x { closed = true }) } in
    stands_more S H (plain m) s t k
    (record {
      step = idle.0;
      range = (omega (arith, idle.1), tt);
      worker_only = λ e. absurd (omega (arith, e, idle.1));
      idle = idle.0;
      kind = tt;
      enters = tt;
      quota = none_entered S H m p k.legal refl;
      asks_last = tt;
      at_its_ask = tt;
      act = tt;
      progress = tt;
      note = refl;
    })
    (record {
      own = k.own;
      wake = k.wake;
      chain = k.chain;
      hand = k.hand;
      passes = length-set s.passes p (record x { closed = true });
      each_pass = λ q y here. entering_pass S H m [] s.passes q y k.legal idle.0 tt (k.each_pass q) (close_pass S H p s.passes x y q k.legal idle.1 at here);
      guests = refl;
      each_guest = λ c h here. entering_guest S H m [] s.guests c h k.legal idle.0 tt (k.each_guest c) (same_guest s.guests c m h refl here);
    })

other_less : (a w : ℕ) → a < w + 1 → (a ≡ w → ⊥) → a < w
other_less a w h n = omega (arith, h, n)

-- what is seen where such a mark may be made
may_feeds : (S : Setting) (H : List Element) (m : Mark) (p : ℕ) (fs : List Feed) (s : SqueueOf) → Stands S H s → AreSmall fs → pass_of m ≡ p → entries_of m ≡ entries fs → Idle (run S H) p → p < worker S
    → EntriesInRange S (entries fs) → May S H (plain m) → IsIdle p s × ((u : SqueueOf) × Queues S p fs s u)
may_feeds S H m p fs s k small is feeds idle less range may =
    let i = there_idle S H p s k idle less in
    let x = k.each_pass p i.pass i.was in
    let left = left_quota S H m p i.pass x is (rw is at may.quota) in
    let count : feed_count (entries fs) ≤ i.pass.feeds = rw feeds at left.0 in
    (i, may_queue S (run S H) p (due H) fs s i.pass small (knows S H s k) k.guests i.was count (rw (is, feeds) at may.enters) range)

pub may_fill : (S : Setting) (H : List Element) (p : ℕ) (fs : List Feed) (s : SqueueOf) → Stands S H s → AreSmall fs → May S H (plain (On.Fill p (entries fs))) → IsIdle p s × ((u : SqueueOf) × Queues S p fs s u)
may_fill S H p fs s k small may =
    let less : p < worker S = other_less p (worker S) may.range.0 may.worker_only in
    may_feeds S H (On.Fill p (entries fs)) p fs s k small refl refl may.idle less may.range.1 may

pub may_fast : (S : Setting) (H : List Element) (p : ℕ) (f : Feed) (s : SqueueOf) → Stands S H s → AreSmall (f ∷ []) → May S H (plain (On.Fast p (Entered.Feed f.c f.n)))
    → (s.own ≡ Free) × (s.chain ≡ []) × IsIdle p s × ((u : SqueueOf) × Queues S p (f ∷ []) s u)
may_fast S H p f s k small may =
    let less : p < worker S = other_less p (worker S) may.range.0 may.worker_only in
    let r = may_feeds S H (On.Fast p (Entered.Feed f.c f.n)) p (f ∷ []) s k small refl refl may.idle less may.range.1 may in
    (k.own ∙ may.step.0, k.chain ∙ may.step.1, r.0, r.1)

pub may_claim : (S : Setting) (H : List Element) (p : ℕ) (fs : List Feed) (s : SqueueOf) → Stands S H s → AreSmall fs → May S H (plain (On.Claim p (entries fs)))
    → (s.own ≡ Free) × IsIdle p s × ((u : SqueueOf) × Queues S p fs s u)
may_claim S H p fs s k small may =
    let less : p < worker S = other_less p (worker S) may.range.0 may.worker_only in
    let r = may_feeds S H (On.Claim p (entries fs)) p fs s k small refl refl may.idle less may.range.1 may in
    (k.own ∙ may.step.0, r.0, r.1)

may_asks : (S : Setting) (H : List Element) (m : Mark) (p : ℕ) (s : SqueueOf) → Stands S H s → pass_of m ≡ p → entries_of m ≡ Entered.Ask p ∷ [] → Idle (run S H) p → p < worker S → May S H (plain m)
    → IsIdle p s × ((u : SqueueOf) × QueuesAsk p s u)
may_asks S H m p s k is asks idle less may =
    let i = there_idle S H p s k idle less in
    let x = k.each_pass p i.pass i.was in
    let left = left_quota S H m p i.pass x is (rw is at may.quota) in
    let one : 1 + 0 ≤ i.pass.asks = rw asks at left.1 in (
      i,
      (
        record s { chain = s.chain ++ Entered.Ask p ∷ []; passes = slice_set s.passes p (record i.pass { asks = i.pass.asks - 1; waiting = true }) },
        record { pass = i.pass; was = i.was; left = omega (arith, one); is = refl },
      ),
    )

pub may_claim_ask : (S : Setting) (H : List Element) (p : ℕ) (s : SqueueOf) → Stands S H s → May S H (plain (On.Claim p (Entered.Ask p ∷ []))) → (s.own ≡ Free) × IsIdle p s × ((u : SqueueOf) × QueuesAsk p s u)
may_claim_ask S H p s k may =
    let less : p < worker S = other_less p (worker S) may.range.0 may.worker_only in
    let r = may_asks S H (On.Claim p (Entered.Ask p ∷ [])) p s k refl refl may.idle less may in
    (k.own ∙ may.step.0, r.0, r.1)

pub may_ask : (S : Setting) (H : List Element) (p : ℕ) (s : SqueueOf) → Stands S H s → May S H (plain (On.Ask p)) → (s.own ≢ Free) × IsIdle p s × ((u : SqueueOf) × QueuesAsk p s u)
may_ask S H p s k may =
    let less : p < worker S = other_less p (worker S) may.range.0 may.worker_only in
    let r = may_asks S H (On.Ask p) p s k refl refl may.idle less may in
    ((λ e. may.step (sym k.own ∙ e)), r.0, r.1)

pub may_close : (S : Setting) (H : List Element) (p : ℕ) (s : SqueueOf) → Stands S H s → May S H (plain (On.Close p)) → IsIdle p s
may_close S H p s k may =
    let less : p < worker S = other_less p (worker S) may.range.0 may.worker_only in
    there_idle S H p s k may.step less
