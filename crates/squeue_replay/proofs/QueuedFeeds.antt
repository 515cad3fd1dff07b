-- Feeds that are queued one after another: what changes by them, and when they may be queued.
use Rattle.std.proofs.Common.{◌≡◌, ◌≢◌, ℕ, zero, suc, ◌+◌, ◌-◌, ◌^◌, ◌<◌, ◌≤◌, Bool, true, false, ◌⊎◌, inl, inr, if◌then◌else◌, ◌==◌, Option, Some, List, [], ◌∷◌, ◌++◌, length, min, refl, ap, sym, ◌∙◌, append_assoc, arith, slice_set}
use Rattle.std.proofs.lemmas.List.{append-nil, length-set}
use Rattle.std.proofs.lemmas.Bool.Decides.{nat_tests}
use Rattle.std.specs.Prelude.{slice_get}
use Rattle.std.proofs.lemmas.Option.{slice_get_within}
use Rattle.perimeter_core.specs.declared.entries.Entry.{Entry}
use Rattle.perimeter_core.specs.declared.entries.Entry.TheVariants as Entered
use Rattle.perimeter_core.specs.declared.entries.Feed.{Feed}
use Rattle.perimeter_core.specs.Perimeter.{State, is_here}
use Rattle.perimeter_core.specs.History.{Setting, conns}
use Rattle.perimeter_core.specs.Deeds.{entries, feeds_of}
use Rattle.perimeter_core.specs.Legal.{Enters, EntriesInRange, all_feeds, ask_count, feed_count, one_more}
use Rattle.histories.proofs.ListPlaces.{some_at}
use Rattle.squeue_replay.specs.Standing.{GuestOf, PassOf, SqueueOf}
use Rattle.squeue_replay.specs.Entering.{AreSmall, Queues}

-- what stands at a place of a list after a write
pub set_at : {A : Type 0} (xs : List A) (i j : ℕ) (v y : A) → slice_get (slice_set xs i v) j ≡ Some y → ((j ≡ i) × (y ≡ v)) ⊎ ((j ≢ i) × (slice_get xs j ≡ Some y))
set_at [] i j v y at = absurd cc
set_at (x ∷ xs) zero zero v y at = inl (refl, cc)
set_at (x ∷ xs) zero (suc j) v y at = inr ((λ e. cc), at)
set_at (x ∷ xs) (suc i) zero v y at = inr ((λ e. cc), at)
set_at (x ∷ xs) (suc i) (suc j) v y at = elim (set_at xs i j v y at) [ inl w ↦ inl (ap suc w.0, w.1) | inr w ↦ inr ((λ e. w.0 cc), w.1) ]

pub same_there : {A : Type 0} (o : Option A) (x y : A) → o ≡ Some x → o ≡ Some y → x ≡ y
same_there o x y a b = cc

-- feeds are feeds
pub entries_feeds : (fs : List Feed) → (all_feeds (entries fs) ≡ true) × (ask_count (entries fs) ≡ 0)
entries_feeds [] = (refl, refl)
entries_feeds (f ∷ fs) = entries_feeds fs

pub entries_some : (fs : List Feed) → fs ≢ [] → entries fs ≢ []
entries_some [] h e = h refl
entries_some (f ∷ fs) h e = absurd cc

-- of a pass after it: what it was before, with so many feeds less
pub record PassQueued (passes : List PassOf) (q count : ℕ) (y : PassOf) : Type 0 where
  pub before : PassOf
  pub was : slice_get passes q ≡ Some before
  pub closed : y.closed ≡ before.closed
  pub waiting : y.waiting ≡ before.waiting
  pub feeds : y.feeds + count ≡ before.feeds
  pub asks : y.asks ≡ before.asks

-- of a connection: with so many feeds more
pub record GuestQueued (guests : List GuestOf) (c count : ℕ) (h : GuestOf) : Type 0 where
  pub before : GuestOf
  pub was : slice_get guests c ≡ Some before
  pub here : h.here ≡ before.here
  pub due : h.due ≡ before.due + count
  pub queued : h.queued ≡ before.queued + count
  pub left : h.left ≡ before.left
  pub came : h.came ≡ before.came
  pub did : h.did ≡ before.did

-- what is known of the connections before: the next numbers, which of them are here, and that no more is queued than was entered
pub record Knows (st : State) (next : ℕ → ℕ) (guests : List GuestOf) : Type 0 where
  pub each : (c : ℕ) (g : GuestOf) → slice_get guests c ≡ Some g → (g.due ≡ next c) × (g.here ≡ is_here st c) × (g.queued ≤ g.due)

pub record Queued (S : Setting) (st : State) (p : ℕ) (next : ℕ → ℕ) (fs : List Feed) (s t : SqueueOf) : Type 0 where
  pub own : t.own ≡ s.own
  pub wake : t.wake ≡ s.wake
  pub hand : t.hand ≡ s.hand
  pub chain : t.chain ≡ s.chain ++ entries fs
  pub passes : length t.passes ≡ length s.passes
  pub each_pass : (q : ℕ) (y : PassOf) → slice_get t.passes q ≡ Some y → PassQueued s.passes q (if p == q then feed_count (entries fs) else 0) y
  pub guests : length t.guests ≡ length s.guests
  pub each_guest : (c : ℕ) (h : GuestOf) → slice_get t.guests c ≡ Some h → GuestQueued s.guests c (length (feeds_of c (entries fs))) h
  pub enters : Enters S st p next (entries fs)
  pub in_range : EntriesInRange S (entries fs)

same_pass : (passes : List PassOf) (p q : ℕ) (y : PassOf) → slice_get passes q ≡ Some y → PassQueued passes q (if p == q then 0 else 0) y
same_pass passes p q y at = record { before = y; was = at; closed = refl; waiting = refl; feeds = zero_more y.feeds (p == q); asks = refl }
  where
    zero_more : (n : ℕ) (b : Bool) → n + (if b then 0 else 0) ≡ n
    zero_more n true = omega arith
    zero_more n false = omega arith

none_queued : (S : Setting) (st : State) (p : ℕ) (next : ℕ → ℕ) (s : SqueueOf) → Queued S st p next [] s s
none_queued S st p next s =
    record {
      own = refl;
      wake = refl;
      hand = refl;
      chain = sym (append-nil s.chain);
      passes = refl;
      each_pass = λ q y at. same_pass s.passes p q y at;
      guests = refl;
      each_guest = λ c h at. record { before = h; was = at; here = refl; due = omega arith; queued = omega arith; left = refl; came = refl; did = refl };
      enters = tt;
      in_range = tt;
    }

-- one feed, and then others
pass_after : (passes : List PassOf) (p q count : ℕ) (x z y : PassOf) → slice_get passes p ≡ Some x → 0 < x.feeds
    → slice_get (slice_set passes p (record x { feeds = x.feeds - 1 })) q ≡ Some z
    → y.closed ≡ z.closed → y.waiting ≡ z.waiting → y.asks ≡ z.asks → y.feeds + (if p == q then count else 0) ≡ z.feeds
    → PassQueued passes q (if p == q then 1 + count else 0) y
pass_after passes p q count x z y was left at closed waiting asks feeds =
    elim (set_at passes p q (record x { feeds = x.feeds - 1 }) z at) [
      | inl w ↦
          let one : (p == q) ≡ true = grind (arith, nat_tests, w.0) in
          let n : z.feeds ≡ x.feeds - 1 = ap (λ (v : PassOf). v.feeds) w.1 in
          let m : y.feeds + count ≡ z.feeds = rw one at feeds in
          record {
            before = x;
            was = rw w.0 was;
            closed = closed ∙ ap (λ (v : PassOf). v.closed) w.1;
            waiting = waiting ∙ ap (λ (v : PassOf). v.waiting) w.1;
            feeds = rw one (omega arith);
            asks = asks ∙ ap (λ (v : PassOf). v.asks) w.1;
          }
      | inr w ↦
          let other : (p == q) ≡ false = grind (arith, nat_tests, w.0) in
          let m : y.feeds + 0 ≡ z.feeds = rw other at feeds in
          record { before = z; was = w.1; closed = closed; waiting = waiting; feeds = rw other (omega arith); asks = asks }
    ]

guest_after : (guests : List GuestOf) (d n c count : ℕ) (es : List Entry) (g z h : GuestOf) → slice_get guests d ≡ Some g → g.queued < 2 ^ 64 - 1
    → slice_get (slice_set guests d (record g { due = g.due + 1; queued = min (g.queued + 1) (2 ^ 64 - 1) })) c ≡ Some z
    → GuestQueued (z ∷ []) 0 (length (feeds_of c es)) h → GuestQueued guests c (length (feeds_of c (Entered.Feed d n ∷ es))) h
guest_after guests d n c count es g z h was few at then_ =
    let old : then_.before ≡ z = sym (same_there (Some z) z then_.before refl then_.was) in
    elim (set_at guests d c (record g { due = g.due + 1; queued = min (g.queued + 1) (2 ^ 64 - 1) }) z at) [
      | inl w ↦
          let one : (d == c) ≡ true = grind (arith, nat_tests, w.0) in
          let due : z.due ≡ g.due + 1 = ap (λ (v : GuestOf). v.due) w.1 in
          let queued : z.queued ≡ min (g.queued + 1) (2 ^ 64 - 1) = ap (λ (v : GuestOf). v.queued) w.1 in
          let due_ : h.due ≡ z.due + length (feeds_of c es) = rw old at then_.due in
          let queued_ : h.queued ≡ z.queued + length (feeds_of c es) = rw old at then_.queued in
          record {
            before = g;
            was = rw w.0 was;
            here = then_.here ∙ ap (λ (v : GuestOf). v.here) (old ∙ w.1);
            due = rw one (omega arith);
            queued = rw one (omega arith);
            left = then_.left ∙ ap (λ (v : GuestOf). v.left) (old ∙ w.1);
            came = then_.came ∙ ap (λ (v : GuestOf). v.came) (old ∙ w.1);
            did = then_.did ∙ ap (λ (v : GuestOf). v.did) (old ∙ w.1);
          }
      | inr w ↦
          let other : (d == c) ≡ false = grind (arith, nat_tests, w.0) in
          rw other (record {
            before = z;
            was = w.1;
            here = then_.here ∙ ap (λ (v : GuestOf). v.here) old;
            due = then_.due ∙ ap (λ (v : GuestOf). v.due + length (feeds_of c es)) old;
            queued = then_.queued ∙ ap (λ (v : GuestOf). v.queued + length (feeds_of c es)) old;
            left = then_.left ∙ ap (λ (v : GuestOf). v.left) old;
            came = then_.came ∙ ap (λ (v : GuestOf). v.came) old;
            did = then_.did ∙ ap (λ (v : GuestOf). v.did) old;
          })
    ]

next_one : (next : ℕ → ℕ) (d c : ℕ) → (c ≢ d → one_more d next c ≡ next c) × (c ≡ d → one_more d next c ≡ next c + 1)
next_one next d c = (
  (λ other. let b : (d == c) ≡ false = grind (arith, nat_tests, other) in rw b refl),
  (λ same. let b : (d == c) ≡ true = grind (arith, nat_tests, same) in rw b refl),
)

knows_after : (st : State) (next : ℕ → ℕ) (guests : List GuestOf) (d : ℕ) (g : GuestOf) → slice_get guests d ≡ Some g → g.queued < 2 ^ 64 - 1 → Knows st next guests
    → Knows st (one_more d next) (slice_set guests d (record g { due = g.due + 1; queued = min (g.queued + 1) (2 ^ 64 - 1) }))
knows_after st next guests d g was few k =
    record {
      each = λ c z at. elim (set_at guests d c (record g { due = g.due + 1; queued = min (g.queued + 1) (2 ^ 64 - 1) }) z at) [
        | inl w ↦
            let old = k.each d g was in
            let due : z.due ≡ g.due + 1 = ap (λ (v : GuestOf). v.due) w.1 in
            let queued : z.queued ≡ min (g.queued + 1) (2 ^ 64 - 1) = ap (λ (v : GuestOf). v.queued) w.1 in
            let more = (next_one next d c).1 w.0 in
            (due ∙ (ap (λ (m : ℕ). m + 1) (old.0 ∙ sym (ap next w.0)) ∙ sym more), ap (λ (v : GuestOf). v.here) w.1 ∙ (old.1 ∙ sym (ap (is_here st) w.0)), omega (arith, due, queued, old.2))
        | inr w ↦ let old = k.each c z w.1 in (old.0 ∙ sym ((next_one next d c).0 w.0), old.1, old.2)
      ];
    }

-- no count reaches its end
few_queued : (st : State) (next : ℕ → ℕ) (guests : List GuestOf) (d n : ℕ) (g : GuestOf) → slice_get guests d ≡ Some g → Knows st next guests → n ≡ g.due → n < 2 ^ 32 → g.queued < 2 ^ 64 - 1
few_queued st next guests d n g was k is small = let old = k.each d g was in omega (arith, old.2, is, small)

-- what queued feeds change
pub queued : (S : Setting) (st : State) (p : ℕ) (next : ℕ → ℕ) (fs : List Feed) (s t : SqueueOf) → AreSmall fs → Knows st next s.guests → length s.guests ≡ conns S
    → Queues S p fs s t → Queued S st p next fs s t
queued S st p next [] s t small k seats q = rw q (none_queued S st p next s)
queued S st p next (f ∷ fs) s t small k seats q =
    let u = q.0 in
    let o = q.1.first in
    let few = few_queued st next s.guests f.c f.n o.guest o.was_guest k o.next small.0 in
    let guests : u.guests ≡ slice_set s.guests f.c (record o.guest { due = o.guest.due + 1; queued = min (o.guest.queued + 1) (2 ^ 64 - 1) }) = ap (λ (v : SqueueOf). v.guests) q.1.is in
    let passes : u.passes ≡ slice_set s.passes p (record o.pass { feeds = o.pass.feeds - 1 }) = ap (λ (v : SqueueOf). v.passes) q.1.is in
    let known : Knows st (one_more f.c next) u.guests = rw guests (knows_after st next s.guests f.c o.guest o.was_guest few k) in
    let places : length u.guests ≡ length s.guests = ap length guests ∙ length-set s.guests f.c (record o.guest { due = o.guest.due + 1; queued = min (o.guest.queued + 1) (2 ^ 64 - 1) }) in
    let r = queued S st p (one_more f.c next) fs u t small.1 known (places ∙ seats) q.2 in
    let now = k.each f.c o.guest o.was_guest in
    record {
      own = r.own ∙ ap (λ (v : SqueueOf). v.own) q.1.is;
      wake = r.wake ∙ ap (λ (v : SqueueOf). v.wake) q.1.is;
      hand = r.hand ∙ ap (λ (v : SqueueOf). v.hand) q.1.is;
      chain = r.chain ∙ (ap (λ (v : SqueueOf). v.chain ++ entries fs) q.1.is ∙ append_assoc s.chain (Entered.Feed f.c f.n ∷ []) (entries fs));
      passes = r.passes ∙ (ap length passes ∙ length-set s.passes p (record o.pass { feeds = o.pass.feeds - 1 }));
      each_pass = λ i y at.
          let z = r.each_pass i y at in
          pass_after s.passes p i (feed_count (entries fs)) o.pass z.before y o.was_pass o.left (ap (λ (xs : List PassOf). slice_get xs i) (sym passes) ∙ z.was) z.closed z.waiting z.asks z.feeds;
      guests = r.guests ∙ places;
      each_guest = λ c h at.
          let z = r.each_guest c h at in
          guest_after s.guests f.c f.n c 0 (entries fs) o.guest z.before h o.was_guest few (ap (λ (xs : List GuestOf). slice_get xs c) (sym guests) ∙ z.was)
          (record { before = z.before; was = refl; here = z.here; due = z.due; queued = z.queued; left = z.left; came = z.came; did = z.did });
      enters = (o.ring, sym now.1 ∙ o.here, o.next ∙ now.0, o.below, r.enters);
      in_range = (rw seats at (slice_get_within s.guests f.c o.guest o.was_guest), r.in_range);
    }

-- they may be queued, where they fit
pub may_queue : (S : Setting) (st : State) (p : ℕ) (next : ℕ → ℕ) (fs : List Feed) (s : SqueueOf) (x : PassOf) → AreSmall fs → Knows st next s.guests → length s.guests ≡ conns S
    → slice_get s.passes p ≡ Some x → feed_count (entries fs) ≤ x.feeds → Enters S st p next (entries fs) → EntriesInRange S (entries fs) → (t : SqueueOf) × Queues S p fs s t
may_queue S st p next [] s x small k seats at enough e r = (s, refl)
may_queue S st p next (f ∷ fs) s x small k seats at enough e r =
    let found = some_at s.guests f.c (rw seats r.0) in
    let g = found.0 in
    let now = k.each f.c g found.1 in
    let due : f.n ≡ g.due = e.2 ∙ sym now.0 in
    let few = few_queued st next s.guests f.c f.n g found.1 k due small.0 in
    let y : PassOf = record x { feeds = x.feeds - 1 } in
    let h : GuestOf = record g { due = g.due + 1; queued = min (g.queued + 1) (2 ^ 64 - 1) } in
    let u : SqueueOf = record s { chain = s.chain ++ Entered.Feed f.c f.n ∷ []; passes = slice_set s.passes p y; guests = slice_set s.guests f.c h } in
    let rest = may_queue S st p (one_more f.c next) fs u y small.1 (knows_after st next s.guests f.c g found.1 few k) (length-set s.guests f.c h ∙ seats)
    (set_same s.passes p y x at) (omega arith) e.4 r.1 in
    (rest.0, (u, record { first = record { pass = x; guest = g; was_pass = at; was_guest = found.1; ring = e.0; left = omega arith; here = now.1 ∙ e.1; next = due; below = e.3 }; is = refl }, rest.1))
  where
    set_same : {A : Type 0} (xs : List A) (i : ℕ) (v x : A) → slice_get xs i ≡ Some x → slice_get (slice_set xs i v) i ≡ Some v
    set_same [] i v x at = absurd cc
    set_same (y ∷ xs) zero v x at = refl
    set_same (y ∷ xs) (suc i) v x at = set_same xs i v x at
