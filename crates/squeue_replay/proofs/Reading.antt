-- What the code reads off and writes, as it is kept in memory.
use Rattle.std.proofs.Common.{◌≡◌, ◌≢◌, ℕ, ◌+◌, ◌-◌, ◌^◌, ◌<◌, ◌≤◌, ◌↔◌, Bool, true, false, Some, List, [], ◌∷◌, ◌++◌, length, map, min, get_or, refl, ap, sym, ◌∙◌, arith, slice_index, slice_set, subst}
use Rattle.std.proofs.lemmas.List.FromFn.{get_or-map-range_with_len}
use Rattle.std.proofs.lemmas.Option.{slice_get-map, slice_get_read, slice_get_within}
use Rattle.std.specs.Prelude.{IfOk, MatchBool, Result, Ok, Err, option_map, slice_get}
use Rattle.std.proofs.lemmas.List.{length-map}
use Rattle.perimeter_core.specs.declared.entries.Feed.{Feed}
use Rattle.perimeter_core.specs.declared.entries.Entry.TheVariants as Entered
use Rattle.perimeter_core.specs.declared.entries.Entry.{Entry}
use Rattle.perimeter_core.specs.declared.marks.Mark.TheVariants as On
use Rattle.perimeter_core.specs.declared.marks.Own.{Own}
use Rattle.perimeter_core.specs.declared.marks.Own.TheVariants.{Free, Out, Granted}
use Rattle.perimeter_core.specs.History.{Element, Setting}
use Rattle.conn_classifier.specs.Plan.{PlanOf, items_in}
use Rattle.conn_blocks.specs.Allowed.{limits_in}
use Rattle.conn_blocks.specs.CallLists.{CallLists}
use Rattle.squeue_replay.specs.declared.squeue.Pass.{Pass}
use Rattle.squeue_replay.specs.Standing.{GuestOf, PassOf, SqueueOf, Stands}
use Rattle.squeue_replay.specs.Entering.{Follows, IsIdle, IsNext, Queues, QueuesAsk, QueuesOne}
use Rattle.squeue_replay.proofs.OwnMarks.{ask_stands, may_ask}
use Rattle.squeue_replay.proofs.QueuedFeeds.{same_there}

-- an element as what it stands for
pub seen : {A B : Type 0} (v : A → B) (xs : List A) (i : ℕ) (x : A) → i < length xs → x ≡ get_or xs i x → slice_get (map v xs) i ≡ Some (v x)
seen v xs i x less is = slice_get-map v xs i ∙ ap (option_map v) (slice_get_read xs (length xs) i x refl less is)

-- a pass as it is kept
abbrev pub kept : Pass → PassOf
kept x = record { closed = x.closed; waiting = x.waiting; feeds = x.feeds; asks = x.asks }

pub pass_at : (xs : List Pass) (i : ℕ) (x : Pass) → i < length xs → x ≡ get_or xs i x → slice_get (map kept xs) i ≡ Some (kept x)
pass_at xs i x less is = seen kept xs i x less is

pub seat : {A B : Type 0} (v : A → B) (xs : List A) (i : ℕ) (x : B) → slice_get (map v xs) i ≡ Some x → i < length xs
seat v xs i x at = subst (λ n. i < n) (length-map xs v) (slice_get_within (map v xs) i x at)

pub free_now : (o : Own) → (o ≢ Free → ⊥) → o ≡ Free
free_now Free h = refl
free_now (Out p) h = absurd (h (λ e. cc))
free_now (Granted p) h = absurd (h (λ e. cc))

pub empty_now : (es : List Entry) → (es ≢ [] → ⊥) → es ≡ []
empty_now [] h = refl
empty_now (e ∷ es) h = absurd (h (λ k. cc))

-- the limits and the number of passes that the code has at hand
pub limit : (p : PlanOf) (calls : CallLists) (q squeues spread c : ℕ) → c < length p.tuples → slice_index (limits_in p calls q squeues spread).feeds c ≡ length (items_in p c)
limit p calls q squeues spread c less = get_or-map-range_with_len (λ d. length (items_in p d)) 0 (length p.tuples) c c 0 less (omega arith)

-- when a feed isn't the next one
pub none_left : (S : Setting) (p : ℕ) (f : Feed) (s : SqueueOf) (x : PassOf) → slice_get s.passes p ≡ Some x → x.feeds ≡ 0 → IsNext S p f s → ⊥
none_left S p f s x at none n =
    let same = ap (λ (v : PassOf). v.feeds) (same_there (slice_get s.passes p) x n.pass at n.was_pass) in omega (arith, same, none, n.left)

pub too_late : (S : Setting) (p : ℕ) (f : Feed) (s : SqueueOf) (most : ℕ) → slice_index S.limits.feeds f.c ≡ most → most ≤ f.n → IsNext S p f s → ⊥
too_late S p f s most is late n = omega (arith, is, late, n.below)

pub next_guest : (S : Setting) (p : ℕ) (f : Feed) (s : SqueueOf) (g : GuestOf) → slice_get s.guests f.c ≡ Some g → IsNext S p f s → (g.here ≡ true) × (g.due ≡ f.n)
next_guest S p f s g at n =
    let same = same_there (slice_get s.guests f.c) g n.guest at n.was_guest in
    (ap (λ (v : GuestOf). v.here) same ∙ n.here, ap (λ (v : GuestOf). v.due) same ∙ sym n.next)

-- the one Ask that may be queued

-- what is queued next is fixed
pub one_way : (S : Setting) (p : ℕ) (f : Feed) (s t u : SqueueOf) → QueuesOne S p f s t → QueuesOne S p f s u → t ≡ u
one_way S p f s t u a b =
    let pass = same_there (slice_get s.passes p) a.first.pass b.first.pass a.first.was_pass b.first.was_pass in
    let guest = same_there (slice_get s.guests f.c) a.first.guest b.first.guest a.first.was_guest b.first.was_guest in
    a.is ∙ (ap (λ (x : PassOf). made a.first.guest x) pass ∙ (ap (λ (g : GuestOf). made g b.first.pass) guest ∙ sym b.is))
  where
    made : GuestOf → PassOf → SqueueOf
    made g x = record s {
      chain = s.chain ++ Entered.Feed f.c f.n ∷ [];
      passes = slice_set s.passes p (record x { feeds = x.feeds - 1 });
      guests = slice_set s.guests f.c (record g { due = g.due + 1; queued = min (g.queued + 1) (2 ^ 64 - 1) });
    }

-- one feed counted and queued
pub queued_one : (S : Setting) (p : ℕ) (f : Feed) (s : SqueueOf) (x : PassOf) (g : GuestOf) (chain : List Entry) (passes : List PassOf) (guests : List GuestOf) → IsNext S p f s
    → slice_get s.passes p ≡ Some x → slice_get s.guests f.c ≡ Some g → chain ≡ s.chain ++ Entered.Feed f.c f.n ∷ [] → passes ≡ slice_set s.passes p (record x { feeds = x.feeds - 1 })
    → guests ≡ slice_set s.guests f.c (record g { due = g.due + 1; queued = min (g.queued + 1) (2 ^ 64 - 1) })
    → QueuesOne S p f s (record s { chain = chain; passes = passes; guests = guests })
queued_one S p f s x g chain passes guests n pass guest is_chain is_passes is_guests =
    let same = same_there (slice_get s.passes p) x n.pass pass n.was_pass in
    let now = same_there (slice_get s.guests f.c) g n.guest guest n.was_guest in
    record {
      first = record {
        pass = x;
        guest = g;
        was_pass = pass;
        was_guest = guest;
        ring = n.ring;
        left = let feeds = ap (λ (v : PassOf). v.feeds) same in omega (arith, feeds, n.left);
        here = ap (λ (v : GuestOf). v.here) now ∙ n.here;
        next = n.next ∙ sym (ap (λ (v : GuestOf). v.due) now);
        below = n.below;
      };
      is = rw (is_chain, is_passes, is_guests) refl;
    }

pub ask_follows : {E : Type 0} (S : Setting) (s t : SqueueOf) (p : ℕ) (r : Result Bool E) → s.own ≢ Free → IsIdle p s → IfOk r (λ b. MatchBool b (QueuesAsk p s t) ((u : SqueueOf) → QueuesAsk p s u → ⊥))
    → IfOk r (λ b. (H : List Element) → Stands S H s → Follows S H t (On.Ask p) b)
ask_follows S s t p (Ok true) busy i q = λ H k. ask_stands S H p s t k busy i q
ask_follows S s t p (Ok false) busy i q = λ H k may. let u = (may_ask S H p s k may).2 in q u.0 u.1
ask_follows S s t p (Err e) busy i q = tt

-- the feeds behind those that were queued
pub queue_rest : (S : Setting) (p : ℕ) (f : Feed) (fs all : List Feed) (s u v : SqueueOf) → ((t : SqueueOf) → Queues S p (f ∷ fs) u t ↔ Queues S p all s t) → QueuesOne S p f u v
    → (t : SqueueOf) → Queues S p fs v t ↔ Queues S p all s t
queue_rest S p f fs all s u v so_far one t = (
  (λ q. (so_far t).0 (v, one, q)),
  (λ q. let w = (so_far t).1 q in rw (one_way S p f u v w.0 one w.1) w.2),
)

pub queue_stops : (S : Setting) (p : ℕ) (f : Feed) (fs all : List Feed) (s u : SqueueOf) → ((t : SqueueOf) → Queues S p (f ∷ fs) u t ↔ Queues S p all s t) → (IsNext S p f u → ⊥)
    → (t : SqueueOf) → Queues S p all s t → ⊥
queue_stops S p f fs all s u so_far no_next t q = let w = (so_far t).1 q in no_next w.1.first
