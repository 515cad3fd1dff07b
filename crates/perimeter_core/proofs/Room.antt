-- What is queued fits the room: its feeds are within the quotas, and no pass has two Asks queued.
use Rattle.std.proofs.Common.{◌≡◌, ℕ, ◌+◌, ◌≤◌, Bool, true, false, if◌then◌else◌, ◌==◌, ◌||◌, inl, inr, List, [], ◌∷◌, ◌++◌, length, refl, ap, ◌∙◌, arith}
use Rattle.std.proofs.lemmas.Bool.{cases_eq}
use Rattle.perimeter_core.specs.declared.entries.Entry.{Entry}
use Rattle.perimeter_core.specs.declared.entries.Entry.TheVariants.{Feed, Ask}
use Rattle.perimeter_core.specs.declared.marks.Mark.{Mark}
use Rattle.perimeter_core.specs.declared.marks.Mark.TheVariants as On
use Rattle.perimeter_core.specs.Perimeter.{State, Idle, after, has_ask}
use Rattle.perimeter_core.specs.History.{Element, Setting, worker, start, run, pass_of}
use Rattle.perimeter_core.specs.Deeds.{entries_of, done_by, done}
use Rattle.perimeter_core.specs.Legal.{Legal, IdleFirst, RightKind, all_feeds, feed_count, ask_count}
use Rattle.perimeter_core.specs.Backlog.{queue, room, QueuedInRange}
use Rattle.perimeter_core.proofs.OneMore.{run_push, legal_ind}
use Rattle.perimeter_core.proofs.OrderAndWake.{sound, order}
use Rattle.perimeter_core.proofs.FeedOrder.{queue_after}
use Rattle.perimeter_core.proofs.IdleKept.{enters_no_ask}
use Rattle.perimeter_core.proofs.QueuedRange.{queued_range}
use Rattle.perimeter_core.proofs.PassSums.{sum_first, sum_mono, sum_more, sum_none, sum_ones}
use Rattle.perimeter_core.proofs.Quotas.{count_both, feed_count-append, feeds_within, own_count}
use Rattle.perimeter_core.proofs.BehindAnAsk.{has_ask-append}

-- how many Asks of p a list has
abbrev pub asks_of : ℕ → List Entry → ℕ
asks_of p [] = 0
asks_of p (Feed c n ∷ es) = asks_of p es
asks_of p (Ask q ∷ es) = (if q == p then 1 else 0) + asks_of p es

pub asks_of-append : (p : ℕ) (xs ys : List Entry) → asks_of p (xs ++ ys) ≡ asks_of p xs + asks_of p ys
asks_of-append p [] ys = omega arith
asks_of-append p (Feed c n ∷ xs) ys = asks_of-append p xs ys
asks_of-append p (Ask q ∷ xs) ys = omega (arith, asks_of-append p xs ys)

pub no_asks : (p : ℕ) (es : List Entry) → has_ask p es ≡ false → asks_of p es ≡ 0
no_asks p [] h = refl
no_asks p (Feed c n ∷ es) h = no_asks p es h
no_asks p (Ask q ∷ es) h = at (q == p) (has_ask p es) h (no_asks p es)
  where
    at : (a b : Bool) → (a || b) ≡ false → (b ≡ false → asks_of p es ≡ 0) → (if a then 1 else 0) + asks_of p es ≡ 0
    at true b h f = absurd cc
    at false b h f = omega (arith, f h)

-- the Asks of a list are those of the passes, one pass after another
pub count_le : (S : Setting) (es : List Entry) → QueuedInRange S es → ask_count es ≤ sum_first (worker S) (λ p. asks_of p es)
count_le S [] h = omega (arith, sum_none (worker S))
count_le S (Feed c k ∷ es) h = count_le S es h.2
count_le S (Ask q ∷ es) h =
    let r =
    sum_more (worker S) q 1 (λ p. asks_of p es) (λ p. asks_of p (Ask q ∷ es)) h.0 (λ p. omega arith) (omega (arith, own_count q 1)) in
    omega (arith, count_le S es h.1, r)

pub few_asks : (S : Setting) (es : List Entry) → QueuedInRange S es → ((p : ℕ) → asks_of p es ≤ 1) → ask_count es ≤ worker S
few_asks S es range one =
    let m = sum_mono (worker S) (λ p. asks_of p es) (λ p. 1) one in omega (arith, count_le S es range, m, sum_ones (worker S))

-- what a mark enters
feeds_none : (p : ℕ) (es : List Entry) → all_feeds es ≡ true → asks_of p es ≡ 0
feeds_none p [] h = refl
feeds_none p (Feed c n ∷ es) h = feeds_none p es h
feeds_none p (Ask q ∷ es) h = absurd cc

one_at_most : (b : Bool) → (if b then 1 else 0) + 0 ≤ 1
one_at_most true = omega arith
one_at_most false = omega arith

idle_none : (s : State) (q p : ℕ) → q ≡ p → Idle s q → asks_of p (queue s) ≡ 0
idle_none s q p is idle = no_asks p (queue s) (has_ask-append p s.hand s.chain (rw is at idle.not_in_hand) (rw is at idle.not_in_chain))

own_asks : (s : State) (m : Mark) (p : ℕ) → pass_of m ≡ p → IdleFirst s m → RightKind m → asks_of p (queue s) ≤ 1
    → asks_of p (queue s) + asks_of p (entries_of m) ≤ 1
own_asks s (On.Fill q es) p is idle kind i = omega (arith, i, feeds_none p es kind)
own_asks s (On.Fast q e) p is idle kind i = omega (arith, i, feeds_none p (e ∷ []) kind)
own_asks s (On.Claim q es) p is idle kind i =
    elim kind [
      | inl k ↦ omega (arith, i, feeds_none p es k)
      | inr k ↦ rw k (omega (arith, idle_none s q p is idle, one_at_most (q == p)))
    ]
own_asks s (On.Ask q) p is idle kind i = omega (arith, idle_none s q p is idle, one_at_most (q == p))
own_asks s (On.Take q) p is idle kind i = omega (arith, i)
own_asks s (On.Leave q rest act) p is idle kind i = omega (arith, i)
own_asks s (On.Grant q j rest) p is idle kind i = omega (arith, i)
own_asks s (On.Accept j) p is idle kind i = omega (arith, i)
own_asks s (On.Work q) p is idle kind i = omega (arith, i)
own_asks s (On.Close q) p is idle kind i = omega (arith, i)

all_asks : (s : State) (m : Mark) (p : ℕ) → IdleFirst s m → RightKind m → asks_of p (queue s) ≤ 1
    → asks_of p (queue s) + asks_of p (entries_of m) ≤ 1
all_asks s m p idle kind i =
    elim (cases_eq (pass_of m) p) [
      | inl e ↦ own_asks s m p e idle kind i
      | inr e ↦ omega (arith, i, no_asks p (entries_of m) (enters_no_ask m p kind e))
    ]

-- no pass has two Asks queued
pub one_ask : (S : Setting) (H : List Element) (p : ℕ) → Legal S H → asks_of p (queue (run S H)) ≤ 1
one_ask S H p l =
    legal_ind S (λ (G : List Element). asks_of p (queue (run S G)) ≤ 1) (omega arith)
    (λ G e k i m.
    let s = run S G in
    let q = queue_after (worker S) s e.mark m.step (sound S G k) in
    let before = asks_of-append p (queue s) (entries_of e.mark) in
    let behind = ap (asks_of p) q ∙ asks_of-append p (done_by s e.mark) (queue (after s e.mark)) in
    rw (run_push (start S) G e) (omega (arith, before, behind, all_asks s e.mark p m.idle m.kind i)))
    H l

pub queued_fits : (S : Setting) (H : List Element) → Legal S H → length (queue (run S H)) ≤ room S
queued_fits S H l =
    let asks = few_asks S (queue (run S H)) (queued_range S H l) (λ p. one_ask S H p l) in
    let all = ap feed_count (order S H l) ∙ feed_count-append (done S H) (queue (run S H)) in
    omega (arith, asks, all, feeds_within S H l, count_both (queue (run S H)))
