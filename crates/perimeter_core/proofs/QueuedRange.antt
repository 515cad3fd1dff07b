-- What is queued names only what there is.
use Rattle.std.proofs.Common.{◌≡◌, ℕ, ◌<◌, true, inl, inr, List, [], ◌∷◌, ◌++◌, arith}
use Rattle.perimeter_core.specs.declared.entries.Entry.{Entry}
use Rattle.perimeter_core.specs.declared.entries.Entry.TheVariants.{Feed, Ask}
use Rattle.perimeter_core.specs.declared.marks.Mark.{Mark}
use Rattle.perimeter_core.specs.declared.marks.Mark.TheVariants as On
use Rattle.perimeter_core.specs.Perimeter.{State, after}
use Rattle.perimeter_core.specs.History.{Element, Setting, worker, start, run, pass_of}
use Rattle.perimeter_core.specs.Deeds.{entries_of, done_by, due}
use Rattle.perimeter_core.specs.Legal.{Legal, EntriesInRange, InRange, WorkerOnly, RightKind, all_feeds, Enters, one_more}
use Rattle.perimeter_core.specs.Backlog.{queue, QueuedInRange}
use Rattle.perimeter_core.proofs.OneMore.{run_push, legal_ind}
use Rattle.perimeter_core.proofs.OrderAndWake.{sound}
use Rattle.perimeter_core.proofs.FeedOrder.{queue_after}

range_join : (S : Setting) (xs ys : List Entry) → QueuedInRange S xs → QueuedInRange S ys → QueuedInRange S (xs ++ ys)
range_join S [] ys a b = b
range_join S (Feed c n ∷ xs) ys a b = (a.0, a.1, range_join S xs ys a.2 b)
range_join S (Ask p ∷ xs) ys a b = (a.0, range_join S xs ys a.1 b)

pub range_right : (S : Setting) (xs ys : List Entry) → QueuedInRange S (xs ++ ys) → QueuedInRange S ys
range_right S [] ys h = h
range_right S (Feed c n ∷ xs) ys h = range_right S xs ys h.2
range_right S (Ask p ∷ xs) ys h = range_right S xs ys h.1

feeds_range : (S : Setting) (s : State) (p : ℕ) (next : ℕ → ℕ) (es : List Entry) → all_feeds es ≡ true → EntriesInRange S es → Enters S s p next es → QueuedInRange S es
feeds_range S s p next [] kind range h = tt
feeds_range S s p next (Feed c n ∷ es) kind range h = (range.0, h.3, feeds_range S s p (one_more c next) es kind range.1 h.4)
feeds_range S s p next (Ask q ∷ es) kind range h = absurd cc

enters_range : (S : Setting) (s : State) (m : Mark) (next : ℕ → ℕ) → InRange S m → WorkerOnly (worker S) m → RightKind m → Enters S s (pass_of m) next (entries_of m)
    → QueuedInRange S (entries_of m)
enters_range S s (On.Fill q es) next range only kind enters = feeds_range S s q next es kind range.1 enters
enters_range S s (On.Fast q e) next range only kind enters = feeds_range S s q next (e ∷ []) kind range.1 enters
enters_range S s (On.Claim q es) next range only kind enters =
    elim kind [
      | inl k ↦ feeds_range S s q next es k range.1 enters
      | inr k ↦ let b : q < worker S = omega (arith, range.0, only) in rw k (b, tt)
    ]
enters_range S s (On.Ask q) next range only kind enters = let b : q < worker S = omega (arith, range.0, only) in (b, tt)
enters_range S s (On.Take q) next range only kind enters = tt
enters_range S s (On.Leave q rest act) next range only kind enters = tt
enters_range S s (On.Grant q j rest) next range only kind enters = tt
enters_range S s (On.Accept j) next range only kind enters = tt
enters_range S s (On.Work q) next range only kind enters = tt
enters_range S s (On.Close q) next range only kind enters = tt

pub queued_range : (S : Setting) (H : List Element) → Legal S H → QueuedInRange S (queue (run S H))
queued_range S H l =
    legal_ind S (λ (G : List Element). QueuedInRange S (queue (run S G))) tt
    (λ G e k i m.
    let q = queue_after (worker S) (run S G) e.mark m.step (sound S G k) in
    let more = enters_range S (run S G) e.mark (due G) m.range m.worker_only m.kind m.enters in
    let all = range_join S (queue (run S G)) (entries_of e.mark) i more in
    rw (run_push (start S) G e) (range_right S (done_by (run S G) e.mark) (queue (after (run S G) e.mark)) (rw q at all)))
    H l
