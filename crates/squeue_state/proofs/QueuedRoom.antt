-- What is queued fits the room, where its feeds leave room for an Ask of each pass.
use Rattle.std.proofs.Common.{◌≡◌, ℕ, ◌+◌, ◌≤◌, List, [], ◌∷◌, ◌++◌, length, length-append, refl, ap, arith}
use Rattle.perimeter_core.specs.declared.entries.Entry.{Entry}
use Rattle.perimeter_core.specs.declared.entries.Feed.{Feed as FeedOf}
use Rattle.perimeter_core.specs.Perimeter.{after}
use Rattle.perimeter_core.specs.History.{Element, Setting, worker, start, run}
use Rattle.perimeter_core.specs.Deeds.{entries, entries_of, done_by}
use Rattle.perimeter_core.specs.Legal.{Legal, May, feed_count}
use Rattle.perimeter_core.specs.Backlog.{queue}
use Rattle.perimeter_core.proofs.OneMore.{run_push}
use Rattle.perimeter_core.proofs.OrderAndWake.{sound}
use Rattle.perimeter_core.proofs.FeedOrder.{queue_after}
use Rattle.perimeter_core.proofs.QueuedRange.{queued_range}
use Rattle.perimeter_core.proofs.Quotas.{count_both, feed_count-append}
use Rattle.perimeter_core.proofs.Room.{one_ask, few_asks}
use Rattle.squeue_state.specs.Behind.{FeedsFit}

-- each pass but the worker's has at most one Ask queued
pub queued_few : (S : Setting) (H : List Element) → Legal S H → length (queue (run S H)) ≤ feed_count (queue (run S H)) + worker S
queued_few S H l =
    omega (arith, few_asks S (queue (run S H)) (queued_range S H l) (λ p. one_ask S H p l), count_both (queue (run S H)))

pub queued_within : (S : Setting) (room : ℕ) (H : List Element) → Legal S H → FeedsFit S room H 0 → length (queue (run S H)) ≤ room
queued_within S room H l fit = omega (arith, queued_few S H l, fit)

pub short_queue : (S : Setting) (room : ℕ) (H : List Element) → Legal S H → FeedsFit S room H 0 → length (run S H).hand + length (run S H).chain ≤ room
short_queue S room H l fit = omega (arith, queued_within S room H l fit, length-append (run S H).hand (run S H).chain)

pub feeds_few : (es : List Entry) → feed_count es ≤ length es
feeds_few es = omega (arith, count_both es)

-- a mark queues no more feeds than it enters
pub fits_after : (S : Setting) (room : ℕ) (H : List Element) (e : Element) → Legal S H → May S H e → FeedsFit S room H (feed_count (entries_of e.mark)) → FeedsFit S room (H ++ e ∷ []) 0
fits_after S room H e l m fit =
    let s = run S H in
    let q = ap feed_count (queue_after (worker S) s e.mark m.step (sound S H l)) in
    let before = feed_count-append (queue s) (entries_of e.mark) in
    let behind = feed_count-append (done_by s e.mark) (queue (after s e.mark)) in
    rw (run_push (start S) H e) (omega (arith, fit, q, before, behind))

pub feed_entries : (fs : List FeedOf) → feed_count (entries fs) ≡ length fs
feed_entries [] = refl
feed_entries (f ∷ fs) = omega (arith, feed_entries fs)
