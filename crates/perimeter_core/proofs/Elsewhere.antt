-- A connection whose block is elsewhere: who took it out, and that nothing of it is processed.
use Rattle.std.proofs.Common.{◌≡◌, ℕ, ◌+◌, ◌<◌, Bool, true, false, if◌then◌else◌, List, [], ◌∷◌, ◌++◌, refl, sym, ◌∙◌, subst, append_assoc, arith}
use Rattle.std.proofs.lemmas.List.{append-nil}
use Rattle.perimeter_core.specs.Perimeter.{after, is_here}
use Rattle.perimeter_core.specs.History.{Element, Setting, worker, start, run, pass_of}
use Rattle.perimeter_core.specs.Deeds.{entries_of, done_by, feeds_of, puts_in, takes_out, times_left, due}
use Rattle.perimeter_core.specs.Legal.{May, LegalFrom, Legal}
use Rattle.perimeter_core.specs.Backlog.{queue}
use Rattle.perimeter_core.proofs.OneMore.{run_push, legal_from_back}
use Rattle.perimeter_core.proofs.OrderAndWake.{sound}
use Rattle.perimeter_core.proofs.FeedLists.{no_feeds_left, no_feeds_both, enters_here}
use Rattle.perimeter_core.proofs.FeedOrder.{queue_after, in_order, not_here_nil}
use Rattle.perimeter_core.proofs.BlocksFollow.{flags}
use Rattle.perimeter_core.proofs.RingKnows.{here_step}

still_here : (a b h : Bool) → b ≡ false → h ≡ true → (if a then true else if b then false else h) ≡ true
still_here true b h e k = refl
still_here false true h e k = absurd cc
still_here false false h e k = k

taken_from : (S : Setting) (past K : List Element) (c : ℕ) → LegalFrom S past K → is_here (run S past) c ≡ true → is_here (run S (past ++ K)) c ≡ false → 0 < times_left c K
taken_from S past [] c l here gone = absurd (cc (here, rw append-nil at gone))
taken_from S past (e ∷ K) c l here gone =
    let whole : (past ++ e ∷ []) ++ K ≡ past ++ (e ∷ K) = append_assoc past (e ∷ []) K in
    let still = subst (λ (G : List Element). is_here (run S G) c ≡ false) (sym whole) gone in
    at (takes_out c e.mark) refl (λ h. taken_from S (past ++ e ∷ []) K c l.1 h still)
  where
    at : (b : Bool) → takes_out c e.mark ≡ b → (is_here (run S (past ++ e ∷ [])) c ≡ true → 0 < times_left c K) → 0 < (if b then 1 else 0) + times_left c K
    at true is f = omega arith
    at false is f =
        let kept = still_here (puts_in c e.mark) (takes_out c e.mark) (is_here (run S past) c) is here in
        let step = here_step S (run S past) e.mark c l.0.range (flags (start S) past) in
        omega (arith, f (rw (run_push (start S) past e) (step ∙ kept)))

pub taken_between : (S : Setting) (H K : List Element) (c : ℕ) → Legal S (H ++ K) → is_here (run S H) c ≡ true → is_here (run S (H ++ K)) c ≡ false → 0 < times_left c K
taken_between S H K c l here gone = taken_from S H K c (legal_from_back S [] H K l) here gone

-- what stands in the queue is of connections that are here, and so is what enters
pub none_processed : (S : Setting) (H : List Element) (e : Element) (c : ℕ) → Legal S H → May S H e → is_here (run S H) c ≡ false → feeds_of c (done_by (run S H) e.mark) ≡ []
none_processed S H e c l m away =
    let s = run S H in
    let queued = not_here_nil (is_here s c) (feeds_of c (queue s)) away (in_order S c H l).here in
    let more = not_here_nil (is_here s c) (feeds_of c (entries_of e.mark)) away (enters_here S s (pass_of e.mark) c (due H) (entries_of e.mark) m.enters) in
    let all = no_feeds_both c (queue s) (entries_of e.mark) queued more in
    no_feeds_left c (done_by s e.mark) (queue (after s e.mark)) (rw (queue_after (worker S) s e.mark m.step (sound S H l)) at all)
