-- The next feed of a hand meets a block that has had all feeds before it.
use Rattle.std.proofs.Common.{◌≡◌, ◌≢◌, ℕ, suc, ◌+◌, Bool, true, false, if◌then◌else◌, ◌==◌, List, [], ◌∷◌, ◌++◌, length, refl, ap, sym, ◌∙◌, subst, append_assoc, arith, length-append}
use Rattle.std.proofs.lemmas.Bool.Decides.{nat_tests}
use Rattle.perimeter_core.specs.declared.entries.Act.{Act}
use Rattle.perimeter_core.specs.declared.entries.Act.TheVariants as Did
use Rattle.perimeter_core.specs.declared.entries.Entry.{Entry}
use Rattle.perimeter_core.specs.declared.entries.Entry.TheVariants.{Feed, Ask}
use Rattle.perimeter_core.specs.declared.marks.SynchAct.TheVariants as Done
use Rattle.perimeter_core.specs.declared.marks.Mark.{Mark}
use Rattle.perimeter_core.specs.declared.marks.Mark.TheVariants as On
use Rattle.perimeter_core.specs.Perimeter.{after, is_here}
use Rattle.perimeter_core.specs.History.{Element, Setting, worker, start, run}
use Rattle.perimeter_core.specs.Deeds.{entries_of, done_by, feeds_of, fed, feed_acts, call_act, puts_in, takes_out, due, acts}
use Rattle.perimeter_core.specs.Legal.{May, Legal}
use Rattle.perimeter_core.specs.Backlog.{queue, up, QueuedInRange}
use Rattle.perimeter_core.specs.Numbered.{FeedFits}
use Rattle.perimeter_core.proofs.OneMore.{run_push, due_push, legal_ind}
use Rattle.perimeter_core.proofs.OrderAndWake.{sound}
use Rattle.perimeter_core.proofs.FeedLists.{feeds_of-append, no_feeds_both, no_feeds_right, up_rest, length-up}
use Rattle.perimeter_core.proofs.FeedOrder.{queue_after, not_here_nil, puts_away, in_order}
use Rattle.perimeter_core.proofs.QueuedRange.{range_right, queued_range}
use Rattle.perimeter_core.proofs.BlocksFollow.{acts_push, flags}
use Rattle.perimeter_core.proofs.RingKnows.{here_step}

pub fed-append : (xs ys : List Act) → fed (xs ++ ys) ≡ fed xs + fed ys
fed-append [] ys = omega arith
fed-append (Did.Feed n ∷ xs) ys = omega (arith, fed-append xs ys)
fed-append (Did.Call j k ∷ xs) ys = fed-append xs ys

fed_at : (b : Bool) (n : ℕ) (done : List Act) (ns : List ℕ) → fed done ≡ length ns → fed (if b then Did.Feed n ∷ done else done) ≡ length (if b then n ∷ ns else ns)
fed_at true n done ns h = omega (arith, h)
fed_at false n done ns h = h

pub fed_feeds : (c : ℕ) (es : List Entry) → fed (feed_acts c es) ≡ length (feeds_of c es)
fed_feeds c [] = refl
fed_feeds c (Feed d n ∷ es) = fed_at (d == c) n (feed_acts c es) (feeds_of c es) (fed_feeds c es)
fed_feeds c (Ask p ∷ es) = fed_feeds c es

no_feed : (b : Bool) (j k : ℕ) → fed (if b then Did.Call j k ∷ [] else []) ≡ 0
no_feed true j k = refl
no_feed false j k = refl

pub fed_call : (c : ℕ) (m : Mark) → fed (call_act c m) ≡ 0
fed_call c (On.Leave p rest (Done.Call d j k)) = no_feed (d == c) j k
fed_call c (On.Leave p rest Done.None) = refl
fed_call c (On.Leave p rest Done.Away) = refl
fed_call c (On.Leave p rest (Done.Out d)) = refl
fed_call c (On.Leave p rest (Done.In d)) = refl
fed_call c (On.Fill p es) = refl
fed_call c (On.Fast p e) = refl
fed_call c (On.Claim p es) = refl
fed_call c (On.Take p) = refl
fed_call c (On.Ask p) = refl
fed_call c (On.Grant p j rest) = refl
fed_call c (On.Accept j) = refl
fed_call c (On.Work p) = refl
fed_call c (On.Close p) = refl

pub here_was : (a b : Bool) → (if false then true else if a then false else b) ≡ true → b ≡ true
here_was true b h = absurd cc
here_was false b h = h

lengths : (c : ℕ) (q es d q' : List Entry) → q ++ es ≡ d ++ q' → length (feeds_of c q) + length (feeds_of c es) ≡ length (feeds_of c d) + length (feeds_of c q')
lengths c q es d q' h =
    let a = ap length (feeds_of-append c q es) ∙ length-append (feeds_of c q) (feeds_of c es) in
    let b = ap length (feeds_of-append c d q') ∙ length-append (feeds_of c d) (feeds_of c q') in
    sym a ∙ (ap (λ (xs : List Entry). length (feeds_of c xs)) h ∙ b)

-- a block that is here has had all feeds before those that are queued
had_case : (S : Setting) (H : List Element) (e : Element) (c : ℕ) (b : Bool) → puts_in c e.mark ≡ b → Legal S H → May S H e
    → (is_here (run S H) c ≡ true → fed (acts S H c) + length (feeds_of c (queue (run S H))) ≡ due H c)
    → (is_here (after (run S H) e.mark) c ≡ true)
    → fed (if b then e.note else acts S H c ++ (feed_acts c (done_by (run S H) e.mark) ++ call_act c e.mark)) + length (feeds_of c (queue (after (run S H) e.mark)))
    ≡ (if b then fed e.note else due H c + length (feeds_of c (entries_of e.mark)))
had_case S H e c true is l m i h =
    let s = run S H in
    let q = queue_after (worker S) s e.mark m.step (sound S H l) in
    let away = puts_away S H s e.mark c m.act is in
    let none : feeds_of c (queue s) ≡ [] = not_here_nil (is_here s c) (feeds_of c (queue s)) away.0 (in_order S c H l).here in
    let all : feeds_of c (queue s ++ entries_of e.mark) ≡ [] = no_feeds_both c (queue s) (entries_of e.mark) none (rw away.1 refl) in
    let rest : feeds_of c (queue (after s e.mark)) ≡ [] = no_feeds_right c (done_by s e.mark) (queue (after s e.mark)) (rw q at all) in
    rw rest (omega arith)
had_case S H e c false is l m i h =
    let s = run S H in
    let q = queue_after (worker S) s e.mark m.step (sound S H l) in
    let step = here_step S s e.mark c m.range (flags (start S) H) in
    let before = here_was (takes_out c e.mark) (is_here s c) (rw is at (sym step ∙ h)) in
    let a = fed-append (acts S H c) (feed_acts c (done_by s e.mark) ++ call_act c e.mark) in
    let b = fed-append (feed_acts c (done_by s e.mark)) (call_act c e.mark) in
    omega (arith, a, b, fed_call c e.mark, fed_feeds c (done_by s e.mark), lengths c (queue s) (entries_of e.mark) (done_by s e.mark) (queue (after s e.mark)) q, i before)

pub had : (S : Setting) (c : ℕ) (H : List Element) → Legal S H → is_here (run S H) c ≡ true → fed (acts S H c) + length (feeds_of c (queue (run S H))) ≡ due H c
had S c H l =
    legal_ind S (λ (G : List Element). is_here (run S G) c ≡ true → fed (acts S G c) + length (feeds_of c (queue (run S G))) ≡ due G c) (λ h. refl)
    (λ G e k i m.
    rw (run_push (start S) G e, acts_push c (start S) [] G e, due_push c 0 G e) (had_case S G e c (puts_in c e.mark) refl k m i))
    H l

head_of : (n k : ℕ) (ns : List ℕ) → n ∷ ns ≡ up k (suc (length ns)) → n ≡ k
head_of n k ns h = cc

feed_here : (c n : ℕ) (zs : List Entry) → feeds_of c (Feed c n ∷ zs) ≡ n ∷ feeds_of c zs
feed_here c n zs = let one : (c == c) ≡ true = grind (arith, nat_tests) in rw one refl

pub feed_fits : (S : Setting) (H : List Element) (xs ys : List Entry) (c n : ℕ) → Legal S H → (run S H).hand ≡ xs ++ Feed c n ∷ ys → FeedFits S H xs c n
feed_fits S H xs ys c n l h =
    let s = run S H in
    let i = in_order S c H l in
    let split : queue s ≡ xs ++ (Feed c n ∷ (ys ++ s.chain)) = ap (λ (zs : List Entry). zs ++ s.chain) h ∙ append_assoc xs (Feed c n ∷ ys) s.chain in
    let feeds : feeds_of c (queue s) ≡ feeds_of c xs ++ (n ∷ feeds_of c (ys ++ s.chain)) =
    ap (feeds_of c) split ∙ (feeds_of-append c xs (Feed c n ∷ (ys ++ s.chain)) ∙ ap (λ (zs : List ℕ). feeds_of c xs ++ zs) (feed_here c n (ys ++ s.chain))) in
    let some : feeds_of c (queue s) ≢ [] = λ z. not_nil (feeds_of c xs) n (feeds_of c (ys ++ s.chain)) (sym feeds ∙ z) in
    let here = i.here some in
    let u = up_rest (feeds_of c xs) (n ∷ feeds_of c (ys ++ s.chain)) i.runs.first i.runs.count (sym feeds ∙ i.runs.numbers) in
    let number : n ≡ i.runs.first + length (feeds_of c xs) = head_of n (i.runs.first + length (feeds_of c xs)) (feeds_of c (ys ++ s.chain)) u.0 in
    let total = had S c H l here in
    let count : length (feeds_of c (queue s)) ≡ i.runs.count = ap length i.runs.numbers ∙ length-up i.runs.first i.runs.count in
    let all = subst (λ (zs : List Entry). QueuedInRange S zs) split (queued_range S H l) in
    record {
      here = here;
      had = omega (arith, fed-append (acts S H c) (feed_acts c xs), fed_feeds c xs, number, total, count, i.runs.ends);
      limit = (range_right S xs (Feed c n ∷ (ys ++ s.chain)) all).1;
    }
  where
    not_nil : (ms : List ℕ) (n : ℕ) (ns : List ℕ) → ms ++ (n ∷ ns) ≡ [] → ⊥
    not_nil [] n ns h = cc
    not_nil (m ∷ ms) n ns h = cc
