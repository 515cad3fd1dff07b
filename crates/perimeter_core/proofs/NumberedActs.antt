-- The feeds of a block are numbered from 0, where those of the notes are.
use Rattle.std.proofs.Common.{◌≡◌, ℕ, zero, suc, ◌+◌, Bool, true, false, if◌then◌else◌, ◌==◌, List, [], ◌∷◌, ◌++◌, length, refl, ap, sym, ◌∙◌, arith, length-append}
use Rattle.std.proofs.lemmas.List.{append-nil}
use Rattle.perimeter_core.specs.declared.entries.Act.{Act}
use Rattle.perimeter_core.specs.declared.entries.Act.TheVariants as Did
use Rattle.perimeter_core.specs.declared.entries.Entry.{Entry}
use Rattle.perimeter_core.specs.declared.entries.Entry.TheVariants.{Feed, Ask}
use Rattle.perimeter_core.specs.declared.marks.SynchAct.TheVariants as Done
use Rattle.perimeter_core.specs.declared.marks.Mark.{Mark}
use Rattle.perimeter_core.specs.declared.marks.Mark.TheVariants as On
use Rattle.perimeter_core.specs.Perimeter.{after, is_here}
use Rattle.perimeter_core.specs.History.{Element, Setting, worker, start, run, pass_of}
use Rattle.perimeter_core.specs.Deeds.{entries_of, done_by, feeds_of, fed, feed_acts, call_act, puts_in, takes_out, due, acts, feed_numbers}
use Rattle.perimeter_core.specs.Legal.{May, Legal}
use Rattle.perimeter_core.specs.Backlog.{queue, up}
use Rattle.perimeter_core.specs.Numbered.{NotesNumbered, IsNumbered}
use Rattle.perimeter_core.proofs.OneMore.{run_push, legal_ind}
use Rattle.perimeter_core.proofs.OrderAndWake.{sound}
use Rattle.perimeter_core.proofs.FeedLists.{feeds_of-append, length-up, up-append}
use Rattle.perimeter_core.proofs.FeedOrder.{runs_grow, queue_after, in_order}
use Rattle.perimeter_core.proofs.BlocksFollow.{acts_push, flags}
use Rattle.perimeter_core.proofs.RingKnows.{here_step}
use Rattle.perimeter_core.proofs.NextFeed.{had, here_was, fed-append, fed_feeds, fed_call}
use Rattle.perimeter_core.proofs.ActLists.{feed_numbers-append}

pub numbers_at : (b : Bool) (n : ℕ) (done : List Act) (ns : List ℕ) → feed_numbers done ≡ ns → feed_numbers (if b then Did.Feed n ∷ done else done) ≡ (if b then n ∷ ns else ns)
numbers_at true n done ns h = ap (λ xs. n ∷ xs) h
numbers_at false n done ns h = h

pub numbers_feeds : (c : ℕ) (es : List Entry) → feed_numbers (feed_acts c es) ≡ feeds_of c es
numbers_feeds c [] = refl
numbers_feeds c (Feed d n ∷ es) = numbers_at (d == c) n (feed_acts c es) (feeds_of c es) (numbers_feeds c es)
numbers_feeds c (Ask p ∷ es) = numbers_feeds c es

pub no_number : (b : Bool) (j k : ℕ) → feed_numbers (if b then Did.Call j k ∷ [] else []) ≡ []
no_number true j k = refl
no_number false j k = refl

pub numbers_call : (c : ℕ) (m : Mark) → feed_numbers (call_act c m) ≡ []
numbers_call c (On.Leave p rest (Done.Call d j k)) = no_number (d == c) j k
numbers_call c (On.Leave p rest Done.None) = refl
numbers_call c (On.Leave p rest Done.Away) = refl
numbers_call c (On.Leave p rest (Done.Out d)) = refl
numbers_call c (On.Leave p rest (Done.In d)) = refl
numbers_call c (On.Fill p es) = refl
numbers_call c (On.Fast p e) = refl
numbers_call c (On.Claim p es) = refl
numbers_call c (On.Take p) = refl
numbers_call c (On.Ask p) = refl
numbers_call c (On.Grant p j rest) = refl
numbers_call c (On.Accept j) = refl
numbers_call c (On.Work p) = refl
numbers_call c (On.Close p) = refl

-- the front of consecutive numbers
pub up_front : (xs ys : List ℕ) (a k : ℕ) → xs ++ ys ≡ up a k → xs ≡ up a (length xs)
up_front [] ys a k h = refl
up_front (x ∷ xs) ys a zero h = absurd cc
up_front (x ∷ xs) ys a (suc k) h =
    let t : xs ++ ys ≡ up (suc a) k = cc in
    let x_is : x ≡ a = cc in
    let r = up_front xs ys (suc a) k t in rw x_is (ap (λ ns. a ∷ ns) r)

pub notes_front : (c : ℕ) (H : List Element) (e : Element) → NotesNumbered c (H ++ e ∷ []) → NotesNumbered c H × (puts_in c e.mark ≡ true → IsNumbered e.note)
notes_front c [] e h = (tt, h.0)
notes_front c (x ∷ H) e h = let r = notes_front c H e h.1 in ((h.0, r.0), r.1)

pub numbered_case : (S : Setting) (H : List Element) (e : Element) (c : ℕ) (b : Bool) → puts_in c e.mark ≡ b → Legal S H → May S H e → (puts_in c e.mark ≡ true → IsNumbered e.note)
    → (is_here (run S H) c ≡ true → IsNumbered (acts S H c)) → is_here (after (run S H) e.mark) c ≡ true
    → IsNumbered (if b then e.note else acts S H c ++ (feed_acts c (done_by (run S H) e.mark) ++ call_act c e.mark))
numbered_case S H e c true is l m note i h = note is
numbered_case S H e c false is l m note i h =
    let s = run S H in
    let q = queue_after (worker S) s e.mark m.step (sound S H l) in
    let step = here_step S s e.mark c m.range (flags (start S) H) in
    let before = here_was (takes_out c e.mark) (is_here s c) (rw is at (sym step ∙ h)) in
    let runs = (in_order S c H l).runs in
    let grown = runs_grow S s (pass_of e.mark) c (due H) (queue s) (entries_of e.mark) m.enters runs in
    let count : length (feeds_of c (queue s)) + length (feeds_of c (entries_of e.mark)) ≡ grown.count =
    sym (length-append (feeds_of c (queue s)) (feeds_of c (entries_of e.mark))) ∙ (ap length (sym (feeds_of-append c (queue s) (entries_of e.mark)) ∙ grown.numbers) ∙ length-up grown.first grown.count) in
    let first : grown.first ≡ fed (acts S H c) = omega (arith, had S c H l before, grown.ends, count) in
    let split : feeds_of c (done_by s e.mark) ++ feeds_of c (queue (after s e.mark)) ≡ up grown.first grown.count =
    sym (feeds_of-append c (done_by s e.mark) (queue (after s e.mark))) ∙ (ap (feeds_of c) (sym q) ∙ grown.numbers) in
    let done : feeds_of c (done_by s e.mark) ≡ up (fed (acts S H c)) (length (feeds_of c (done_by s e.mark))) =
    rw first at (up_front (feeds_of c (done_by s e.mark)) (feeds_of c (queue (after s e.mark))) grown.first grown.count split) in
    let k = fed (acts S H c) in
    let j = length (feeds_of c (done_by s e.mark)) in
    let total : fed (acts S H c ++ (feed_acts c (done_by s e.mark) ++ call_act c e.mark)) ≡ k + j =
    omega (
      arith,
      fed-append (acts S H c) (feed_acts c (done_by s e.mark) ++ call_act c e.mark),
      fed-append (feed_acts c (done_by s e.mark)) (call_act c e.mark),
      fed_call c e.mark,
      fed_feeds c (done_by s e.mark),
    ) in
    let z : 0 + k ≡ k = omega arith in
    feed_numbers-append (acts S H c) (feed_acts c (done_by s e.mark) ++ call_act c e.mark)
    ∙ (ap (λ xs. feed_numbers (acts S H c) ++ xs)
    (feed_numbers-append (feed_acts c (done_by s e.mark)) (call_act c e.mark) ∙ (ap (λ xs. feed_numbers (feed_acts c (done_by s e.mark)) ++ xs) (numbers_call c e.mark) ∙ (append-nil (feed_numbers (feed_acts c (done_by s e.mark))) ∙ numbers_feeds c (done_by s e.mark))))
    ∙ (ap (λ xs. xs ++ feeds_of c (done_by s e.mark)) (i before)
    ∙ (ap (λ xs. up 0 k ++ xs) done ∙ ((rw z at (up-append 0 k j)) ∙ ap (up 0) (sym total)))))

pub numbered : (S : Setting) (c : ℕ) (H : List Element) → Legal S H → NotesNumbered c H → is_here (run S H) c ≡ true → IsNumbered (acts S H c)
numbered S c H l =
    legal_ind S (λ (G : List Element). NotesNumbered c G → is_here (run S G) c ≡ true → IsNumbered (acts S G c)) (λ n h. refl)
    (λ G e k i m n.
    let f = notes_front c G e n in
    rw (run_push (start S) G e, acts_push c (start S) [] G e) (numbered_case S G e c (puts_in c e.mark) refl k m f.1 (i f.0)))
    H l
