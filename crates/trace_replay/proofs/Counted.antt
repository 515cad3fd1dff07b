-- The feeds that were done in a stay are numbered on from those with which it came.
use Rattle.std.proofs.Common.{◌≡◌, ℕ, zero, suc, ◌+◌, Bool, true, false, if◌then◌else◌, Option, Some, None, is_some, List, [], ◌∷◌, ◌++◌, length, refl, ap, sym, ◌∙◌, subst, arith, length-append}
use Rattle.std.specs.Prelude.{slice_get}
use Rattle.std.proofs.lemmas.List.{append-nil}
use Rattle.perimeter_core.specs.declared.entries.Act.{Act}
use Rattle.perimeter_core.specs.declared.entries.Act.TheVariants as Did
use Rattle.perimeter_core.specs.declared.marks.Mark.{Mark}
use Rattle.perimeter_core.specs.Perimeter.{State, after, is_here}
use Rattle.perimeter_core.specs.History.{Element, Setting, pass_of, run, start, worker}
use Rattle.perimeter_core.specs.Deeds.{acts, acts_after, call_act, done_by, due, entries_of, fed, feed_acts, feed_numbers, feeds_of, puts_in, reported, takes_out}
use Rattle.perimeter_core.specs.Legal.{Legal, May}
use Rattle.perimeter_core.specs.Backlog.{queue, up}
use Rattle.perimeter_core.proofs.OneMore.{legal_ind}
use Rattle.perimeter_core.proofs.OrderAndWake.{sound}
use Rattle.perimeter_core.proofs.FeedLists.{feeds_of-append, length-up, up-append}
use Rattle.perimeter_core.proofs.FeedOrder.{in_order, queue_after, runs_grow}
use Rattle.perimeter_core.proofs.NextFeed.{fed-append, fed_call, fed_feeds, had}
use Rattle.perimeter_core.proofs.NumberedActs.{numbers_feeds, up_front}
use Rattle.perimeter_core.proofs.ActLists.{feed_numbers-append}
use Rattle.histories.specs.Stays.{Stay, Stays, all_in, as_list, begun, longer_by, stays}
use Rattle.histories.proofs.OneSqueue.{GoesOnWith, fits, stays_push}

none_fed : (xs : List Act) → fed xs ≡ 0 → feed_numbers xs ≡ []
none_fed [] h = refl
none_fed (Did.Feed n ∷ xs) h = absurd (let no : ⊥ = omega (arith, h) in no)
none_fed (Did.Call j k ∷ xs) h = none_fed xs h

-- the numbers of what a mark reports
pub numbers_reported : (c : ℕ) (s : State) (m : Mark) → feed_numbers (reported c s m) ≡ feeds_of c (done_by s m)
numbers_reported c s m =
    feed_numbers-append (feed_acts c (done_by s m)) (call_act c m)
    ∙ ((λ i. numbers_feeds c (done_by s m) i ++ none_fed (call_act c m) (fed_call c m) i) ∙ append-nil (feeds_of c (done_by s m)))

fed_reported : (c : ℕ) (s : State) (m : Mark) → fed (reported c s m) ≡ length (feeds_of c (done_by s m))
fed_reported c s m =
    let a = fed-append (feed_acts c (done_by s m)) (call_act c m) in
    let b = fed_call c m in
    let d = fed_feeds c (done_by s m) in
    omega (arith, a, b, d)

-- a block that is here goes on with its next feeds
numbers_next : (S : Setting) (H : List Element) (e : Element) (c : ℕ) → Legal S H → May S H e → is_here (run S H) c ≡ true
    → feed_numbers (reported c (run S H) e.mark) ≡ up (fed (acts S H c)) (fed (reported c (run S H) e.mark))
numbers_next S H e c l m here =
    let s = run S H in
    let q = queue_after (worker S) s e.mark m.step (sound S H l) in
    let runs = (in_order S c H l).runs in
    let grown = runs_grow S s (pass_of e.mark) c (due H) (queue s) (entries_of e.mark) m.enters runs in
    let count : length (feeds_of c (queue s)) + length (feeds_of c (entries_of e.mark)) ≡ grown.count =
    sym (length-append (feeds_of c (queue s)) (feeds_of c (entries_of e.mark))) ∙ (ap length (sym (feeds_of-append c (queue s) (entries_of e.mark)) ∙ grown.numbers) ∙ length-up grown.first grown.count) in
    let first : grown.first ≡ fed (acts S H c) = omega (arith, had S c H l here, grown.ends, count) in
    let split : feeds_of c (done_by s e.mark) ++ feeds_of c (queue (after s e.mark)) ≡ up grown.first grown.count =
    sym (feeds_of-append c (done_by s e.mark) (queue (after s e.mark))) ∙ (ap (feeds_of c) (sym q) ∙ grown.numbers) in
    let did : feeds_of c (done_by s e.mark) ≡ up (fed (acts S H c)) (length (feeds_of c (done_by s e.mark))) =
    rw first at (up_front (feeds_of c (done_by s e.mark)) (feeds_of c (queue (after s e.mark))) grown.first grown.count split) in
    numbers_reported c s e.mark ∙ (did ∙ ap (up (fed (acts S H c))) (sym (fed_reported c s e.mark)))

abbrev pub IsCounted : Stay → Type 0
IsCounted v = feed_numbers v.own ≡ up (fed v.note) (fed v.own)

abbrev AreCounted : List Stay → Type 0
AreCounted [] = Unit {0}
AreCounted (v ∷ vs) = IsCounted v × AreCounted vs

abbrev NowCounted : Option Stay → Type 0
NowCounted None = Unit {0}
NowCounted (Some v) = IsCounted v

record StaysCounted (v : Stays) : Type 0 where
  ended : AreCounted v.ended
  now : NowCounted v.now

counted_both : (vs ws : List Stay) → AreCounted vs → AreCounted ws → AreCounted (vs ++ ws)
counted_both [] ws a b = b
counted_both (v ∷ vs) ws a b = (a.0, counted_both vs ws a.1 b)

counted_list : (o : Option Stay) → NowCounted o → AreCounted (as_list o)
counted_list None h = tt
counted_list (Some v) h = (h, tt)

-- what comes next of a stay
abbrev GoesOn : List Act → Option Stay → Type 0
GoesOn more None = Unit {0}
GoesOn more (Some v) = feed_numbers more ≡ up (fed v.note + fed v.own) (fed more)

counted_longer : (more had : List Act) (o : Option Stay) → NowCounted o → GoesOn more o → NowCounted (longer_by more had o)
counted_longer more had None h g = tt
counted_longer more had (Some v) h g =
    feed_numbers-append v.own more ∙ ((λ i. h i ++ g i) ∙ (up-append (fed v.note) (fed v.own) (fed more) ∙ ap (up (fed v.note)) (sym (fed-append v.own more))))

counted_after : (a b : Bool) (more had note : List Act) (v : Stays) → StaysCounted v → GoesOn more v.now
    → StaysCounted (if a then record { ended = all_in v; now = Some (begun note) }
    else if b then record { ended = v.ended ++ as_list (longer_by more had v.now); now = None }
    else record { ended = v.ended; now = longer_by more had v.now })
counted_after true b more had note v h g = record { ended = counted_both v.ended (as_list v.now) h.ended (counted_list v.now h.now); now = refl }
counted_after false true more had note v h g =
    record { ended = counted_both v.ended (as_list (longer_by more had v.now)) h.ended (counted_list (longer_by more had v.now) (counted_longer more had v.now h.now g)); now = tt }
counted_after false false more had note v h g = record { ended = h.ended; now = counted_longer more had v.now h.now g }

counted_first : (b : Bool) → StaysCounted (record { ended = []; now = if b then Some (begun []) else None })
counted_first true = record { ended = tt; now = refl }
counted_first false = record { ended = tt; now = tt }

goes_on : (S : Setting) (H : List Element) (e : Element) (c : ℕ) → Legal S H → May S H e → (o : Option Stay) → is_here (run S H) c ≡ is_some o → GoesOnWith (acts S H c) o → GoesOn (reported c (run S H) e.mark) o
goes_on S H e c l m None here with_it = tt
goes_on S H e c l m (Some v) here with_it =
    let n = numbers_next S H e c l m here in
    let all : acts S H c ≡ v.note ++ v.own = sym with_it.0 ∙ with_it.1 in
    n ∙ ap (λ (k : ℕ). up k (fed (reported c (run S H) e.mark))) (ap fed all ∙ fed-append v.note v.own)

counted : (S : Setting) (c : ℕ) (H : List Element) → Legal S H → StaysCounted (stays S H c)
counted S c H l =
    legal_ind S (λ (G : List Element). StaysCounted (stays S G c)) (counted_first (is_here (start S) c))
    (λ G e k i m.
    let f = fits S c G k in
    rw (stays_push c (start S) [] record { ended = []; now = if is_here (start S) c then Some (begun []) else None } G e)
    (counted_after (puts_in c e.mark) (takes_out c e.mark) (reported c (run S G) e.mark) (acts_after c (run S G) (acts S G c) e) e.note (stays S G c) i
    (goes_on S G e c k m (stays S G c).now f.is_now f.now_had)))
    H l

counted_got : (vs : List Stay) (i : ℕ) (v : Stay) → AreCounted vs → slice_get vs i ≡ Some v → IsCounted v
counted_got [] i v a at = absurd (let no : ⊥ = cc at in no)
counted_got (w ∷ vs) zero v a at = let e : w ≡ v = cc at in subst IsCounted e a.0
counted_got (w ∷ vs) (suc i) v a at = counted_got vs i v a.1 at

pub counted_at : (S : Setting) (c : ℕ) (H : List Element) (i : ℕ) (v : Stay) → Legal S H → slice_get (all_in (stays S H c)) i ≡ Some v → IsCounted v
counted_at S c H i v l at =
    let all = counted S c H l in
    counted_got (all_in (stays S H c)) i v (counted_both (stays S H c).ended (as_list (stays S H c).now) all.ended (counted_list (stays S H c).now all.now)) at
