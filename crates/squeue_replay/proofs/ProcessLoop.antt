-- Entries of the hand that are processed one after another.
use Rattle.std.proofs.Common.{◌≡◌, ℕ, zero, suc, ◌+◌, ◌-◌, ◌<◌, ◌≤◌, Bool, true, false, ◌&&◌, if◌then◌else◌, ◌==◌, List, [], ◌∷◌, ◌++◌, length, take, refl, ap, sym, ◌∙◌, subst, append_assoc, arith, length-append}
use Rattle.std.proofs.lemmas.Bool.Decides.{nat_tests}
use Rattle.std.proofs.lemmas.List.{length-take-le, length_push, take_at}
use Rattle.std.proofs.lemmas.Bool.{eq-eqb}
use Rattle.perimeter_core.specs.declared.entries.Entry.{Entry}
use Rattle.perimeter_core.specs.declared.entries.Entry.TheVariants.{Feed, Ask}
use Rattle.perimeter_core.specs.Perimeter.{ends_with_ask, is_empty}
use Rattle.perimeter_core.specs.Legal.{all_feeds, only_last_ask}
use Rattle.perimeter_core.specs.Deeds.{feed_acts, feeds_of}
use Rattle.perimeter_core.proofs.Quotas.{feed_count-append}
use Rattle.squeue_replay.specs.Standing.{GuestOf, PassOf, SqueueOf}
use Rattle.squeue_replay.specs.Steps.{Answered, Became, Processed, guest_fed}
use Rattle.squeue_replay.proofs.AskSteps.{alone_right, feeds_alone}
use Rattle.squeue_replay.proofs.GuestActs.{became_same, became_twice, fed_none, fed_twice}
use Rattle.histories.proofs.Counts.{count_ask, feeds_push}

-- nothing was processed yet
pub began : (j : ℕ) (s : SqueueOf) → Processed [] j 0 false s s
began j s =
    record {
      right = refl;
      asked = refl;
      feeds = refl;
      hand = refl;
      passes = record { count = refl; each = λ p y at. (y, at, refl) };
      guests = record { count = refl; each = λ c g at. (g, at, sym (fed_none c [] g refl refl)) };
      own = refl;
      wake = refl;
      chain = refl;
    }

-- feeds, and then an Ask and others
asks_then : (j q : ℕ) (es fs : List Entry) → all_feeds es ≡ true → only_last_ask j (es ++ Ask q ∷ fs) ≡ ((q == j) && is_empty fs)
asks_then j q [] fs h = refl
asks_then j q (Feed d m ∷ es) fs h = asks_then j q es fs h
asks_then j q (Ask p ∷ es) fs h = absurd (cc h)

ends_then : (j q : ℕ) (es : List Entry) → all_feeds es ≡ true → ends_with_ask j (es ++ Ask q ∷ []) ≡ (q == j)
ends_then j q [] h = refl
ends_then j q (Feed d m ∷ es) h = ends_then j q es h
ends_then j q (Ask p ∷ es) h = absurd (cc h)

-- one more feed
pub one_fed : (es more : List Entry) (j n m c k : ℕ) (s t u : SqueueOf) → Processed es j n false s t → t.hand ≡ Feed c k ∷ more → m ≡ n + 1
    → Became (λ d. guest_fed d (Feed c k ∷ [])) t.guests u.guests → u ≡ record t { hand = more; guests = u.guests } → Processed (es ++ Feed c k ∷ []) j m false s u
one_fed es more j n m c k s t u p hand counted fed is =
    let all : all_feeds es ≡ true = feeds_alone j es p.right (sym p.asked) in
    let r = alone_right j (es ++ Feed c k ∷ []) (feeds_push es c k all) in
    record {
      right = r.0;
      asked = sym r.1;
      feeds = counted ∙ (ap (λ (x : ℕ). x + 1) p.feeds ∙ sym (feed_count-append es (Feed c k ∷ [])));
      hand = p.hand ∙ (ap (λ (l : List Entry). es ++ l) (hand ∙ ap (λ (l : List Entry). Feed c k ∷ l) (sym (ap (λ (z : SqueueOf). z.hand) is))) ∙ sym (append_assoc es (Feed c k ∷ []) u.hand));
      passes = subst (λ (z : SqueueOf). Answered false j s.passes z.passes) (sym is) p.passes;
      guests = became_same (λ d g. guest_fed d (Feed c k ∷ []) (guest_fed d es g)) (λ d. guest_fed d (es ++ Feed c k ∷ [])) s.guests u.guests (λ d g at. fed_twice d es (Feed c k ∷ []) g)
          (became_twice (λ d. guest_fed d es) (λ d. guest_fed d (Feed c k ∷ [])) s.guests t.guests u.guests p.guests fed);
      own = ap (λ (z : SqueueOf). z.own) is ∙ p.own;
      wake = ap (λ (z : SqueueOf). z.wake) is ∙ p.wake;
      chain = ap (λ (z : SqueueOf). z.chain) is ∙ p.chain;
    }

no_feed : (d j : ℕ) (es : List Entry) → (feeds_of d (es ++ Ask j ∷ []) ≡ feeds_of d es) × (feed_acts d (es ++ Ask j ∷ []) ≡ feed_acts d es)
no_feed d j es = (of es, as' es)
  where
    of : (es : List Entry) → feeds_of d (es ++ Ask j ∷ []) ≡ feeds_of d es
    of [] = refl
    of (Feed c n ∷ es) = rw (of es) refl
    of (Ask q ∷ es) = of es

    as' : (es : List Entry) → feed_acts d (es ++ Ask j ∷ []) ≡ feed_acts d es
    as' [] = refl
    as' (Feed c n ∷ es) = rw (as' es) refl
    as' (Ask q ∷ es) = as' es

answered_then : (j : ℕ) (ps qs rs : List PassOf) → Answered false j ps qs → Answered true j qs rs → Answered true j ps rs
answered_then j ps qs rs a b =
    record {
      count = b.count ∙ a.count;
      each = λ p y at.
          let z = b.each p y at in
          let x = a.each p z.0 z.1 in
          (x.0, x.1, z.2 ∙ ap (λ (v : PassOf). record v { waiting = if true && (j == p) then false else v.waiting }) x.2);
    }

-- and last of all the Ask
pub one_answered : (es more : List Entry) (j n : ℕ) (s t u : SqueueOf) → Processed es j n false s t → t.hand ≡ Ask j ∷ more
    → Answered true j t.passes u.passes → u ≡ record t { hand = more; passes = u.passes } → Processed (es ++ Ask j ∷ []) j n true s u
one_answered es more j n s t u p hand answered is =
    let all : all_feeds es ≡ true = feeds_alone j es p.right (sym p.asked) in
    record {
      right = asks_then j j es [] all ∙ rw (eq-eqb j j refl) refl;
      asked = sym (ends_then j j es all ∙ eq-eqb j j refl);
      feeds = p.feeds ∙ sym (count_ask es j);
      hand = p.hand ∙ (ap (λ (l : List Entry). es ++ l) (hand ∙ ap (λ (l : List Entry). Ask j ∷ l) (sym (ap (λ (z : SqueueOf). z.hand) is))) ∙ sym (append_assoc es (Ask j ∷ []) u.hand));
      passes = answered_then j s.passes t.passes u.passes p.passes answered;
      guests = subst (λ (gs : List GuestOf). Became (λ d. guest_fed d (es ++ Ask j ∷ [])) s.guests gs) (sym (ap (λ (z : SqueueOf). z.guests) is))
          (became_same (λ d. guest_fed d es) (λ d. guest_fed d (es ++ Ask j ∷ [])) s.guests t.guests (λ d g at. let none = no_feed d j es in rw (none.0, none.1) refl) p.guests);
      own = ap (λ (z : SqueueOf). z.own) is ∙ p.own;
      wake = ap (λ (z : SqueueOf). z.wake) is ∙ p.wake;
      chain = ap (λ (z : SqueueOf). z.chain) is ∙ p.chain;
    }

pub taken_more : (i : ℕ) (hand more : List Entry) (e : Entry) → i ≤ length hand → hand ≡ take i hand ++ e ∷ more → take (i + 1) hand ≡ take i hand ++ e ∷ []
taken_more i hand more e le is =
    let n : length (take i hand) ≡ i = length-take-le i hand le in
    let m : length (take i hand ++ e ∷ []) ≡ i + 1 = length_push (take i hand) e ∙ ap (λ (k : ℕ). k + 1) n in
    ap (take (i + 1)) (is ∙ sym (append_assoc (take i hand) (e ∷ []) more)) ∙ take_at (take i hand ++ e ∷ []) more (i + 1) m

-- an Ask that isn't the last of these, or is another's
pub refused : (i count j q : ℕ) (hand more : List Entry) → i < count → count ≤ length hand → hand ≡ take i hand ++ Ask q ∷ more → all_feeds (take i hand) ≡ true
    → (q ≡ j → i + 1 ≡ count → ⊥) → only_last_ask j (take count hand) ≡ false
refused i count j q hand more lt le is all no_end =
    let n : length (take i hand) ≡ i = length-take-le i hand (omega (arith, lt, le)) in
    let k : count ≡ i + suc (count - i - 1) = omega (arith, lt) in
    let cut : take count hand ≡ take i hand ++ Ask q ∷ take (count - i - 1) more
    = ap (take count) is ∙ (ap (λ (c : ℕ). take c (take i hand ++ Ask q ∷ more)) k ∙ take_past (take i hand) (Ask q ∷ more) i (suc (count - i - 1)) n) in
    let whole = ap length is ∙ length-append (take i hand) (Ask q ∷ more) in
    let long : count - i - 1 ≤ length more = omega (arith, whole, n, le) in
    ap (only_last_ask j) cut ∙ (asks_then j q (take i hand) (take (count - i - 1) more) all ∙ by (count - i - 1) refl more long (q == j) refl)
  where
    take_past : (xs ys : List Entry) (i k : ℕ) → length xs ≡ i → take (i + k) (xs ++ ys) ≡ xs ++ take k ys
    take_past [] ys i k e = ap (λ (m : ℕ). take m ys) (omega (arith, e))
    take_past (x ∷ xs) ys i k e =
        let m : i + k ≡ suc (length xs + k) = omega (arith, e) in
        ap (λ (m : ℕ). take m (x ∷ (xs ++ ys))) m ∙ ap (λ (l : List Entry). x ∷ l) (take_past xs ys (length xs) k refl)

    by : (k : ℕ) → count - i - 1 ≡ k → (more : List Entry) → k ≤ length more → (b : Bool) → (q == j) ≡ b → (b && is_empty (take k more)) ≡ false
    by k e more long false is = refl
    by zero e more long true is = absurd (no_end (grind (arith, nat_tests, is)) (omega (arith, e, lt)))
    by (suc k) e [] long true is = absurd (omega (arith, long))
    by (suc k) e (x ∷ more) long true is = refl
