-- What gives a block its acts, one after another.
use Rattle.std.proofs.Common.{◌≡◌, ℕ, zero, suc, ◌+◌, ◌-◌, ◌<◌, ◌==◌, Bool, true, false, if◌then◌else◌, Option, Some, None, List, [], ◌∷◌, ◌++◌, length, refl, ap, sym, ◌∙◌, subst, append_assoc, add-one, arith, take, drop, get_or}
use Rattle.std.specs.List.{range_with_len}
use Rattle.std.proofs.lemmas.List.{append-nil, drop_more, take-append-drop, take_more}
use Rattle.std.proofs.lemmas.Bool.Decides.{nat_tests}
use Rattle.perimeter_core.specs.declared.entries.Act.{Act}
use Rattle.perimeter_core.specs.declared.entries.Act.TheVariants as Did
use Rattle.perimeter_core.specs.declared.entries.Entry.TheVariants as Entry'
use Rattle.perimeter_core.specs.Blocks.{Blocks as Had, longer, with_feeds}
use Rattle.perimeter_core.specs.Deeds.{fed, feed_numbers}
use Rattle.perimeter_core.specs.Residing.{HadFeeds}
use Rattle.perimeter_core.proofs.NextFeed.{fed-append}
use Rattle.perimeter_core.proofs.FeedActs.{longer_none}
use Rattle.squeue_replay.specs.Standing.{GuestOf}
use Rattle.trace_replay.specs.Joining.{FeedsFollow, acts_in, did_before, did_in, with_acts}

longer_both : (xs ys : List Act) (o : Option (List Act)) → longer ys (longer xs o) ≡ longer (xs ++ ys) o
longer_both xs ys None = refl
longer_both xs ys (Some had) = ap Some (append_assoc had xs ys)

pub acts_both : (c : ℕ) (xs ys : List Act) (had : Had) → with_acts c ys (with_acts c xs had) ≡ with_acts c (xs ++ ys) had
acts_both c xs ys had i d = by (c == d) i
  where
    by : (b : Bool) → (if b then longer ys (if b then longer xs (had d) else had d) else if b then longer xs (had d) else had d) ≡ (if b then longer (xs ++ ys) (had d) else had d)
    by true = longer_both xs ys (had d)
    by false = refl

pub one_feed : (c n : ℕ) (had : Had) → with_feeds (Entry'.Feed c n ∷ []) had ≡ with_acts c (Did.Feed n ∷ []) had
one_feed c n had i d = by (c == d) i
  where
    by : (b : Bool) → longer (if b then Did.Feed n ∷ [] else []) (had d) ≡ (if b then longer (Did.Feed n ∷ []) (had d) else had d)
    by true = refl
    by false = longer_none (had d)

pub here_with : (c : ℕ) (xs : List Act) (had : Had) (was : List Act) → had c ≡ Some was → with_acts c xs had c ≡ Some (was ++ xs)
here_with c xs had was e = let same : (c == c) ≡ true = grind (arith, nat_tests) in rw (same, e) refl

-- after these acts more the connection has had their feeds more
pub had_more : (Stands Now : Had → Type 0) (c n : ℕ) (xs : List Act) → HadFeeds Stands c n → ((had : Had) → Stands had → Now (with_acts c xs had)) → HadFeeds Now c (n + fed xs)
had_more Stands Now c n xs h go = record {
  blocks = with_acts c xs h.blocks;
  had = h.had ++ xs;
  stands = go h.blocks h.stands;
  here = here_with c xs h.blocks h.had h.here;
  feeds = fed-append h.had xs ∙ ap (λ (m : ℕ). m + fed xs) h.feeds;
}

-- one act more
pub fed_feed : (xs : List Act) (n : ℕ) → fed (xs ++ Did.Feed n ∷ []) ≡ fed xs + 1
fed_feed xs n = fed-append xs (Did.Feed n ∷ [])

pub fed_call : (xs : List Act) (j k : ℕ) → fed (xs ++ Did.Call j k ∷ []) ≡ fed xs
fed_call xs j k = fed-append xs (Did.Call j k ∷ []) ∙ omega arith

pub one_act : (acts : List Act) (i : ℕ) (d a : Act) → i < length acts → get_or acts i d ≡ a → take (i + 1) acts ≡ take i acts ++ a ∷ []
one_act acts i d a lt e = take_more acts i d lt ∙ ap (λ (x : Act). take i acts ++ x ∷ []) e

pub parts_at : (acts : List Act) (i : ℕ) (d a : Act) → i < length acts → get_or acts i d ≡ a → acts ≡ take i acts ++ a ∷ drop (i + 1) acts
parts_at acts i d a lt e = sym (take-append-drop i acts) ∙ (ap (λ (l : List Act). take i acts ++ l) (drop_more acts i d lt) ∙ ap (λ (x : Act). take i acts ++ x ∷ drop (i + 1) acts) e)

-- feeds that follow do so in parts
pub follow_front : (most n : ℕ) (xs ys : List Act) → FeedsFollow most n (xs ++ ys) → FeedsFollow most n xs
follow_front most n [] ys h = tt
follow_front most n (Did.Feed m ∷ xs) ys h = (h.0, h.1, follow_front most (n + 1) xs ys h.2)
follow_front most n (Did.Call j k ∷ xs) ys h = follow_front most n xs ys h

pub follow_back : (most n : ℕ) (xs ys : List Act) → FeedsFollow most n (xs ++ ys) → FeedsFollow most (n + fed xs) ys
follow_back most n [] ys h = let e : n ≡ n + 0 = omega arith in subst (λ (k : ℕ). FeedsFollow most k ys) e h
follow_back most n (Did.Feed m ∷ xs) ys h = let e : n + 1 + fed xs ≡ n + (1 + fed xs) = omega arith in subst (λ (k : ℕ). FeedsFollow most k ys) e (follow_back most (n + 1) xs ys h.2)
follow_back most n (Did.Call j k ∷ xs) ys h = follow_back most n xs ys h

-- a feed that isn't the next one, or that there isn't
pub follows_not : (most n m : ℕ) (xs ys : List Act) → (m ≡ n + fed xs → m < most → ⊥) → FeedsFollow most n (xs ++ Did.Feed m ∷ ys) → ⊥
follows_not most n m xs ys never h = let last = follow_back most n xs (Did.Feed m ∷ ys) h in never last.0 (let below = last.1 in let same = last.0 in omega (arith, below, same))

-- all feeds in order follow
pub all_follow : (most n left : ℕ) (xs : List Act) → n + left ≡ most → feed_numbers xs ≡ range_with_len n left → FeedsFollow most n xs
all_follow most n left [] e h = tt
all_follow most n zero (Did.Feed m ∷ xs) e h = absurd (let no : ⊥ = cc h in no)
all_follow most n (suc left) (Did.Feed m ∷ xs) e h =
    let first : m ≡ n = cc h in
    let rest : feed_numbers xs ≡ range_with_len (n + 1) left = cc h in
    (first, omega (arith, e), all_follow most (n + 1) left xs (omega (arith, e)) rest)
all_follow most n left (Did.Call j k ∷ xs) e h = all_follow most n left xs e h

module _ (squeues : ℕ) (kept : List (List GuestOf)) (c : ℕ) where
  -- what was done in stays so far, in one more, and in the others
  pub one_more_stay : (s : ℕ) (acts : List Act) → did_in squeues kept c s ≡ Some acts → did_before squeues kept c (s + 1) ≡ did_before squeues kept c s ++ acts
  one_more_stay s acts e = ap (did_before squeues kept c) (add-one s) ∙ ap (λ (o : Option (List Act)). did_before squeues kept c s ++ acts_in o) e

  later_stays : (s d : ℕ) → (rest : List Act) × (did_before squeues kept c (s + d) ≡ did_before squeues kept c s ++ rest)
  later_stays s zero = ([], ap (did_before squeues kept c) (let n : s + 0 ≡ s = omega arith in n) ∙ sym (append-nil (did_before squeues kept c s)))
  later_stays s (suc d) =
      let more = later_stays s d in (
        more.0 ++ acts_in (did_in squeues kept c (s + d)),
        ap (did_before squeues kept c) (let n : s + suc d ≡ suc (s + d) = omega arith in n)
            ∙ (ap (λ (l : List Act). l ++ acts_in (did_in squeues kept c (s + d))) more.1 ∙ append_assoc (did_before squeues kept c s) more.0 (acts_in (did_in squeues kept c (s + d)))),
      )

  -- where all that was done has its feeds in order, so has what was done in one of the stays
  pub stay_follows : (most count s : ℕ) (acts : List Act) → s < count → did_in squeues kept c s ≡ Some acts → FeedsFollow most 0 (did_before squeues kept c count)
      → FeedsFollow most (fed (did_before squeues kept c s)) acts
  stay_follows most count s acts lt e h =
      let rest = later_stays (s + 1) (count - (s + 1)) in
      let n : count ≡ s + 1 + (count - (s + 1)) = omega (arith, lt) in
      let split : did_before squeues kept c count ≡ (did_before squeues kept c s ++ acts) ++ rest.0 =
      ap (did_before squeues kept c) n ∙ (rest.1 ∙ ap (λ (l : List Act). l ++ rest.0) (one_more_stay s acts e)) in
      let zero_more : 0 + fed (did_before squeues kept c s) ≡ fed (did_before squeues kept c s) = omega arith in
      subst (λ (k : ℕ). FeedsFollow most k acts) zero_more
      (follow_back most 0 (did_before squeues kept c s) acts
      (follow_front most 0 (did_before squeues kept c s ++ acts) rest.0 (subst (FeedsFollow most 0) split h)))
