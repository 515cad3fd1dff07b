-- Who crowds a table, and which of them was silent the longest.
use Rattle.std.proofs.Common.{◌≡◌, ℕ, ◌+◌, ◌*◌, ◌<◌, ◌≤◌, ◌⊎◌, inl, inr, Bool, true, false, cond, not, ◌&&◌, ◌||◌, ◌==◌, nat_le, nat_lt, max, Option, None, Some, List, [], ◌∷◌, length, take, slice_get, get_or, position, is_some, unwrap_or, true≢false, refl, sym, ap, subst, ◌∙◌, arith}
use Rattle.std.specs.List.{list_all, position_or_len}
use Rattle.std.specs.Option.{option_map, option_map_or}
use mir.Val.{bool_byte}
use Rattle.std.proofs.lemmas.Bool.Decides.{nat_tests}
use Rattle.std.proofs.lemmas.List.{take_all}
use Rattle.std.proofs.lemmas.Option.{get_or_from_slice_get, slice_get_within}
use Rattle.std.proofs.lemmas.List.Folds.{list_all_at}
use Rattle.std.proofs.lemmas.List.Sums.{count_by_more_no, count_by_more_yes, sum_by-cons, list_all-from_AllPass, position_or_len_is}
use Rattle.sq_base.specs.declared.kinds.Tuple.{Tuple}
use Rattle.live_server.specs.Acts.{no_conn}
use Rattle.live_server.specs.Candidates.{crowds, has, weight}
use Rattle.live_server.specs.Leaving.{blamed, is_crowding, keeps_out, most_blamed, peer_of, share}
use Rattle.live_server.specs.Table.{Conns}
use Rattle.live_server.specs.declared.conn.Conn.{Conn}
use Rattle.live_server.specs.declared.crowding.Candidates.{Candidates}
use Rattle.live_server.specs.declared.crowding.Peer.{Peer}
use Rattle.live_server.specs.declared.crowding.TurnedAway.{TurnedAway}

-- the entry of which a table told
pub peer_entry : (cs : Conns) (i : ℕ) (peer : Peer) → Some peer ≡ option_map peer_of (slice_get cs i) → (c : Tuple × Conn) × (slice_get cs i ≡ Some c) × (peer_of c ≡ peer)
peer_entry cs i peer told = by (slice_get cs i) refl
  where
    by : (o : Option (Tuple × Conn)) → slice_get cs i ≡ o → (c : Tuple × Conn) × (slice_get cs i ≡ Some c) × (peer_of c ≡ peer)
    by None at = absurd (true≢false (ap is_some (told ∙ ap (option_map peer_of) at)))
    by (Some c) at = (c, at, sym (ap (λ o. unwrap_or o peer) (told ∙ ap (option_map peer_of) at)))

share_by : (a : ℕ) (cs : Conns) (i : ℕ) (c : Tuple × Conn) → slice_get cs i ≡ Some c → (b : Bool) → (c.0.client.0 == a) ≡ b → share a (take (i + 1) cs) ≡ share a (take i cs) + cond b 1 0
share_by a cs i c at true is =
    count_by_more_yes (λ e. e.0.client.0 == a) cs i c (slice_get_within cs i c at) (ap (λ (e : Tuple × Conn). e.0.client.0 == a) (get_or_from_slice_get cs i c c at) ∙ is)
share_by a cs i c at false is =
    let same = count_by_more_no (λ e. e.0.client.0 == a) cs i c (slice_get_within cs i c at) (ap (λ (e : Tuple × Conn). e.0.client.0 == a) (get_or_from_slice_get cs i c c at) ∙ is) in
    omega (arith, same)

-- one more of those that were counted
pub share_more : (a : ℕ) (cs : Conns) (i : ℕ) (peer : Peer) → Some peer ≡ option_map peer_of (slice_get cs i)
    → share a (take (i + 1) cs) ≡ share a (take i cs) + cond (peer.address.0 == a) 1 0
share_more a cs i peer told =
    let its = peer_entry cs i peer told in
    share_by a cs i its.0 its.1 (its.0.0.client.0 == a) refl ∙ ap (λ (p : Peer). share a (take i cs) + cond (p.address.0 == a) 1 0) its.2

pub share_all : (a : ℕ) (cs : Conns) (i : ℕ) → length cs ≤ i → share a (take i cs) ≡ share a cs
share_all a cs i past = ap (share a) (take_all i cs past)

pub counted_more : (a : ℕ) (cs : Conns) (i : ℕ) (peer : Peer) (count one : ℕ) → Some peer ≡ option_map peer_of (slice_get cs i) → count ≡ share a (take i cs) → one ≡ bool_byte (peer.address.0 == a)
    → count + one ≡ share a (take (i + 1) cs)
counted_more a cs i peer count one told so_far is = by (peer.address.0 == a) is (share_more a cs i peer told)
  where
    by : (b : Bool) → one ≡ bool_byte b → share a (take (i + 1) cs) ≡ share a (take i cs) + cond b 1 0 → count + one ≡ share a (take (i + 1) cs)
    by true e more = omega (arith, so_far, more, e)
    by false e more = omega (arith, so_far, more, e)

pub byte_more : (b : Bool) (count one i : ℕ) → count ≤ i → one ≡ bool_byte b → count + one ≤ i + 1
byte_more true count one i le e = omega (arith, le, e)
byte_more false count one i le e = omega (arith, le, e)

-- for whom somebody speaks is a candidate
pub spoken_for : (a : ℕ) (s : Candidates) → 0 < weight a s → has a s ≡ true
spoken_for a s some = grind arith

-- ---- who crowds it
module _ (w : TurnedAway) (cs : Conns) where
  pub blame_some : (a : ℕ) → blamed w cs a ≤ share a cs
  blame_some a = by (keeps_out w a)
    where
      by : (b : Bool) → cond b (share a cs) 0 ≤ share a cs
      by true = omega arith
      by false = omega arith

  -- an address that has none of these connections has no share of them
  pub shared_more : (a : ℕ) (c : Tuple × Conn) (es : Conns) → share a (c ∷ es) ≡ cond (c.0.client.0 == a) 1 0 + share a es
  shared_more a c es = sum_by-cons (λ (e : Tuple × Conn). cond (e.0.client.0 == a) 1 0) c es

  within_most : (a : ℕ) (es : Conns) → 0 < share a es → blamed w cs a ≤ most_blamed w cs es
  within_most a [] some = absurd (omega (arith, some))
  within_most a (c ∷ es) some = by (c.0.client.0 == a) refl (shared_more a c es) (within_most a es)
    where
      by : (b : Bool) → (c.0.client.0 == a) ≡ b → share a (c ∷ es) ≡ cond b 1 0 + share a es → (0 < share a es → blamed w cs a ≤ most_blamed w cs es) → blamed w cs a ≤ most_blamed w cs (c ∷ es)
      by true is more others = let same : blamed w cs c.0.client.0 ≡ blamed w cs a = ap (blamed w cs) (grind (arith, nat_tests)) in omega (arith, same)
      by false is more others = let later = others (omega (arith, some, more)) in omega (arith, later)

  pub blame_at_most : (a : ℕ) → blamed w cs a ≤ most_blamed w cs cs
  blame_at_most a = by (nat_lt 0 (share a cs)) refl
    where
      by : (b : Bool) → nat_lt 0 (share a cs) ≡ b → blamed w cs a ≤ most_blamed w cs cs
      by true some = within_most a cs (grind (arith, nat_tests))
      by false none = let some = blame_some a in grind (arith, nat_tests)

  pub most_is_one : (es : Conns) → (most_blamed w cs es ≡ 0) ⊎ ((a : ℕ) × (most_blamed w cs es ≡ blamed w cs a))
  most_is_one [] = inl refl
  most_is_one (c ∷ es) = by (nat_le (most_blamed w cs es) (blamed w cs c.0.client.0)) refl (most_is_one es)
    where
      by : (b : Bool) → nat_le (most_blamed w cs es) (blamed w cs c.0.client.0) ≡ b → (most_blamed w cs es ≡ 0) ⊎ ((a : ℕ) × (most_blamed w cs es ≡ blamed w cs a))
          → (most_blamed w cs (c ∷ es) ≡ 0) ⊎ ((a : ℕ) × (most_blamed w cs (c ∷ es) ≡ blamed w cs a))
      by true e later = inr (c.0.client.0, grind (arith, nat_tests))
      by false e (inl none) = inr (c.0.client.0, grind (arith, nat_tests))
      by false e (inr its) = inr (its.0, (let is = its.1 in grind (arith, nat_tests)))

-- three candidates, each with all that count against it
abbrev pub judged_all : TurnedAway → Conns → Candidates → Candidates
judged_all w cs s = record {
  first = record { address = s.first.address; weight = blamed w cs s.first.address.0 };
  second = record { address = s.second.address; weight = blamed w cs s.second.address.0 };
  third = record { address = s.third.address; weight = blamed w cs s.third.address.0 };
}

module _ (f : ℕ → ℕ) (x y z a : ℕ) where
  abbrev weighs : ℕ
  weighs = cond (x == a) (f x) (cond (y == a) (f y) (cond (z == a) (f z) 0))

  weighs_own : ((x == a) || ((y == a) || (z == a))) ≡ true → weighs ≡ f a
  weighs_own is = grind (arith, nat_tests)

  weighs_none : ((x == a) || ((y == a) || (z == a))) ≡ false → weighs ≡ 0
  weighs_none is = grind (arith, nat_tests)

  weighs_within : weighs ≤ max (max (f x) (f y)) (f z)
  weighs_within = grind (arith, nat_tests)

abbrev pub greatest_of : TurnedAway → Conns → Candidates → ℕ
greatest_of w cs s = max (max (blamed w cs s.first.address.0) (blamed w cs s.second.address.0)) (blamed w cs s.third.address.0)

module _ (w : TurnedAway) (cs : Conns) (s : Candidates) (all : (a : ℕ) → length cs < 4 * share a cs → has a s ≡ true) where
  abbrev of : ℕ → ℕ
  of a = weight a (judged_all w cs s)

  of_large : (a : ℕ) → length cs < 4 * blamed w cs a → of a ≡ blamed w cs a
  of_large a large = weighs_own (blamed w cs) s.first.address.0 s.second.address.0 s.third.address.0 a (all a (omega (arith, large, blame_some w cs a)))

  of_within : (a : ℕ) → of a ≤ greatest_of w cs s
  of_within a = weighs_within (blamed w cs) s.first.address.0 s.second.address.0 s.third.address.0 a

  greatest_within : greatest_of w cs s ≤ most_blamed w cs cs
  greatest_within = omega (arith, blame_at_most w cs s.first.address.0, blame_at_most w cs s.second.address.0, blame_at_most w cs s.third.address.0)

  -- where the greatest has more than a quarter, it has the most of all
  greatest_is : length cs < 4 * greatest_of w cs s → greatest_of w cs s ≡ most_blamed w cs cs
  greatest_is large = by (most_is_one w cs cs)
    where
      by : (most_blamed w cs cs ≡ 0) ⊎ ((a : ℕ) × (most_blamed w cs cs ≡ blamed w cs a)) → greatest_of w cs s ≡ most_blamed w cs cs
      by (inl none) = omega (arith, none, greatest_within, large)
      by (inr its) = its_own (nat_lt (length cs) (4 * blamed w cs its.0)) refl
        where
          its_own : (b : Bool) → nat_lt (length cs) (4 * blamed w cs its.0) ≡ b → greatest_of w cs s ≡ most_blamed w cs cs
          its_own true e =
              let more : length cs < 4 * blamed w cs its.0 = grind (arith, nat_tests) in
              omega (arith, of_large its.0 more, of_within its.0, greatest_within, its.1)
          its_own false e =
              let less : 4 * blamed w cs its.0 ≤ length cs = grind (arith, nat_tests) in
              omega (arith, less, large, greatest_within, its.1)

  pub crowds_right : (c : Tuple × Conn)
      → crowds c.0.client.0 (record { candidates = judged_all w cs s; most = cond (nat_lt (length cs) (4 * greatest_of w cs s)) (greatest_of w cs s) 0 }) ≡ is_crowding w cs c
  crowds_right c = by (nat_lt (length cs) (4 * greatest_of w cs s)) refl
    where
      a : ℕ
      a = c.0.client.0

      large_one : (b v : Bool) (m : ℕ) → length cs < 4 * m → m ≡ most_blamed w cs cs → (length cs < 4 * blamed w cs a → of a ≡ blamed w cs a) → of a ≤ m → has a s ≡ v
          → (v ≡ true → of a ≡ blamed w cs a) → (v ≡ false → of a ≡ 0)
          → (nat_lt 0 m && (of a == m)) ≡ (nat_lt (length cs) (4 * blamed w cs a) && nat_le (most_blamed w cs cs) (blamed w cs a))
      large_one b true m large most own within is known none = let its = known refl in let less = blame_at_most w cs a in grind (arith, nat_tests)
      large_one b false m large most own within is known none = let its = none refl in grind (arith, nat_tests)

      by : (b : Bool) → nat_lt (length cs) (4 * greatest_of w cs s) ≡ b
          → (nat_lt 0 (cond b (greatest_of w cs s) 0) && (of a == cond b (greatest_of w cs s) 0)) ≡ (nat_lt (length cs) (4 * blamed w cs a) && nat_le (most_blamed w cs cs) (blamed w cs a))
      by true e =
          let large : length cs < 4 * greatest_of w cs s = grind (arith, nat_tests) in
          large_one true (has a s) (greatest_of w cs s) large (greatest_is large) (of_large a) (of_within a) refl
          (weighs_own (blamed w cs) s.first.address.0 s.second.address.0 s.third.address.0 a) (weighs_none (blamed w cs) s.first.address.0 s.second.address.0 s.third.address.0 a)
      by false e = small_one (nat_lt (length cs) (4 * blamed w cs a)) refl
        where
          small_one : (v : Bool) → nat_lt (length cs) (4 * blamed w cs a) ≡ v
              → (nat_lt 0 0 && (of a == 0)) ≡ (v && nat_le (most_blamed w cs cs) (blamed w cs a))
          small_one true is =
              let more : length cs < 4 * blamed w cs a = grind (arith, nat_tests) in
              let small : 4 * greatest_of w cs s ≤ length cs = grind (arith, nat_tests) in
              absurd (omega (arith, more, small, of_large a more, of_within a))
          small_one false is = refl

-- ---- the first of the least
module _ {X : Type 0} (p : X → Bool) (f : X → ℕ) where
  pub record IsEarliest (xs : List X) (i b h : ℕ) : Type 0 where
    pub within : b < i
    pub passes : (d : X) → p (get_or xs b d) ≡ true
    pub its : (d : X) → f (get_or xs b d) ≡ h
    pub first : (k : ℕ) (d : X) → k < b → p (get_or xs k d) ≡ true → h < f (get_or xs k d)
    pub least : (k : ℕ) (d : X) → k < i → p (get_or xs k d) ≡ true → h ≤ f (get_or xs k d)

  -- of the first so many none passes, or this one is the first of those for which it is the least
  abbrev pub Earliest : List X → ℕ → Option (ℕ × ℕ) → Type 0
  Earliest xs i None = (k : ℕ) (d : X) → k < i → p (get_or xs k d) ≡ false
  Earliest xs i (Some found) = IsEarliest xs i found.0 found.1

  abbrev pub is_least_of : List X → X → Bool
  is_least_of xs c = p c && list_all (λ d. not (p d) || nat_le (f c) (f d)) xs

  test_or : (b : Bool) (m n : ℕ) → (b ≡ true → m ≤ n) → (not b || nat_le m n) ≡ true
  test_or true m n h = let le = h refl in grind (arith, nat_tests)
  test_or false m n h = refl

  not_least : (xs : List X) (b h k : ℕ) (d : X) → b < length xs → p (get_or xs b d) ≡ true → f (get_or xs b d) ≡ h → (p (get_or xs k d) ≡ true → h < f (get_or xs k d)) → is_least_of xs (get_or xs k d) ≡ false
  not_least xs b h k d lt passes its later = by (p (get_or xs k d)) refl
    where
      c : X
      c = get_or xs k d

      by : (v : Bool) → p c ≡ v → is_least_of xs c ≡ false
      by false e = ap (λ w. w && list_all (λ d. not (p d) || nat_le (f c) (f d)) xs) e
      by true e =
          let more = later e in
          let past : nat_le (f c) (f (get_or xs b d)) ≡ false = grind (arith, nat_tests) in
          let fails : (not (p (get_or xs b d)) || nat_le (f c) (f (get_or xs b d))) ≡ false = ap (λ w. not w || nat_le (f c) (f (get_or xs b d))) passes ∙ past in
          ap (λ w. w && list_all (λ d. not (p d) || nat_le (f c) (f d)) xs) e ∙ list_all_at (λ d. not (p d) || nat_le (f c) (f d)) xs b d lt fails

  pub earliest_is : (xs : List X) (i : ℕ) (found : Option (ℕ × ℕ)) (d : X) → i ≡ length xs → Earliest xs i found → option_map (λ b. b.0) found ≡ position (is_least_of xs) xs
  earliest_is xs i None d all none =
      let past : position_or_len (is_least_of xs) xs ≡ length xs =
      position_or_len_is (is_least_of xs) xs (length xs) d (omega arith)
      (λ k lt. ap (λ w. w && list_all (λ e. not (p e) || nat_le (f (get_or xs k d)) (f e)) xs) (none k d (omega (arith, lt, all)))) (λ lt. absurd (omega (arith, lt))) in
      let no : nat_lt (length xs) (length xs) ≡ false = grind (arith, nat_tests) in
      sym (ap (λ n. cond (nat_lt n (length xs)) (Some n) None) past ∙ ap (λ w. cond w (Some (length xs)) None) no)
  earliest_is xs i (Some (b, h)) d all found =
      let lt : b < length xs = omega (arith, found.within, all) in
      let at : position_or_len (is_least_of xs) xs ≡ b =
      position_or_len_is (is_least_of xs) xs b d (omega (arith, lt))
      (λ k before. not_least xs b h k d lt (found.passes d) (found.its d) (found.first k d before))
      (λ _. ap (λ w. w && list_all (λ e. not (p e) || nat_le (f (get_or xs b d)) (f e)) xs) (found.passes d)
      ∙ list_all-from_AllPass (λ e. not (p e) || nat_le (f (get_or xs b d)) (f e)) xs
      (λ k e within. test_or (p (get_or xs k e)) _ _ (λ yes. (let le = found.least k e (omega (arith, within, all)) yes in omega (arith, le, found.its d))))) in
      let yes : nat_lt b (length xs) ≡ true = grind (arith, nat_tests) in
      sym (ap (λ n. cond (nat_lt n (length xs)) (Some n) None) at ∙ ap (λ w. cond w (Some b) None) yes)

  -- one more was looked at
  newest : (i k : ℕ) → k < i + 1 → (k < i) ⊎ (k ≡ i)
  newest i k lt = grind arith

  at_newest : (xs : List X) (i : ℕ) (c : X) → slice_get xs i ≡ Some c → (Q : X → Type 0) → Q c → (k : ℕ) (d : X) → k ≡ i → Q (get_or xs k d)
  at_newest xs i c at Q q k d is = subst Q (sym (ap (λ n. get_or xs n d) is ∙ get_or_from_slice_get xs i c d at)) q

  -- a test of those before and of this one is one of all
  with_newest : (xs : List X) (i : ℕ) (c : X) → slice_get xs i ≡ Some c → (Q : X → Type 0) → ((k : ℕ) (d : X) → k < i → Q (get_or xs k d)) → Q c → (k : ℕ) (d : X) → k < i + 1 → Q (get_or xs k d)
  with_newest xs i c at Q before q k d lt = by (newest i k lt)
    where
      by : (k < i) ⊎ (k ≡ i) → Q (get_or xs k d)
      by (inl less) = before k d less
      by (inr is) = at_newest xs i c at Q q k d is

  earliest_kept : (xs : List X) (i : ℕ) (found : Option (ℕ × ℕ)) (c : X) → slice_get xs i ≡ Some c → Earliest xs i found → (p c && option_map_or (λ b. nat_lt (f c) b.1) found true) ≡ false → Earliest xs (i + 1) found
  earliest_kept xs i None c at before not_new = with_newest xs i c at (λ e. p e ≡ false) before (and_true (p c) not_new)
    where
      and_true : (v : Bool) → (v && true) ≡ false → v ≡ false
      and_true true e = e
      and_true false e = refl
  earliest_kept xs i (Some (b, h)) c at before not_new = record {
    within = omega (arith, before.within);
    passes = before.passes;
    its = before.its;
    first = before.first;
    least = with_newest xs i c at (λ e. p e ≡ true → h ≤ f e) before.least (λ passes. later (p c) not_new passes);
  }
    where
      later : (v : Bool) → (v && nat_lt (f c) h) ≡ false → v ≡ true → h ≤ f c
      later true e is = grind (arith, nat_tests)
      later false e is = absurd (true≢false (sym is))

  earliest_new : (xs : List X) (i : ℕ) (found : Option (ℕ × ℕ)) (c : X) → slice_get xs i ≡ Some c → Earliest xs i found → (p c && option_map_or (λ b. nat_lt (f c) b.1) found true) ≡ true → Earliest xs (i + 1) (Some (i, f c))
  earliest_new xs i found c at before is_new = record {
    within = omega arith;
    passes = λ d. at_newest xs i c at (λ e. p e ≡ true) (both (p c) (option_map_or (λ b. nat_lt (f c) b.1) found true) is_new).0 i d refl;
    its = λ d. at_newest xs i c at (λ e. f e ≡ f c) refl i d refl;
    first = older found before (both (p c) (option_map_or (λ b. nat_lt (f c) b.1) found true) is_new).1;
    least = with_newest xs i c at (λ e. p e ≡ true → f c ≤ f e)
        (λ k d lt passes. (let less = older found before (both (p c) (option_map_or (λ b. nat_lt (f c) b.1) found true) is_new).1 k d lt passes in omega (arith, less))) (λ _. omega arith);
  }
    where
      both : (v w : Bool) → (v && w) ≡ true → (v ≡ true) × (w ≡ true)
      both true w e = (refl, e)
      both false w e = absurd (true≢false (sym e))

      older : (o : Option (ℕ × ℕ)) → Earliest xs i o → option_map_or (λ b. nat_lt (f c) b.1) o true ≡ true → (k : ℕ) (d : X) → k < i → p (get_or xs k d) ≡ true → f c < f (get_or xs k d)
      older None none less k d lt passes = absurd (true≢false (sym passes ∙ none k d lt))
      older (Some (b, h)) its less k d lt passes = let le = its.least k d lt passes in grind (arith, nat_tests)

  pub earliest_next : (xs : List X) (i : ℕ) (found : Option (ℕ × ℕ)) (c : X) → slice_get xs i ≡ Some c → Earliest xs i found
      → Earliest xs (i + 1) (cond (p c && option_map_or (λ b. nat_lt (f c) b.1) found true) (Some (i, f c)) found)
  earliest_next xs i found c at before = by (p c && option_map_or (λ b. nat_lt (f c) b.1) found true) refl
    where
      by : (v : Bool) → (p c && option_map_or (λ b. nat_lt (f c) b.1) found true) ≡ v → Earliest xs (i + 1) (cond v (Some (i, f c)) found)
      by true e = earliest_new xs i found c at before e
      by false e = earliest_kept xs i found c at before e

pub any_entry : Tuple × Conn
any_entry = (record { client = record { 0 = 0 }; client_port = 0; server = record { 0 = 0 }; server_port = 0 }, no_conn)

-- the same of a table, which told of one more
pub next_earliest : (p : ℕ → Bool) (cs : Conns) (i : ℕ) (found next : Option (ℕ × ℕ)) (peer : Peer) → Some peer ≡ option_map peer_of (slice_get cs i)
    → Earliest (λ (c : Tuple × Conn). p c.0.client.0) (λ (c : Tuple × Conn). c.1.heard) cs i found
    → next ≡ cond (p peer.address.0 && option_map_or (λ b. nat_lt peer.heard b.1) found true) (Some (i, peer.heard)) found
    → Earliest (λ (c : Tuple × Conn). p c.0.client.0) (λ (c : Tuple × Conn). c.1.heard) cs (i + 1) next
next_earliest p cs i found next peer told before is =
    let its = peer_entry cs i peer told in
    subst (λ (o : Option (ℕ × ℕ)). Earliest (λ (c : Tuple × Conn). p c.0.client.0) (λ (c : Tuple × Conn). c.1.heard) cs (i + 1) o)
    (ap (λ (q : Peer). cond (p q.address.0 && option_map_or (λ b. nat_lt q.heard b.1) found true) (Some (i, q.heard)) found) its.2 ∙ sym is)
    (earliest_next (λ (c : Tuple × Conn). p c.0.client.0) (λ (c : Tuple × Conn). c.1.heard) cs i found its.0 its.1 before)

-- the first of those that were silent the longest, of those that pass
abbrev pub place_by : (Tuple × Conn → Bool) → Conns → Option ℕ
place_by p cs = position (is_least_of p (λ (c : Tuple × Conn). c.1.heard) cs) cs
