-- Stays and lives, from one moment of a table to the next.
use Rattle.std.proofs.Common.{◌≡◌, ℕ, zero, suc, ◌+◌, ◌==◌, Bool, true, false, cond, List, [], ◌∷◌, ◌++◌, map, slice_get, None, Some, refl, sym, ap, subst, ◌∙◌, append_assoc, append-nil, arith}
use Rattle.std.specs.List.{AllByRecursion, IsDistinct, count_by, flat_map, sum}
use Rattle.std.specs.List.Sorted.{IsPermutation}
use Rattle.std.specs.Map.{keys_of}
use Rattle.std.specs.Option.{option_map_or}
use Rattle.std.proofs.lemmas.List.Sums.{sum_by-append}
use Rattle.std.proofs.lemmas.Map.Keys.{IsDistinct-head, IsDistinct-tail}
use Rattle.indexmap.specs.IndexMap.{set_value_at}
use Rattle.turn_gate.specs.History.{Begins}
use Rattle.turn_gate.specs.Passes.{number, seen}
use Rattle.turn_gate.specs.declared.pass.Pass.{Pass}
use Rattle.live_server.proofs.TableLemmas.{tuple_equivalence}
use Rattle.std.proofs.lemmas.List.Sorted.{All-permutation, IsPermutation-append_left, IsPermutation-cons, IsPermutation-map, IsPermutation-refl, IsPermutation-sym, IsPermutation-trans}
use Rattle.std.proofs.lemmas.List.Elements.{All-from_recursion, recursion_from_All}
use Rattle.sq_base.specs.declared.kinds.Tuple.{Tuple}
use Rattle.perimeter_core.specs.declared.marks.SynchAct.TheVariants as Done
use Rattle.perimeter_core.specs.Deeds.{acts, fed}
use Rattle.perimeter_core.specs.History.{Element, Limits, Setting}
use Rattle.histories.specs.Elements.{left_by_pass}
use Rattle.squeue_state.specs.Naming.{Named, setting_of}
use Rattle.conn_migrate.specs.Moving.{Moved}
use Rattle.live_server.specs.Table.{tuple_eq}
use Rattle.live_server.specs.Told.{Told}
use Rattle.live_server.specs.Told.Told.{begins, hears}
use Rattle.live_chats.specs.Accounts.{Accounts, HasEndedStay, IsAway, WereTold, in_the_end}
use Rattle.live_chats.specs.Lived.{AreMadeOf, heard_with, lives, lives_with, stay_of, stays_behind, stays_by}

-- ---- histories
module _ (S : Setting) (p : ℕ) where
  pub stays_append : (past xs ys : List Element) → stays_behind S p past (xs ++ ys) ≡ stays_behind S p past xs ++ stays_behind S p (past ++ xs) ys
  stays_append past [] ys = ap (λ (l : List Element). stays_behind S p l ys) (sym (append-nil past))
  stays_append past (x ∷ xs) ys =
      let here : List Element = past ++ x ∷ [] in
      ap (λ (l : List ℕ). stay_of S p past x ++ l)
      (stays_append here xs ys ∙ ap (λ (l : List Element). stays_behind S p here xs ++ stays_behind S p l ys) (append_assoc past (x ∷ []) xs))
      ∙ sym (append_assoc (stay_of S p past x) (stays_behind S p here xs) (stays_behind S p (past ++ x ∷ xs) ys))

-- ---- numbers that are made of stays
abbrev pub times : ℕ → List ℕ → ℕ
times n xs = count_by (λ m. m == n) xs

pub times_append : (n : ℕ) (xs ys : List ℕ) → times n (xs ++ ys) ≡ times n xs + times n ys
times_append n xs ys = sum_by-append (λ (m : ℕ). cond (m == n) 1 0) xs ys

-- other stays don't matter
pub more_stays : (before stays numbers : List ℕ) → AreMadeOf stays numbers → AreMadeOf (before ++ stays) numbers
more_stays before stays numbers made = record {
  groups = made.groups;
  sums = made.sums;
  fits = λ n. let fits = made.fits n in let all = times_append n before stays in omega (arith, fits, all);
}

-- the order of numbers doesn't
pub in_other_order : (stays xs ys : List ℕ) → IsPermutation xs ys → AreMadeOf stays xs → AreMadeOf stays ys
in_other_order stays xs ys moved made = record {
  groups = made.groups;
  sums = IsPermutation-trans (map sum made.groups) xs ys made.sums moved;
  fits = made.fits;
}

-- one stay more makes one number more
pub one_stay : (before stays numbers : List ℕ) (n : ℕ) → AreMadeOf stays numbers → AreMadeOf ((before ++ n ∷ []) ++ stays) (n ∷ numbers)
one_stay before stays numbers n made =
    let its : sum (n ∷ []) ≡ n = omega arith in
    let sums : IsPermutation (sum (n ∷ []) ∷ map sum made.groups) (n ∷ numbers) =
    subst (λ (m : ℕ). IsPermutation (m ∷ map sum made.groups) (n ∷ numbers)) (sym its) (IsPermutation-cons n (map sum made.groups) numbers made.sums) in
    record {
      groups = (n ∷ []) ∷ made.groups;
      sums = sums;
      fits = λ m.
          let fits = made.fits m in
          let all = times_append m (before ++ n ∷ []) stays in
          let first = times_append m before (n ∷ []) in
          let rest = times_append m (n ∷ []) (flat_map (λ (g : List ℕ). g) made.groups) in
          omega (arith, fits, all, first, rest);
    }

pub none_made : (stays : List ℕ) → AreMadeOf stays []
none_made stays = record { groups = []; sums = IsPermutation-refl []; fits = λ n. omega arith }

-- ---- who is there
module _ {X : Type 0} where
  pub every_from_each : (P : X → Type 0) (xs : List X) → ((k : ℕ) (x : X) → slice_get xs k ≡ Some x → P x) → AllByRecursion P xs
  every_from_each P [] h = tt
  every_from_each P (x ∷ xs) h = (h 0 x refl, every_from_each P xs (λ k y at. h (suc k) y at))

  every_first : (P : X → Type 0) (xs ys : List X) → AllByRecursion P (xs ++ ys) → AllByRecursion P xs
  every_first P [] ys h = tt
  every_first P (x ∷ xs) ys h = (h.0, every_first P xs ys h.1)

  every_both : (P : X → Type 0) (xs ys : List X) → AllByRecursion P xs → AllByRecursion P ys → AllByRecursion P (xs ++ ys)
  every_both P [] ys h k = k
  every_both P (x ∷ xs) ys h k = (h.0, every_both P xs ys h.1 k)

-- who isn't there hears what comes alone
module _ (f g : Tuple → ℕ) where
  ends_agree : (accounts : Accounts) → AllByRecursion (λ (x : Tuple × ℕ). f x.0 ≡ g x.0) accounts → in_the_end f accounts ≡ in_the_end g accounts
  ends_agree [] h = refl
  ends_agree (x ∷ xs) h = λ j. (x.1 + h.0 j) ∷ ends_agree xs h.1 j

-- another one's ends
module _ (more : Tuple → ℕ) (t u : Tuple) (other : tuple_eq u t ≡ false) where
  unheard : more u ≡ heard_with more (hears t ∷ []) u
  unheard = ap (λ (b : Bool). cond b (1 + more u) (more u)) (sym other)

  unbegun : more u ≡ heard_with more (begins t ∷ []) u
  unbegun = ap (λ (b : Bool). cond b 0 (more u)) (sym other)

abbrev pub IsOther : Tuple → Tuple × ℕ → Type 0
IsOther u x = tuple_eq u x.0 ≡ false

turned : (t u : Tuple) → tuple_eq t u ≡ false → tuple_eq u t ≡ false
turned t u e = tuple_equivalence.symm u t ∙ e

keys_others : (t : Tuple) (xs : Accounts) → AllByRecursion (λ (k : Tuple). tuple_eq t k ≡ false) (keys_of xs) → AllByRecursion (λ (x : Tuple × ℕ). tuple_eq x.0 t ≡ false) xs
keys_others t [] h = tt
keys_others t (x ∷ xs) h = (turned t x.0 h.0, keys_others t xs h.1)

-- what is so of each is so of one that is there
key_there : (P : Tuple → Type 0) (xs : Accounts) (i : ℕ) (y : Tuple × ℕ) → slice_get xs i ≡ Some y → AllByRecursion (λ (x : Tuple × ℕ). P x.0) xs → P y.0
key_there P [] i y at h = absurd (nobody at)
  where
    nobody : slice_get [] i ≡ Some y → ⊥
    nobody e = cc
key_there P (x ∷ xs) zero y at h = let same : x ≡ y = cc in subst (λ (z : Tuple × ℕ). P z.0) same h.0
key_there P (x ∷ xs) (suc i) y at h = key_there P xs i y at h.1

keys_each : (P : Tuple → Type 0) (xs : Accounts) → AllByRecursion P (keys_of xs) → AllByRecursion (λ (x : Tuple × ℕ). P x.0) xs
keys_each P [] h = tt
keys_each P (x ∷ xs) h = (h.0, keys_each P xs h.1)

-- a frame more, for one of them
module _ (more : Tuple → ℕ) (t : Tuple) (n : ℕ) where
  counted : (was : Accounts) (i : ℕ) → slice_get was i ≡ Some (t, n) → IsDistinct tuple_eq (keys_of was)
      → in_the_end more (set_value_at was i (n + 1)) ≡ in_the_end (heard_with more (hears t ∷ [])) was
  counted [] i at distinct = refl
  counted (x ∷ xs) zero at distinct =
      let same : x ≡ (t, n) = cc in
      let others : AllByRecursion (λ (y : Tuple × ℕ). tuple_eq y.0 x.0 ≡ false) xs = keys_others x.0 xs (IsDistinct-head tuple_eq x.0 (keys_of xs) distinct) in
      let its : heard_with more (hears t ∷ []) x.0 ≡ 1 + more x.0 = ap (λ (b : Bool). cond b (1 + more x.0) (more x.0)) (ap (λ (y : Tuple × ℕ). tuple_eq y.0 t) same ∙ tuple_equivalence.refl t) in
      let value : x.1 ≡ n = ap (λ (y : Tuple × ℕ). y.1) same in
      let first : (n + 1) + more x.0 ≡ x.1 + heard_with more (hears t ∷ []) x.0 = omega (arith, its, value) in
      λ j. first j ∷ ends_agree more (heard_with more (hears t ∷ [])) xs (every_so xs others) j
    where
      every_so : (ys : Accounts) → AllByRecursion (λ (y : Tuple × ℕ). tuple_eq y.0 x.0 ≡ false) ys → AllByRecursion (λ (y : Tuple × ℕ). more y.0 ≡ heard_with more (hears t ∷ []) y.0) ys
      every_so [] h = tt
      every_so (y ∷ ys) h =
          let same : x ≡ (t, n) = cc in
          (unheard more t y.0 (subst (λ (z : Tuple × ℕ). tuple_eq y.0 z.0 ≡ false) same h.0), every_so ys h.1)
  counted (x ∷ xs) (suc i) at distinct =
      let others = keys_each (λ (k : Tuple). tuple_eq x.0 k ≡ false) xs (IsDistinct-head tuple_eq x.0 (keys_of xs) distinct) in
      let other : tuple_eq x.0 t ≡ false = key_there (λ (k : Tuple). tuple_eq x.0 k ≡ false) xs i (t, n) at others in
      λ j. (x.1 + unheard more t x.0 other j) ∷ counted xs i at (IsDistinct-tail tuple_eq x.0 (keys_of xs) distinct) j

away_set : (u : Tuple) (was : Accounts) (i w : ℕ) → IsAway u was → IsAway u (set_value_at was i w)
away_set u [] i w h = tt
away_set u (x ∷ xs) zero w h = (h.0, h.1)
away_set u (x ∷ xs) (suc i) w h = (h.0, away_set u xs i w h.1)

ends_append : (more : Tuple → ℕ) (xs ys : Accounts) → in_the_end more (xs ++ ys) ≡ in_the_end more xs ++ in_the_end more ys
ends_append more [] ys = refl
ends_append more (x ∷ xs) ys = ap (λ (l : List ℕ). (x.1 + more x.0) ∷ l) (ends_append more xs ys)

-- one begins behind the others
begun_ends : (more : Tuple → ℕ) (t : Tuple) (was : Accounts) → IsAway t was → in_the_end more was ≡ in_the_end (heard_with more (begins t ∷ [])) was
begun_ends more t was away = ends_agree more (heard_with more (begins t ∷ [])) was (every_so was away)
  where
    every_so : (ys : Accounts) → IsAway t ys → AllByRecursion (λ (y : Tuple × ℕ). more y.0 ≡ heard_with more (begins t ∷ []) y.0) ys
    every_so [] h = tt
    every_so (y ∷ ys) h = (unbegun more t y.0 (turned t y.0 h.0), every_so ys h.1)

-- ---- from one moment to the next
module _ (S : Setting) (p : ℕ) where
  -- the stays behind the first moment, where those between are given
  pub from_first : (past now grown rest : List Element) (between : List ℕ) → now ≡ past ++ grown → stays_behind S p past grown ≡ between
      → between ++ stays_behind S p now rest ≡ stays_behind S p past (grown ++ rest)
  from_first past now grown rest between goes_on ended =
      (λ j. sym ended j ++ stays_behind S p (goes_on j) rest) ∙ sym (stays_append S p past grown rest)

  -- what is made of the stays behind the second moment is made of those behind the first
  grew : (past now rest : List Element) (numbers : List ℕ) (grows : Begins past now) → AreMadeOf (stays_behind S p now rest) numbers
      → AreMadeOf (stays_behind S p past (grows.0 ++ rest)) numbers
  grew past now rest numbers grows made =
      let between = stays_behind S p past grows.0 in
      subst (λ (l : List ℕ). AreMadeOf l numbers) (from_first past now grows.0 rest between grows.1 refl) (more_stays between (stays_behind S p now rest) numbers made)

  -- nothing was told, and the history may have grown
  pub nothing_told : (past now : List Element) (accounts : Accounts) → Begins past now → WereTold S p past now accounts accounts []
  nothing_told past now accounts grows = record {
    grown = grows.0;
    goes_on = grows.1;
    here = λ more h. h;
    lived = λ more rest others h made. grew past now rest (in_the_end more accounts ++ others) grows made;
  }

  -- one of them heard a frame
  pub frame_told : (past now : List Element) (was is : Accounts) (i n : ℕ) (t : Tuple) → slice_get was i ≡ Some (t, n) → IsDistinct tuple_eq (keys_of was)
      → is ≡ set_value_at was i (n + 1) → Begins past now → WereTold S p past now was is (hears t ∷ [])
  frame_told past now was is i n t at distinct written grows =
      let ends = λ (more : Tuple → ℕ). ap (in_the_end more) written ∙ counted more t n was i at distinct in
      record {
        grown = grows.0;
        goes_on = grows.1;
        here = λ more h u away.
            let other : tuple_eq u t ≡ false = key_there (λ (k : Tuple). tuple_eq u k ≡ false) was i (t, n) at away in
            sym (unheard more t u other) ∙ h u (subst (IsAway u) (sym written) (away_set u was i (n + 1) away));
        lived = λ more rest others h made.
            subst (λ (l : List ℕ). AreMadeOf (stays_behind S p past (grows.0 ++ rest)) (l ++ others)) (ends more) (grew past now rest (in_the_end more is ++ others) grows made);
      }

  -- a connection began behind the others
  pub one_begun : (past now : List Element) (was is : Accounts) (t : Tuple) → IsAway t was → is ≡ was ++ (t, 1) ∷ [] → Begins past now
      → WereTold S p past now was is (begins t ∷ [])
  one_begun past now was is t away pushed grows =
      record {
        grown = grows.0;
        goes_on = grows.1;
        here = λ more h u gone. by more u (tuple_eq u t) refl (λ other. h u (subst (IsAway u) (sym pushed) (every_both _ was ((t, 1) ∷ []) gone (other, tt))));
        lived = λ more rest others h made.
            let numbers : in_the_end more is ++ others ≡ in_the_end (heard_with more (begins t ∷ [])) was ++ (1 + more t) ∷ others =
            ap (λ (l : List ℕ). l ++ others) (ap (in_the_end more) pushed ∙ ends_append more was ((t, 1) ∷ []))
            ∙ append_assoc (in_the_end more was) ((1 + more t) ∷ []) others
            ∙ ap (λ (l : List ℕ). l ++ (1 + more t) ∷ others) (begun_ends more t was away) in
            subst (AreMadeOf (stays_behind S p past (grows.0 ++ rest))) numbers (grew past now rest (in_the_end more is ++ others) grows made);
      }
    where
      by : (more : Tuple → ℕ) (u : Tuple) (b : Bool) → tuple_eq u t ≡ b → (tuple_eq u t ≡ false → more u ≡ 0) → heard_with more (begins t ∷ []) u ≡ 0
      by more u true e h = ap (λ (b : Bool). cond b 0 (more u)) e
      by more u false e h = sym (unbegun more t u e) ∙ h e

  -- one of them left, and its stay ended
  pub one_left : (past now : List Element) (was is : Accounts) (t : Tuple) (n : ℕ) → IsPermutation was ((t, n) ∷ is) → IsAway t is → HasEndedStay S p past now n
      → WereTold S p past now was is []
  one_left past now was is t n moved away ended = record {
    grown = ended.grown;
    goes_on = ended.goes_on;
    here = λ more h u gone. h u ((recursion_from_All (IsOther u) ((t, n) ∷ is) (All-permutation (IsOther u) was ((t, n) ∷ is) moved (All-from_recursion (IsOther u) was gone))).1);
    lived = λ more rest others h made.
        let its : n + more t ≡ n = let none = h t away in omega (arith, none) in
        let back : IsPermutation ((t, n) ∷ is) was = IsPermutation-sym was ((t, n) ∷ is) moved in
        let all : IsPermutation (n ∷ in_the_end more is) (in_the_end more was) = subst (λ (m : ℕ). IsPermutation (m ∷ in_the_end more is) (in_the_end more was)) its
        (IsPermutation-map (λ (x : Tuple × ℕ). x.1 + more x.0) ((t, n) ∷ is) was back) in
        let one = one_stay ended.before (stays_behind S p now rest) (in_the_end more is ++ others) n made in
        let numbers = in_other_order _ _ (in_the_end more was ++ others) (IsPermutation-append_left others (n ∷ in_the_end more is) (in_the_end more was) all) one in
        subst (λ (l : List ℕ). AreMadeOf l (in_the_end more was ++ others)) (from_first past now ended.grown rest (ended.before ++ n ∷ []) ended.goes_on ended.ended) numbers;
  }

  -- where nobody was there at first, and nobody is at last, each life is made of stays, however the history goes on
  pub all_lived : (past now rest : List Element) (ws : List Told) → WereTold S p past now [] [] ws → AreMadeOf (stays_by S p (now ++ rest)) (lives ws)
  all_lived past now rest ws told =
      let made = told.lived (λ t. 0) rest [] (λ t away. refl) (none_made (stays_behind S p now rest)) in
      let numbers : lives ws ++ [] ≡ lives ws = append-nil (lives ws) in
      let whole : stays_by S p past ++ stays_behind S p past (told.grown ++ rest) ≡ stays_by S p (now ++ rest) =
      sym (stays_append S p [] past (told.grown ++ rest)) ∙ ap (stays_by S p) (sym (append_assoc past told.grown rest) ∙ ap (λ (l : List Element). l ++ rest) (sym told.goes_on)) in
      subst (λ (l : List ℕ). AreMadeOf l (lives ws)) whole
      (more_stays (stays_by S p past) (stays_behind S p past (told.grown ++ rest)) (lives ws) (subst (AreMadeOf (stays_behind S p past (told.grown ++ rest))) numbers made))

-- ---- what a pass did
pub begins_on : (xs ys zs : List Element) → Begins xs ys → Begins ys zs → Begins xs zs
begins_on xs ys zs a b = (a.0 ++ b.0, b.1 ∙ ap (λ (l : List Element). l ++ b.0) a.1 ∙ append_assoc xs a.0 b.0)

pub begins_itself : (xs : List Element) → Begins xs xs
begins_itself xs = ([], sym (append-nil xs))

same_number : (n : ℕ) → (n == n) ≡ true
same_number n = grind arith

-- a pass that took a part out ended its stay
module _ {R : Type 0} (limits : R → Limits) (s : Named R) (p q : Pass Element) (c n : ℕ) (moved : Moved limits s (Done.Out c) [] p q) where
  pub out_ends : fed (acts (setting_of limits s.given) (seen q) c) ≡ n → HasEndedStay (setting_of limits s.given) (number p) (seen p) (seen q) n
  out_ends feeds =
      let S : Setting = setting_of limits s.given in
      let e : Element = left_by_pass (number p) 0 (Done.Out c) [] in
      let came = begins_on (seen p) (seen moved.owner) moved.left.found moved.came.goes_on.grows moved.left.goes_on in
      let all : seen q ≡ (seen p ++ came.0) ++ e ∷ [] = moved.left.now_seen ∙ ap (λ (l : List Element). l ++ e ∷ []) came.1 in
      let last : stay_of S (number p) (seen p ++ came.0) e ≡ n ∷ [] =
      ap (λ (b : Bool). option_map_or (λ (d : ℕ). fed (acts S ((seen p ++ came.0) ++ e ∷ []) d) ∷ []) (cond b (Some c) None) []) (same_number (number p))
      ∙ ap (λ (l : List Element). fed (acts S l c) ∷ []) (sym all) ∙ ap (λ (m : ℕ). m ∷ []) feeds in
      record {
        grown = came.0 ++ e ∷ [];
        goes_on = all ∙ append_assoc (seen p) came.0 (e ∷ []);
        before = stays_behind S (number p) (seen p) came.0;
        ended = stays_append S (number p) (seen p) came.0 (e ∷ [])
            ∙ ap (λ (l : List ℕ). stays_behind S (number p) (seen p) came.0 ++ l) (append-nil (stay_of S (number p) (seen p ++ came.0) e) ∙ last);
      }

-- each of them heard a frame
abbrev pub one_more_each : Accounts → Accounts
one_more_each accounts = map (λ x. (x.0, x.1 + 1)) accounts

all_unheard : (more : Tuple → ℕ) (ks : List Tuple) (t : Tuple) → AllByRecursion (λ (k : Tuple). tuple_eq t k ≡ false) ks → heard_with more (map hears ks) t ≡ more t
all_unheard more [] t h = refl
all_unheard more (k ∷ ks) t h = ap (λ (b : Bool). cond b (1 + heard_with more (map hears ks) t) (heard_with more (map hears ks) t)) h.0 ∙ all_unheard more ks t h.1

keys_away : (t : Tuple) (xs : Accounts) → IsAway t xs → AllByRecursion (λ (k : Tuple). tuple_eq t k ≡ false) (keys_of xs)
keys_away t [] h = tt
keys_away t (x ∷ xs) h = (h.0, keys_away t xs h.1)

each_away : (t : Tuple) (xs : Accounts) → IsAway t xs → IsAway t (one_more_each xs)
each_away t [] h = tt
each_away t (x ∷ xs) h = (h.0, each_away t xs h.1)

each_key : (xs : Accounts) → keys_of (one_more_each xs) ≡ keys_of xs
each_key [] = refl
each_key (x ∷ xs) = ap (λ (ks : List Tuple). x.0 ∷ ks) (each_key xs)

no_lives : (more : Tuple → ℕ) (ks : List Tuple) → lives_with more (map hears ks) ≡ []
no_lives more [] = refl
no_lives more (k ∷ ks) = no_lives more ks

all_counted : (more : Tuple → ℕ) (was : Accounts) → IsDistinct tuple_eq (keys_of was) → in_the_end more (one_more_each was) ≡ in_the_end (heard_with more (map hears (keys_of was))) was
all_counted more [] distinct = refl
all_counted more (x ∷ xs) distinct =
    let ks = keys_of xs in
    let apart = IsDistinct-head tuple_eq x.0 ks distinct in
    let its : heard_with more (hears x.0 ∷ map hears ks) x.0 ≡ 1 + more x.0 =
    ap (λ (b : Bool). cond b (1 + heard_with more (map hears ks) x.0) (heard_with more (map hears ks) x.0)) (tuple_equivalence.refl x.0) ∙ ap (λ (n : ℕ). 1 + n) (all_unheard more ks x.0 apart) in
    let first : (x.1 + 1) + more x.0 ≡ x.1 + heard_with more (hears x.0 ∷ map hears ks) x.0 = omega (arith, its) in
    λ j. first j ∷ (all_counted more xs (IsDistinct-tail tuple_eq x.0 ks distinct)
    ∙ ends_agree (heard_with more (map hears ks)) (heard_with more (hears x.0 ∷ map hears ks)) xs (every_so ks xs (keys_others x.0 xs apart))) j
  where
    every_so : (ks : List Tuple) (ys : Accounts) → AllByRecursion (λ (y : Tuple × ℕ). tuple_eq y.0 x.0 ≡ false) ys
        → AllByRecursion (λ (y : Tuple × ℕ). heard_with more (map hears ks) y.0 ≡ heard_with more (hears x.0 ∷ map hears ks) y.0) ys
    every_so ks [] h = tt
    every_so ks (y ∷ ys) h =
        (ap (λ (b : Bool). cond b (1 + heard_with more (map hears ks) y.0) (heard_with more (map hears ks) y.0)) (sym h.0), every_so ks ys h.1)

module _ (S : Setting) (p : ℕ) where
  pub each_heard : (past now : List Element) (was is : Accounts) → IsDistinct tuple_eq (keys_of was) → is ≡ one_more_each was → Begins past now
      → WereTold S p past now was is (map hears (keys_of was))
  each_heard past now was is distinct each grows =
      let ws = map hears (keys_of was) in
      record {
        grown = grows.0;
        goes_on = grows.1;
        here = λ more h u away. all_unheard more (keys_of was) u (keys_away u was away) ∙ h u (subst (IsAway u) (sym each) (each_away u was away));
        lived = λ more rest others h made.
            let ends = ap (in_the_end more) each ∙ all_counted more was distinct in
            let numbers : in_the_end more is ++ others ≡ in_the_end (heard_with more ws) was ++ (lives_with more ws ++ others) =
            ap (λ (l : List ℕ). l ++ others) ends ∙ ap (λ (l : List ℕ). in_the_end (heard_with more ws) was ++ (l ++ others)) (sym (no_lives more (keys_of was))) in
            subst (AreMadeOf (stays_behind S p past (grows.0 ++ rest))) numbers (grew S p past now rest (in_the_end more is ++ others) grows made);
      }
