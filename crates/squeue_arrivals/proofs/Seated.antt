-- What a squeue of places is made with.
use Rattle.std.proofs.Common.{◌≡◌, ℕ, zero, suc, ◌+◌, ◌*◌, ◌<◌, ◌≤◌, ◌⊎◌, inl, inr, Bool, true, false, nat_lt, if◌then◌else◌, Some, None, Result, Ok, Err, List, [], ◌∷◌, ◌++◌, drop, length, replicate, slice_get, slice_index, slice_index_or, refl, ap, sym, ◌∙◌, subst, arith, length-append, length-drop, Global}
use Rattle.std.specs.Prelude.{IfOk, is_some, reverse}
use Rattle.std.proofs.lemmas.List.{reverse-append}
use Rattle.std.proofs.lemmas.Option.{slice_get_within}
use Rattle.std.proofs.lemmas.Bool.Decides.{nat_tests}
use Rattle.rtrb.specs.declared.AnyItems.{AnyItems}
use Rattle.rtrb.specs.declared.consumer.Consumer.{Consumer}
use Rattle.rtrb.specs.declared.producer.Producer.{Producer}
use Rattle.rtrb.specs.Ring.{IsPair, known_free, received, sent}
use Rattle.perimeter_core.specs.declared.entries.Act.{Act}
use Rattle.perimeter_core.specs.Blocks.{Blocks, none_done}
use Rattle.perimeter_core.specs.History.{Limits, feed_quotas}
use Rattle.placed_parts.specs.declared.parts.Parts.{Ghosts}
use Rattle.placed_parts.specs.declared.places.Places.{Places}
use Rattle.placed_parts.specs.Standing.{PlaceAt, all_new}
use Rattle.placed_parts.specs.Placing.{MayBe, Stands}
use Rattle.squeue_state.specs.Naming.{Given}
use Rattle.squeue_state.specs.Clauses.{IsMade, StandsEmpty}
use Rattle.histories.specs.Quotas.{ask_quotas}
use Rattle.squeue_streams.specs.declared.streams.Stream.{Stream}
use Rattle.squeue_streams.specs.Taking.{count_of, input_of, most_feeds, most_leaves}
use Rattle.stream_stays.specs.declared.place.Place.{Place}
use Rattle.stream_stays.specs.declared.place.Place.TheVariants.{Vacant}
use Rattle.squeue_arrivals.specs.Seating.{AreNewPairs, IsNewPair, IsNewPlace, ServesPlaces, lives_of, looker_life, one_life}

pub long : {A : Type 0} (n : ℕ) (x : A) → length (replicate n x) ≡ n
long zero x = refl
long (suc n) x = omega (arith, long n x)

index_is : (n c m : ℕ) → c < n → slice_index (replicate n m) c ≡ m
index_is zero c m lt = absurd (omega (arith, lt))
index_is (suc n) zero m lt = refl
index_is (suc n) (suc c) m lt = index_is n c m (omega (arith, lt))

pub front_is : {A : Type 0} (n r : ℕ) (x : A) (ys : List A) (d : A) → r < n → slice_index_or (replicate n x ++ ys) r d ≡ x
front_is zero r x ys d lt = absurd (omega (arith, lt))
front_is (suc n) zero x ys d lt = refl
front_is (suc n) (suc r) x ys d lt = front_is n r x ys d (omega (arith, lt))

one_is : {A : Type 0} (n r : ℕ) (x d : A) → r < n → slice_index_or (replicate n x) r d ≡ x
one_is zero r x d lt = absurd (omega (arith, lt))
one_is (suc n) zero x d lt = refl
one_is (suc n) (suc r) x d lt = one_is n r x d (omega (arith, lt))

-- behind so many there are so many others
pub behind_is : {A : Type 0} (n m r : ℕ) (x y d : A) → n ≤ r → r < n + m → slice_index_or (replicate n x ++ replicate m y) r d ≡ y
behind_is zero m r x y d le lt = one_is m r y d (omega (arith, lt))
behind_is (suc n) m zero x y d le lt = absurd (omega (arith, le))
behind_is (suc n) m (suc r) x y d le lt = behind_is n m r x y d (omega (arith, le)) (omega (arith, lt))

-- two facts of one answer
pub both_ok : {A E : Type 0} {P Q S : A → Type 0} (r : Result A E) → ((x : A) → P x → Q x → S x) → IfOk r P → IfOk r Q → IfOk r S
both_ok (Ok x) f p q = f x p q
both_ok (Err e) f p q = tt

-- blocks that are the same one by one
pub same_blocks : {S P O : Type 0} {G : Ghosts S P O} (r : Places S P O G) (a b : Blocks) → ((c : ℕ) → a c ≡ b c) → Stands r a → Stands r b
same_blocks r a b same is = λ c. subst (PlaceAt (MayBe r) c (slice_get r.places.items c)) (same c) (is c)

pub new_empty : {R : Type 0} (stands : R → Blocks → Type 0) (r : R) (n : ℕ) → stands r (all_new n) → StandsEmpty (stands r)
new_empty stands r n is = (all_new n, is, λ c had. none_yet (nat_lt c n) had)
  where
    none_yet : (b : Bool) (had : List Act) → (if b then Some [] else None) ≡ Some had → had ≡ []
    none_yet true had h = cc h
    none_yet false had h = cc h

-- none of so many is here
pub none_first : (n c : ℕ) → none_done (replicate n false) c ≡ all_new 0 c
none_first n c = go n c ∙ (let b : nat_lt c 0 ≡ false = grind (arith, nat_tests) in rw b refl)
  where
    go : (n c : ℕ) → none_done (replicate n false) c ≡ None
    go zero c = refl
    go (suc n) zero = refl
    go (suc n) (suc c) = go n c

-- so few feeds and asks have all lives together
lookers_feeds : (l : ℕ) → feed_quotas (replicate l looker_life) ≡ 0
lookers_feeds zero = refl
lookers_feeds (suc l) = omega (arith, lookers_feeds l)

lookers_asks : (l : ℕ) → ask_quotas (replicate l looker_life) ≡ l * looker_life.1
lookers_asks zero = refl
lookers_asks (suc l) = omega (arith, lookers_asks l)

pub lives_feeds : (n l : ℕ) → feed_quotas (lives_of n l) ≡ n * one_life.0
lives_feeds zero l = omega (arith, lookers_feeds l)
lives_feeds (suc n) l = omega (arith, lives_feeds n l)

pub lives_asks : (n l : ℕ) → ask_quotas (lives_of n l) ≡ n * one_life.1 + l * looker_life.1
lives_asks zero l = omega (arith, lookers_asks l)
lives_asks (suc n) l = omega (arith, lives_asks n l)

pub lives_long : (n l : ℕ) → length (lives_of n l) ≡ n + l
lives_long n l = omega (arith, length-append (replicate n one_life) (replicate l looker_life), long n one_life, long l looker_life)

-- a squeue of places where nobody is
pub serves : {R : Type 0} (stands : R → Blocks → Type 0) (size : R → ℕ) (limits : R → Limits) (number rings lookers room : ℕ) (quotas : List (ℕ × ℕ)) (first : R) (g : Given R) → IsMade stands size number rings quotas false room first g → 1 ≤ rings
    → quotas ≡ lives_of rings lookers → stands first (all_new 0) → (limits first).feeds ≡ replicate (size first) most_feeds → (limits first).leaves ≡ replicate (size first) most_leaves → ServesPlaces limits g rings (size first)
serves stands size limits number rings lookers room quotas first g m few are new feeds leaves =
    record {
      its_rings = m.its_rings;
      few = few;
      lookers = lookers;
      quotas = m.its_quotas ∙ are;
      conns = m.its_conns;
      away = λ c.
          let none : nat_lt c 0 ≡ false = grind (arith, nat_tests) in
          m.its_blocks (all_new 0) c new ∙ none_at (nat_lt c 0) none;
      feeds = λ c lt. let e = ap (λ x. slice_index (limits x).feeds c) m.its_first ∙ (ap (λ (xs : List ℕ). slice_index xs c) feeds ∙ index_is (size first) c most_feeds lt) in omega (arith, e);
      leaves = λ c lt. ap (λ x. slice_index (limits x).leaves c) m.its_first ∙ (ap (λ (xs : List ℕ). slice_index xs c) leaves ∙ index_is (size first) c most_leaves lt);
    }
  where
    none_at : (b : Bool) → b ≡ false → is_some {T = List Act} (if b then Some [] else None) ≡ false
    none_at true h = cc h
    none_at false h = refl

-- the next one is at the front of those that are left
next_left : {A : Type 0} (all : List A) (c : ℕ) (left : List A) (x : A) → x ∷ left ≡ drop c all → (slice_get all c ≡ Some x) × (left ≡ drop (c + 1) all)
next_left [] zero left x is = cc is
next_left [] (suc c) left x is = cc is
next_left {A = A} (y ∷ all) zero left x is = let same : x ≡ y = cc is in let rest : left ≡ all = cc is in (ap (λ (z : A). Some z) (sym same), rest)
next_left {A = A} (y ∷ all) (suc c) left x is =
    let r = next_left all c left x is in
    (r.0, r.1 ∙ ap (λ (n : ℕ). drop n (y ∷ all)) (let e : suc (c + 1) ≡ suc c + 1 = omega arith in e))

pub popped_next : {A : Type 0} (all : List A) (c : ℕ) (old new : List A) (x : A) → reverse old ≡ drop c all → old ≡ new ++ x ∷ [] → (slice_get all c ≡ Some x) × (reverse new ≡ drop (c + 1) all)
popped_next all c old new x left is = next_left all c (reverse new) x (sym (reverse-append new (x ∷ [])) ∙ (ap reverse (sym is) ∙ left))

-- and while there are more, there is one
pub some_left : {A : Type 0} (all : List A) (c : ℕ) (old : List A) → reverse old ≡ drop c all → old ≡ [] → c < length all → ⊥
some_left all c old left none lt = omega (arith, length-drop c all, ap length (sym left ∙ ap reverse none), lt)

-- what is found in a list with one more
pub get_more : {X : Type 0} (xs : List X) (x y : X) (c : ℕ) → slice_get (xs ++ x ∷ []) c ≡ Some y → (slice_get xs c ≡ Some y) ⊎ ((c ≡ length xs) × (x ≡ y))
get_more [] x y zero is = inr (refl, cc is)
get_more [] x y (suc c) is = cc is
get_more (z ∷ xs) x y zero is = inl is
get_more (z ∷ xs) x y (suc c) is = elim (get_more xs x y c is) [ inl a ↦ inl a | inr b ↦ inr (ap suc b.0, b.1) ]

module _ {T S : Type 0} where
  -- one pair more
  pub pairs_more : (n : ℕ) (ps : List (Producer T Global AnyItems)) (ss : List (Stream T S)) (p : Producer T Global AnyItems) (s : Stream T S)
      → AreNewPairs n ps ss → IsNewPair p s → AreNewPairs (n + 1) (ps ++ p ∷ []) (ss ++ s ∷ [])
  pairs_more n ps ss p s are new =
      record {
        many = (omega (arith, length-append ps (p ∷ []), are.many.0), omega (arith, length-append ss (s ∷ []), are.many.1));
        each = λ c q t at_p at_s. elim (get_more ps p q c at_p) [
          | inl there ↦ elim (get_more ss s t c at_s) [
            | inl too ↦ are.each c q t there too
            | inr last ↦ absurd (omega (arith, slice_get_within ps c q there, last.0, are.many.0, are.many.1))
          ]
          | inr last ↦ elim (get_more ss s t c at_s) [
            | inl too ↦ absurd (omega (arith, slice_get_within ss c t too, last.0, are.many.0, are.many.1))
            | inr both ↦ subst (λ (x : Producer T Global AnyItems). IsNewPair x t) last.1 (subst (λ (x : Stream T S). IsNewPair p x) both.1 new)
          ]
        ];
      }

  pub no_pairs : (ps : List (Producer T Global AnyItems)) (ss : List (Stream T S)) → ps ≡ [] → ss ≡ [] → AreNewPairs 0 ps ss
  no_pairs ps ss p s =
      record {
        many = (ap length p, ap length s);
        each = λ c q t at_p at_s. (let none : slice_get {X = Producer T Global AnyItems} [] c ≡ Some q = ap (λ (l : List (Producer T Global AnyItems)). slice_get l c) (sym p) ∙ at_p in absurd (nothing c q none));
      }
    where
      nothing : (c : ℕ) (q : Producer T Global AnyItems) → slice_get {X = Producer T Global AnyItems} [] c ≡ Some q → ⊥
      nothing c q is = cc is

  pub new_pair : (p : Producer T Global AnyItems) (input : Consumer T Global AnyItems) (s : Stream T S) → IsPair p input → sent p ≡ [] → 1 ≤ known_free p → received input ≡ [] → input_of s ≡ input → count_of s ≡ 0 → IsNewPair p s
  new_pair p input s pair unsent room none is count =
      record {
        pair = subst (λ (i : Consumer T Global AnyItems). IsPair p i) (sym is) pair;
        unsent = unsent;
        room = room;
        none = ap (λ (i : Consumer T Global AnyItems). received i) is ∙ none;
        uncounted = count;
      }

  module _ (ss : List (Stream T S)) where
    abbrev pub EachNew : List (Place T S) → Type 0
    EachNew places = (k : ℕ) (place : Place T S) → slice_get places k ≡ Some place → IsNewPlace ss k place

    pub none_new : (places : List (Place T S)) → places ≡ [] → EachNew places
    none_new places none = λ k place at. absurd (nothing k place (ap (λ (l : List (Place T S)). slice_get l k) (sym none) ∙ at))
      where
        nothing : (k : ℕ) (place : Place T S) → slice_get {X = Place T S} [] k ≡ Some place → ⊥
        nothing k place is = cc is

    -- one place more
    pub new_more : (c : ℕ) (places : List (Place T S)) (p : Producer T Global AnyItems) (s : Stream T S) → length places ≡ c → EachNew places → slice_get ss c ≡ Some s → IsNewPair p s
        → EachNew (places ++ Vacant (record { producer = p; part = s; stream = c; leaves = most_leaves }) ∷ [])
    new_more c places p s many each at_s pair = λ k place at. elim (get_more places (Vacant (record { producer = p; part = s; stream = c; leaves = most_leaves })) place k at) [
      | inl there ↦ each k place there
      | inr last ↦
          let here : c ≡ k = sym many ∙ sym last.0 in
          subst (λ (j : ℕ). IsNewPlace ss j place) here (record { producer = p; part = s; its_part = at_s; new = pair; place_is = sym last.1 })
    ]
