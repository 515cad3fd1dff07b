-- The residents of parts that are served by key.
use Rattle.std.proofs.Common.{◌≡◌, ℕ, ◌+◌, ◌%◌, ◌<◌, ◌≤◌, ◌==◌, ◌&&◌, zero, suc, Bool, true, false, Option, Some, Result, Ok, Err, List, [], ◌∷◌, ◌++◌, length, length-append, map, nat_lt, slice_get, slice_index, slice_index_or, refl, ap, sym, ◌∙◌, subst, arith}
use Rattle.std.specs.Prelude.{IfOk, IsSome}
use Rattle.std.specs.List.{range_with_len}
use Rattle.std.proofs.lemmas.List.FromFn.{length-map-range_with_len}
use Rattle.std.proofs.lemmas.Bool.Decides.{nat_tests}
use Rattle.std.proofs.lemmas.Option.{slice_get_within}
use Rattle.std.proofs.Math.Nat.{mod-lt}
use Rattle.perimeter_core.specs.declared.entries.Act.{Act}
use Rattle.perimeter_core.specs.Blocks.{Blocks, fresh, none_done}
use Rattle.placed_parts.specs.declared.parts.Parts.{Ghosts}
use Rattle.placed_parts.specs.declared.places.Places.{Places}
use Rattle.placed_parts.specs.Placing.{IsItsPart, MayBe, Stands, origin_of, shared_of, size_of}
use Rattle.placed_parts.specs.Standing.{HasFed, PlaceAt, PlacesStand, first_here}
use Rattle.histories.proofs.ListPlaces.{some_at}
use Rattle.squeue_rings.proofs.Slots.{got_at}
use Rattle.squeue_rings.proofs.Tasked.{each_more}
use Rattle.squeue_pool.specs.declared.pool.Pool.{Pool}
use Rattle.squeue_pool.specs.declared.work.Left.{Left}
use Rattle.squeue_pool.specs.Keys.{HadAll, HaveKeys, key_work}
use Rattle.squeue_pool.specs.Placed.{AreNew, HaveHad, IsNewAt, as_resident}
use Rattle.squeue_pool.specs.Runs.{HasRun}

-- the flags of the numbers below n
flag_is : (f : ℕ → Bool) (a n c : ℕ) → slice_index_or (map f (range_with_len a n)) c false ≡ (nat_lt c n && f (a + c))
flag_is f a zero c = let e : nat_lt c 0 ≡ false = grind (arith, nat_tests) in rw e refl
flag_is f a (suc n) zero = let e : nat_lt 0 (suc n) ≡ true = grind (arith, nat_tests) in let z : a ≡ a + 0 = omega arith in rw e (ap f z)
flag_is f a (suc n) (suc c) =
    let e : nat_lt (suc c) (suc n) ≡ nat_lt c n = grind (arith, nat_tests) in
    let z : (a + 1) + c ≡ a + suc c = omega arith in
    rw e (flag_is f (a + 1) n c ∙ ap (λ (k : ℕ). nat_lt c n && f k) z)

first_flags : (n q squeues c : ℕ) → none_done (map (λ c. c % squeues == q) (range_with_len 0 n)) c ≡ first_here n q squeues c
first_flags n q squeues c =
    let z : 0 + c ≡ c = omega arith in
    ap fresh (flag_is (λ c. c % squeues == q) 0 n c ∙ ap (λ (k : ℕ). nat_lt c n && (k % squeues == q)) z)

-- where those are here whose flag says that they are first at home at squeue q, just those are
pub stand_first : {P : Type 0} (At : ℕ → P → List Act → Type 0) (places : List (Option P)) (n q squeues : ℕ)
    → PlacesStand At places (none_done (map (λ c. c % squeues == q) (range_with_len 0 n))) → PlacesStand At places (first_here n q squeues)
stand_first At places n q squeues h c = subst (PlaceAt At c (slice_get places c)) (first_flags n q squeues c) (h c)

module _ {S P O : Type 0} {G : Ghosts S P O} (shared : S) (count squeues : ℕ) where
  -- a resident that was made with these flags
  pub new_at : {E : Type 0} (q : ℕ) (flags : List Bool) → flags ≡ map (λ c. c % squeues == q) (range_with_len 0 count) → (r : Result (Places S P O G) E)
      → IfOk r (λ x. Stands x (none_done flags)) → IfOk r (λ x. size_of x ≡ length flags) → IfOk r (λ x. shared_of x ≡ shared) → IfOk r (λ x. IsNewAt shared count squeues q x)
  new_at q flags are (Err e) stands size same = tt
  new_at q flags are (Ok x) stands size same =
      record {
        stands = stand_first (MayBe x) x.places.items count q squeues (subst (λ bs. PlacesStand (MayBe x) x.places.items (none_done bs)) are stands);
        size = size ∙ (ap length are ∙ length-map-range_with_len (λ c. c % squeues == q) 0 count);
        shared_is = same;
      }

  -- the residents that were made so far
  pub record SoFar (n : ℕ) (rs : List (Places S P O G)) : Type 0 where
    pub as_many : length rs ≡ n
    pub each : (q : ℕ) (r : Places S P O G) → slice_get rs q ≡ Some r → IsNewAt shared count squeues q r

  pub none_yet : (rs : List (Places S P O G)) → rs ≡ [] → SoFar 0 rs
  none_yet rs none = record { as_many = ap length none; each = λ q r is. cc (subst (λ (l : List (Places S P O G)). slice_get l q ≡ Some r) none is) }

  pub one_more : (n : ℕ) (rs new : List (Places S P O G)) (r : Places S P O G) → SoFar n rs → IsNewAt shared count squeues n r → new ≡ rs ++ r ∷ [] → SoFar (n + 1) new
  one_more n rs new r so is more =
      subst (SoFar (n + 1)) (sym more)
      (record {
        as_many = length-append rs (r ∷ []) ∙ omega (arith, so.as_many);
        each = each_more (IsNewAt shared count squeues) rs r so.each (subst (λ (k : ℕ). IsNewAt shared count squeues k r) (sym so.as_many) is);
      })

  pub all_new : (n : ℕ) (rs : List (Places S P O G)) → n ≡ squeues → SoFar n rs → AreNew shared count squeues rs
  all_new n rs all so = record { as_many = so.as_many ∙ all; each = so.each }

-- the same by other words for the numbers
pub new_by : {S P O : Type 0} {G : Ghosts S P O} (shared : S) (n m k l : ℕ) (rs : List (Places S P O G)) → n ≡ m → k ≡ l → AreNew shared n k rs → AreNew shared m l rs
new_by shared n m k l rs a b new = subst (λ (x : ℕ). AreNew shared m x rs) b (subst (λ (x : ℕ). AreNew shared x k rs) a new)

module _ {S P O : Type 0} (G : Ghosts S P O) (shared : S) (counts : List ℕ) (pool : Pool) (rs : List (Places S P O G)) (new : AreNew shared (length counts) pool.pace.homes.squeues rs) where
  same_origin_as : (q : ℕ) (r : Places S P O G) → slice_get rs q ≡ Some r → origin_of r ≡ G.origin shared
  same_origin_as q r at = ap G.origin (new.each q r at).shared_is

  -- new residents let each connection have its feeds
  pub new_have : (G.limits shared).feeds ≡ counts → HaveKeys (as_resident G) pool.pace.homes.squeues counts rs
  new_have feeds =
      record {
        residents_are = new.as_many;
        sizes = λ q r at. (new.each q r at).size;
        stand = λ q r at. (new.each q r at).stands;
        feeds = λ q r at. ap (λ (s : S). (G.limits s).feeds) (new.each q r at).shared_is ∙ feeds;
        same_origin = λ i j x y at too. same_origin_as i x at ∙ sym (same_origin_as j y too);
      }

  -- and so they have, when all is done
  module _ (vs : List (Left (Places S P O G))) (ran : HasRun (as_resident G) pool (key_work pool.pace.homes.squeues pool.rings counts rs) vs) (all : HadAll (as_resident G) pool.pace.homes.squeues counts vs) where
    first : (q : ℕ) (v : Left (Places S P O G)) → slice_get vs q ≡ Some v → (r : Places S P O G) × (slice_get rs q ≡ Some r)
    first q v at = some_at rs q (let m = slice_get_within vs q v at in omega (arith, m, ran.count, new.as_many))

    pub have_had : HaveHad shared counts vs
    have_had =
        record {
          origin = λ q v at. let r = first q v at in (ran.each q r.0 v r.1 at).origin ∙ same_origin_as q r.0 r.1;
          size = λ q v at. let r = first q v at in (ran.each q r.0 v r.1 at).size;
          had = λ c v lt at. all c v lt (subst (λ (n : ℕ). slice_get vs (c % n) ≡ Some v) ran.count at);
        }

-- what was read at a number, modulo as many as there are
pub read_at : {A : Type 0} (vs : List A) (n c : ℕ) (v : A) → n ≡ length vs → 1 ≤ length vs → v ≡ slice_index_or vs (c % n) v → slice_get vs (c % length vs) ≡ Some v
read_at vs n c v many some is =
    let one : 1 ≤ n = omega (arith, many, some) in
    let m = mod-lt c one in
    subst (λ (k : ℕ). slice_get vs (c % k) ≡ Some v) many (got_at vs (c % n) v (omega (arith, m, many)) is)

-- the part of a connection, after all its feeds
module _ {S P O : Type 0} {G : Ghosts S P O} (shared : S) (counts : List ℕ) (vs : List (Left (Places S P O G))) (had : HaveHad shared counts vs) (c : ℕ) (v : Left (Places S P O G)) (lt : c < length counts) (at : slice_get vs (c % length vs) ≡ Some v) where
  pub has_place : c < size_of v.resident
  has_place = let n = had.size (c % length vs) v at in omega (arith, n, lt)

  pub is_there : {X : Type 0} (o : Option X) → ((blocks : Blocks) (acts : List Act) → Stands v.resident blocks → blocks c ≡ Some acts → IsSome o) → IsSome o
  is_there o there = let h = had.had c v lt at in there h.blocks h.had h.stands h.here

  pub its_own : (part : P) → IsItsPart v.resident c part → G.is_part_of (G.origin shared) c part
  its_own part is = let h = had.had c v lt at in subst (λ (o : O). G.is_part_of o c part) (had.origin (c % length vs) v at) (is h.blocks h.had h.stands h.here).0

  pub its_feeds : (part : P) → IsItsPart v.resident c part → HasFed (G.part_stands part) (slice_index counts c)
  its_feeds part is = let h = had.had c v lt at in record { had = h.had; stands = (is h.blocks h.had h.stands h.here).1.1; feeds = h.feeds }
