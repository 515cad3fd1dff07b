-- Residents and squeues, made one after another.
use Rattle.std.proofs.Common.{◌≡◌, ℕ, zero, suc, ◌+◌, ◌*◌, ◌%◌, ◌^◌, ◌-◌, ◌<◌, ◌≤◌, Bool, true, false, Option, Some, None, List, [], ◌∷◌, ◌++◌, Vec, Global, is_some, if◌then◌else◌, length, length-append, append_assoc, replicate, reverse, slice_get, slice_index_or, refl, ap, sym, ◌∙◌, subst, arith}
use Rattle.std.specs.Prelude.{nat_lt, slice_index}
use Rattle.std.proofs.Math.Nat.{mod-eq_of_lt}
use Rattle.std.proofs.lemmas.Bool.Decides.{nat_tests}
use Rattle.std.proofs.lemmas.List.{get_or-replicate, length-map, length-replicate, reverse-append}
use Rattle.std.proofs.lemmas.Option.{slice_get_within}
use Rattle.histories.specs.Limits.{most_ever}
use Rattle.histories.specs.Quotas.{ask_quotas}
use Rattle.histories.proofs.ListPlaces.{get_front, some_at}
use Rattle.perimeter_core.specs.declared.entries.Act.{Act}
use Rattle.perimeter_core.specs.Blocks.{Blocks}
use Rattle.perimeter_core.specs.History.{Limits, Setting, feed_quotas, start}
use Rattle.perimeter_core.specs.Perimeter.{is_here}
use Rattle.placed_parts.specs.Standing.{all_new}
use Rattle.squeue_state.specs.Behind.{ever}
use Rattle.squeue_state.specs.declared.guarded.Life.{Life}
use Rattle.squeue_state.specs.Clauses.{IsMade, StandsEmpty}
use Rattle.squeue_state.specs.Naming.{Named, setting_of}
use Rattle.squeue_serve.proofs.Lent.{get_end}
use Rattle.squeue_rings.proofs.Tasked.{each_more}
use Rattle.shards.specs.declared.lanes.SqueueEnd.{SqueueEnd}
use Rattle.shards.specs.declared.shared.Shared.{Ghosts}
use Rattle.shards.specs.declared.shard.Shard.{Shard}
use Rattle.shards.specs.Numbering.{ring_limits}
use Rattle.shards.specs.Sharing.{StandsFor, first_ends, limits_for, rings_of, shared_of}
use Rattle.shard_rings.specs.Jobs.{AllServe}
use Rattle.shard_rings.specs.Making.{AreEnds, AreMadeOf, AreShards, IsMadeOf, IsShardOf, life, setting_for}
use Rattle.shard_rings.proofs.Finishing.{behind}

is_some_of : {A : Type 0} {x y : A} → Some x ≡ Some y → x ≡ y
is_some_of is = cc is

module _ {X H T O : Type 0} {G : Ghosts X T O} (all_shared : List X) (all_ends : List (Vec (SqueueEnd T) Global)) where
  -- these are left, and of those behind them the residents are made
  pub record Residing (shared : List X) (ends : List (Vec (SqueueEnd T) Global)) (residents : List (Shard X H T O G)) : Type 0 where
    pub pairs : length ends ≡ length shared
    pub count : length residents + length shared ≡ length all_shared
    pub firsts : (q : ℕ) → q < length shared → slice_get shared q ≡ slice_get all_shared q
    pub first_ends : (q : ℕ) → q < length shared → slice_get ends q ≡ slice_get all_ends q
    pub each : (i : ℕ) (r : Shard X H T O G) → slice_get residents i ≡ Some r → (x : X) × (v : Vec (SqueueEnd T) Global)
        × (slice_get all_shared (length shared + i) ≡ Some x) × (slice_get all_ends (length shared + i) ≡ Some v) × IsShardOf x v r

  pub none_lives : (residents : List (Shard X H T O G)) → residents ≡ [] → length all_ends ≡ length all_shared → Residing all_shared all_ends residents
  none_lives residents none pairs =
      record {
        pairs = pairs;
        count = let z = ap length none in omega (arith, z);
        firsts = λ q lt. refl;
        first_ends = λ q lt. refl;
        each = λ i r at. cc (sym (ap (λ l. slice_get l i) none) ∙ at);
      }

  module _ (shared rest : List X) (ends ends_rest : List (Vec (SqueueEnd T) Global)) (x : X) (v : Vec (SqueueEnd T) Global) (residents : List (Shard X H T O G)) (split : shared ≡ rest ++ x ∷ []) (ends_split : ends ≡ ends_rest ++ v ∷ [])
      (so : Residing shared ends residents) where
    one_less : length shared ≡ length rest + 1
    one_less = ap length split ∙ length-append rest (x ∷ [])

    ends_less : length ends_rest ≡ length rest
    ends_less = let e = ap length ends_split ∙ length-append ends_rest (v ∷ []) in let p = so.pairs in omega (arith, e, p, one_less)

    pub shared_at : slice_get all_shared (length rest) ≡ Some x
    shared_at = sym (so.firsts (length rest) (omega (arith, one_less))) ∙ (ap (λ (l : List X). slice_get l (length rest)) split ∙ get_end rest [] x (length rest) refl)

    pub ends_at : slice_get all_ends (length rest) ≡ Some v
    ends_at = sym (so.first_ends (length rest) (omega (arith, one_less))) ∙ (ap (λ (l : List (Vec (SqueueEnd T) Global)). slice_get l (length rest)) ends_split ∙ get_end ends_rest [] v (length rest) (sym ends_less))

    pub one_lives : (r : Shard X H T O G) → IsShardOf x v r → Residing rest ends_rest (r ∷ residents)
    one_lives r is =
        record {
          pairs = ends_less;
          count = let c = so.count in omega (arith, c, one_less);
          firsts = λ q lt.
              (let at = some_at rest q lt in
              at.1 ∙ (sym (ap (λ (l : List X). slice_get l q) split ∙ get_front rest (x ∷ []) q at.0 at.1) ∙ so.firsts q (omega (arith, lt, one_less))));
          first_ends = λ q lt.
              (let at = some_at ends_rest q (omega (arith, lt, ends_less)) in
              at.1 ∙ (sym (ap (λ (l : List (Vec (SqueueEnd T) Global)). slice_get l q) ends_split ∙ get_front ends_rest (v ∷ []) q at.0 at.1) ∙ so.first_ends q (omega (arith, lt, one_less))));
          each =
              behind
              (λ k u. (y : X) × (w : Vec (SqueueEnd T) Global) × (slice_get all_shared k ≡ Some y) × (slice_get all_ends k ≡ Some w) × IsShardOf y w u)
              (length shared) (length rest) r residents one_less (x, v, shared_at, ends_at, is) so.each;
        }

  pub all_live : (shared : List X) (ends : List (Vec (SqueueEnd T) Global)) (residents : List (Shard X H T O G)) → shared ≡ [] → Residing shared ends residents → AreShards all_shared all_ends residents
  all_live shared ends residents none so =
      record {
        count = let z = ap length none in let c = so.count in omega (arith, z, c);
        each = λ q r at.
            (let z = ap length none in
            let e : length shared + q ≡ q = omega (arith, z) in
            subst (λ (k : ℕ). (y : X) × (w : Vec (SqueueEnd T) Global) × (slice_get all_shared k ≡ Some y) × (slice_get all_ends k ≡ Some w) × IsShardOf y w r) e (so.each q r at));
      }

module _ {X H T O : Type 0} {G : Ghosts X T O} where
  -- a new resident for these
  pub is_shard_of : (x : X) (v : Vec (SqueueEnd T) Global) (r : Shard X H T O G) → StandsFor r (all_new (length v.items)) → limits_for r ≡ ring_limits (length v.items) → rings_of r ≡ length v.items → shared_of r ≡ x → first_ends r ≡ v
      → IsShardOf x v r
  is_shard_of x v r stands limits size shared first = record { stands = stands; limits = limits; size = size; origin = λ i. (G.origin (shared i), first i) }

  -- all stand for so many rings
  pub all_stand : (rings : ℕ) (shared : List X) (ends : List (Vec (SqueueEnd T) Global)) (residents : List (Shard X H T O G)) → AreEnds rings (length shared) ends → AreShards shared ends residents → (k : ℕ) (r : Shard X H T O G) → slice_get residents k ≡ Some r
      → StandsFor r (all_new rings) × (rings_of r ≡ rings) × (limits_for r ≡ ring_limits rings)
  all_stand rings shared ends residents are live k r at =
      let h = live.each k r at in
      let n = (are.each k h.1 h.3).0 in
      let is = h.4 in
      (subst (λ (n : ℕ). StandsFor r (all_new n)) n is.stands, is.size ∙ n, is.limits ∙ ap ring_limits n)

-- the sums of equal quotas
pub feeds_of : (n a b : ℕ) → feed_quotas (replicate n (a, b)) ≡ n * a
feeds_of zero a b = let z : 0 * a ≡ 0 = omega arith in sym z
feeds_of (suc n) a b = let r = feeds_of n a b in let e : suc n * a ≡ a + n * a = omega arith in ap (λ k. a + k) r ∙ sym e

pub asks_of : (n a b : ℕ) → ask_quotas (replicate n (a, b)) ≡ n * b
asks_of zero a b = let z : 0 * b ≡ 0 = omega arith in sym z
asks_of (suc n) a b = let r = asks_of n a b in let e : suc n * b ≡ b + n * b = omega arith in ap (λ k. b + k) r ∙ sym e

-- all connections are here at first
new_here : (n c : ℕ) → c < n → is_some (all_new n c) ≡ true
new_here n c lt = let t : nat_lt c n ≡ true = grind (arith, nat_tests) in rw t refl

pub stands_empty : (n : ℕ) (stands : (ℕ → Option (List Act)) → Type 0) → stands (all_new n) → StandsEmpty stands
stands_empty n stands h = (all_new n, h, λ c had. by (nat_lt c n) had)
  where
    by : (b : Bool) (had : List Act) → (if b then Some [] else None) ≡ Some had → had ≡ []
    by true had e = let same : [] ≡ had = cc e in sym same
    by false had e = cc e

all_true : (xs : List Bool) (n : ℕ) → length xs ≡ n → ((c : ℕ) → c < n → slice_index_or xs c false ≡ true) → xs ≡ replicate n true
all_true [] zero same each = refl
all_true [] (suc n) same each = absurd (omega (arith, same))
all_true (x ∷ xs) zero same each = absurd (omega (arith, same))
all_true (x ∷ xs) (suc n) same each =
    let first : x ≡ true = each 0 (omega arith) in
    let rest = all_true xs n (omega (arith, same)) (λ c lt. each (suc c) (omega (arith, lt))) in
    rw (first, rest) refl

module _ {R : Type 0} (stands_for : R → Blocks → Type 0) (size_of : R → ℕ) (limits_of : R → Limits) (rings : ℕ) where
  -- the squeue that was made of a resident for so many rings
  pub is_made_of : (q room : ℕ) (r : R) (quotas : List (ℕ × ℕ)) (s : Named R) → quotas ≡ replicate rings life → stands_for r (all_new rings) → size_of r ≡ rings → limits_of r ≡ ring_limits rings
      → IsMade stands_for size_of q rings quotas false room r s.given → IsMadeOf limits_of rings q r s
  is_made_of q room r quotas s are stands size limits made =
      record {
        number = made.its_number;
        first = made.its_first;
        setting = λ k. record { rings = made.its_rings k; quotas = (made.its_quotas ∙ are) k; starts = started k; limits = (ap limits_of made.its_first ∙ limits) k };
      }
    where
      started : s.given.starts ≡ replicate rings true
      started = all_true s.given.starts rings (made.its_conns ∙ size) (λ c lt. made.its_blocks (all_new rings) c stands ∙ new_here rings c lt)

module _ {R : Type 0} (limits : R → Limits) (rings : ℕ) (residents : List R) where
  -- the squeues made so far, and the residents that are left
  pub record SoFar (left : List R) (ss : List (Named R)) : Type 0 where
    pub made : (k : ℕ) (s : Named R) → slice_get ss k ≡ Some s → (r : R) × (slice_get residents k ≡ Some r) × IsMadeOf limits rings k r s
    pub firsts : List R
    pub are : residents ≡ firsts ++ left
    pub count : length firsts ≡ length ss

  pub none_made : (ss : List (Named R)) → ss ≡ [] → SoFar residents ss
  none_made ss none = record { made = λ k s at. cc (sym (ap (λ (l : List (Named R)). slice_get l k) none) ∙ at); firsts = []; are = refl; count = sym (ap length none) }

  pub few_made : (left : List R) (ss : List (Named R)) → SoFar left ss → length ss + length left ≡ length residents
  few_made left ss so = let a = ap length so.are in let b = length-append so.firsts left in let c = so.count in omega (arith, a, b, c)

  pub resident_at : (left : List R) (r : R) (ss : List (Named R)) → SoFar (r ∷ left) ss → slice_get residents (length ss) ≡ Some r
  resident_at left r ss so = ap (λ (l : List R). slice_get l (length ss)) so.are ∙ get_end so.firsts left r (length ss) (sym so.count)

  pub one_made : (left : List R) (r : R) (ss : List (Named R)) (s : Named R) → SoFar (r ∷ left) ss → IsMadeOf limits rings (length ss) r s → SoFar left (ss ++ s ∷ [])
  one_made left r ss s so new =
      record {
        made = each_more (λ k t. (x : R) × (slice_get residents k ≡ Some x) × IsMadeOf limits rings k x t) ss s so.made (r, resident_at left r ss so, new);
        firsts = so.firsts ++ r ∷ [];
        are = so.are ∙ sym (append_assoc so.firsts (r ∷ []) left);
        count = let a = length-append so.firsts (r ∷ []) in let b = length-append ss (s ∷ []) in let c = so.count in omega (arith, a, b, c);
      }

  pub all_made : (left : List R) (ss : List (Named R)) → left ≡ [] → SoFar left ss → AreMadeOf limits rings residents ss
  all_made left ss none so = record { count = let n = few_made left ss so in let z = ap length none in omega (arith, n, z); each = so.made }

  -- each serves all rings
  pub all_serve : (ss : List (Named R)) → AreMadeOf limits rings residents ss → AllServe limits ss rings
  all_serve ss made q p s lt at =
      record {
        its_ring = let e = ap (λ (S : Setting). S.rings) set in sym (ap (λ n. p % n) e ∙ mod-eq_of_lt lt);
        no_worker = let e = ap (λ (S : Setting). length S.quotas) set in let n = length-replicate rings life in omega (arith, e, n, lt);
        range = let e = ap (λ (S : Setting). length S.starts) set in let n = length-replicate rings true in omega (arith, e, n, lt);
        begins = ap (λ (S : Setting). is_here (start S) p) set ∙ get_or-replicate rings p true false lt;
        numbers =
            let e = ap (λ (S : Setting). slice_index S.limits.feeds p) set ∙ get_or-replicate rings p (2 ^ 32 - 1) 0 lt in
            omega (arith, e);
        leaves =
            let e = ap (λ (S : Setting). slice_index S.limits.leaves p) set ∙ get_or-replicate rings p (2 ^ 52) 0 lt in
            omega (arith, e);
        feeds = let e = ap (λ (S : Setting). (slice_index_or S.quotas p (0, 0)).0) set ∙ ap (λ (l : ℕ × ℕ). l.0) (get_or-replicate rings p life (0, 0) lt) in omega (arith, e);
        asks = let e = ap (λ (S : Setting). (slice_index_or S.quotas p (0, 0)).1) set ∙ ap (λ (l : ℕ × ℕ). l.1) (get_or-replicate rings p life (0, 0) lt) in omega (arith, e);
      }
    where
      set : setting_of limits s.given ≡ setting_for rings
      set = (made.each q s at).2.setting

-- so many lives
pub lives_count : (lives : List Life) (n : ℕ) → ever lives ≡ replicate n life → length lives ≡ n
lives_count lives n are = sym (length-map lives (λ l. (l.feeds, l.asks))) ∙ (ap length are ∙ length-replicate n life)

pub few_feeds : (lives : List Life) (n : ℕ) → ever lives ≡ replicate n life → n ≤ 63 → feed_quotas (ever lives) ≤ most_ever
few_feeds lives n are few = let e = ap feed_quotas are ∙ feeds_of n (2 ^ 50) (2 ^ 52) in omega (arith, e, few)

pub few_asks : (lives : List Life) (n : ℕ) → ever lives ≡ replicate n life → n ≤ 63 → ask_quotas (ever lives) ≤ most_ever
few_asks lives n are few = let e = ap ask_quotas are ∙ asks_of n (2 ^ 50) (2 ^ 52) in omega (arith, e, few)

module _ {R : Type 0} (limits : R → Limits) (rings : ℕ) (all : List R) (now rest : List R) (r : R) (split : now ≡ rest ++ r ∷ []) (ss : List (Named R)) (so : SoFar limits rings all (reverse now) ss) where
  pub next : SoFar limits rings all (r ∷ reverse rest) ss
  next = subst (λ (l : List R). SoFar limits rings all l ss) (ap reverse split ∙ reverse-append rest (r ∷ [])) so

  pub next_at : slice_get all (length ss) ≡ Some r
  next_at = resident_at limits rings all (reverse rest) r ss next

  pub next_few : length ss < length all
  next_few = slice_get_within all (length ss) r next_at
