-- What a squeue is that was made for a run.
use Rattle.std.proofs.Common.{◌≡◌, ℕ, ◌+◌, ◌%◌, ◌<◌, ◌==◌, suc, zero, Bool, false, Some, List, [], ◌∷◌, ◌++◌, length, length-append, append_assoc, map, slice_get, slice_index_or, refl, ap, sym, ◌∙◌, subst, arith}
use Rattle.std.specs.Prelude.{Vec}
use Rattle.std.specs.List.{range_with_len}
use Rattle.std.specs.declared.alloc.Global.{Global}
use Rattle.std.proofs.lemmas.List.{length-map}
use Rattle.std.proofs.lemmas.List.FromFn.{length-map-range_with_len}
use Rattle.perimeter_core.specs.declared.resident.Resident.{Ghosts}
use Rattle.placed_parts.specs.Standing.{first_here}
use Rattle.squeue_state.specs.AllRoom.{HasAllRoom}
use Rattle.histories.specs.declared.quota.Quota.{Quota}
use Rattle.histories.specs.Quotas.{pairs}
use Rattle.squeue_state.specs.Clauses.{IsMade, StandsEmpty}
use Rattle.squeue_state.specs.Naming.{Named}
use Rattle.perimeter_core.specs.History.{Setting}
use Rattle.squeue_serve.proofs.Lent.{get_end}
use Rattle.squeue_rings.proofs.Slots.{got_at}
use Rattle.histories.proofs.ListPlaces.{got_map}
use Rattle.squeue_rings.proofs.Starts.{first_flag, stands_empty}
use Rattle.squeue_rings.proofs.Tasked.{each_more}
use Rattle.squeue_rings.proofs.Works.{got_or}
use Rattle.squeue_pool.specs.declared.pool.Pool.{Pool}
use Rattle.squeue_pool.specs.Works.{AreFor, IsFor, SuitSqueues, SuitsSqueue}

pub number_at : {A : Type 0} (f : ℕ → A) (a n k : ℕ) (d : A) → k < n → slice_index_or (map f (range_with_len a n)) k d ≡ f (a + k)
number_at f a zero k d lt = absurd (omega (arith, lt))
number_at f a (suc n) zero d lt = let e : a ≡ a + 0 = omega arith in ap f e
number_at f a (suc n) (suc k) d lt = let e : (a + 1) + k ≡ a + suc k = omega arith in number_at f (a + 1) n k d (omega (arith, lt)) ∙ ap f e

-- flags that are the same one by one
same_flags : (xs ys : List Bool) → length xs ≡ length ys → ((k : ℕ) → k < length xs → slice_index_or xs k false ≡ slice_index_or ys k false) → xs ≡ ys
same_flags [] [] n h = refl
same_flags [] (y ∷ ys) n h = absurd (omega (arith, n))
same_flags (x ∷ xs) [] n h = absurd (omega (arith, n))
same_flags (x ∷ xs) (y ∷ ys) n h =
    let first : x ≡ y = h 0 (omega arith) in
    let rest : xs ≡ ys = same_flags xs ys (omega (arith, n)) (λ k lt. h (suc k) (omega (arith, lt))) in
    rw (first, rest) refl

module _ {R P O : Type 0} (G : Ghosts R P O) (pool : Pool) (residents : List R) (quotas : List (List (ℕ × ℕ))) where
  abbrev squeues : ℕ
  squeues = pool.pace.homes.squeues

  module _ (callers q room : ℕ) (first : R) (qs : List (ℕ × ℕ)) (s : Named R) (at : slice_get residents q ≡ Some first) (quotas_at : slice_get quotas q ≡ Some qs) (suits : SuitsSqueue G pool callers q first qs)
      (made : IsMade G.stands G.size q pool.rings qs pool.trace room first s.given) where
    starts_are : s.given.starts ≡ map (λ c. c % squeues == q) (range_with_len 0 (G.size first))
    starts_are =
        same_flags s.given.starts (map (λ c. c % squeues == q) (range_with_len 0 (G.size first))) (made.its_conns ∙ sym (length-map-range_with_len (λ c. c % squeues == q) 0 (G.size first)))
        (λ c lt.
        let below : c < G.size first = omega (arith, lt, made.its_conns) in
        let z : 0 + c ≡ c = omega arith in
        made.its_blocks (first_here (G.size first) q squeues) c suits.stands
        ∙ (first_flag (G.size first) q squeues c below ∙ sym (number_at (λ c. c % squeues == q) 0 (G.size first) c false below ∙ ap (λ (d : ℕ). d % squeues == q) z)))

    quotas_are : s.given.quotas ≡ slice_index_or quotas q []
    quotas_are = made.its_quotas ∙ sym (got_or quotas q qs [] quotas_at)

    pub is_for : HasAllRoom s.given → IsFor G pool residents quotas q s
    is_for room =
        let starts : s.given.starts ≡ map (λ c. c % squeues == q) (range_with_len 0 (G.size s.given.first)) = starts_are ∙ ap (λ (x : R). map (λ c. c % squeues == q) (range_with_len 0 (G.size x))) (sym made.its_first) in
        record {
          number = made.its_number;
          first = at ∙ ap Some (sym made.its_first);
          setting = λ k. record { rings = made.its_rings k; quotas = quotas_are k; starts = starts k; limits = G.limits s.given.first };
          traced = made.its_trace;
          room = room;
        }

  -- the squeues made so far, and the residents that are left
  pub record SoFar (left : List R) (ss : List (Named R)) : Type 0 where
    pub made : (k : ℕ) (s : Named R) → slice_get ss k ≡ Some s → IsFor G pool residents quotas k s
    pub firsts : List R
    pub are : residents ≡ firsts ++ left
    pub count : length firsts ≡ length ss

  pub none_made : (ss : List (Named R)) → ss ≡ [] → SoFar residents ss
  none_made ss none = record { made = λ k s is. cc (subst (λ (l : List (Named R)). slice_get l k ≡ Some s) none is); firsts = []; are = refl; count = sym (ap length none) }

  module _ (left : List R) (first : R) (ss : List (Named R)) (so : SoFar (first ∷ left) ss) where
    pub resident_at : slice_get residents (length ss) ≡ Some first
    resident_at = ap (λ (l : List R). slice_get l (length ss)) so.are ∙ get_end so.firsts left first (length ss) (sym so.count)

    pub all_count : length residents ≡ length ss + (1 + length left)
    all_count = let a = ap length so.are in let b = length-append so.firsts (first ∷ left) in let c = so.count in omega (arith, a, b, c)

    pub one_made : (s : Named R) → IsFor G pool residents quotas (length ss) s → SoFar left (ss ++ s ∷ [])
    one_made s new =
        record {
          made = each_more (IsFor G pool residents quotas) ss s so.made new;
          firsts = so.firsts ++ first ∷ [];
          are = so.are ∙ sym (append_assoc so.firsts (first ∷ []) left);
          count = let a = length-append so.firsts (first ∷ []) in let b = length-append ss (s ∷ []) in omega (arith, a, b, so.count);
        }

  pub few_made : (left : List R) (ss : List (Named R)) (callers : ℕ) → SuitSqueues G pool residents quotas callers → SoFar left ss → length ss + length left ≡ squeues
  few_made left ss callers suit so = let a = ap length so.are in let b = length-append so.firsts left in omega (arith, a, b, so.count, suit.residents_are)

  pub all_made : (left : List R) (ss : List (Named R)) (callers : ℕ) → SuitSqueues G pool residents quotas callers → left ≡ [] → SoFar left ss → AreFor G pool residents quotas ss
  all_made left ss callers suit none so = record { count = let n = few_made left ss callers suit so in let z = ap length none in omega (arith, n, z); each = so.made }

-- the next squeue can be made, by the quotas that stand at its number
module _ {R P O : Type 0} (G : Ghosts R P O) (pool : Pool) (residents : List R) (quotas : List (Vec Quota Global)) (left : List R) (first : R) (ss : List (Named R)) (callers : ℕ)
    (so : SoFar G pool residents (map (λ v. pairs v.items) quotas) (first ∷ left) ss) (suit : SuitSqueues G pool residents (map (λ v. pairs v.items) quotas) callers)
    (q : ℕ) (v : Vec Quota Global) (qs : List Quota) (is : q ≡ length ss) (at : v ≡ slice_index_or quotas q v) (are : qs ≡ v.items) where
  pub next_within : q < length quotas
  next_within =
      let n = all_count G pool residents (map (λ v. pairs v.items) quotas) left first ss so in
      let m = length-map quotas (λ v. pairs v.items) in
      omega (arith, is, n, m, suit.residents_are, suit.quotas_are)

  pub next_quotas : slice_get (map (λ v. pairs v.items) quotas) q ≡ Some (pairs qs)
  next_quotas = got_map (λ v. pairs v.items) quotas q v (got_at quotas q v next_within at) ∙ ap (λ l. Some (pairs l)) (sym are)

  pub next_resident : slice_get residents q ≡ Some first
  next_resident = ap (slice_get residents) is ∙ resident_at G pool residents (map (λ v. pairs v.items) quotas) left first ss so

  pub next_suits : SuitsSqueue G pool callers q first (pairs qs)
  next_suits = suit.each q first (pairs qs) next_resident next_quotas

  pub next_count : length qs ≡ pool.rings + callers
  next_count = let n : length (pairs qs) ≡ length qs = length-map qs (λ u. (u.feeds, u.asks)) in let m = next_suits.passes in omega (arith, n, m)

  -- and then it is the squeue of its number
  pub next_is : (room : ℕ) (s : Named R) → IsMade G.stands G.size q pool.rings (pairs qs) pool.trace room first s.given → HasAllRoom s.given → IsFor G pool residents (map (λ v. pairs v.items) quotas) q s
  next_is room s made = is_for G pool residents (map (λ v. pairs v.items) quotas) callers q room first (pairs qs) s next_resident next_quotas next_suits made

  pub next_made : (s : Named R) → IsFor G pool residents (map (λ v. pairs v.items) quotas) q s → SoFar G pool residents (map (λ v. pairs v.items) quotas) left (ss ++ s ∷ [])
  next_made s new = one_made G pool residents (map (λ v. pairs v.items) quotas) left first ss so s (subst (λ (k : ℕ). IsFor G pool residents (map (λ v. pairs v.items) quotas) k s) is new)

  pub next_passes : (s : Named R) → IsFor G pool residents (map (λ v. pairs v.items) quotas) q s → length s.given.quotas ≡ pool.rings + callers
  next_passes s new =
      let a = ap (λ (S : Setting). length S.quotas) new.setting in
      let b = ap length (got_or (map (λ v. pairs v.items) quotas) q (pairs qs) [] next_quotas) in
      let m = next_suits.passes in
      omega (arith, a, b, m)

-- a new resident stands for empty lists
pub next_empty : {R P O : Type 0} (G : Ghosts R P O) (pool : Pool) (callers q : ℕ) (first : R) (qs : List (ℕ × ℕ)) → SuitsSqueue G pool callers q first qs → StandsEmpty (G.stands first)
next_empty G pool callers q first qs suits = stands_empty (G.size first) q pool.pace.homes.squeues (G.stands first) suits.stands
