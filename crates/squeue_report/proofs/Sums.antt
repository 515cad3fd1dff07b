-- Sums over the blocks, and over the connections by number.
use Rattle.std.proofs.Common.{◌≡◌, ℕ, ◌+◌, ◌<◌, List, [], ◌∷◌, suc, length, map, take, get_or, slice_get, sum_by, Some, IfSome, refl, sym, ap, subst, ◌∙◌, arith}
use Rattle.std.specs.List.{range_with_len}
use Rattle.std.proofs.lemmas.List.Sums.{sum_by-append, sum_by-cons}
use Rattle.perimeter_core.specs.declared.entries.Act.{Act}
use Rattle.conn_classifier.specs.Plan.{PlanOf}
use Rattle.conn_blocks.specs.CallLists.{CallLists}
use Rattle.conn_blocks.specs.ServeOrder.{BlockOf, Serving, serve, serving_of}
use Rattle.conn_blocks.specs.ServedBlocks.{AreServed}
use Rattle.squeue_report.specs.SummaryText.{reply_count, octet_count, text_size}
use Rattle.histories.proofs.ListPlaces.{take_one}
use Rattle.report_lines.proofs.Blocks.{Agrees, agrees}

pub sum_more : {X : Type 0} (f : X → ℕ) (xs : List X) (i n m : ℕ) (x : X) → n ≡ sum_by f (take i xs) → slice_get xs i ≡ Some x → m ≡ n + f x
    → m ≡ sum_by f (take (i + 1) xs)
sum_more f xs i n m x so_far here more =
    let on = ap (sum_by f) (take_one xs i x here) ∙ sum_by-append f (take i xs) (x ∷ []) in
    omega (arith, on, so_far, more)

module _ (p : PlanOf) (calls : CallLists) (orders : List (List Act)) (h : Serving → ℕ) where
  by_number : (i : ℕ) (bs : List BlockOf) → ((k c : ℕ) → c ≡ i + k → k < length bs → IfSome (slice_get bs k) (Agrees p calls orders c))
      → sum_by (λ b. h (serving_of b)) bs ≡ sum_by (λ c. h (serve p calls c (get_or orders c []))) (range_with_len i (length bs))
  by_number i [] each = refl
  by_number i (b ∷ bs) each =
      let here : Agrees p calls orders i b = each 0 i (omega arith) (omega arith) in
      let order = sym here.1 in
      sum_by-cons (λ x. h (serving_of x)) b bs ∙ (λ k. h (here.0 k) + by_number (i + 1) bs (λ j c e lt. each (suc j) c (omega arith) (omega (arith, lt))) k)
      ∙ (λ k. h (serve p calls i (order k)) + sum_by (λ c. h (serve p calls c (get_or orders c []))) (range_with_len (i + 1) (length bs)))
      ∙ sym (sum_by-cons (λ c. h (serve p calls c (get_or orders c []))) i (range_with_len (i + 1) (length bs)))

  all_numbers : (bs : List BlockOf) → orders ≡ map (λ b. b.order) bs → AreServed p calls bs
      → sum_by (λ b. h (serving_of b)) bs ≡ sum_by (λ c. h (serve p calls c (get_or orders c []))) (range_with_len 0 (length p.tuples))
  all_numbers bs same served =
      by_number 0 bs (λ k c e lt. subst (λ o. IfSome (slice_get bs k) (Agrees p calls o c)) (sym same) (agrees p calls bs served k c e (let few : k < length p.tuples = omega (arith, lt, served.count) in few)))
      ∙ ap (λ n. sum_by (λ c. h (serve p calls c (get_or orders c []))) (range_with_len 0 n)) served.count

pub replies_are : (p : PlanOf) (calls : CallLists) (bs : List BlockOf) → AreServed p calls bs
    → sum_by (λ b. length b.tcb.replies) bs ≡ reply_count p calls (map (λ b. b.order) bs)
unfolding reply_count
replies_are p calls bs served = all_numbers p calls (map (λ b. b.order) bs) (λ s. length s.block.replies) bs refl served

pub octets_are : (p : PlanOf) (calls : CallLists) (bs : List BlockOf) → AreServed p calls bs
    → sum_by (λ b. text_size b.tcb.replies) bs ≡ octet_count p calls (map (λ b. b.order) bs)
unfolding octet_count
octets_are p calls bs served = all_numbers p calls (map (λ b. b.order) bs) (λ s. text_size s.block.replies) bs refl served
