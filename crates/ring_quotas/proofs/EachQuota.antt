-- The quota of each pass, and what each connection may do at a squeue.
use Rattle.std.proofs.Common.{◌≡◌, ℕ, ◌+◌, ◌<◌, List, length, map, get_or, slice_index, ap, sym, ◌∙◌, arith, length-append}
use Rattle.std.specs.Prelude.{slice_index_or}
use Rattle.std.specs.List.{range_with_len}
use Rattle.std.proofs.Math.ListN.{get_or-append}
use Rattle.std.proofs.lemmas.List.{get_or-append-add}
use Rattle.std.proofs.lemmas.List.FromFn.{get_or-map-range_with_len, length-map-range_with_len}
use Rattle.conn_classifier.specs.Plan.{PlanOf, items_in}
use Rattle.conn_blocks.specs.Allowed.{limits_in}
use Rattle.conn_blocks.specs.CallLists.{CallLists}
use Rattle.histories.specs.Homes.{times_leaving}
use Rattle.ring_quotas.specs.Quotas.{caller_asks, quotas_of, ring_asks, ring_feeds}

module _ (p : PlanOf) (calls : CallLists) (squeues rings spread q : ℕ) where
  abbrev ring_part : List (ℕ × ℕ)
  ring_part = map (λ r. (ring_feeds p squeues rings spread q r, ring_asks p squeues rings spread q r)) (range_with_len 0 rings)

  abbrev caller_part : List (ℕ × ℕ)
  caller_part = map (λ j. (0, caller_asks p calls squeues spread q j)) (range_with_len 0 4)

  ring_count : length ring_part ≡ rings
  ring_count = length-map-range_with_len (λ r. (ring_feeds p squeues rings spread q r, ring_asks p squeues rings spread q r)) 0 rings

  pub quota_count : length (quotas_of p calls squeues rings spread q) ≡ rings + 4
  quota_count = omega (arith, length-append ring_part caller_part, ring_count)

  pub rings_quota : (r : ℕ) → r < rings → slice_index_or (quotas_of p calls squeues rings spread q) r (0, 0) ≡ (ring_feeds p squeues rings spread q r, ring_asks p squeues rings spread q r)
  rings_quota r lt =
      get_or-append ring_part caller_part (0, 0) r (omega (arith, lt, ring_count))
      ∙ get_or-map-range_with_len (λ r. (ring_feeds p squeues rings spread q r, ring_asks p squeues rings spread q r)) 0 rings r r (0, 0) lt (omega arith)

  pub callers_quota : (j : ℕ) → j < 4 → slice_index_or (quotas_of p calls squeues rings spread q) (rings + j) (0, 0) ≡ (0, caller_asks p calls squeues spread q j)
  callers_quota j lt =
      ap (λ (n : ℕ). get_or (quotas_of p calls squeues rings spread q) (n + j) (0, 0)) (sym ring_count)
      ∙ (get_or-append-add ring_part caller_part j (0, 0)
      ∙ get_or-map-range_with_len (λ j. (0, caller_asks p calls squeues spread q j)) 0 4 j j (0, 0) lt (omega arith))

  -- how often a connection may leave, and how many feeds it may have
  pub leaves_known : (c : ℕ) → c < length p.tuples → slice_index (limits_in p calls q squeues spread).leaves c ≡ times_leaving squeues spread q c (length (items_in p c))
  leaves_known c lt = get_or-map-range_with_len (λ c. times_leaving squeues spread q c (length (items_in p c))) 0 (length p.tuples) c c 0 lt (omega arith)

  pub feeds_known : (c : ℕ) → c < length p.tuples → slice_index (limits_in p calls q squeues spread).feeds c ≡ length (items_in p c)
  feeds_known c lt = get_or-map-range_with_len (λ c. length (items_in p c)) 0 (length p.tuples) c c 0 lt (omega arith)
