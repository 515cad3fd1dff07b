-- What the setting of a squeue says of its passes, of how often connections leave, and of the calls.
use Rattle.std.proofs.Common.{◌≡◌, ℕ, ◌+◌, ◌-◌, ◌<◌, ◌≤◌, ◌^◌, List, [], length, map, arith, length-append}
use Rattle.std.specs.Prelude.{slice_index}
use Rattle.std.specs.List.{range_with_len}
use Rattle.std.proofs.lemmas.List.FromFn.{get_or-map-range_with_len, length-map-range_with_len, length-range_with_len}
use Rattle.perimeter_core.specs.History.{conns, worker}
use Rattle.conn_classifier.specs.Plan.{IsItems, IsPlan, PlanOf, items_in}
use Rattle.conn_classifier.proofs.PlanFacts.{all_at}
use Rattle.conn_classifier.proofs.PlanLaw.{length-filter_le}
use Rattle.conn_blocks.specs.CallLists.{CallLists}
use Rattle.histories.specs.Homes.{leaves_after, times_leaving}
use Rattle.ring_quotas.specs.Quotas.{caller_asks, ring_asks, ring_feeds, setting_at}

module _ (p : PlanOf) (calls : CallLists) (squeues rings spread q : ℕ) where
  pub worker_is : worker (setting_at p calls squeues rings spread q) ≡ rings + 4
  worker_is =
      let rs : List (ℕ × ℕ) = map (λ r. (ring_feeds p squeues rings spread q r, ring_asks p squeues rings spread q r)) (range_with_len 0 rings) in
      let js : List (ℕ × ℕ) = map (λ j. (0, caller_asks p calls squeues spread q j)) (range_with_len 0 4) in
      let all = length-append rs js in
      let r = length-map-range_with_len {X = ℕ × ℕ} (λ r. (ring_feeds p squeues rings spread q r, ring_asks p squeues rings spread q r)) 0 rings in
      let j = length-map-range_with_len {X = ℕ × ℕ} (λ j. (0, caller_asks p calls squeues spread q j)) 0 4 in
      omega (arith, all, r, j)

  pub conns_are : conns (setting_at p calls squeues rings spread q) ≡ length p.tuples
  conns_are = length-map-range_with_len _ 0 (length p.tuples)

  pub leaves_at : (c : ℕ) → c < length p.tuples → slice_index (setting_at p calls squeues rings spread q).limits.leaves c ≡ times_leaving squeues spread q c (length (items_in p c))
  leaves_at c lt = get_or-map-range_with_len _ 0 (length p.tuples) c c 0 lt (omega arith)

pub leaves_few : (p : PlanOf) (calls : CallLists) (squeues rings spread q : ℕ) → IsPlan p → (c : ℕ) → c < conns (setting_at p calls squeues rings spread q)
    → slice_index (setting_at p calls squeues rings spread q).limits.leaves c < 2 ^ 32
leaves_few p calls squeues rings spread q k c lt =
    let within : c < length p.tuples = omega (arith, lt, conns_are p calls squeues rings spread q) in
    let items = all_at (IsItems p.file) p.items c [] k.each (omega (arith, within, k.listed)) in
    let most = length-filter_le (leaves_after squeues spread q c) (range_with_len 0 (length (items_in p c) - 1)) in
    let count = length-range_with_len 0 (length (items_in p c) - 1) in
    let many : length (items_in p c) ≤ 2097153 = items.many in
    rw (leaves_at p calls squeues rings spread q c within) (omega (arith, most, count, many))
