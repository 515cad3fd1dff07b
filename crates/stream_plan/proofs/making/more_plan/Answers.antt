use Rattle.std.proofs.Common.{◌≡◌, ◌-◌, ◌≤◌, length, map, ap, sym, subst, ◌∙◌, arith}
use Rattle.std.proofs.lemmas.List.{length-map}
use Rattle.capture_reader.specs.CaptureFile.{last_time}
use Rattle.capture_reader.specs.Limits.{latest_time, most_records}
use Rattle.stream_plan.specs.Sorting.{SortedOf, filled}
use Rattle.stream_plan.specs.Sound.{IsMorePlan}
use Rattle.stream_plan.proofs.SortSteps.{both_here, even_here, served_here}
use Rattle.stream_plan.proofs.StreamSteps.{made}
use Rattle.stream_plan.proofs.Together.{is_more_plan}
use Rattle.stream_plan.proofs.making.more_plan.Goals as goal

pub fill-requires : goal.fill-requires
fill-requires c =
    omega (
      arith,
      ap length c.as_slice.ensures.value,
      length-map c.sorted.inside.segments.items (λ v. v.items),
      ap (λ (s : SortedOf). length s.segments) c.sorted.view_is,
      ap (λ (s : SortedOf). length s.streams) c.sorted.view_is,
      even_here _ _ c.in_ok-sorted.ensures.value,
      both_here _ _ c.in_ok-sorted.ensures.value,
    )

pub overflow_sub-counts : goal.overflow_sub-counts
overflow_sub-counts c =
    omega (arith, served_here _ _ c.in_ok-sorted.ensures.value, ap (λ (s : SortedOf). s.served) c.sorted.view_is, ap (λ (s : SortedOf). s.arrived) c.sorted.view_is)

pub returns : goal.returns
returns c =
    let is = c.sorted.view_is in
    let segments = ap (map (λ v. v.items)) c.as_slice.ensures.value ∙ ap (λ (s : SortedOf). s.segments) is in
    made c.args.capture.now c.in_ok-sorted.sorted c.fill.new.streams.items _ _ _ c.in_ok-sorted.ensures.value
    (c.in_ok-fill.ensures ∙ (λ k. filled (c.last_time.ensures.value k) (is k).streams (segments k)))
    (λ k. (is k).served) (λ k. (is k).arrived - (is k).served) (λ k. c.len.ensures.value k - (is k).arrived)

pub invariant_of-result : goal.invariant_of-result
invariant_of-result c =
    let file = c.args.capture.now in
    let few : length file.packets ≤ most_records = omega (arith, c.len.ensures.value, c.len.ensures.most) in
    let last : c.last_time.result ≡ last_time file.packets = c.last_time.ensures.value in
    let most : last_time file.packets ≤ latest_time = omega (arith, last, c.last_time.ensures.most) in
    let is = c.sorted.view_is in
    let segments = ap (map (λ v. v.items)) c.as_slice.ensures.value ∙ ap (λ (s : SortedOf). s.segments) is in
    let whole = made file c.in_ok-sorted.sorted c.fill.new.streams.items c.sorted.inside.served _ _ c.in_ok-sorted.ensures.value
    (c.in_ok-fill.ensures ∙ (λ k. filled (c.last_time.ensures.value k) (is k).streams (segments k)))
    (λ k. (is k).served) (λ k. (is k).arrived - (is k).served) (λ k. c.len.ensures.value k - (is k).arrived) in
    subst IsMorePlan (sym whole) (is_more_plan file few most)
