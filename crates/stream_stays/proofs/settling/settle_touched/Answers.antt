use Rattle.std.proofs.Common.{◌≡◌, ◌≤◌, ◌<◌, ◌∙◌, ℕ, List, ap, sym, refl, length, subst, slice_index, slice_index_or, arith, Global}
use Rattle.std.specs.Prelude.{Contains}
use Rattle.std.proofs.lemmas.List.{at_drop_more, drop_all, get_or_default}
use Rattle.std.proofs.lemmas.List.Elements.{Contains-get_or}
use Rattle.placed_parts.specs.Placing.{origin_of}
use Rattle.stream_stays.specs.Places.{place_at, touched_of}
use Rattle.stream_stays.specs.Settling.{Collected, WasCollected, sent_in}
use Rattle.std.specs.Prelude.{Vec}
use Rattle.stream_stays.proofs.Settled.{keeps_on, keeps_self, may_still, places_on, places_self, same_sent_in}
use Rattle.stream_stays.proofs.settling.settle_touched.Goals as goal

-- what lies at a place of the same list
its_place : (xs ys : List ℕ) (k d : ℕ) → ys ≡ xs → k < length xs → d ≡ slice_index_or ys k d → d ≡ slice_index xs k
its_place xs ys k d same within is = is ∙ (ap (λ zs. slice_index_or zs k d) same ∙ get_or_default xs k d 0 within)

pub loop-k-init : goal.loop-k-init
loop-k-init g c =
    record {
      counted = c.len-count.ensures ∙ c.args.stays.now.touched.ok.0;
      keeps = keeps_self c.args.resident.now;
      same = places_self c.args.stays.now;
      rest = (refl, refl);
      may = c.requires.may;
      collected = λ to done. done;
    }

pub index-c-requires : goal.index-c-requires
index-c-requires g c =
    let i = c.loop-k.invariant in
    let same = ap length i.rest.1 in
    let counted = c.loop-k.stays.touched.ok.0 in
    let all = i.counted in
    let more = c.loop-k-test.true in
    omega (arith, same, counted, all, more)

pub settle_place-requires : goal.settle_place-requires
settle_place-requires g c =
    let i = c.loop-k.invariant in
    let xs = touched_of c.args.stays.now in
    let k = c.loop-k.k in
    let all = i.counted in
    let more = c.loop-k-test.true in
    let within : k < length xs = omega (arith, all, more) in
    record { may = i.may c.index-c.result.now (subst (λ d. Contains xs d) (sym (its_place xs (touched_of c.loop-k.stays) k c.index-c.result.now i.rest.1 within c.index-c.ensures)) (Contains-get_or xs k 0 within)) }

pub loop-k-preserved : goal.loop-k-preserved
loop-k-preserved g c =
    let i = c.loop-k.invariant in
    let one = c.settle_place.ensures in
    let xs = touched_of c.args.stays.now in
    let k = c.loop-k.k in
    let all = i.counted in
    let less = c.loop-k-test.true in
    let within : k < length xs = omega (arith, all, less) in
    let first = c.args.stays.now in
    let o = origin_of c.args.resident.now in
    let d = c.index-c.result.now in
    let was =
    subst (λ y. WasCollected g.X.Steps.begins g.X.Steps.step g.V.Collects.takes o c.loop-k.collector c.settle_place.new.collector y (sent_in (place_at first y))) (its_place xs (touched_of c.loop-k.stays) k d i.rest.1 within c.index-c.ensures)
    (subst (λ ys. WasCollected g.X.Steps.begins g.X.Steps.step g.V.Collects.takes o c.loop-k.collector c.settle_place.new.collector d ys) (same_sent_in (place_at first d) (place_at c.loop-k.stays d) (i.same.each d))
    (subst (λ y. WasCollected g.X.Steps.begins g.X.Steps.step g.V.Collects.takes y c.loop-k.collector c.settle_place.new.collector d (sent_in (place_at c.loop-k.stays d))) i.keeps.origin one.collected)) in
    record {
      counted = all;
      keeps = keeps_on c.args.resident.now c.loop-k.resident c.settle_place.new.resident i.keeps one.keeps;
      same = places_on first c.loop-k.stays c.settle_place.new.stays i.same one.same;
      rest = (one.rest.0 ∙ i.rest.0, ap (λ (v : Vec ℕ Global). v.items) one.rest.1 ∙ i.rest.1);
      may = λ d there. may_still g.X.Steps.begins c.loop-k.resident c.settle_place.new.resident c.loop-k.stays c.settle_place.new.stays d one.keeps one.same (i.may d there);
      collected = λ to more.
          i.collected to
          (subst (λ ys. Collected g.X.Steps.begins g.X.Steps.step g.V.Collects.takes o first ys c.loop-k.collector to) (sym (at_drop_more (λ ys. ys) xs k 0 within)) (c.settle_place.new.collector, was, more));
    }

pub returns-clause-collected : goal.returns-clause-collected
returns-clause-collected g c =
    let i = c.loop-k.invariant in
    let xs = touched_of c.args.stays.now in
    let all = i.counted in
    let more = c.loop-k-test.false in
    let past : length xs ≤ c.loop-k.k = omega (arith, all, more) in
    i.collected c.loop-k.collector
    (subst (λ ys. Collected g.X.Steps.begins g.X.Steps.step g.V.Collects.takes (origin_of c.args.resident.now) c.args.stays.now ys c.loop-k.collector c.loop-k.collector) (sym (drop_all c.loop-k.k xs past)) refl)
