use Rattle.std.proofs.Common.{◌≤◌, [], ◌∷◌, length, map, take, refl, ap, sym, ◌∙◌, arith}
use Rattle.std.proofs.lemmas.List.{length-append, take_all}
use Rattle.capture_reader.specs.Outcome.{packet_at}
use Rattle.stream_plan.specs.Streams.{arrived_from, served_in}
use Rattle.stream_plan.specs.Sorting.{SortedOf, sorted_seen}
use Rattle.stream_plan.proofs.Arrivals.{one_more, none_more, some_body}
use Rattle.stream_plan.proofs.SortSteps.{both_here, even_here, few_here, served_here, starts}
use Rattle.stream_plan.proofs.sorting.sort.Goals.{in-Some+in_ok-sort_in, in_default}
use Rattle.stream_plan.proofs.sorting.sort.Goals as goal

pub loop-rec-init : goal.loop-rec-init
loop-rec-init c = (
  (λ k. record { tuples = c.new.ensures.empty k; streams = c.new-2.ensures.items k; segments = map (λ v. v.items) (c.new-3.ensures.items k); served = 0; arrived = 0 }) ∙ starts,
  omega arith,
)

pub sort_in-requires-clause-few : goal.sort_in-requires-clause-few
sort_in-requires-clause-few c = few_here _ _ c.loop-rec.invariant.0

pub sort_in-requires-clause-even : goal.sort_in-requires-clause-even
sort_in-requires-clause-even c = even_here _ _ c.loop-rec.invariant.0

pub sort_in-requires-clause-both : goal.sort_in-requires-clause-both
sort_in-requires-clause-both c = both_here _ _ c.loop-rec.invariant.0

pub sort_in-requires-clause-served : goal.sort_in-requires-clause-served
sort_in-requires-clause-served c = omega (arith, served_here _ _ c.loop-rec.invariant.0, c.loop-rec.invariant.1, c.loop-rec-test.true, c.len-rec-end.ensures.most)

pub sort_in-requires-clause-arrived : goal.sort_in-requires-clause-arrived
sort_in-requires-clause-arrived c = omega (arith, c.loop-rec.invariant.1, c.loop-rec-test.true, c.len-rec-end.ensures.most)

pub loop-rec-preserved : goal.loop-rec-preserved
loop-rec-preserved c =
    let file = c.args.capture.now in
    let xs = arrived_from file.link 0 (take c.loop-rec.rec file.packets) in
    let at = some_body file.packets c.loop-rec.rec c.body.result.now (omega (arith, c.loop-rec-test.true, c.len-rec-end.ensures.value)) c.body.ensures.value in
    let served = c.served.ensures ∙ (λ k. served_in (c.link.ensures k) (at.its_body k)) in
    elim c.match-served.branch [
      | in-Some+in_ok-sort_in w ↦
          let time = at.same (packet_at file.bytes w.rec-at.result) w.rec-at.ensures.packet in
          let now = w.in_ok-sort_in.ensures xs c.loop-rec.invariant.0 in (
            w.sorted-is ∙ now ∙ ap sorted_seen (one_more file.link file.packets c.loop-rec.rec at.packet at.here xs refl w.in-Some.found w.rec-at.result.at time (sym w.in-Some.is ∙ served)),
            omega (
              arith,
              ap (λ (s : SortedOf). s.arrived) w.sorted-is,
              ap (λ (s : SortedOf). s.arrived) now,
              ap (λ (s : SortedOf). s.arrived) c.loop-rec.invariant.0,
              length-append xs (record { rec = c.loop-rec.rec; at = w.rec-at.result.at; found = w.in-Some.found } ∷ []),
              c.loop-rec.invariant.1,
            ),
          )
      | in_default w ↦ (
        w.sorted-is ∙ c.loop-rec.invariant.0 ∙ ap sorted_seen (none_more file.link file.packets c.loop-rec.rec at.packet at.here xs refl (sym w.in_default.is ∙ served)),
        omega (arith, ap (λ (s : SortedOf). s.arrived) w.sorted-is, c.loop-rec.invariant.1),
      )
    ]

pub returns-clause-value : goal.returns-clause-value
returns-clause-value c =
    let file = c.args.capture.now in
    let over : length file.packets ≤ c.loop-rec.rec = omega (arith, c.loop-rec-test.false, c.len-rec-end.ensures.value) in
    c.loop-rec.invariant.0 ∙ ap (λ l. sorted_seen (arrived_from file.link 0 l)) (take_all c.loop-rec.rec file.packets over)
