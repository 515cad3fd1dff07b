use Rattle.std.proofs.Common.{◌+◌, ◌<◌, [], length, map, set, get_or, ap, sym, subst, ◌∙◌}
use Rattle.std.proofs.lemmas.List.{set-get_or}
use Rattle.conn_classifier.proofs.SortLemmas.{grown_at}
use Rattle.stream_plan.specs.Sorting.{SortedOf, entered, heard, with_datagram}
use Rattle.stream_plan.proofs.SortSteps.{same_at}
use Rattle.stream_plan.proofs.sorting.Sorted.add.Goals.{in-Datagram+in_ok-hear-in-Datagram, in-Segment+in_ok-push-in-Segment}
use Rattle.stream_plan.proofs.sorting.Sorted.add.Goals as goal

pub returns : goal.returns
returns c = λ d.
    let rec = c.args.arrived.rec in
    let at = c.args.arrived.at in
    let n = c.args.c in
    let ss = c.self.inside.streams.items in
    let vs = c.self.inside.segments.items in
    let all = ap (λ (s : SortedOf). record s {
      streams = set s.streams n (heard rec at c.args.arrived.found (get_or s.streams n d));
      segments = set s.segments n (entered rec at c.args.arrived.found (get_or s.segments n []));
      served = s.served + 1;
      arrived = s.arrived + 1;
    }) c.self.view_is in
    elim c.match-found.branch [
      | in-Datagram+in_ok-hear-in-Datagram w ↦
          let lt : n < length ss = subst (λ (s : SortedOf). n < length s.streams) (sym c.self.view_is) c.requires.stream in
          let streams = ap (set ss n) (w.in_ok-hear-in-Datagram.ensures ∙ ap (with_datagram rec at w.in-Datagram.udp) (w.index_mut.ensures.value ∙ same_at ss n w.index_mut.result.now d lt)
          ∙ ap (λ f. heard rec at f (get_or ss n d)) (sym w.in-Datagram.is)) in
          let segments = sym (ap (λ f. set (map (λ v. v.items) vs) n (entered rec at f (get_or (map (λ v. v.items) vs) n []))) w.in-Datagram.is ∙ set-get_or (map (λ v. v.items) vs) n []) in
          (λ k. record {
            tuples = (w.self-inside-is k).tuples.keys;
            streams = (w.self-inside-is k).streams.items;
            segments = map (λ v. v.items) (w.self-inside-is k).segments.items;
            served = (w.self-inside-is k).served + 1;
            arrived = (w.self-inside-is k).arrived + 1;
          })
          ∙ (λ k. record { tuples = c.self.inside.tuples.keys; streams = streams k; segments = segments k; served = c.self.inside.served + 1; arrived = c.self.inside.arrived + 1 })
          ∙ all
      | in-Segment+in_ok-push-in-Segment w ↦
          let lt = subst (λ (s : SortedOf). n < length s.segments) (sym c.self.view_is) c.requires.segments in
          let streams = sym (ap (λ f. set ss n (heard rec at f (get_or ss n d))) w.in-Segment.is ∙ set-get_or ss n d) in
          let segments = grown_at (λ v. v.items) vs n w.index_mut-in-Segment.result.now w.push.new.self (record { rec = rec; at = at; seg = w.in-Segment.seg }) lt w.index_mut-in-Segment.ensures.value w.in_ok-push-in-Segment.ensures.items
          ∙ ap (λ f. set (map (λ v. v.items) vs) n (entered rec at f (get_or (map (λ v. v.items) vs) n []))) (sym w.in-Segment.is) in
          (λ k. record {
            tuples = (w.self-inside-is k).tuples.keys;
            streams = (w.self-inside-is k).streams.items;
            segments = map (λ v. v.items) (w.self-inside-is k).segments.items;
            served = (w.self-inside-is k).served + 1;
            arrived = (w.self-inside-is k).arrived + 1;
          })
          ∙ (λ k. record { tuples = c.self.inside.tuples.keys; streams = streams k; segments = segments k; served = c.self.inside.served + 1; arrived = c.self.inside.arrived + 1 })
          ∙ all
    ]
