use Rattle.std.proofs.Common.{◌<◌, ◌≤◌, [], length, map, take, get_or, refl, ap, sym, ◌∙◌, arith}
use Rattle.std.proofs.lemmas.List.{take_all}
use Rattle.capture_reader.specs.CaptureFile.{Packet as Captured}
use Rattle.conn_classifier.specs.Connections.{conns}
use Rattle.conn_classifier.specs.Classes.{counts_of}
use Rattle.conn_classifier.specs.Sorting.{seen_of, sorted_of, sorted_seen}
use Rattle.conn_classifier.proofs.SortLemmas.{length-seen}
use Rattle.conn_classifier.proofs.Joining.{starts, one_further, total_here, few_here, even_here, packets_seen}
use Rattle.conn_classifier.proofs.sorting.sort.Goals as goal

none : Captured
none = record { time = 0; from = 0; body = [] }

pub loop-i-init : goal.loop-i-init
loop-i-init c =
    (λ k. record {
      tuples = c.new.ensures.empty k;
      lists = map (λ v. v.items) (c.new-2.ensures.items k);
      order = c.new-3.ensures.items k;
      counts = (c.none.ensures ∙ (λ j. counts_of (c.len.ensures.value j) (c.cut_tail.ensures j) [])) k;
    })
    ∙ starts c.args.ports (length c.args.capture.now.packets) c.args.capture.now.cut c.args.capture.now.packets c.args.packets.now

pub sort_in-requires-clause-few : goal.sort_in-requires-clause-few
sort_in-requires-clause-few c = few_here _ _ _ _ c.loop-i.sorted c.loop-i.invariant

pub sort_in-requires-clause-even : goal.sort_in-requires-clause-even
sort_in-requires-clause-even c = even_here _ _ _ _ c.loop-i.sorted c.loop-i.invariant

pub sort_in-requires-clause-room : goal.sort_in-requires-clause-room
sort_in-requires-clause-room c =
    let rs = c.args.capture.now.packets in
    let ps = c.args.packets.now in
    let a : c.loop-i.i ≤ length rs = omega (arith, c.loop-i-test.true, c.len-i-end.ensures.value) in
    let b : c.loop-i.i ≤ length ps = omega (arith, a, c.requires) in
    omega (arith, total_here _ _ _ _ c.loop-i.sorted c.loop-i.invariant, length-seen rs ps c.loop-i.i a b)

pub loop-i-preserved : goal.loop-i-preserved
loop-i-preserved c =
    let rs = c.args.capture.now.packets in
    let ps = c.args.packets.now in
    let i = c.loop-i.i in
    let a : i < length rs = omega (arith, c.loop-i-test.true, c.len-i-end.ensures.value) in
    let b : i < length ps = omega (arith, a, c.requires) in
    let below : i ≤ length rs = omega (arith, a) in
    let inside : i ≤ length ps = omega (arith, b) in
    let at = (get_or rs i none).time in
    one_further c.args.ports (length rs) c.args.capture.now.cut rs ps i none _ a b at _ refl
    (c.in_ok-sort_in.ensures (length rs) at c.args.capture.now.cut (seen_of rs (take i ps)) c.loop-i.invariant (sym (length-seen rs ps i below inside)))

pub returns : goal.returns
returns c =
    let rs = c.args.capture.now.packets in
    let ps = c.args.packets.now in
    let over : length ps ≤ c.loop-i.i = omega (arith, c.loop-i-test.false, c.len-i-end.ensures.value, c.requires) in
    let few : length ps ≤ length rs = omega (arith, c.requires) in
    c.loop-i.invariant ∙ ap (λ l. sorted_seen c.args.ports (length rs) c.args.capture.now.cut (seen_of rs l)) (take_all c.loop-i.i ps over)
    ∙ ap (λ l. sorted_of c.args.ports (length rs) c.args.capture.now.cut (conns c.args.ports l) (seen_of rs ps)) (packets_seen rs ps few)
