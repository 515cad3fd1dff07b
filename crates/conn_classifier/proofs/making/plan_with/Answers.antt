use Rattle.std.proofs.Common.{◌≡◌, ◌≤◌, length, map, ap, sym, subst, ◌∙◌, arith}
use Rattle.std.proofs.lemmas.List.{length-map}
use Rattle.segment_codec.specs.Packet.{packet_in}
use Rattle.capture_reader.specs.CaptureFile.{last_time}
use Rattle.capture_reader.specs.Limits.{latest_time, most_records}
use Rattle.conn_classifier.specs.Connections.{conns}
use Rattle.conn_classifier.specs.Items.{items_of, of_conn}
use Rattle.conn_classifier.specs.Plan.{IsPlan}
use Rattle.conn_classifier.specs.Slots.{item_of}
use Rattle.conn_classifier.specs.Sorting.{SortedOf, sorted_of, seen_of}
use Rattle.conn_classifier.specs.declared.kinds.Arrival.{Arrival}
use Rattle.conn_classifier.proofs.Kept.{conns_kept}
use Rattle.conn_classifier.proofs.PlanLaw.{is_plan, made, twice}
use Rattle.conn_classifier.proofs.SlotLemmas.{lists_within}
use Rattle.conn_classifier.proofs.making.plan_with.Goals as goal

pub sort-requires : goal.sort-requires
sort-requires g c =
    let file = c.args.capture.now in
    ap length c.as_slice.ensures.value ∙ ap length c.in_ok-packets.ensures.value ∙ length-map file.packets (λ r. packet_in file.link r.body c.args.rules.verify)

pub all_items-requires : goal.all_items-requires
all_items-requires g c =
    let file = c.args.capture.now in
    let ps = c.as_slice-2.result.now in
    let ports = c.args.rules.ports in
    let xss = map (λ t. of_conn ports t (seen_of file.packets ps)) (conns ports ps) in
    let sorted = c.sorted.view_is ∙ c.in_ok-sorted.ensures
    ∙ ap (λ l. sorted_of ports (length file.packets) file.cut (conns ports l) (seen_of file.packets l)) (c.as_slice.ensures.value ∙ sym c.as_slice-2.ensures.value) in
    let lists = ap (map (λ v. v.items)) c.as_slice-3.ensures.value ∙ ap (λ (s : SortedOf). s.lists) sorted
    ∙ sym (twice (map (λ (a : Arrival). a.rec)) (λ t. of_conn ports t (seen_of file.packets ps)) (conns ports ps)) in
    lists_within file.packets ps (λ v. v.items) c.as_slice-3.result.now xss lists (conns_kept ports file.packets ps (conns ports ps))

pub invariant_of-result : goal.invariant_of-result
invariant_of-result g c =
    let file = c.args.capture.now in
    let ps = c.as_slice-2.result.now in
    let ports = c.args.rules.ports in
    let xss = map (λ t. of_conn ports t (seen_of file.packets ps)) (conns ports ps) in
    let sorted = c.sorted.view_is ∙ c.in_ok-sorted.ensures
    ∙ ap (λ l. sorted_of ports (length file.packets) file.cut (conns ports l) (seen_of file.packets l)) (c.as_slice.ensures.value ∙ sym c.as_slice-2.ensures.value) in
    let lists = ap (map (λ v. v.items)) c.as_slice-3.ensures.value ∙ ap (λ (s : SortedOf). s.lists) sorted
    ∙ sym (twice (map (λ (a : Arrival). a.rec)) (λ t. of_conn ports t (seen_of file.packets ps)) (conns ports ps)) in
    let items = (λ k. map (λ v. map (item_of (sym c.as_slice-2.ensures.value k)) v.items) c.in_ok-items.items.items)
    ∙ c.in_ok-items.ensures xss lists (conns_kept ports file.packets ps (conns ports ps)) ∙ (λ k. map (items_of (c.last_time.ensures.value k)) xss) in
    let whole = made file c.args.rules ps _ _ _ _ _ (c.as_slice-2.ensures.value ∙ c.in_ok-packets.ensures.value) sorted items in
    let last : c.last_time.result ≡ last_time file.packets = c.last_time.ensures.value in
    let few : length file.packets ≤ most_records =
    omega (arith, c.in_ok-packets.ensures.most, ap length c.in_ok-packets.ensures.value, length-map file.packets (λ r. packet_in file.link r.body c.args.rules.verify)) in
    let most : last_time file.packets ≤ latest_time = omega (arith, last, c.last_time.ensures.most) in
    subst IsPlan (sym whole) (is_plan file c.args.rules few most)

pub returns : goal.returns
returns g c =
    let file = c.args.capture.now in
    let ps = c.as_slice-2.result.now in
    let ports = c.args.rules.ports in
    let xss = map (λ t. of_conn ports t (seen_of file.packets ps)) (conns ports ps) in
    let sorted = c.sorted.view_is ∙ c.in_ok-sorted.ensures
    ∙ ap (λ l. sorted_of ports (length file.packets) file.cut (conns ports l) (seen_of file.packets l)) (c.as_slice.ensures.value ∙ sym c.as_slice-2.ensures.value) in
    let lists = ap (map (λ v. v.items)) c.as_slice-3.ensures.value ∙ ap (λ (s : SortedOf). s.lists) sorted
    ∙ sym (twice (map (λ (a : Arrival). a.rec)) (λ t. of_conn ports t (seen_of file.packets ps)) (conns ports ps)) in
    let items = (λ k. map (λ v. map (item_of (sym c.as_slice-2.ensures.value k)) v.items) c.in_ok-items.items.items)
    ∙ c.in_ok-items.ensures xss lists (conns_kept ports file.packets ps (conns ports ps)) ∙ (λ k. map (items_of (c.last_time.ensures.value k)) xss) in
    let whole = made file c.args.rules ps _ _ _ _ _ (c.as_slice-2.ensures.value ∙ c.in_ok-packets.ensures.value) sorted items in
    whole
