use Rattle.std.proofs.Common.{◌<◌, [], length, get_or, map, ap, ◌∙◌, arith}
use Rattle.std.proofs.lemmas.List.{length-map, take_all}
use Rattle.conn_classifier.specs.Items.{items_of}
use Rattle.conn_classifier.specs.Slots.{item_of}
use Rattle.conn_classifier.specs.declared.kinds.Arrival.{Arrival}
use Rattle.conn_classifier.proofs.SlotLemmas.{recs_of_list, kept_in_list, turn_lists}
use Rattle.conn_classifier.proofs.making.all_items.Goals as goal

pub loop-list-preserved : goal.loop-list-preserved
loop-list-preserved c = λ xss is kept.
    let rs = c.args.capture.now.packets in
    let ps = c.args.packets.now in
    let vs = c.args.lists.now in
    let k = c.loop-list.list-index in
    let v = c.list-item.result in
    let lt : k < length vs = c.loop-list-test.true in
    let xs = get_or xss k [] in
    let recs = c.as_slice-recs.ensures.value ∙ recs_of_list rs ps (λ v. v.items) vs xss is kept k v lt c.list-item.is in
    let here = kept_in_list rs ps (λ v. v.items) vs xss is kept k v lt c.list-item.is in
    let hints = c.as_slice.ensures.value ∙ c.in_ok-hints.ensures.value rs xs recs here in
    turn_lists rs ps (λ v. v.items) vs xss is kept k v lt c.list-item.is (λ x. map (item_of ps) x.items) c.args.last c.loop-list.items.items c.push.new.self.items
    c.in_ok-slots_in.field-0 (c.loop-list.invariant xss is kept) (c.in_ok-slots_in.ensures ps xs recs here hints) c.in_ok-push.ensures.items

pub returns : goal.returns
returns c = λ xss is kept.
    let k = c.loop-list.list-index in
    c.loop-list.invariant xss is kept
    ∙ ap (map (items_of c.args.last)) (take_all k xss (omega (arith, c.loop-list-test.false, ap length is, length-map c.args.lists.now (λ v. v.items), length-map xss (map (λ (a : Arrival). a.rec)))))
