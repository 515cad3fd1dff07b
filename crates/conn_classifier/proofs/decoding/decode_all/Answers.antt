use Rattle.std.proofs.Common.{◌≡◌, ℕ, ◌++◌, List, get_or, length, take, drop, ap, sym, ◌∙◌, arith, append-nil}
use Rattle.std.proofs.lemmas.List.{length-map, same_lists, take_all, drop_all}
use Rattle.segment_codec.specs.declared.packet.Packet.{Packet}
use Rattle.segment_codec.specs.Packet.{packet_in}
use Rattle.conn_classifier.specs.Connections.{decoded}
use Rattle.conn_classifier.proofs.decoding.decode_all.Goals as goal

pub par_chunks_mut_for_each-requires-clause-accepts : goal.par_chunks_mut_for_each-requires-clause-accepts
par_chunks_mut_for_each-requires-clause-accepts g c = λ κs within start p is.
    (omega (arith, is.in_bounds, c.as_mut_slice.ensures.len, c.in_ok-packets.packets.ok, c.in_ok-packets.ensures.len, c.len.ensures.value), omega (arith, c.len.ensures.value, c.len.ensures.most))

-- all of a list was written
written : (n : ℕ) (before after : List Packet) → n ≡ length before → length after ≡ length before → take n (after ++ drop (length after) before) ≡ after
written n before after all even =
    ap (λ l. take n (after ++ l)) (drop_all (length after) before (omega (arith, even))) ∙ ap (take n) (append-nil after) ∙ take_all n after (omega (arith, all, even))

pub returns-clause-value : goal.returns-clause-value
returns-clause-value g c =
    let file = c.args.capture.now in
    let whole = decoded file c.args.verify in
    let before = c.in_ok-packets.packets in
    let after = c.par_chunks_mut_for_each.new.s in
    let old = c.as_mut_slice.result.now in
    let kept : length after ≡ length old = c.par_chunks_mut_for_each.auto.s in
    let items : old ≡ before.items = c.as_mut_slice.ensures.value in
    written before.len before.items after before.ok.0 (kept ∙ ap length items)
    ∙ same_lists after whole
    (omega (arith, kept, ap length items, before.ok, c.in_ok-packets.ensures.len, c.len.ensures.value, length-map file.packets (λ r. packet_in file.link r.body c.args.verify)))
    (λ i d lt.
    let here = (c.par_chunks_mut_for_each.ensures.by_index i d (omega (arith, lt, kept))).1 in
    sym here.new_element ∙ here.call here.offset d here.offset_in_chunk ∙ ap (λ n. get_or whole n d) here.start_plus_offset)

pub returns-clause-most : goal.returns-clause-most
returns-clause-most g c =
    let file = c.args.capture.now in
    omega (arith, ap length (returns-clause-value g c), length-map file.packets (λ r. packet_in file.link r.body c.args.verify), c.len.ensures.value, c.len.ensures.most)
