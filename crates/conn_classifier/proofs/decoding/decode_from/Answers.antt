use Rattle.std.proofs.Common.{◌+◌, ◌<◌, length, ap, ◌∙◌, arith}
use Rattle.std.proofs.lemmas.List.{length-set}
use Rattle.segment_codec.specs.Packet.{packet_in}
use Rattle.conn_classifier.specs.Connections.{decoded}
use Rattle.conn_classifier.proofs.PacketPlaces.{decoded_at, one_more}
use Rattle.conn_classifier.proofs.decoding.decode_from.Goals as goal

pub loop-k-preserved : goal.loop-k-preserved
loop-k-preserved c =
    let file = c.args.capture.now in
    let inv = c.loop-k.invariant in
    let k = c.loop-k.k in
    let lt : k < length c.loop-k.places = omega (arith, inv.0, c.loop-k-test.true) in
    let within : c.args.at + k < length file.packets = omega (arith, inv.0, lt, c.requires.within) in (
      length-set c.loop-k.places k c.decode.result ∙ inv.0,
      one_more c.loop-k.places (decoded file c.args.verify) c.args.at k c.decode.result lt inv.1
          (λ d. c.decode.ensures ∙ ap (λ l. packet_in l c.body.result.now c.args.verify) c.link.ensures ∙ decoded_at file c.args.verify (c.args.at + k) c.body.result.now d within c.body.ensures.value),
    )
