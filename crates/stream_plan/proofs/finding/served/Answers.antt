use Rattle.std.proofs.Common.{ap, sym, ◌∙◌, false}
use Rattle.segment_codec.specs.Packet.{packet_in}
use Rattle.stream_plan.specs.Streams.{served_of, served_tcp}
use Rattle.stream_plan.proofs.finding.served.Goals as goal

pub returns-in-Some : goal.returns-in-Some
returns-in-Some c = c.served_udp.ensures ∙ ap (λ o. served_of o (packet_in c.args.link c.args.body.now false)) (sym c.in-Some.is ∙ c.decode_udp.ensures)

pub returns-in-None : goal.returns-in-None
returns-in-None c =
    c.served_tcp.ensures ∙ ap served_tcp c.decode.ensures
    ∙ ap (λ o. served_of o (packet_in c.args.link c.args.body.now false)) (sym c.in-None.is ∙ c.decode_udp.ensures)
