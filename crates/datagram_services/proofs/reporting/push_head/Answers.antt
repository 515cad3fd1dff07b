use Rattle.datagram_services.proofs.LineParts.{headed}
use Rattle.datagram_services.proofs.reporting.push_head.Goals as goal

pub returns : goal.returns
returns g c =
    headed _ _ _ _ _ _ c.args.c c.args.tuple.now c.in_ok-push_field.ensures c.in_ok-push_protocol.ensures c.in_ok-push_next_end.ensures
    c.in_ok-push_next_end-2.ensures c.in_ok-push_service.ensures
