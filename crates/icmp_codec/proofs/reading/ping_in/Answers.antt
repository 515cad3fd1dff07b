use Rattle.std.proofs.Common.{ap, arith, length, length-drop}
use Rattle.icmp_codec.proofs.reading.ping_in.Goals as goal

pub invariant_of-result : goal.invariant_of-result
invariant_of-result c = omega (arith, ap length c.rest_at.ensures, length-drop 4 c.message_of-message.result.now, c.message_of-message.ensures.most)
