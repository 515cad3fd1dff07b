use Rattle.std.proofs.Common.{◌++◌, ap, ◌∙◌, arith}
use Rattle.segment_codec.proofs.SumLemmas.{datagram_is_joined, length-tcp_with}
use Rattle.segment_codec.proofs.writing.append.Goals as goal

pub returns-clause-ok : goal.returns-clause-ok
returns-clause-ok c =
    datagram_is_joined c.args.tuple.now c.args.reply.now c.args.out.now.items c.reserve.new.self.items c.push_header.new.out.items c.push_tcp.new.out.items _ _ _
    c.reserve.ensures.items (c.in_ok-push_header.ensures.ok ∙ ap (λ l. c.reserve.new.self.items ++ l) c.ip_header.ensures) c.in_ok-push_tcp.ensures.ok
    (omega (arith, c.tcp_len-len.ensures.value, length-tcp_with c.args.tuple.now c.args.reply.now 0)) c.header_sum-sum.ensures c.tcp_sum.ensures
