-- How long a segment without options is.
use Rattle.std.proofs.Common.{◌≡◌, ℕ, ◌+◌, ◌≤◌, [], length, ap, arith}
use Rattle.std.proofs.lemmas.List.{length-append}
use Rattle.sq_base.specs.declared.kinds.Tuple.{Tuple}
use Rattle.segment_codec.specs.SegmentBytes.{segment_bytes, ip_with, tcp_with, ip_sum, tcp_sum}
use Rattle.segment_codec.specs.Options.{option_bytes}
use Rattle.segment_codec.specs.declared.packet.Reply.{Reply}

pub tcp_len : (t : Tuple) (r : Reply) (sum : ℕ) → option_bytes r.options ≡ [] → length (tcp_with t r sum) ≡ 20 + length r.text
tcp_len t r sum none = omega (arith, length-append (option_bytes r.options) r.text, ap length none)

pub segment_len : (t : Tuple) (r : Reply) → option_bytes r.options ≡ [] → length r.text ≤ 96 → length (segment_bytes t r) ≤ 136
unfolding segment_bytes
segment_len t r none short =
    let total = 20 + length (tcp_with t r 0) in
    omega (arith, length-append (ip_with t total (ip_sum t total)) (tcp_with t r (tcp_sum t r)), tcp_len t r (tcp_sum t r) none, short)
