-- A checksum makes the sum whole, also where ffff stands for 0.
use Rattle.std.proofs.Common.{◌≡◌, ℕ, ◌+◌, ◌-◌, ◌<◌, List, length, ap, ◌∙◌, arith}
use Rattle.std.proofs.lemmas.Bool.Decides.{nat_tests}
use Rattle.sq_base.specs.InternetSum.{word_sum, reduced}
use Rattle.byteorder.specs.Endian.{big_bytes}
use Rattle.sq_base.specs.declared.kinds.Tuple.{Tuple}
use Rattle.segment_codec.proofs.SumLemmas.{sum_completes}
use Rattle.udp_codec.specs.UdpBytes.{ip_with, ip_sum, udp_with, udp_sum, not_none, whole_sum}

word_sum-ip_with : (t : Tuple) (total sum : ℕ) → sum < 65536 → word_sum (ip_with t total sum) ≡ word_sum (ip_with t total 0) + sum
word_sum-ip_with t total sum h = omega arith

pub header_sums : (t : Tuple) (total : ℕ) → reduced (word_sum (ip_with t total (ip_sum t total))) ≡ 65535
unfolding ip_sum
header_sums t total = ap reduced (word_sum-ip_with t total (ip_sum t total) (omega arith)) ∙ sum_completes (word_sum (ip_with t total 0))

word_sum-udp_with : (t : Tuple) (text : List ℕ) (sum : ℕ) → sum < 65536 → word_sum (udp_with t text sum) ≡ word_sum (udp_with t text 0) + sum
word_sum-udp_with t text sum h = omega arith

sum_fills : (n : ℕ) → reduced (n + not_none (65535 - reduced n)) ≡ 65535
sum_fills n = grind (arith, nat_tests)

not_none-below : (n : ℕ) → n < 65536 → not_none n < 65536
not_none-below n h = grind (arith, nat_tests)

pub part_sums : (t : Tuple) (text : List ℕ) → whole_sum t text (udp_with t text (udp_sum t text)) ≡ 65535
unfolding udp_sum
part_sums t text =
    let before = word_sum (big_bytes 4 t.server.0) + word_sum (big_bytes 4 t.client.0) + 17 + (8 + length text) in
    let whole = before + word_sum (udp_with t text 0) in
    let sum = udp_sum t text in
    let small : sum < 65536 = not_none-below (65535 - reduced whole) (omega arith) in
    let e : before + word_sum (udp_with t text sum) ≡ whole + sum = omega (arith, word_sum-udp_with t text sum small) in
    ap reduced e ∙ sum_fills whole
