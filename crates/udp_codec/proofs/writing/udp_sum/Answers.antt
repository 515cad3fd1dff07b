use Rattle.std.proofs.Common.{ℕ, ◌-◌, ap, ◌∙◌, arith}
use Rattle.sq_base.specs.InternetSum.{reduced}
use Rattle.segment_codec.proofs.SumLemmas.{goes_on}
use Rattle.udp_codec.specs.UdpBytes.{udp_sum, not_none}
use Rattle.udp_codec.proofs.writing.udp_sum.Goals as goal

pub returns : goal.returns
unfolding udp_sum
returns c =
    let text = goes_on _ _ _ _ c.folded.ensures c.inet_sum.ensures in
    let whole = ap reduced (omega (arith, c.requires, c.halves.ensures.is, c.halves-2.ensures.is)) in
    c.not_none.ensures ∙ ap (λ (n : ℕ). not_none (65535 - n)) (text ∙ whole)
