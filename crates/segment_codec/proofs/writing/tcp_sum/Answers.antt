use Rattle.std.proofs.Common.{ℕ, ◌-◌, ap, ◌∙◌, arith}
use Rattle.sq_base.specs.InternetSum.{reduced, word_sum}
use Rattle.segment_codec.specs.SegmentBytes.{tcp_sum}
use Rattle.segment_codec.proofs.SumLemmas.{goes_on, word_sum_parts, length-tcp_with}
use Rattle.segment_codec.proofs.writing.tcp_sum.Goals as goal

pub returns : goal.returns
unfolding tcp_sum
returns c =
    let t = c.args.tuple.now in
    let r = c.args.reply.now in
    let text = goes_on _ _ _ _ c.folded-sum.ensures c.inet_sum.ensures in
    let parts = word_sum_parts t r c.words.result c.words.ensures in
    ap (λ (n : ℕ). 65535 - n) (text ∙ ap reduced (omega (arith, c.requires, c.halves.ensures.is, c.halves-2.ensures.is, c.sum_of-header.ensures.is, c.sum_options.ensures.is, ap word_sum c.words.ensures, ap word_sum c.tcp_header.ensures, ap word_sum c.as_slice.ensures, parts, length-tcp_with t r 0)))
