use Rattle.std.proofs.Common.{◌≡◌, ◌*◌, ◌≤◌, take}
use Rattle.std.specs.Prelude.{flat_map}
use Rattle.sq_base.specs.InternetSum.{word_sum}
use Rattle.segment_codec.specs.Options.{word_bytes}
use Rattle.segment_codec.proofs.writing.sum_options.Given as goal

-- the sum of the words so far
abbrev pub invariant-loop-word : goal.invariant-loop-word
invariant-loop-word l = (l.sum ≡ word_sum (flat_map word_bytes (take l.word-index l.words))) × (l.sum ≤ 2 * l.word-index * 65535)
