use Rattle.std.proofs.Common.{◌≡◌, ◌*◌, ◌≤◌, length, take}
use Rattle.std.specs.Prelude.{flat_map}
use Rattle.segment_codec.specs.Options.{word_bytes}
use Rattle.segment_codec.proofs.writing.carried.Given as goal

-- how many of the words so far are carried
abbrev pub invariant-loop-word : goal.invariant-loop-word
invariant-loop-word l = (4 * l.count ≡ length (flat_map word_bytes (take l.word-index l.words))) × (l.count ≤ l.word-index)
