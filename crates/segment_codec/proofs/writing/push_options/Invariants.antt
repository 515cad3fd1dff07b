use Rattle.std.proofs.Common.{◌≡◌, ◌≤◌, ◌++◌, take, vec_capacity}
use Rattle.std.specs.Prelude.{flat_map}
use Rattle.segment_codec.specs.Options.{word_bytes}
use Rattle.segment_codec.proofs.writing.push_options.Given as goal

-- the words so far are appended, and no room is lost
abbrev pub invariant-loop-word : goal.invariant-loop-word
invariant-loop-word l = (l.out.items ≡ l.fn.out.items ++ flat_map word_bytes (take l.word-index l.words)) × (vec_capacity l.fn.out ≤ vec_capacity l.out)
