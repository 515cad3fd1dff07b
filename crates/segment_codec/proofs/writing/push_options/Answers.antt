use Rattle.std.proofs.Common.{ap, arith, length, length-append, take}
use Rattle.std.specs.Prelude.{flat_map}
use Rattle.segment_codec.specs.Options.{word_bytes}
use Rattle.segment_codec.proofs.SumLemmas.{word_within}
use Rattle.segment_codec.proofs.writing.push_options.Goals as goal

pub returns-in_err-extend_from_slice-clause-succeeds : goal.returns-in_err-extend_from_slice-clause-succeeds
returns-in_err-extend_from_slice-clause-succeeds c = λ fits.
    let words = c.args.words.now in
    let n = c.loop-word.word-index in
    let i = c.loop-word.invariant in
    let room = word_within words n c.in-Some.word c.loop-word-test.true c.in-Some.is in
    let long = length-append c.args.out.now.items (flat_map word_bytes (take n words)) in
    let fails = c.in_err-extend_from_slice.ensures.succeeds (omega (arith, fits, i.1, ap length i.0, long, room, ap length c.to_be_bytes.ensures)) in
    absurd (let no : ⊥ = cc in no)
