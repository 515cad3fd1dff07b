use Rattle.std.proofs.Common.{◌-◌, ◌^◌, [], false, rules, subst}
use Rattle.std.specs.Fmt.{AppendsText, format_spec, padded_integral, styled_digits_output}
use Rattle.std.specs.Option.{option_map}
use Rattle.std.specs.String.{string_bytes}
use Rattle.case_rows.proofs.SpellingLemmas.{byte_next}
use Rattle.case_rows.proofs.bytes.add_text.Goals as goal

pub loop-byte-preserved : goal.loop-byte-preserved
loop-byte-preserved c =
    let out = string_bytes c.loop-byte.out in
    let new = string_bytes c.write.new.self in
    let laid = subst (λ s. AppendsText out new (styled_digits_output c.in_radix.result s)) c.laid_out.ensures c.in_ok-write.ensures.bytes in
    let adds = subst (λ o. AppendsText out new (option_map (padded_integral (format_spec 32 0 4 2 (2 ^ 64 - 1)) false []) o)) c.in_radix.ensures laid in
    byte_next c.args.bytes.now c.loop-byte.byte-index _ (string_bytes c.args.out.now) out new c.loop-byte-test.true (search rules) c.loop-byte.invariant adds
