use Rattle.std.specs.Prelude.{◌≡◌, ◌∷◌, ◌++◌, [], Some}
use Rattle.std.proofs.Common.{subst}
use Rattle.std.proofs.lemmas.Bool.Decides.{Decides-eqb}
use Rattle.std.proofs.lemmas.Slice.Eq.{strip_prefix_is}
use Rattle.case_rows.proofs.Lines.{behind_line}
use Rattle.case_rows.proofs.comparing.after_line.Goals as goal

pub returns : goal.returns
returns c =
    let rest = c.in_ok-strip_prefix.field-0 in
    let begins : c.args.bytes.now ≡ c.as_bytes.result.now ++ rest.now =
    strip_prefix_is Decides-eqb c.args.bytes.now c.as_bytes.result.now (Some rest) c.in_ok-strip_prefix.ensures.cases in
    behind_line c.args.bytes.now c.args.line.now rest.now c.strip_prefix-2.result (subst (λ l. c.args.bytes.now ≡ l ++ rest.now) c.as_bytes.ensures.value begins)
    (strip_prefix_is Decides-eqb rest.now (10 ∷ []) c.strip_prefix-2.result c.strip_prefix-2.ensures.cases)
