use Rattle.std.proofs.Common.{◌∙◌, Ok, ap, map, rules}
use Rattle.std.specs.Prelude.{codes}
use Rattle.std.specs.Str.{bytes_eq}
use Rattle.std.specs.declared.alloc.AllocError.{AllocError}
use Rattle.std.proofs.lemmas.Iterator.Consumers.{map_from_collect}
use Rattle.std.proofs.lemmas.Iterator.Splits.{YieldsList-from_slice_split}
use Rattle.case_rows.specs.Rows.{Line}
use Rattle.case_rows.specs.Wanted.{Lines}
use Rattle.case_rows.proofs.Outputs.{one_of}
use Rattle.case_rows.proofs.wanted.expect_one_of.Goals as goal

pub returns : goal.returns
returns c =
    let parts = map_from_collect {E = AllocError} (Ok c.in_ok-wanted.wanted) c.in_ok-wanted.ensures.ran
    (YieldsList-from_slice_split _ (λ (line : Line). bytes_eq line.now (codes "or")) c.args.lines.now c.split.ensures.rest c.split.ensures.done c.split.ensures.closure (λ x b q k. search rules)) in
    one_of c.expect_any.result c.deref.result.now _ c.args.out.now (ap (map (λ (ls : Lines). ls.now)) c.deref.ensures.value ∙ parts) c.expect_any.ensures
