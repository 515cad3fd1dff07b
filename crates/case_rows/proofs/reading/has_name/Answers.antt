use Rattle.case_rows.proofs.FileLemmas.{name_found}
use Rattle.case_rows.proofs.reading.has_name.Goals as goal

pub returns : goal.returns
returns c = name_found c.args.fields.now c.args.name.now c.is_some.result c.named.result c.is_some.ensures c.named.ensures
