use Rattle.std.proofs.Common.{◌≡◌, inl, inr, ◌∙◌}
use Rattle.clap.specs.Words.{found_of, rows_of}
use Rattle.shell.specs.Table.{table_of}
use Rattle.shell.specs.declared.words.WordFault.TheVariants.{Usage}
use Rattle.shell.proofs.Accepted.{accepted, refused_by}
use Rattle.shell.proofs.words.matches_in.Goals as goal

pub returns-in-Ok-clause-ok : goal.returns-in-Ok-clause-ok
returns-in-Ok-clause-ok c = accepted (table_of c.args.table.now) c.requires c.args.words.now (rows_of (found_of c.in-Ok.matches)) c.in-Ok.ensures.fails c.in-Ok.ensures.rows

pub returns-in-Err-clause-usage : goal.returns-in-Err-clause-usage
returns-in-Err-clause-usage c = λ e.
    let usage : c.fault_of.result ≡ Usage = cc in
    elim c.in-Err.ensures.fails [ inl memory ↦ absurd (c.fault_of.ensures usage (c.kind.ensures ∙ memory)) | inr among ↦ refused_by (table_of c.args.table.now) c.requires c.args.words.now _ among ]
