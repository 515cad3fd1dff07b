use Rattle.std.proofs.Common.{◌≡◌, drop}
use Rattle.case_rows.specs.Rows.{lines_named}
use Rattle.case_rows.proofs.rows.Row.lines.Given as goal

-- the fields before this one have other names
abbrev pub invariant-loop-field : goal.invariant-loop-field
invariant-loop-field l = lines_named l.self.fields.items l.name ≡ lines_named (drop l.field-index l.self.fields.items) l.name
