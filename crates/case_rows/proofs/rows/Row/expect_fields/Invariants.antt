use Rattle.std.proofs.Common.{◌≡◌, true, take}
use Rattle.std.specs.List.{list_all}
use Rattle.case_rows.specs.Rows.{is_among}
use Rattle.case_rows.proofs.rows.Row.expect_fields.Given as goal

-- the fields before this one are known
abbrev pub invariant-loop-field : goal.invariant-loop-field
invariant-loop-field l = list_all (λ f. is_among l.known f.name.now) (take l.field-index l.self.fields.items) ≡ true
