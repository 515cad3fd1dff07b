use Rattle.std.proofs.Common.{◌≡◌, ◌++◌, [], length, map}
use Rattle.case_rows.specs.Files.{begins_field, fields_in, fit_fields, groups, named_of, numbered}
use Rattle.case_rows.proofs.reading.fields_of.Given as goal

abbrev pub invariant-loop-rest : goal.invariant-loop-rest
invariant-loop-rest l = (map named_of l.fields.items ++ fields_in (map named_of l.parts) (map numbered l.rest) ≡ fields_in (map named_of l.parts) (map numbered l.section))
    × (fit_fields (map named_of l.parts) (map named_of l.fields.items) (groups begins_field (map numbered l.rest)) ≡ fit_fields (map named_of l.parts) [] (groups begins_field (map numbered l.section)))

abbrev pub decreases-loop-rest : goal.decreases-loop-rest
decreases-loop-rest l = length l.rest
