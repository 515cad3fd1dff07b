use Rattle.std.proofs.Common.{◌∷◌, [], None, Some, lit<, map}
use Rattle.std.proofs.lemmas.Str.Pattern.{strip_prefix_char}
use Rattle.case_rows.specs.Files.{named_of}
use Rattle.case_rows.proofs.FileLemmas.{full_line, full_part, line_stands, lines_added, part_stands}
use Rattle.case_rows.proofs.reading.add.Goals as goal

pub returns-in_default-clause-adds : goal.returns-in_default-clause-adds
returns-in_default-clause-adds c =
    lines_added c.args.lines.now.items (c.args.line ∷ []) c.push.new.self.items _ c.in_ok-push.ensures.items (full_line (map named_of c.args.parts.now) c.args.line.now (strip_prefix_char 64 c.args.line.now None c.in_default.ensures.cases (lit< tt)))

pub returns-clause-adds : goal.returns-clause-adds
returns-clause-adds c =
    let is = strip_prefix_char 64 c.args.line.now (Some c.in-Some.name) c.in-Some.ensures.cases (lit< tt) in
    lines_added c.args.lines.now.items c.in-Some-named.more.now c.extend_from_slice.new.self.items _ c.in_ok-extend_from_slice.ensures.items
    (full_part c.args.parts.now c.args.line.now c.in-Some.name.now c.in-Some-named.more.now is c.in-Some-named.ensures)

pub returns-in_default-clause-stands : goal.returns-in_default-clause-stands
returns-in_default-clause-stands c = line_stands (map named_of c.args.parts.now) c.args.line.now (strip_prefix_char 64 c.args.line.now None c.in_default.ensures.cases (lit< tt))

pub returns-clause-stands : goal.returns-clause-stands
returns-clause-stands c =
    let is = strip_prefix_char 64 c.args.line.now (Some c.in-Some.name) c.in-Some.ensures.cases (lit< tt) in
    part_stands c.args.parts.now c.args.line.now c.in-Some.name.now c.in-Some-named.more.now is c.in-Some-named.ensures
