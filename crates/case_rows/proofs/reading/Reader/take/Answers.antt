use Rattle.std.proofs.Common.{◌≡◌, ◌∙◌, ℕ, List, false, true, ap, map, sym}
use Rattle.std.specs.Prelude.{codes}
use Rattle.std.specs.Str.{bytes_eq}
use Rattle.case_rows.specs.Files.{begins, is_part, is_row, numbered}
use Rattle.case_rows.proofs.FileLemmas.{front_seen, part_fits, row_fits}
use Rattle.case_rows.proofs.reading.Reader.take.Goals as goal

pub returns-then-eq-clause-fits : goal.returns-then-eq-clause-fits
returns-then-eq-clause-fits c =
    let more = c.args.more.now in
    let is : is_row c.args.line.text.now ≡ true = sym (c.eq.ensures ∙ ap (λ (w : List ℕ). bytes_eq w (codes "row")) c.halves.ensures.0) ∙ c.if-eq.true in
    row_fits c.add_row.result c.args.self.now c.add_row.new.self (numbered c.args.line) (map numbered more) _ _ is c.halves.ensures.1
    (front_seen begins numbered c.split_at.result.0.now more c.section_len.result c.section_len.ensures.value c.split_at.ensures.front) c.add_row.ensures.parts c.add_row.ensures.names c.add_row.ensures.fits

pub returns-then-eq-2-clause-fits : goal.returns-then-eq-2-clause-fits
returns-then-eq-2-clause-fits c =
    let more = c.args.more.now in
    let no_row : is_row c.args.line.text.now ≡ false = sym (c.eq.ensures ∙ ap (λ (w : List ℕ). bytes_eq w (codes "row")) c.halves.ensures.0) ∙ c.if-eq.false in
    let is : is_part c.args.line.text.now ≡ true = sym (c.eq-else-eq.ensures ∙ ap (λ (w : List ℕ). bytes_eq w (codes "part")) c.halves.ensures.0) ∙ c.if-eq-2.true in
    part_fits c.add_part.result c.args.self.now c.add_part.new.self (numbered c.args.line) (map numbered more) _ _ no_row is c.halves.ensures.1
    (front_seen begins numbered c.split_at-then-eq-2.result.0.now more c.section_len-then-eq-2.result c.section_len-then-eq-2.ensures.value c.split_at-then-eq-2.ensures.front)
    c.add_part.ensures.parts c.add_part.ensures.rows c.add_part.ensures.fits
