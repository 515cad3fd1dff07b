use Rattle.std.proofs.Common.{List, ℕ, codes, subst, sym}
use Rattle.sq_base.specs.Ends.{end_of}
use Rattle.shell.specs.declared.table.Takes.{Takes}
use Rattle.shell.specs.Table.{takes_of}
use Rattle.shell.specs.Telling.{WritesAll}
use Rattle.shell.specs.Usage.{taken_text}
use Rattle.shell.proofs.Pieces.{answers_behind, answers_last}
use Rattle.shell.proofs.usage.put_taken.Goals as goal

pub returns-in_ok-put-in-Text : goal.returns-in_ok-put-in-Text
returns-in_ok-put-in-Text g c =
    let last = answers_last _ _ _ _ _ c.put-in-Text-2.result c.put-in-Text-2.ensures.ok c.put-in-Text-2.ensures.failed c.put-in-Text-2.ensures.rose c.put-in-Text-2.ensures.kept in
    let shown =
    subst (λ (bs : List ℕ). WritesAll c.put-in-Text-2.result (end_of g.E.Sink.contents g.E.Sink.write_faults c.put-in-Text.new.sink c.put-in-Text-2.new.sink) bs) c.as_bytes.ensures.value last in
    let both = answers_behind _ _ _ _ _ _ (codes " ") _ _ (c.in_ok-put-in-Text.ensures.kept, c.in_ok-put-in-Text.ensures.ok) shown in
    subst (λ (t : Takes). WritesAll c.put-in-Text-2.result (end_of g.E.Sink.contents g.E.Sink.write_faults c.args.err.now c.put-in-Text-2.new.sink) (taken_text (takes_of t))) (sym c.in-Text.is) both
