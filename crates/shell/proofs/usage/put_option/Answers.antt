use Rattle.std.proofs.Common.{List, ℕ, ◌++◌, codes, subst}
use Rattle.shell.specs.Table.{takes_of}
use Rattle.shell.specs.Usage.{taken_text}
use Rattle.shell.proofs.Pieces.{Stopped, Wrote, answers_behind, answers_last, answers_stop, stops_here, stops_more}
use Rattle.shell.proofs.usage.put_option.Goals as goal

pub returns-in_err-put : goal.returns-in_err-put
returns-in_err-put g c =
    answers_stop _ _ _ _ _ c.from_residual.result c.from_residual.ensures.0
    (stops_here _ _ _ _ (codes " [--") (c.args.row.now.name.now ++ (taken_text (takes_of c.args.row.now.takes) ++ codes "]")) (c.in_err-put.ensures.rose, c.in_err-put.ensures.failed))

pub returns-in_err-put-2 : goal.returns-in_err-put-2
returns-in_err-put-2 g c =
    let name =
    subst (λ (bs : List ℕ). Stopped (g.E.Sink.contents c.put.new.sink) (g.E.Sink.contents c.put-2.new.sink) (g.E.Sink.write_faults c.put.new.sink) (g.E.Sink.write_faults c.put-2.new.sink) bs)
    c.as_bytes.ensures.value (c.in_err-put-2.ensures.rose, c.in_err-put-2.ensures.failed) in
    answers_stop _ _ _ _ _ c.from_residual-in_err-put-2.result c.from_residual-in_err-put-2.ensures.0
    (stops_more _ _ _ _ _ _ (codes " [--") _ (c.in_ok-put.ensures.kept, c.in_ok-put.ensures.ok)
    (stops_here _ _ _ _ c.args.row.now.name.now (taken_text (takes_of c.args.row.now.takes) ++ codes "]") name))

pub returns-in_err-put_taken : goal.returns-in_err-put_taken
returns-in_err-put_taken g c =
    let name =
    subst (λ (bs : List ℕ). Wrote (g.E.Sink.contents c.put.new.sink) (g.E.Sink.contents c.put-2.new.sink) (g.E.Sink.write_faults c.put.new.sink) (g.E.Sink.write_faults c.put-2.new.sink) bs)
    c.as_bytes.ensures.value (c.in_ok-put-2.ensures.kept, c.in_ok-put-2.ensures.ok) in
    answers_stop _ _ _ _ _ c.from_residual-in_err-put_taken.result c.from_residual-in_err-put_taken.ensures.0
    (stops_more _ _ _ _ _ _ (codes " [--") _ (c.in_ok-put.ensures.kept, c.in_ok-put.ensures.ok)
    (stops_more _ _ _ _ _ _ c.args.row.now.name.now _ name
    (stops_here _ _ _ _ (taken_text (takes_of c.args.row.now.takes)) (codes "]") c.in_err-put_taken.ensures.1)))

pub returns : goal.returns
returns g c =
    let name =
    subst (λ (bs : List ℕ). Wrote (g.E.Sink.contents c.put.new.sink) (g.E.Sink.contents c.put-2.new.sink) (g.E.Sink.write_faults c.put.new.sink) (g.E.Sink.write_faults c.put-2.new.sink) bs)
    c.as_bytes.ensures.value (c.in_ok-put-2.ensures.kept, c.in_ok-put-2.ensures.ok) in
    answers_behind _ _ _ _ _ _ (codes " [--") _ _ (c.in_ok-put.ensures.kept, c.in_ok-put.ensures.ok)
    (answers_behind _ _ _ _ _ _ c.args.row.now.name.now _ _ name
    (answers_behind _ _ _ _ _ _ (taken_text (takes_of c.args.row.now.takes)) (codes "]") _ c.in_ok-put_taken.ensures.0
    (answers_last _ _ _ _ (codes "]") c.put-3.result c.put-3.ensures.ok c.put-3.ensures.failed c.put-3.ensures.rose c.put-3.ensures.kept)))
