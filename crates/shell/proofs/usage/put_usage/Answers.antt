use Rattle.std.proofs.Common.{List, ℕ, ◌++◌, codes, subst}
use Rattle.shell.specs.Table.{options_of}
use Rattle.shell.specs.Usage.{calls_text, options_text}
use Rattle.shell.proofs.Pieces.{Stopped, Wrote, answers_behind, answers_last, answers_stop, stops_here, stops_more}
use Rattle.shell.proofs.usage.put_usage.Goals as goal

pub returns-in_err-put : goal.returns-in_err-put
returns-in_err-put g c =
    let t = c.args.table.now in
    answers_stop _ _ _ _ _ c.from_residual.result c.from_residual.ensures.0
    (stops_here _ _ _ _ (codes "usage: ") (t.program.now ++ (options_text (options_of t.options.now) ++ (calls_text t.most_calls ++ codes "\n")))
    (c.in_err-put.ensures.rose, c.in_err-put.ensures.failed))

pub returns-in_err-put-2 : goal.returns-in_err-put-2
returns-in_err-put-2 g c =
    let t = c.args.table.now in
    let name =
    subst (λ (bs : List ℕ). Stopped (g.E.Sink.contents c.put.new.sink) (g.E.Sink.contents c.put-2.new.sink) (g.E.Sink.write_faults c.put.new.sink) (g.E.Sink.write_faults c.put-2.new.sink) bs)
    c.as_bytes.ensures.value (c.in_err-put-2.ensures.rose, c.in_err-put-2.ensures.failed) in
    answers_stop _ _ _ _ _ c.from_residual-in_err-put-2.result c.from_residual-in_err-put-2.ensures.0
    (stops_more _ _ _ _ _ _ (codes "usage: ") _ (c.in_ok-put.ensures.kept, c.in_ok-put.ensures.ok)
    (stops_here _ _ _ _ t.program.now (options_text (options_of t.options.now) ++ (calls_text t.most_calls ++ codes "\n")) name))

pub returns-in_err-put_options : goal.returns-in_err-put_options
returns-in_err-put_options g c =
    let t = c.args.table.now in
    let name =
    subst (λ (bs : List ℕ). Wrote (g.E.Sink.contents c.put.new.sink) (g.E.Sink.contents c.put-2.new.sink) (g.E.Sink.write_faults c.put.new.sink) (g.E.Sink.write_faults c.put-2.new.sink) bs)
    c.as_bytes.ensures.value (c.in_ok-put-2.ensures.kept, c.in_ok-put-2.ensures.ok) in
    answers_stop _ _ _ _ _ c.from_residual-in_err-put_options.result c.from_residual-in_err-put_options.ensures.0
    (stops_more _ _ _ _ _ _ (codes "usage: ") _ (c.in_ok-put.ensures.kept, c.in_ok-put.ensures.ok)
    (stops_more _ _ _ _ _ _ t.program.now _ name
    (stops_here _ _ _ _ (options_text (options_of t.options.now)) (calls_text t.most_calls ++ codes "\n") c.in_err-put_options.ensures.1)))

pub returns-in_err-put_calls : goal.returns-in_err-put_calls
returns-in_err-put_calls g c =
    let t = c.args.table.now in
    let name =
    subst (λ (bs : List ℕ). Wrote (g.E.Sink.contents c.put.new.sink) (g.E.Sink.contents c.put-2.new.sink) (g.E.Sink.write_faults c.put.new.sink) (g.E.Sink.write_faults c.put-2.new.sink) bs)
    c.as_bytes.ensures.value (c.in_ok-put-2.ensures.kept, c.in_ok-put-2.ensures.ok) in
    answers_stop _ _ _ _ _ c.from_residual-in_err-put_calls.result c.from_residual-in_err-put_calls.ensures.0
    (stops_more _ _ _ _ _ _ (codes "usage: ") _ (c.in_ok-put.ensures.kept, c.in_ok-put.ensures.ok)
    (stops_more _ _ _ _ _ _ t.program.now _ name
    (stops_more _ _ _ _ _ _ (options_text (options_of t.options.now)) _ c.in_ok-put_options.ensures.0
    (stops_here _ _ _ _ (calls_text t.most_calls) (codes "\n") c.in_err-put_calls.ensures.1))))

pub returns : goal.returns
returns g c =
    let t = c.args.table.now in
    let name =
    subst (λ (bs : List ℕ). Wrote (g.E.Sink.contents c.put.new.sink) (g.E.Sink.contents c.put-2.new.sink) (g.E.Sink.write_faults c.put.new.sink) (g.E.Sink.write_faults c.put-2.new.sink) bs)
    c.as_bytes.ensures.value (c.in_ok-put-2.ensures.kept, c.in_ok-put-2.ensures.ok) in
    answers_behind _ _ _ _ _ _ (codes "usage: ") _ _ (c.in_ok-put.ensures.kept, c.in_ok-put.ensures.ok)
    (answers_behind _ _ _ _ _ _ t.program.now _ _ name
    (answers_behind _ _ _ _ _ _ (options_text (options_of t.options.now)) _ _ c.in_ok-put_options.ensures.0
    (answers_behind _ _ _ _ _ _ (calls_text t.most_calls) (codes "\n") _ c.in_ok-put_calls.ensures.0
    (answers_last _ _ _ _ (codes "\n") c.put-3.result c.put-3.ensures.ok c.put-3.ensures.failed c.put-3.ensures.rose c.put-3.ensures.kept))))
