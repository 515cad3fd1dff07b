use Rattle.std.proofs.Common.{◌<◌, List, ℕ, ap, arith, length, subst, sym}
use Rattle.std.proofs.lemmas.List.{take_all}
use Rattle.shell.specs.Table.{options_of}
use Rattle.shell.specs.Usage.{options_text}
use Rattle.shell.proofs.Pieces.{Stopped, Wrote, answers_stop, stops_here, stops_more, texts_at, texts_more, wrote_more}
use Rattle.shell.proofs.usage.put_options.Goals as goal

pub returns-in_err-put_option : goal.returns-in_err-put_option
returns-in_err-put_option g c =
    let within : c.loop-row.row-index < length c.args.options.now = omega (arith, c.loop-row-test.true) in
    answers_stop _ _ _ _ _ c.from_residual.result c.from_residual.ensures.0
    (subst (λ (bs : List ℕ). Stopped (g.E.Sink.contents c.args.err.now) (g.E.Sink.contents c.put_option.new.err) (g.E.Sink.write_faults c.args.err.now) (g.E.Sink.write_faults c.put_option.new.err) bs)
    (texts_at c.args.options.now c.loop-row.row-index _ within)
    (stops_here _ _ _ _ _ _ (stops_more _ _ _ _ _ _ _ _ c.loop-row.invariant c.in_err-put_option.ensures.1)))

pub loop-row-preserved : goal.loop-row-preserved
loop-row-preserved g c =
    let within : c.loop-row.row-index < length c.args.options.now = omega (arith, c.loop-row-test.true) in
    subst (λ (bs : List ℕ). Wrote (g.E.Sink.contents c.args.err.now) (g.E.Sink.contents c.put_option.new.err) (g.E.Sink.write_faults c.args.err.now) (g.E.Sink.write_faults c.put_option.new.err) bs)
    (sym (texts_more c.args.options.now c.loop-row.row-index _ within))
    (wrote_more _ _ _ _ _ _ _ _ c.loop-row.invariant c.in_ok-put_option.ensures.0)

pub returns : goal.returns
returns g c = (
  subst (λ (bs : List ℕ). Wrote (g.E.Sink.contents c.args.err.now) (g.E.Sink.contents c.loop-row.err) (g.E.Sink.write_faults c.args.err.now) (g.E.Sink.write_faults c.loop-row.err) bs)
      (ap (λ l. options_text (options_of l)) (take_all c.loop-row.row-index c.args.options.now c.loop-row-test.false)) c.loop-row.invariant,
  tt,
)
