use Rattle.std.proofs.Common.{take}
use Rattle.shell.specs.Table.{options_of}
use Rattle.shell.specs.Usage.{options_text}
use Rattle.shell.proofs.Pieces.{Wrote}
use Rattle.shell.proofs.usage.put_options.Given as goal

-- the options so far are written
abbrev pub invariant-loop-row : goal.invariant-loop-row
invariant-loop-row g l =
    Wrote (g.E.Sink.contents l.fn.err) (g.E.Sink.contents l.err) (g.E.Sink.write_faults l.fn.err) (g.E.Sink.write_faults l.err) (options_text (options_of (take l.row-index l.options)))
