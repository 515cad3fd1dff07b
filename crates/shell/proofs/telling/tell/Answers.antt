use Rattle.std.proofs.Common.{List, ℕ, subst}
use Rattle.std.specs.Io.KnownBytes.{Appends}
use Rattle.sq_base.specs.Ends.{end_of}
use Rattle.shell.specs.Telling.{TellsLine}
use Rattle.shell.proofs.TellLemmas.{tells_behind}
use Rattle.shell.proofs.telling.tell.Goals as goal

pub returns : goal.returns
returns g c =
    tells_behind _ _ _ _ _ _ _ _
    (subst (λ (bs : List ℕ). Appends (g.E.Sink.contents c.args.err.now) (g.E.Sink.contents c.put.new.sink) bs) c.as_bytes.ensures.value c.in-Ok.ensures.ok) c.in-Ok.ensures.kept
    (subst (λ (bs : List ℕ). TellsLine (end_of g.E.Sink.contents g.E.Sink.write_faults c.put.new.sink c.tell_line.new.err) bs) c.as_bytes-2.ensures.value c.tell_line.ensures)
