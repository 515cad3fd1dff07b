use Rattle.text_digits.specs.Pieces.{told_first}
use Rattle.datagram_services.proofs.writing.write_more.Given as goal

abbrev pub ghost-over : goal.ghost-over
ghost-over g a = told_first a.sink.ghost_name (g.K.Sink.contents a.sink.now) (g.K.Sink.write_faults a.sink.now)
