use Rattle.std.proofs.Common.{Some}
use Rattle.std.proofs.lemmas.Option.{slice_get_within}
use Rattle.squeue_pool.proofs.finished.Finished.part_there.Goals as goal

pub part-requires : goal.part-requires
part-requires g c = slice_get_within c.args.self.now.parts c.args.c (Some c.requires.0) c.requires.1

pub unreachable-requires : goal.unreachable-requires
unreachable-requires g c = cc (c.requires.1, c.in-None.ensures)
