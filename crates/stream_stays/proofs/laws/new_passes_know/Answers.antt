use Rattle.placed_parts.specs.Placing.{limits_of, origin_of}
use Rattle.stream_stays.proofs.Fresh.{new_passes_know_of}
use Rattle.stream_stays.proofs.laws.new_passes_know.Goals as goal

pub returns : goal.returns
returns g c = new_passes_know_of g.X.Steps.begins g.X.Steps.step limits_of c.args._sq.now (origin_of c.args._sq.now.given.first)
