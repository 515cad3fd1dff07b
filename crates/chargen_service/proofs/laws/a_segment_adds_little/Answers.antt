use Rattle.chargen_service.proofs.GeneratingLemmas.{segment-adds, time-adds}
use Rattle.chargen_service.proofs.laws.a_segment_adds_little.Goals as goal

pub returns-clause-segment : goal.returns-clause-segment
returns-clause-segment c = segment-adds

pub returns-clause-time : goal.returns-clause-time
returns-clause-time c = time-adds
