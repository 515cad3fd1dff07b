use Rattle.live_server.proofs.FlightLemmas.{output_bounded, shown_kept}
use Rattle.live_server.proofs.laws.the_window_bounds_what_is_under_way.Goals as goal

pub returns-clause-output : goal.returns-clause-output
returns-clause-output c = output_bounded

pub returns-clause-shown : goal.returns-clause-shown
returns-clause-shown c = shown_kept
