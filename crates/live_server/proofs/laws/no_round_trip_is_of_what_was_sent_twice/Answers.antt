use Rattle.live_server.proofs.RoundTripLemmas.{samples_of_once}
use Rattle.live_server.proofs.laws.no_round_trip_is_of_what_was_sent_twice.Goals as goal

pub returns : goal.returns
returns c = samples_of_once
