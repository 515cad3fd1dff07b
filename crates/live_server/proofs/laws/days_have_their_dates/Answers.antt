use Rattle.std.proofs.Common.{refl}
use Rattle.std.specs.Fmt.{digits}
use Rattle.live_server.specs.DaytimeText.{date_of, daytime_text}
use Rattle.live_server.proofs.laws.days_have_their_dates.Goals as goal

pub returns-clause-line : goal.returns-clause-line
unfolding digits daytime_text date_of
returns-clause-line c = refl
