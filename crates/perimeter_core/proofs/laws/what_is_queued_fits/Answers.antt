use Rattle.perimeter_core.proofs.Room.{queued_fits}
use Rattle.perimeter_core.proofs.laws.what_is_queued_fits.Goals as goal

pub returns : goal.returns
returns c = queued_fits
