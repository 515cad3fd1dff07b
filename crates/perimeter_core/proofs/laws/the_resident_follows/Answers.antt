use Rattle.perimeter_core.proofs.BlocksFollow.{peri_push}
use Rattle.perimeter_core.proofs.laws.the_resident_follows.Goals as goal

pub returns : goal.returns
returns c = peri_push
