use denote.RattleType.{RattleType}
use denote.Param.Send.{IsSync}
use Rattle.perimeter_core.proofs.Sent.{known_sync}
use Rattle.perimeter_core.specs.contracts.known.Known.{the_row}

pub sync : (Y : RattleType) → IsSync (the_row Y)
sync = known_sync
