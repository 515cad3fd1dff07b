use denote.RattleType.{RattleType}
use denote.Param.Send.{IsSend}
use Rattle.perimeter_core.proofs.Sent.{known_send}
use Rattle.perimeter_core.specs.contracts.known.Known.{the_row}

pub send : (Y : RattleType) → IsSend (the_row Y)
send = known_send
