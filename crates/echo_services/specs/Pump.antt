-- Which service a port has, and what that does with the two streams of a block.
use Rattle.std.specs.Prelude.{ℕ, ◌==◌, List, codes, if◌then◌else◌}
use Rattle.sq_base.specs.Ports.{echo_port}
use Rattle.tcb_machine.specs.BlockState.{Block}
use Rattle.echo_services.specs.Discard.{discard}
use Rattle.echo_services.specs.Echo.{echo}
use Rattle.echo_services.specs.declared.service.Service.{Service}
use Rattle.echo_services.specs.declared.service.Service.TheVariants.{Echo, Discard}

unfoldable pub pump : Service → Block → Block
pump Echo b = echo b
pump Discard b = discard b

-- the service of a port
abbrev pub service_of : ℕ → Service
service_of port = if port == echo_port then Echo else Discard

-- RFC 862, RFC 863
unfoldable pub service_word : Service → List ℕ
service_word Echo = codes "echo"
service_word Discard = codes "discard"
