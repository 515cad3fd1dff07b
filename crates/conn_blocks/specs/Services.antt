-- Which service each connection of a plan has.
use Rattle.std.specs.Prelude.{ℕ, ◌==◌, slice_get, if◌then◌else◌}
use Rattle.std.specs.Option.{option_map_or}
use Rattle.conn_classifier.specs.Plan.{PlanOf}
use Rattle.conn_classifier.specs.declared.rules.Ports.{Ports}
use Rattle.echo_services.specs.declared.service.Service.{Service}
use Rattle.echo_services.specs.declared.service.Service.TheVariants.{Echo, Discard}

-- the service of a port that is served: the first that has it
abbrev pub service_at : Ports → ℕ → Service
service_at ports port = if port == ports.echo then Echo else Discard

-- the service of connection c
abbrev pub service_in : PlanOf → ℕ → Service
service_in p c = option_map_or (λ t. service_at p.ports t.server_port) (slice_get p.tuples c) Echo
