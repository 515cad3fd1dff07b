-- What a plan is made by, beside the capture: whether checksums decide, and the port of each service over TCP.
use Rattle.std.specs.Prelude.{ℕ, ◌==◌, ◌||◌, Bool}
use Rattle.sq_base.specs.Ports.{discard_port, echo_port}
use Rattle.conn_classifier.specs.declared.rules.Ports.{Ports}
use Rattle.conn_classifier.specs.declared.rules.Rules.{Rules}

-- RFC 862, RFC 863
abbrev pub usual_ports : Ports
usual_ports = record { echo = echo_port; discard = discard_port }

-- a service has this port
abbrev pub is_served : Ports → ℕ → Bool
is_served ports port = (port == ports.echo) || (port == ports.discard)

-- the well-known ports; checksums decide or not
abbrev pub usual : Bool → Rules
usual verify = record { verify = verify; ports = usual_ports }
