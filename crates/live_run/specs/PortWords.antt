-- The word that names the ports of the services: NAME=PORT, with commas between, as `echo=7,daytime=13`.
use Rattle.std.specs.Prelude.{ℕ, zero, suc, ◌==◌, ◌&&◌, ◌||◌, Bool, List, [], ◌∷◌, Option, None, Some, if◌then◌else◌, codes, option_and_then}
use Rattle.std.specs.Option.{option_map_or}
use Rattle.std.specs.Str.{bytes_eq}
use Rattle.shell.specs.Numbers.{number_between}
use Rattle.shell.specs.Parts.{split_at}
use Rattle.shell.specs.Table.{Text}
use Rattle.live_server.specs.Services.{no_ports, plain_ports}
use Rattle.live_server.specs.declared.ports.Ports.{Ports}

-- a service has this port
abbrev pub has_port : Ports → ℕ → Bool
has_port p port = (port == p.echo) || ((port == p.discard) || ((port == p.daytime) || ((port == p.chargen) || (port == p.web))))

-- the service of this name, which has no port yet, gets one
unfoldable pub gets_port : Ports → Text → ℕ → Option Ports
gets_port p name port =
    if bytes_eq name (codes "echo") && (p.echo == 0) then Some (record p { echo = port })
    else if bytes_eq name (codes "discard") && (p.discard == 0) then Some (record p { discard = port })
    else if bytes_eq name (codes "daytime") && (p.daytime == 0) then Some (record p { daytime = port })
    else if bytes_eq name (codes "chargen") && (p.chargen == 0) then Some (record p { chargen = port })
    else if bytes_eq name (codes "web") && (p.web == 0) then Some (record p { web = port })
    else None

-- that no service has
unfoldable pub named_by : Ports → Text → ℕ → Option Ports
named_by p name port = if has_port p port then None else gets_port p name port

-- NAME=PORT, with the `=` (61)
unfoldable pub port_named : Ports → Text → Option Ports
port_named p text = option_and_then (λ parts. option_and_then (named_by p parts.0) (number_between 1 65535 parts.1)) (split_at 61 text)

-- at most so many more, with commas (44) between
unfoldable pub ports_named : ℕ → Ports → Text → Option Ports
ports_named zero p text = port_named p text
ports_named (suc more) p text =
    option_map_or (λ parts. option_and_then (λ q. ports_named more q parts.1) (port_named p parts.0)) (split_at 44 text) (port_named p text)

-- without the word there is echo at 7 and discard at 9; with it, those that it names
abbrev pub ports_in : List Text → Option Ports
ports_in [] = Some plain_ports
ports_in (word ∷ _) = ports_named 4 no_ports word
