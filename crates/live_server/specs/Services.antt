-- The services of a server: at which ports they are, and what each does behind a connection.
use Rattle.std.specs.Prelude.{ℕ, ◌==◌, ◌&&◌, ◌||◌, not, Bool, List, Option, None, Some, if◌then◌else◌}
use Rattle.sq_base.specs.Ports.{discard_port, echo_port}
use Rattle.tcb_machine.specs.BlockState.{Block}
use Rattle.echo_services.specs.Chargen.{chargen, given_after}
use Rattle.echo_services.specs.Daytime.{daytime}
use Rattle.echo_services.specs.Discard.{discard}
use Rattle.echo_services.specs.Echo.{echo}
use Rattle.live_server.specs.DaytimeText.{daytime_text}
use Rattle.http_pages.specs.Pages.{Page}
use Rattle.page_service.specs.Pump.{pump}
use Rattle.page_service.specs.Site.{site}
use Rattle.page_service.specs.declared.phase.Phase.TheVariants.{Reads}
use Rattle.live_server.specs.declared.ports.Ports.{Ports}
use Rattle.live_server.specs.declared.service.LiveService.{LiveService}
use Rattle.live_server.specs.declared.service.LiveService.TheVariants.{Chargen, Daytime, Discard, Echo, Web}
use Rattle.live_server.specs.declared.setting.Setting.{Setting}

-- echo (RFC 862) and discard (RFC 863) at their own ports, and nothing else
abbrev pub plain_ports : Ports
plain_ports = record { echo = echo_port; discard = discard_port; daytime = 0; chargen = 0; web = 0 }

-- no service has a port
abbrev pub no_ports : Ports
no_ports = record { echo = 0; discard = 0; daytime = 0; chargen = 0; web = 0 }

-- port 0 is nobody's
abbrev pub is_served_at : Ports → ℕ → Bool
is_served_at p port =
    not (port == 0) && ((port == p.echo) || ((port == p.discard) || ((port == p.daytime) || ((port == p.chargen) || (port == p.web)))))

-- pages, where there are any
abbrev pub pages_of : Option (List Page) → LiveService
pages_of None = Discard
pages_of (Some pages) = Web Reads pages

-- the service of a port that is served, for a connection that begins at this time
abbrev pub service_at : Setting → ℕ → ℕ → LiveService
service_at g now port =
    if port == g.ports.echo then Echo
    else if port == g.ports.daytime then Daytime now
    else if port == g.ports.chargen then Chargen 0
    else if port == g.ports.web then pages_of g.site
    else Discard

-- what a pump makes of a block, by what the service keeps
unfoldable pub pump_of : LiveService → Block → Block
pump_of Echo b = echo b
pump_of Discard b = discard b
pump_of (Daytime begun) b = daytime (daytime_text begun) b
pump_of (Chargen given) b = chargen given b
pump_of (Web phase pages) b = (pump (site pages) phase b).1

-- and what the service keeps then
unfoldable pub after_pump : LiveService → Block → LiveService
after_pump Echo b = Echo
after_pump Discard b = Discard
after_pump (Daytime begun) b = Daytime begun
after_pump (Chargen given) b = Chargen (given_after given b)
after_pump (Web phase pages) b = Web (pump (site pages) phase b).0 pages
