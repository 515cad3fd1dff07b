-- What a setting of C means: the server's setting. Port 0 is no service, host 0 is nobody, and TTL 0 is the usual one.
use Rattle.std.specs.Prelude.{ℕ, ◌==◌, Option, None, Some, if◌then◌else◌}
use Rattle.sq_base.specs.declared.kinds.Addr.{Addr}
use Rattle.live_server.specs.declared.setting.Setting.{Setting}
use Rattle.sqtcp_c.specs.declared.setting.SqtcpSetting.{SqtcpSetting}

abbrev pub host_of : ℕ → Option Addr
host_of host = if host == 0 then None else Some (record { 0 = host })

abbrev pub setting_of : SqtcpSetting → Setting
setting_of s = record {
  address = record { 0 = s.address };
  broadcast = record { 0 = s.broadcast };
  places = s.places;
  idle = s.idle;
  bytes = s.bytes;
  segment = s.segment;
  marking = record { ttl = s.ttl; dscp = s.dscp };
  pings = s.pings;
  ports = record { echo = s.echo; discard = s.discard; daytime = s.daytime; chargen = s.chargen; web = 0 };
  site = None;
  host = host_of s.host;
}
