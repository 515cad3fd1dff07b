-- A server, and the datagrams that wait to be sent.
use Rattle.std.specs.Prelude.{ℕ, ◌≡◌, List, [], ◌∷◌, ◌++◌, drop, length, false}
use Rattle.live_server.specs.Counting.{no_counts}
use Rattle.live_server.specs.Isolation.{CostsOf, KeepsRest, LosesOne}
use Rattle.live_server.specs.Serving.{Outcome, ServerOf, on_datagram, on_time}
use Rattle.live_server.specs.Written.{HasSent}
use Rattle.live_server.specs.declared.acting.Datagram.{Datagram}
use Rattle.live_server.specs.declared.crowding.TurnedAway.TheVariants.{Nobody}
use Rattle.live_server.specs.declared.setting.Setting.{Setting}

pub record Engined : Type 0 where
  pub server : ServerOf
  pub queue : List Datagram

-- a server that was just made, with nothing to send
abbrev pub new_engine : Setting → List ℕ → Engined
new_engine setting secret = record {
  server = record {
    conns = [];
    waiting = [];
    held = 0;
    pings = 0;
    told = false;
    turned = Nobody;
    draining = false;
    setting = setting;
    secret = secret;
    counts = no_counts;
  };
  queue = [];
}

-- what the server sends goes behind what waits
abbrev pub behind : Engined → Outcome → Engined
behind e o = record { server = o.server; queue = e.queue ++ o.sent }

-- what a datagram makes of it
abbrev pub after_datagram : ℕ → List ℕ → Engined → Engined
after_datagram now body e = behind e (on_datagram now body e.server)

-- and what the time does
abbrev pub after_tick : ℕ → Engined → Engined
after_tick now e = behind e (on_time now e.server)

-- Where memory was missing, some of what would be sent waits behind what waited, and the server lost what a server loses then: by a datagram
abbrev pub DatagramCosts : ℕ → List ℕ → Engined → Engined → Type 0
DatagramCosts now body before after =
    HasSent before.queue after.queue (on_datagram now body before.server).sent
    × CostsOf body before.server after.server × KeepsRest (length body) before.server after.server

-- and by the time
abbrev pub TickCosts : ℕ → Engined → Engined → Type 0
TickCosts now before after =
    HasSent before.queue after.queue (on_time now before.server).sent
    × LosesOne now before.server after.server × (after.server ≡ record before.server { conns = after.server.conns })

-- the first datagram that waits, or nothing
abbrev pub first_bytes : List Datagram → List ℕ
first_bytes [] = []
first_bytes (d ∷ ds) = d.bytes

-- it leaves
abbrev pub without_first : Engined → Engined
without_first e = record e { queue = drop 1 e.queue }
