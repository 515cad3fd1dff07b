-- What a server that drains promises: no connection opens any more, and each one closes at the next tick. And who begins a drain: the host alone.
use Rattle.std.specs.Prelude.{◌≡◌, ℕ, ◌≤◌, true, false, List, length, codes, Some}
use Rattle.echo_services.specs.Pumping.{may_offer}
use Rattle.sq_base.specs.declared.kinds.Tuple.{Tuple}
use Rattle.udp_codec.specs.ReadAgain.{text_in as ordered_text}
use Rattle.udp_codec.specs.declared.datagram.Udp.{Udp}
use Rattle.live_server.specs.Isolation.{IsTable, conn_of}
use Rattle.live_server.specs.Orders.{order_in}
use Rattle.live_server.specs.Serving.{ServerOf, on_datagram, on_time}
use Rattle.live_server.specs.declared.conn.Conn.{Conn}

-- no connection took a place, and it drains still
pub record OpensNone (before after : ServerOf) : Type 0 where
  pub opened : after.counts.opened ≡ before.counts.opened
  pub fewer : length after.conns ≤ length before.conns
  pub drains : after.draining ≡ true

-- whatever datagram comes
abbrev pub NoneOpens : Type 0
NoneOpens = (now : ℕ) (body : List ℕ) (sv : ServerOf) → sv.draining ≡ true → OpensNone sv (on_datagram now body sv).server

-- behind a tick no connection is ESTABLISHED or in CLOSE-WAIT: each has asked for its FIN, or is half open
abbrev pub EachCloses : Type 0
EachCloses = (now : ℕ) (q : Tuple) (sv : ServerOf) (c : Conn) → IsTable sv → sv.draining ≡ true → conn_of q (on_time now sv).server ≡ Some c
    → may_offer c.tcb.state ≡ false

-- a datagram holds an order of the host, whose text is `drain`
abbrev pub OrdersDrain : List ℕ → ServerOf → Type 0
OrdersDrain body sv = (u : Udp) × (order_in sv.setting body ≡ Some u) × (ordered_text u body ≡ codes "drain")

-- whatever datagram begins a drain is such an order
abbrev pub HostDrains : Type 0
HostDrains = (now : ℕ) (body : List ℕ) (sv : ServerOf) → sv.draining ≡ false → (on_datagram now body sv).server.draining ≡ true → OrdersDrain body sv

-- and no tick begins or ends one
abbrev pub TimeKeepsDrain : Type 0
TimeKeepsDrain = (now : ℕ) (sv : ServerOf) → (on_time now sv).server.draining ≡ sv.draining
