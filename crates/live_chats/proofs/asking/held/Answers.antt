use Rattle.std.proofs.Common.{◌≡◌, ◌+◌, ◌-◌, ◌^◌, ◌<◌, ◌≤◌, length, min, ap, arith}
use Rattle.tcb_machine.specs.BlockState.{held_in}
use Rattle.live_server.specs.Table.{conn_at}
use Rattle.live_server.specs.declared.facts.Facts.{Facts}
use Rattle.live_server.proofs.HeldLemmas.{held_all, held_more}
use Rattle.live_chats.specs.Seating.{conn_of_seat, conns_of}
use Rattle.live_chats.proofs.AskingLemmas.{facts_at}
use Rattle.live_chats.proofs.ListLemmas.{length_map}
use Rattle.live_chats.proofs.asking.held.Goals as goal

pub loop-i-preserved : goal.loop-i-preserved
loop-i-preserved c =
    record {
      total = λ st seated.
          let es = c.args.seats.now.entries in
          let i = c.loop-i.i in
          let e = c.seat_at.ensures in
          let cs = conns_of st es in
          let held : c.seat_at.result.facts.held ≡ held_in (conn_at i cs).tcb = ap (λ (f : Facts). f.held) (facts_at st es i (e.0, c.seat_at.result) e.1 seated) in
          let sum : c.saturating_add-total.result ≡ min (2 ^ 64 - 1) (c.loop-i.total + held_in (conn_at i cs).tcb) = omega (arith, c.saturating_add-total.ensures, held) in
          let within : i < length cs = omega (arith, c.loop-i.invariant.all, c.loop-i-test.true, length_map (conn_of_seat st) es) in
          held_more cs i c.loop-i.total c.saturating_add-total.result within (c.loop-i.invariant.total st seated) sum;
      all = c.loop-i.invariant.all;
    }

pub returns : goal.returns
returns c = λ st seated.
    let es = c.args.seats.now.entries in
    let cs = conns_of st es in
    let past : length cs ≤ c.loop-i.i = omega (arith, c.loop-i.invariant.all, c.loop-i-test.false, length_map (conn_of_seat st) es) in
    held_all cs c.loop-i.i c.loop-i.total past (c.loop-i.invariant.total st seated)
