use Rattle.std.proofs.Common.{◌≡◌, ◌-◌, ◌^◌, length, min, take}
use Rattle.stream_stays.specs.declared.place.Stays.{Stays}
use Rattle.live_server.specs.Table.{total_of}
use Rattle.live_chats.specs.Hearing.{ChatOf}
use Rattle.live_chats.specs.Seating.{AllSeated, conns_of}
use Rattle.live_chats.specs.declared.item.ChatItem.{ChatItem}
use Rattle.live_chats.proofs.asking.held.Given as goal

abbrev pub invariant-loop-i : goal.invariant-loop-i
invariant-loop-i l =
    record {
      total : (st : Stays ChatItem ChatOf) → AllSeated st l.seats.entries → l.total ≡ min (2 ^ 64 - 1) (total_of (take l.i (conns_of st l.seats.entries)));
      all : l.i-end ≡ length l.seats.entries;
    }
