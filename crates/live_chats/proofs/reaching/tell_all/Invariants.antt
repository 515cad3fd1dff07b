use Rattle.std.proofs.Common.{◌≡◌, length, take}
use Rattle.turn_gate.specs.History.{Begins as Grows}
use Rattle.turn_gate.specs.Passes.{number, seen}
use Rattle.placed_parts.specs.Placing.{limits_of, origin_of}
use Rattle.stream_stays.specs.Places.{Knows, life_of, touched_of}
use Rattle.live_chats.specs.Seating.{AreTold, places_in}
use Rattle.live_chats.specs.Telling.{IsFirst, Tells}
use Rattle.live_chats.proofs.reaching.tell_all.Given as goal

abbrev pub invariant-loop-i : goal.invariant-loop-i
invariant-loop-i g l =
    record {
      knows : Knows IsFirst Tells limits_of l.line.squeue.now (origin_of l.line.squeue.now.given.first) l.pass l.stays;
      number : number l.pass ≡ number l.fn.pass;
      grows : Grows (seen l.fn.pass) (seen l.pass);
      told : AreTold l.measures l.now l.i l.fn.stays l.stays l.seats.entries;
      touched : touched_of l.stays ≡ places_in (take l.i l.seats.entries);
      asks : (life_of l.stays).asks ≡ (life_of l.fn.stays).asks;
      all : l.i-end ≡ length l.seats.entries;
    }
