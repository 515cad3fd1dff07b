use Rattle.std.proofs.Common.{◌≡◌}
use Rattle.turn_gate.specs.History.{Begins as Grows}
use Rattle.turn_gate.specs.Passes.{number, seen}
use Rattle.placed_parts.specs.Placing.{limits_of, origin_of}
use Rattle.stream_stays.specs.Places.{Knows, life_of, places_of, touched_of}
use Rattle.live_chats.specs.Telling.{IsFirst, Tells}
use Rattle.live_chats.proofs.line.Line+Places+Streams+Chats+H+W.enter.Given as goal

abbrev pub invariant-turns : goal.invariant-turns
invariant-turns g l =
    record {
      knows : Knows IsFirst Tells limits_of l.self.squeue.now (origin_of l.self.squeue.now.given.first) l.pass l.stays;
      number : number l.pass ≡ number l.fn.pass;
      grows : Grows (seen l.fn.pass) (seen l.pass);
      places : places_of l.stays ≡ places_of l.fn.stays;
      touched : touched_of l.stays ≡ touched_of l.fn.stays;
      life : life_of l.stays ≡ life_of l.fn.stays;
    }
