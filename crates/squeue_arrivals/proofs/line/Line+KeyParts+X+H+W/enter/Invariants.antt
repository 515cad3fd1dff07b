use Rattle.std.proofs.Common.{◌≡◌}
use Rattle.turn_gate.specs.History.{Begins}
use Rattle.turn_gate.specs.Passes.{number, seen}
use Rattle.placed_parts.specs.Placing.{limits_of, origin_of}
use Rattle.stream_stays.specs.Places.{Knows, life_of, places_of, touched_of}
use Rattle.squeue_arrivals.specs.Keyed.{IsFirst, Tells}
use Rattle.squeue_arrivals.proofs.line.Line+KeyParts+X+H+W.enter.Given as goal

abbrev pub invariant-turns : goal.invariant-turns
invariant-turns g l =
    record {
      knows : Knows IsFirst (Tells g.X.KeySteps.step) limits_of l.self.squeue.now (origin_of l.self.squeue.now.given.first) l.pass l.stays;
      number : number l.pass ≡ number l.fn.pass;
      grows : Begins (seen l.fn.pass) (seen l.pass);
      places : places_of l.stays ≡ places_of l.fn.stays;
      touched : touched_of l.stays ≡ touched_of l.fn.stays;
      life : life_of l.stays ≡ life_of l.fn.stays;
    }
