use Rattle.std.proofs.Common.{◌≡◌, false}
use Rattle.turn_gate.specs.History.{Begins}
use Rattle.turn_gate.specs.Passes.{IsPassOf, number, seen, mine}
use Rattle.perimeter_core.specs.Perimeter.{is_closed}
use Rattle.perimeter_core.specs.History.{run}
use Rattle.squeue_state.specs.Naming.{setting_of}
use Rattle.histories.specs.Elements.{number_of}
use Rattle.synch_enter.proofs.coming.wait_for_grant.Given as goal

abbrev pub invariant-loop : goal.invariant-loop
invariant-loop g l =
    record {
      is : IsPassOf number_of l.sq.gate l.pass;
      same_number : number l.pass ≡ number l.fn.pass;
      grows : Begins (seen l.fn.pass) (seen l.pass);
      same_mine : mine l.pass ≡ mine l.fn.pass;
      open_pass : is_closed (run (setting_of g.R.Resident.limits l.sq.given) (seen l.pass)) (number l.pass) ≡ false;
    }
