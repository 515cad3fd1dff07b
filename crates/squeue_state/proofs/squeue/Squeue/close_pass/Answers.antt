use Rattle.std.proofs.Common.{rules}
use Rattle.turn_gate.specs.Passes.{seen, mine, number, steps}
use Rattle.squeue_state.specs.Naming.{setting_of}
use Rattle.squeue_state.proofs.Closing.{still_may_close}
use Rattle.squeue_state.proofs.Turns.{one_turn}
use Rattle.squeue_state.proofs.squeue.Squeue.close_pass.Goals as goal

pub close-requires-clause-may : goal.close-requires-clause-may
close-requires-clause-may g c =
    let f = c.turn-turn.ensures in
    still_may_close (setting_of g.R.Resident.limits c.args.self.now.given) (seen c.args.pass) c.turn-turn.result.found (mine c.args.pass) c.turn-turn.result.mine (number c.args.pass) c.turn-turn.result.number
    c.requires.pass.2 c.requires.idle c.requires.other f.same_number f.same_mine f.goes_on f.legal f.own

pub returns : goal.returns
returns g c =
    let f = c.turn-turn.ensures in
    let m = c.close.ensures in
    record {
      found = c.turn-turn.result.found;
      goes_on = f.goes_on;
      legal = search rules;
      own = search rules;
      is_pass = search rules;
      same_number = search rules;
      now_seen = search rules;
      now_mine = search rules;
      one_turn = one_turn (steps c.args.pass) c.turn-turn.result.made (steps c.close.result) f.no_turn_yet m.one_step;
    }
