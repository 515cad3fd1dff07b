use Rattle.std.proofs.Common.{◌∙◌, arith, subst, sym}
use Rattle.placed_parts.specs.Placing.{limits_of}
use Rattle.squeue_serve.specs.Places.{MayClose}
use Rattle.turn_gate.specs.History.{Begins}
use Rattle.turn_gate.specs.Passes.{seen}
use Rattle.turn_gate.proofs.Histories.{begins_more}
use Rattle.squeue_state.specs.Naming.{setting_of}
use Rattle.live_server.specs.Frames.{frames_in}
use Rattle.live_server.specs.Told.{told_frames}
use Rattle.live_rings.specs.Making.{server_of}
use Rattle.live_rings.specs.Served.{LivedBy}
use Rattle.live_rings.proofs.Lives.{lived_more, lived_so}
use Rattle.live_rings.proofs.Outcomes.{has_ended}
use Rattle.live_rings.proofs.ring.serve_ring.Given.{Over}
use Rattle.live_rings.proofs.ring.serve_ring.Goals.{After-serve_seated-pass}
use Rattle.live_rings.proofs.ring.serve_ring.Goals as goal

-- the pass may be closed
may_close : (g : Over) (c : After-serve_seated-pass g) → MayClose limits_of c.args.sq.now c.serve_seated-pass.result.0
may_close g c = c.serve_seated-pass.ensures.closes.0

pub serve_seated-pass-requires-clause-closes : goal.serve_seated-pass-requires-clause-closes
serve_seated-pass-requires-clause-closes g c = λ q may same. (may, same)

pub close_pass-pass-requires-clause-pass : goal.close_pass-pass-requires-clause-pass
close_pass-pass-requires-clause-pass g c = (may_close g (goal.at.close_pass-pass-requires-clause-pass g c).After-serve_seated-pass).pass

pub close_pass-pass-requires-clause-other : goal.close_pass-pass-requires-clause-other
close_pass-pass-requires-clause-other g c = (may_close g (goal.at.close_pass-pass-requires-clause-other g c).After-serve_seated-pass).other

pub close_pass-pass-requires-clause-idle : goal.close_pass-pass-requires-clause-idle
close_pass-pass-requires-clause-idle g c = (may_close g (goal.at.close_pass-pass-requires-clause-idle g c).After-serve_seated-pass).idle

pub returns-clause-ended : goal.returns-clause-ended
returns-clause-ended g c =
    let m = may_close g (goal.at.returns-clause-ended g c).After-serve_seated-pass in
    let same = c.serve_seated-pass.ensures.closes.1 in
    let a = c.close_pass-pass.ensures in
    record { pass = a.is_pass; is_number = a.same_number ∙ same; over = λ w. absurd (omega (arith, w, a.same_number, m.other)) }

pub returns-clause-served : goal.returns-clause-served
returns-clause-served g c =
    let seated = c.serve_seated-pass in
    let S = setting_of limits_of c.args.sq.now.given in
    let a = c.close_pass-pass.ensures in
    let last = c.of-last.result in
    let more = begins_more (seen seated.result.0) a.found _ a.goes_on in
    record {
      ended = has_ended g.S.Source.rest g.S.Source.read_faults g.K.Sink.contents g.K.Sink.write_faults c.args.setup.now c.args.ring.ends.reader c.args.ring.ends.sink
          (record { reader = seated.new.reader; sink = seated.new.sink; fault = c.fault_of-fault.result; lost = seated.result.2; pass = last })
          seated.result.1 c.fault_of-fault.ensures seated.ensures.served;
      lived = lived_so (λ input. LivedBy S seated.result.0 (told_frames (frames_in input) (server_of c.args.setup.now)))
          (λ input. LivedBy S last.value (told_frames (frames_in input) (server_of c.args.setup.now))) seated.result.1 c.fault_of-fault.result seated.result.2
          (g.S.Source.rest c.args.ring.ends.reader) c.fault_of-fault.ensures
          (λ input lived. subst (λ p. LivedBy S p (told_frames (frames_in input) (server_of c.args.setup.now))) (sym c.of-last.ensures)
          (lived_more S seated.result.0 c.close_pass-pass.result (told_frames (frames_in input) (server_of c.args.setup.now))
          (subst (Begins (seen seated.result.0)) (sym a.now_seen) more) a.same_number lived)) seated.ensures.lived;
    }
