use Rattle.std.proofs.Common.{ap}
use Rattle.placed_parts.specs.Placing.{limits_of}
use Rattle.turn_gate.specs.Passes.{number, seen}
use Rattle.squeue_state.specs.Naming.{setting_of}
use Rattle.live_server.specs.Frames.{frames_in}
use Rattle.live_server.specs.Told.{told_frames}
use Rattle.live_chats.specs.Accounts.{accounts_of, number_in, seen_in}
use Rattle.live_rings.specs.Making.{server_of}
use Rattle.live_rings.proofs.Lives.{all_there, lived_still}
use Rattle.live_rings.proofs.ring.serve_seated.Goals as goal

pub returns-clause-lived : goal.returns-clause-lived
returns-clause-lived g c =
    let a = c.begin-seats.result in
    let b = c.serve_by-seats.result.0 in
    lived_still _ _ c.serve_by-seats.result.1 c.serve_by-seats.result.2 (g.S.Source.rest c.args.reader.now)
    (λ input told. all_there (setting_of limits_of c.args.sq.now.given) (setting_of limits_of a.line.squeue.now.given) (setting_of limits_of b.line.squeue.now.given)
    (number_in a.pass) (number_in b.pass) (number c.end.result) (seen_in a.pass) (seen_in b.pass) (seen c.end.result) (accounts_of a.stays a.seats.entries)
    (accounts_of b.stays b.seats.entries) (told_frames (frames_in input) (server_of c.args.setup.now)) (ap (λ s. setting_of limits_of s.given) c.begin-seats.ensures.squeue)
    (ap (setting_of limits_of) told.0) told.1 c.end.ensures.number c.begin-seats.ensures.accounts told.2 c.end.ensures.told) c.serve_by-seats.ensures.told
