use Rattle.std.proofs.Common.{◌∙◌, sym}
use Rattle.live_server.proofs.ConnLemmas.{challenged_clock, challenged_room, taken_clock, taken_room, unanswered_clock, unanswered_room}
use Rattle.live_server.proofs.conn.Conn.take.Goals as goal

pub serve-requires-clause-clock : goal.serve-requires-clause-clock
serve-requires-clause-clock c = taken_clock c.args.now c.args.seg.now c.args.text.now c.args.self.now (sym c.judged-judged.ensures ∙ c.in-Taken.is)

pub serve-requires-clause-room : goal.serve-requires-clause-room
serve-requires-clause-room c = taken_room c.args.now c.args.seg.now c.args.text.now c.args.self.now (sym c.judged-judged.ensures ∙ c.in-Taken.is)

pub allow-requires-clause-clock : goal.allow-requires-clause-clock
allow-requires-clause-clock c = challenged_clock c.args.now c.args.seg.now c.args.text.now c.args.self.now (sym c.judged-judged.ensures ∙ c.in-Challenged.is)

pub allow-requires-clause-room : goal.allow-requires-clause-room
allow-requires-clause-room c = challenged_room c.args.now c.args.seg.now c.args.text.now c.args.self.now (sym c.judged-judged.ensures ∙ c.in-Challenged.is)

pub allow-requires-in-Unanswered-clause-clock : goal.allow-requires-in-Unanswered-clause-clock
allow-requires-in-Unanswered-clause-clock c = unanswered_clock c.args.now c.args.seg.now c.args.text.now c.args.self.now (sym c.judged-judged.ensures ∙ c.in-Unanswered.is)

pub allow-requires-in-Unanswered-clause-room : goal.allow-requires-in-Unanswered-clause-room
allow-requires-in-Unanswered-clause-room c = unanswered_room c.args.now c.args.seg.now c.args.text.now c.args.self.now (sym c.judged-judged.ensures ∙ c.in-Unanswered.is)
