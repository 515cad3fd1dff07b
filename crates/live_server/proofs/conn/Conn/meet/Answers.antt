use Rattle.std.proofs.Common.{◌≡◌, true, false, rules}
use Rattle.live_server.specs.Acts.{is_over}
use Rattle.live_server.proofs.LossLemmas.{on_err}
use Rattle.live_server.proofs.MeetLemmas.{gone_conn, gone_met, gone_sent, judged_conn, judged_met, judged_partly, judged_sent, timed_partly}
use Rattle.live_server.proofs.conn.Conn.meet.Goals as goal

pub returns-then-is_over-clause-met : goal.returns-then-is_over-clause-met
returns-then-is_over-clause-met c =
    let over : is_over c.time.new.self ≡ true = search rules in
    gone_met c.args.now c.args.iss c.args.seg.now c.args.text.now c.args.tuple.now c.args.self.now c.time.new.self c.in_ok-time.ensures.conn _ _ c.in_ok-time.ensures.sent over

pub returns-then-is_over-clause-conn : goal.returns-then-is_over-clause-conn
returns-then-is_over-clause-conn c =
    let over : is_over c.time.new.self ≡ true = search rules in
    gone_conn c.args.now c.args.iss c.args.seg.now c.args.text.now c.args.tuple.now c.args.self.now c.time.new.self c.in_ok-time.ensures.conn _ _ c.in_ok-time.ensures.sent over

pub returns-then-is_over-clause-sent : goal.returns-then-is_over-clause-sent
returns-then-is_over-clause-sent c =
    let over : is_over c.time.new.self ≡ true = search rules in
    gone_sent c.args.now c.args.iss c.args.seg.now c.args.text.now c.args.tuple.now c.args.self.now c.time.new.self c.in_ok-time.ensures.conn _ _ c.in_ok-time.ensures.sent over

pub returns-clause-met : goal.returns-clause-met
returns-clause-met c =
    let whole : is_over c.time.new.self ≡ false = search rules in
    judged_met c.args.now c.args.iss c.args.seg.now c.args.text.now c.args.tuple.now c.args.self.now c.time.new.self c.in_ok-time.ensures.conn _ _ c.in_ok-time.ensures.sent whole _ c.in_ok-judged.ensures.judged

pub returns-clause-conn : goal.returns-clause-conn
returns-clause-conn c =
    let whole : is_over c.time.new.self ≡ false = search rules in
    judged_conn c.args.now c.args.iss c.args.seg.now c.args.text.now c.args.tuple.now c.args.self.now c.time.new.self c.in_ok-time.ensures.conn _ _ c.in_ok-time.ensures.sent whole _ c.in_ok-judged.ensures.conn

pub returns-clause-sent : goal.returns-clause-sent
returns-clause-sent c =
    let whole : is_over c.time.new.self ≡ false = search rules in
    judged_sent c.args.now c.args.iss c.args.seg.now c.args.text.now c.args.tuple.now c.args.self.now c.time.new.self c.in_ok-time.ensures.conn _ _ c.in_ok-time.ensures.sent whole _ c.in_ok-judged.ensures.sent

pub returns-in_err-time-clause-wrote : goal.returns-in_err-time-clause-wrote
returns-in_err-time-clause-wrote c =
    on_err c.from_residual.result _ (timed_partly c.args.now c.args.iss c.args.seg.now c.args.text.now c.args.tuple.now c.args.self.now _ _ c.in_err-time.ensures.wrote)

pub returns-in_err-judged-clause-wrote : goal.returns-in_err-judged-clause-wrote
returns-in_err-judged-clause-wrote c =
    let whole : is_over c.time.new.self ≡ false = search rules in
    on_err c.from_residual-in_err-judged.result _ (judged_partly c.args.now c.args.iss c.args.seg.now c.args.text.now c.args.tuple.now c.args.self.now c.time.new.self c.in_ok-time.ensures.conn _ _ c.in_ok-time.ensures.sent whole _ c.in_err-judged.ensures.wrote)
