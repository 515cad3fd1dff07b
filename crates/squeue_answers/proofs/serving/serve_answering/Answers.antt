use Rattle.std.proofs.Common.{◌≡◌, ◌∙◌, ap, arith, length, min}
use Rattle.std.proofs.lemmas.List.{length-map}
use Rattle.squeue_answers.specs.Serving.{WasServed}
use Rattle.squeue_answers.proofs.AllServed.{all_answered, groups_answered, were_served}
use Rattle.squeue_answers.proofs.Became.{became_many, each_left}
use Rattle.squeue_answers.proofs.serving.serve_answering.Goals as goal

pub finish_all-sources-requires-clause-served : goal.finish_all-sources-requires-clause-served
finish_all-sources-requires-clause-served g c =
    each_left (WasServed (λ w. w.steps) g.X.KeyAnswers.begins g.X.KeyAnswers.step g.A.Arrivals.origin g.A.Arrivals.given g.A.Arrivals.is_over g.K.Sink.got _ c.args.pool.now.places) c.args.sources.items
    c.in_ok-arrived.arrived.sources.items
    (were_served (λ w. w.steps) g.X.KeyAnswers.begins g.X.KeyAnswers.step g.A.Arrivals.origin g.A.Arrivals.given g.A.Arrivals.is_over g.K.Sink.got _ c.args.pool.now.places c.args.sources.items
    c.in_ok-asking.asking.items c.in_ok-arrived.arrived.sources.items c.in_ok-asking.ensures c.in_ok-arrived.ensures.served)

pub finish_all-sources-requires-clause-rooms : goal.finish_all-sources-requires-clause-rooms
finish_all-sources-requires-clause-rooms g c =
    let many : length c.in_ok-arrived.arrived.sources.items ≡ length c.args.sources.items =
    became_many (WasServed (λ w. w.steps) g.X.KeyAnswers.begins g.X.KeyAnswers.step g.A.Arrivals.origin g.A.Arrivals.given g.A.Arrivals.is_over g.K.Sink.got _ c.args.pool.now.places) c.args.sources.items
    c.in_ok-arrived.arrived.sources.items (were_served (λ w. w.steps) g.X.KeyAnswers.begins g.X.KeyAnswers.step g.A.Arrivals.origin g.A.Arrivals.given g.A.Arrivals.is_over g.K.Sink.got _ c.args.pool.now.places c.args.sources.items
    c.in_ok-asking.asking.items c.in_ok-arrived.arrived.sources.items c.in_ok-asking.ensures c.in_ok-arrived.ensures.served) in
    (omega (arith, many, c.in_ok-rooms.ensures.0, c.len.ensures, c.args.sources.ok.0), c.in_ok-rooms.ensures.1)

pub finish_all-sources-requires-clause-room : goal.finish_all-sources-requires-clause-room
finish_all-sources-requires-clause-room g c =
    let many : length c.in_ok-arrived.arrived.sources.items ≡ length c.args.sources.items =
    became_many (WasServed (λ w. w.steps) g.X.KeyAnswers.begins g.X.KeyAnswers.step g.A.Arrivals.origin g.A.Arrivals.given g.A.Arrivals.is_over g.K.Sink.got _ c.args.pool.now.places) c.args.sources.items
    c.in_ok-arrived.arrived.sources.items (were_served (λ w. w.steps) g.X.KeyAnswers.begins g.X.KeyAnswers.step g.A.Arrivals.origin g.A.Arrivals.given g.A.Arrivals.is_over g.K.Sink.got _ c.args.pool.now.places c.args.sources.items
    c.in_ok-asking.asking.items c.in_ok-arrived.arrived.sources.items c.in_ok-asking.ensures c.in_ok-arrived.ensures.served) in
    (c.in_ok-room.ensures.items, omega (arith, many, c.in_ok-room.ensures.exact, c.len-2.ensures, c.args.sources.ok.0))

pub returns-clause-served : goal.returns-clause-served
returns-clause-served g c =
    all_answered (λ w. w.steps) g.X.KeyAnswers.begins g.X.KeyAnswers.step g.A.Arrivals.origin g.A.Arrivals.given g.A.Arrivals.is_over g.K.Sink.got _ c.args.pool.now.places c.args.sources.items
    c.in_ok-asking.asking.items c.in_ok-arrived.arrived.sources.items c.in_ok-asking.ensures c.finish_all-sources.result.items c.in_ok-arrived.ensures.served c.finish_all-sources.ensures

pub returns-clause-histories : goal.returns-clause-histories
returns-clause-histories g c =
    groups_answered (λ w. w.steps) g.X.KeyAnswers.begins g.X.KeyAnswers.step g.A.Arrivals.origin g.A.Arrivals.given g.A.Arrivals.is_over g.K.Sink.got _ c.args.pool.now.places c.args.sources.items
    c.in_ok-asking.asking.items c.in_ok-arrived.arrived.sources.items c.in_ok-asking.ensures c.in_ok-arrived.arrived.squeues.items c.finish_all-sources.result.items c.in_ok-arrived.ensures.histories
    c.finish_all-sources.ensures

-- one asks for each source
pub returns-clause-squeues : goal.returns-clause-squeues
returns-clause-squeues g c =
    let asking = ap length c.in_ok-asking.ensures ∙ length-map c.args.sources.items _ in
    c.in_ok-arrived.ensures.squeues ∙ ap (min c.args.pool.now.squeues) asking
