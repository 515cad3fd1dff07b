use Rattle.std.proofs.Common.{◌≡◌, ◌∙◌, ap, length}
use Rattle.std.proofs.IntoIterSteps.{All-taken}
use Rattle.std.proofs.lemmas.Result.{IfOk-weaker}
use Rattle.arriving_limiter.proofs.Limits.{all_limited}
use Rattle.arriving_limiter.proofs.limit_requests.Goals as goal

pub returns-clause-many : goal.returns-clause-many
returns-clause-many g c =
    let all : length c.loop-channel.sources.items ≡ length c.args.channels.items =
    c.loop-channel.invariant.1 ∙ ap length (All-taken c.into_iter-channel-iterator.result c.loop-channel.yielded (c.next.new.self, (c.loop-channel.channel-iterator, c.loop-channel.yielded_by, c.in-None.ensures.steps)) ∙ c.into_iter-channel-iterator.ensures.into_iter_gives.0) in
    IfOk-weaker c.serve_answering.result _ _
    (λ r h. (all_limited (record { limit = c.args.limit }) c.args.pool.now.places c.loop-channel.sources.items r.sources.items c.loop-channel.invariant.0 h).0 ∙ all) c.serve_answering.ensures.served

pub returns-clause-limited : goal.returns-clause-limited
returns-clause-limited g c =
    IfOk-weaker c.serve_answering.result _ _
    (λ r h. (all_limited (record { limit = c.args.limit }) c.args.pool.now.places c.loop-channel.sources.items r.sources.items c.loop-channel.invariant.0 h).1) c.serve_answering.ensures.served
