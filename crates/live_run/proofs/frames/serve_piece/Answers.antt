use Rattle.std.proofs.Common.{◌≡◌, ◌++◌, false, rules, true}
use Rattle.std.specs.Result.{is_err}
use Rattle.live_server.specs.Frames.{answers}
use Rattle.live_server.specs.Serving.{server_of}
use Rattle.live_run.proofs.PutLemmas.{all_put, front_put}
use Rattle.live_run.proofs.frames.serve_piece.Goals as goal

pub returns-then-is_err-2-clause-front : goal.returns-then-is_err-2-clause-front
returns-then-is_err-2-clause-front g c = λ still.
    let told = c.in-Ok.ensures.sent still in
    let same : c.as_slice-2.result.now ≡ answers (c.args.pending.now.items ++ c.args.piece.now) (server_of g.T.ConnTable.conns c.args.rules.now) = search rules in
    let failed : is_err c.put.result ≡ true = search rules in
    front_put _ _ c.as_slice-2.result.now _ same c.put.result failed c.put.ensures.failed

pub returns-then-broken-clause-front : goal.returns-then-broken-clause-front
returns-then-broken-clause-front g c = λ still.
    let told = c.in-Ok.ensures.sent still in
    let same : c.as_slice-2.result.now ≡ answers (c.args.pending.now.items ++ c.args.piece.now) (server_of g.T.ConnTable.conns c.args.rules.now) = search rules in
    let well : is_err c.put.result ≡ false = search rules in
    all_put _ _ c.as_slice-2.result.now _ same c.put.result well c.put.ensures.ok
