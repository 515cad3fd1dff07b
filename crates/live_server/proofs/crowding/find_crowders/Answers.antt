use Rattle.std.proofs.Common.{◌≡◌, ◌∙◌, ◌*◌, cond, length, max, nat_lt}
use Rattle.live_server.specs.Candidates.{crowds}
use Rattle.live_server.proofs.CrowdingLemmas.{crowds_right, greatest_of}
use Rattle.live_server.proofs.crowding.find_crowders.Goals as goal

pub returns : goal.returns
returns g c = λ e.
    let cs = g.T.ConnTable.conns c.args.table.now in
    let w = c.args.turned in
    let found = c.find_candidates-found.result in
    let one = c.judged.ensures in
    let two = c.judged-2.ensures in
    let three = c.judged-3.ensures in
    let most : c.max-most.result ≡ greatest_of w cs found =
    c.max-most.ensures ∙ (λ j. max (c.max.ensures j) (three j).weight) ∙ (λ j. max (max (one j).weight (two j).weight) (three 1).weight) in
    let crowding : c.if_crowding.result ≡ cond (nat_lt (length cs) (4 * greatest_of w cs found)) (greatest_of w cs found) 0 =
    c.if_crowding.ensures ∙ (λ j. cond (nat_lt (c.len.ensures j) (4 * most j)) (most j) 0) in
    (λ j. crowds e.0.client.0 (record { candidates = record { first = one j; second = two j; third = three j }; most = crowding j }))
    ∙ crowds_right w cs found c.find_candidates-found.ensures e
