use Rattle.std.proofs.Common.{◌≡◌, ℕ, List, Option, ◌-◌, ◌<◌, length, take, IfOk, sym, ap, ◌∙◌, subst, arith, rules}
use Rattle.byte_queues.specs.ReceiveQueue.{Recv, up_to, placed, placed_as, laid}
use Rattle.byte_queues.proofs.ListLemmas.{take_clamped}
use Rattle.byte_queues.proofs.PlaceLemmas.{placed-none, placed-laid}
use Rattle.byte_queues.proofs.recv.RecvQueue.place.Goals as goal

pub place_fitting-requires-clause-behind : goal.place_fitting-requires-clause-behind
place_fitting-requires-clause-behind c = omega (arith, c.fitting.ensures.read, c.requires.behind)

pub returns-then-is_empty-clause-ok : goal.returns-then-is_empty-clause-ok
returns-then-is_empty-clause-ok c =
    let q = c.args.self.now in
    let text = c.args.text.now in
    let cut : c.split_at.result.0.now ≡ take (up_to q.stream_end q.edge - c.args.at) text =
    c.split_at.ensures.front ∙ (ap (λ (n : ℕ). take n text) c.fitting.ensures.fits ∙ take_clamped (up_to q.stream_end q.edge - c.args.at) text) in
    let none : length c.split_at.result.0.now ≡ 0 = search rules in
    placed-none c.args.at text q c.fitting.ensures.few (ap length (sym cut) ∙ none)

pub returns-else-is_empty-clause-ok : goal.returns-else-is_empty-clause-ok
returns-else-is_empty-clause-ok c =
    let q = c.args.self.now in
    let text = c.args.text.now in
    let cut : c.split_at.result.0.now ≡ take (up_to q.stream_end q.edge - c.args.at) text =
    c.split_at.ensures.front ∙ (ap (λ (n : ℕ). take n text) c.fitting.ensures.fits ∙ take_clamped (up_to q.stream_end q.edge - c.args.at) text) in
    let some : 0 < length c.split_at.result.0.now = search rules in
    let same : laid c.args.at c.split_at.result.0.now q ≡ placed c.args.at text q =
    ap (λ (t : List ℕ). laid c.args.at t q) cut ∙ sym (placed-laid c.args.at text q (subst (λ (t : List ℕ). 0 < length t) cut some)) in
    subst (λ (o : Option Recv). IfOk c.place_fitting.result (λ p. o ≡ placed_as p c.place_fitting.new.self)) same c.place_fitting.ensures.ok
