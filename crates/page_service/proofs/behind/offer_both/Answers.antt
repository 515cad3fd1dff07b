use Rattle.std.proofs.Common.{rules, ◌≡◌, ℕ, ◌+◌, ◌-◌, List, ◌++◌, length, take, drop, ap, ◌∙◌}
use Rattle.byte_queues.specs.SendQueue.{room_of}
use Rattle.tcb_machine.specs.BlockState.{Block, offered}
use Rattle.page_service.proofs.OfferLemmas.{both_offered, offered_kept}
use Rattle.page_service.proofs.behind.offer_both.Goals as goal

pub returns-clause-text : goal.returns-clause-text
returns-clause-text c =
    let b = c.args.tcb.now in
    let behind : c.saturating_sub.result ≡ c.args.from - length c.args.head.now = search rules in
    c.in_ok-offer-2.ensures
    ∙ (ap (λ (x : Block). record x { out = x.out ++ take (room_of x.out) (drop c.saturating_sub.result c.args.body.now) }) c.in_ok-offer.ensures
    ∙ ap (λ (xs : List ℕ). record b { out = xs })
    (ap (λ (n : ℕ). (b.out ++ take (room_of b.out) (drop c.args.from c.args.head.now)) ++ take (room_of (b.out ++ take (room_of b.out) (drop c.args.from c.args.head.now))) (drop n c.args.body.now)) behind
    ∙ both_offered c.args.from b.out c.args.head.now c.args.body.now))

pub returns-clause-offered : goal.returns-clause-offered
returns-clause-offered c =
    ap (λ (x : Block). offered x + room_of x.out) (returns-clause-text c) ∙ offered_kept c.args.from c.args.tcb.now (c.args.head.now ++ c.args.body.now)
