use Rattle.std.proofs.Common.{length, ap, sym, ◌∙◌, subst}
use Rattle.squeue_drain.specs.declared.owner.Owner.{Owner}
use Rattle.squeue_drain.specs.Owning.{Feeds}
use Rattle.squeue_drain.proofs.Workers.{no_feed}
use Rattle.squeue_drain.proofs.Deciding.{is_not}
use Rattle.synch_enter.proofs.Asking.{may_claim}
use Rattle.synch_enter.proofs.Claiming.{HasClaimed, claims, has_claimed_by, own_first, other_next, at_own, came_own, open_handed, came_handed}
use Rattle.synch_enter.proofs.coming.claim.Given.{Over}
use Rattle.synch_enter.proofs.coming.claim.Goals.{After-first}
use Rattle.synch_enter.proofs.coming.claim.Goals as goal

-- the owner has processed what stood ahead of the first Ask
claimed : (g : Over) (c : After-first g) → HasClaimed g.R.Resident.limits c.args.sq.now c.args.turn c.process.new.owner.pass
claimed g c =
    has_claimed_by g.R.Resident c.args.sq.now c.args.turn c.claim_ask.result.0 c.process.new.owner.pass c.requires.may c.claim_ask.ensures.pass
    (c.process.ensures.pass ∙ ap (λ (o : Owner _). o.pass) c.of-owner.ensures)

pub claim_ask-requires-clause-may : goal.claim_ask-requires-clause-may
claim_ask-requires-clause-may g c = may_claim g.R.Resident.limits c.args.sq.now c.args.turn c.requires.may c.requires.free

pub process-requires : goal.process-requires
process-requires g c =
    let r = c.claim_ask.result in
    let e = c.claim_ask.ensures in
    subst (λ (o : Owner _). Feeds g.R.Resident c.args.sq.now o) (sym c.of-owner.ensures)
    (claims g.R.Resident c.args.sq.now c.args.turn r.0 r.1 r.2 c.requires.may c.requires.free e.pass e.hand e.resident)

pub returns-then-is_ask_of-clause-owner : goal.returns-then-is_ask_of-clause-owner
returns-then-is_ask_of-clause-owner g c =
    let feeds = c.process.ensures.feeds in
    let has = claimed g (goal.at.returns-then-is_ask_of-clause-owner g c).After-first in
    let own = own_first g.R.Resident c.args.sq.now feeds has c.first.ensures (c.is_ask_of.ensures.0 c.if-is_ask_of.true) c.number-me.ensures in
    at_own g.R.Resident c.args.sq.now feeds has own.1 c.pass_first.ensures.left c.pass_first.ensures.room

pub returns-then-is_ask_of-clause-came : goal.returns-then-is_ask_of-clause-came
returns-then-is_ask_of-clause-came g c =
    came_own g.R.Resident c.args.sq.now c.process.ensures.feeds (claimed g (goal.at.returns-then-is_ask_of-clause-came g c).After-first) c.requires.free

pub hand_on-requires-clause-next : goal.hand_on-requires-clause-next
hand_on-requires-clause-next g c =
    let p = c.process.ensures in
    other_next g.R.Resident c.args.sq.now p.feeds (claimed g (goal.at.hand_on-requires-clause-next g c).After-first)
    (no_feed c.process.new.owner.hand.left c.process.result c.len-all.result (length c.of-owner.result.hand.left) p.stops p.count c.len-all.ensures)
    c.first.ensures (λ e. is_not c.is_ask_of.result c.if-is_ask_of.false (c.is_ask_of.ensures.1 e)) c.number-me.ensures

pub wait_for_grant-requires-clause-open_pass : goal.wait_for_grant-requires-clause-open_pass
wait_for_grant-requires-clause-open_pass g c =
    open_handed g.R.Resident c.args.sq.now c.process.ensures.feeds (claimed g (goal.at.wait_for_grant-requires-clause-open_pass g c).After-first) c.hand_on.ensures

pub returns-clause-came : goal.returns-clause-came
returns-clause-came g c =
    let w = c.wait_for_grant.ensures in
    came_handed g.R.Resident c.args.sq.now c.process.ensures.feeds (claimed g (goal.at.returns-clause-came g c).After-first) c.requires.free c.hand_on.ensures w.grows w.mine
