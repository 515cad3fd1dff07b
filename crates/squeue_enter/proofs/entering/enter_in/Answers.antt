use Rattle.std.proofs.Common.{arith}
use Rattle.turn_gate.specs.declared.pass.Pass.{Pass}
use Rattle.perimeter_core.specs.History.{Element}
use Rattle.histories.specs.Elements.{fast_by, claimed_by}
use Rattle.squeue_drain.proofs.Deciding.{queued_is}
use Rattle.squeue_enter.specs.declared.entering.Way.TheVariants as Way'
use Rattle.squeue_enter.specs.Entering.{IsTurnFor}
use Rattle.squeue_enter.proofs.ByWay.{Chose, Became, first, may_queue, queue_fits, chose, goes_fast, goes_alone, may_alone, claims_all, became_alone, became_claim, left_alone, owner_feeds, owner_has, by_fill, by_fast, by_alone, by_claim}
use Rattle.squeue_enter.proofs.entering.enter_in.Given.{Over}
use Rattle.squeue_enter.proofs.entering.enter_in.Goals.{In-Fast, In-Alone, In-Claim, After-of-owner, After-of-owner-in-Alone, After-of-owner-in-Claim}
use Rattle.squeue_enter.proofs.entering.enter_in.Goals as goal

-- what the turn chose in each arm, for the pass whose turn it is, and the owner that the entry became there
chose_fast : (g : Over) (c : In-Fast g) (p : Pass Element) → IsTurnFor g.R.Resident.limits c.args.sq.now c.args.chain.now c.args.turn p
    → Chose g.R.Resident c.args.sq.now p c.args.chain.now c.args.turn c.args.mode Way'.Fast
chose_fast g c p t =
    chose g.R.Resident c.args.mode t.may t.found c.own.ensures c.is_free-woke.ensures c.chain_len.ensures c.choose.ensures c.in-Fast.is

became_fast : (g : Over) (c : After-of-owner g) (p : Pass Element) → IsTurnFor g.R.Resident.limits c.args.sq.now c.args.chain.now c.args.turn p
    → Became g.R.Resident c.args.sq.now p c.args.chain.now c.args.turn c.args.mode Way'.Fast (fast_by c.args.turn.number (first c.args.chain.now)) c.of-owner.result
became_fast g c p t =
    became_alone c.of-owner.ensures (goes_fast (chose_fast g (goal.at.drain-pass-requires-clause-feeds g c).In-Fast p t)) c.fast.ensures.pass c.fast.ensures.hand c.fast.ensures.resident

chose_alone : (g : Over) (c : In-Alone g) (p : Pass Element) → IsTurnFor g.R.Resident.limits c.args.sq.now c.args.chain.now c.args.turn p
    → Chose g.R.Resident c.args.sq.now p c.args.chain.now c.args.turn c.args.mode Way'.Alone
chose_alone g c p t =
    chose g.R.Resident c.args.mode t.may t.found c.own.ensures c.is_free-woke.ensures c.chain_len.ensures c.choose.ensures c.in-Alone.is

became_lone : (g : Over) (c : After-of-owner-in-Alone g) (p : Pass Element) → IsTurnFor g.R.Resident.limits c.args.sq.now c.args.chain.now c.args.turn p
    → Became g.R.Resident c.args.sq.now p c.args.chain.now c.args.turn c.args.mode Way'.Alone (fast_by c.args.turn.number (first c.args.chain.now)) c.of-owner-in-Alone.result
became_lone g c p t =
    let f = c.fast-in-Alone.ensures in
    let w = chose g.R.Resident c.args.mode t.may t.found c.own.ensures c.is_free-woke.ensures c.chain_len.ensures c.choose.ensures c.in-Alone.is in
    became_alone c.of-owner-in-Alone.ensures (goes_alone w) f.pass f.hand f.resident

chose_claim : (g : Over) (c : In-Claim g) (p : Pass Element) → IsTurnFor g.R.Resident.limits c.args.sq.now c.args.chain.now c.args.turn p
    → Chose g.R.Resident c.args.sq.now p c.args.chain.now c.args.turn c.args.mode Way'.Claim
chose_claim g c p t =
    chose g.R.Resident c.args.mode t.may t.found c.own.ensures c.is_free-woke.ensures c.chain_len.ensures c.choose.ensures c.in-Claim.is

became_all : (g : Over) (c : After-of-owner-in-Claim g) (p : Pass Element) → IsTurnFor g.R.Resident.limits c.args.sq.now c.args.chain.now c.args.turn p
    → Became g.R.Resident c.args.sq.now p c.args.chain.now c.args.turn c.args.mode Way'.Claim (claimed_by c.args.turn.number c.args.chain.now) c.of-owner-in-Claim.result
became_all g c p t =
    let f = c.claim.ensures in
    became_claim c.of-owner-in-Claim.ensures (chose_claim g (goal.at.drain-pass-requires-in-Claim-clause-feeds g c).In-Claim p t) c.requires.some f.pass f.hand f.resident

pub overflow_add-chain_len : goal.overflow_add-chain_len
overflow_add-chain_len g c =
    let t = c.requires.turn.1 in
    omega (arith, queue_fits t.may t.found c.requires.some c.requires.room, queued_is c.chain_len-in-Fill.result t.found c.chain_len-in-Fill.ensures)

pub fill-pass-requires-clause-may : goal.fill-pass-requires-clause-may
fill-pass-requires-clause-may g c = may_queue c.requires.turn.1.may c.requires.turn.1.found c.requires.some

pub fast-requires-clause-may : goal.fast-requires-clause-may
fast-requires-clause-may g c = may_alone (goes_fast (chose_fast g (goal.at.fast-requires-clause-may g c).In-Fast c.requires.turn.0 c.requires.turn.1))

pub fast-requires-clause-room : goal.fast-requires-clause-room
fast-requires-clause-room g c = omega (arith, c.requires.room, c.requires.some)

pub drain-pass-requires-clause-feeds : goal.drain-pass-requires-clause-feeds
drain-pass-requires-clause-feeds g c = owner_feeds (became_fast g c c.requires.turn.0 c.requires.turn.1)

pub drain-pass-requires-clause-has : goal.drain-pass-requires-clause-has
drain-pass-requires-clause-has g c = owner_has (became_fast g c c.requires.turn.0 c.requires.turn.1)

pub fast-requires-in-Alone-clause-may : goal.fast-requires-in-Alone-clause-may
fast-requires-in-Alone-clause-may g c = may_alone (goes_alone (chose_alone g (goal.at.fast-requires-in-Alone-clause-may g c).In-Alone c.requires.turn.0 c.requires.turn.1))

pub fast-requires-in-Alone-clause-room : goal.fast-requires-in-Alone-clause-room
fast-requires-in-Alone-clause-room g c = omega (arith, c.requires.room, c.requires.some)

pub serve_one-pass-requires-clause-feeds : goal.serve_one-pass-requires-clause-feeds
serve_one-pass-requires-clause-feeds g c =
    owner_feeds (became_lone g (goal.at.serve_one-pass-requires-clause-feeds g c).After-of-owner-in-Alone c.requires.turn.0 c.requires.turn.1)

pub serve_one-pass-requires-clause-has : goal.serve_one-pass-requires-clause-has
serve_one-pass-requires-clause-has g c =
    owner_has (became_lone g (goal.at.serve_one-pass-requires-clause-has g c).After-of-owner-in-Alone c.requires.turn.0 c.requires.turn.1)

pub serve_one-pass-requires-clause-one : goal.serve_one-pass-requires-clause-one
serve_one-pass-requires-clause-one g c =
    let f = c.fast-in-Alone.ensures in
    left_alone c.of-owner-in-Alone.ensures (goes_alone (chose_alone g (goal.at.serve_one-pass-requires-clause-one g c).In-Alone c.requires.turn.0 c.requires.turn.1)) f.pass f.hand

pub claim-requires-clause-may : goal.claim-requires-clause-may
claim-requires-clause-may g c = claims_all (chose_claim g c c.requires.turn.0 c.requires.turn.1) c.requires.some

pub drain-pass-requires-in-Claim-clause-feeds : goal.drain-pass-requires-in-Claim-clause-feeds
drain-pass-requires-in-Claim-clause-feeds g c = owner_feeds (became_all g c c.requires.turn.0 c.requires.turn.1)

pub drain-pass-requires-in-Claim-clause-has : goal.drain-pass-requires-in-Claim-clause-has
drain-pass-requires-in-Claim-clause-has g c = owner_has (became_all g c c.requires.turn.0 c.requires.turn.1)

pub returns-in-Fill : goal.returns-in-Fill
returns-in-Fill g c = λ p t.
    by_fill c.args.budget
    (chose g.R.Resident c.args.mode t.may t.found c.own.ensures c.is_free-woke.ensures c.chain_len.ensures c.choose.ensures c.in-Fill.is)
    c.requires.some c.own.ensures c.is_free-woke.ensures c.chain_len-in-Fill.ensures c.polling.ensures c.is_polling-polling.ensures c.fill-pass.ensures

pub returns-in-Fast : goal.returns-in-Fast
returns-in-Fast g c = λ p t.
    by_fast c.args.budget (became_fast g (goal.at.returns-in-Fast g c).After-of-owner p t) c.drain-pass.ensures.drained c.drain-pass.ensures.tells

pub returns-in-Alone : goal.returns-in-Alone
returns-in-Alone g c = λ p t.
    by_alone c.args.budget (became_lone g (goal.at.returns-in-Alone g c).After-of-owner-in-Alone p t) c.serve_one-pass.ensures.served c.serve_one-pass.ensures.tells

pub returns-in-Claim : goal.returns-in-Claim
returns-in-Claim g c = λ p t.
    by_claim c.args.budget (became_all g (goal.at.returns-in-Claim g c).After-of-owner-in-Claim p t) c.drain-pass-in-Claim.ensures.drained c.drain-pass-in-Claim.ensures.tells
