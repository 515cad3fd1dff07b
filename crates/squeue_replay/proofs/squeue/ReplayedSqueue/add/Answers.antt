use Rattle.std.proofs.Common.{refl}
use Rattle.squeue_replay.specs.Replaying.{squeue_of}
use Rattle.perimeter_core.specs.declared.marks.Kind.TheVariants as Kind'
use Rattle.squeue_replay.proofs.ByStep.{told_alone, told_fill, told_claim, told_fast, told_take, told_grant, told_leave}
use Rattle.squeue_replay.proofs.squeue.ReplayedSqueue.add.Goals as goal

pub returns-in_ok-fill-in-Fill-clause-marked : goal.returns-in_ok-fill-in-Fill-clause-marked
returns-in_ok-fill-in-Fill-clause-marked c =
    let a = c.in_ok-fill-in-Fill in
    told_fill c.args.self.now (squeue_of c.fill.new.self) c.args.mark.now.p c.args.mark.now.feeds.items a.field-0 c.as_slice-feeds.ensures.value c.none_processed.ensures c.in-Fill.is a.ensures.marked

pub returns-in_ok-fast-in-Fast-clause-marked : goal.returns-in_ok-fast-in-Fast-clause-marked
returns-in_ok-fast-in-Fast-clause-marked c =
    let a = c.in_ok-fast-in-Fast in
    told_fast c.args.self.now (squeue_of c.fast.new.self) c.args.mark.now.p c.args.mark.now.feeds.items a.field-0 c.as_slice-feeds.ensures.value c.none_processed-in-Fast.ensures c.in-Fast.is a.ensures.marked

pub returns-in_ok-claim-in-Claim-clause-marked : goal.returns-in_ok-claim-in-Claim-clause-marked
returns-in_ok-claim-in-Claim-clause-marked c =
    let a = c.in_ok-claim-in-Claim in
    told_claim c.args.self.now (squeue_of c.claim.new.self) c.args.mark.now.p c.args.mark.now.feeds.items a.field-0 c.as_slice-feeds.ensures.value c.none_processed-in-Claim.ensures c.in-Claim.is a.ensures.marked

pub returns-in_ok-claim_ask-in-ClaimAsk-clause-marked : goal.returns-in_ok-claim_ask-in-ClaimAsk-clause-marked
returns-in_ok-claim_ask-in-ClaimAsk-clause-marked c =
    let a = c.in_ok-claim_ask-in-ClaimAsk in
    told_alone c.args.self.now (squeue_of c.claim_ask.new.self) c.args.mark.now.p c.args.mark.now.feeds.items Kind'.ClaimAsk a.field-0 c.in-ClaimAsk.is c.none_processed-in-ClaimAsk.ensures (λ past. refl) (λ st. refl) a.ensures.marked

pub returns-in_ok-ask-in-Ask-clause-marked : goal.returns-in_ok-ask-in-Ask-clause-marked
returns-in_ok-ask-in-Ask-clause-marked c =
    let a = c.in_ok-ask-in-Ask in
    told_alone c.args.self.now (squeue_of c.ask.new.self) c.args.mark.now.p c.args.mark.now.feeds.items Kind'.Ask a.field-0 c.in-Ask.is c.none_processed-in-Ask.ensures (λ past. refl) (λ st. refl) a.ensures.marked

pub returns-in-Accept-clause-marked : goal.returns-in-Accept-clause-marked
returns-in-Accept-clause-marked c =
    told_alone c.args.self.now (squeue_of c.accept.new.self) c.args.mark.now.p c.args.mark.now.feeds.items Kind'.Accept c.accept.result c.in-Accept.is c.none_processed-in-Accept.ensures (λ past. refl) (λ st. refl) c.accept.ensures.marked

pub returns-in-Work-clause-marked : goal.returns-in-Work-clause-marked
returns-in-Work-clause-marked c =
    told_alone c.args.self.now (squeue_of c.work.new.self) c.args.mark.now.p c.args.mark.now.feeds.items Kind'.Work c.work.result c.in-Work.is c.none_processed-in-Work.ensures (λ past. refl) (λ st. refl) c.work.ensures.marked

pub returns-in-Close-clause-marked : goal.returns-in-Close-clause-marked
returns-in-Close-clause-marked c =
    told_alone c.args.self.now (squeue_of c.close.new.self) c.args.mark.now.p c.args.mark.now.feeds.items Kind'.Close c.close.result c.in-Close.is c.none_processed-in-Close.ensures (λ past. refl) (λ st. refl) c.close.ensures.marked

pub returns-in-Take-clause-marked : goal.returns-in-Take-clause-marked
returns-in-Take-clause-marked c =
    told_take c.args.self.now (squeue_of c.take.new.self) c.args.mark.now.p c.args.mark.now.feeds.items c.take.result c.in-Take.is c.take.ensures.tells

pub returns-in-Grant-clause-marked : goal.returns-in-Grant-clause-marked
returns-in-Grant-clause-marked c =
    told_grant c.args.self.now (squeue_of c.grant.new.self) c.args.mark.now.p c.args.mark.now.feeds.items c.grant.result c.in-Grant.j c.in-Grant.rest c.in-Grant.is c.grant.ensures.tells

pub returns-in-Leave-clause-marked : goal.returns-in-Leave-clause-marked
returns-in-Leave-clause-marked c =
    told_leave c.args.self.now (squeue_of c.leave.new.self) c.args.mark.now.p c.args.mark.now.feeds.items c.leave.result c.in-Leave.rest c.in-Leave.act c.in-Leave.is c.leave.ensures.tells
