use Rattle.std.proofs.Common.{◌≡◌, ◌-◌, ℕ, Bool, true, false, not, take, length, refl, subst, rules, arith}
use Rattle.std.proofs.lemmas.Option.{MatchOption-at_some}
use Rattle.perimeter_core.specs.declared.marks.Own.TheVariants.{Out}
use Rattle.squeue_replay.specs.Replaying.{setting_of, squeue_of}
use Rattle.squeue_replay.specs.Steps.{Processed}
use Rattle.squeue_replay.proofs.LeaveSteps.{grant_fits, grant_stands}
use Rattle.squeue_replay.proofs.SettingFacts.{worker_is}
use Rattle.squeue_replay.proofs.squeue.ReplayedSqueue.grant.Goals as goal
use Rattle.squeue_replay.proofs.squeue.ReplayedSqueue.grant.Goals.{then-ne-via-then-ne, then-ne-via-else-ne+then-j-p, then-ne-via-else-ne+else-j-p+then-j-worker}

kept : (b : Bool) → not b ≡ false → b ≡ true
kept true h = refl
kept false h = absurd (let bad : ⊥ = cc h in bad)

pub returns-then-ne-clause-tells : goal.returns-then-ne-clause-tells
returns-then-ne-clause-tells c = λ H k m.
    let s = c.args.self.now in
    let f = grant_fits (setting_of s) H c.args.p c.args.j c.args.rest (squeue_of s) k m in
    elim c.then-ne.branch [
      | then-ne-via-then-ne w ↦ (let own : s.own ≡ Out c.args.p = f.0.own in let other = w.if-ne in search rules)
      | then-ne-via-else-ne+then-j-p w ↦ f.0.other w.if-j-p.true
      | then-ne-via-else-ne+else-j-p+then-j-worker w ↦
          (let low = f.1 in
          let big = w.if-j-worker.true in
          let v = w.worker.ensures in
          let is = worker_is s.run.plan.now s.run.calls.now s.run.setup.squeues s.run.setup.rings s.run.setup.spread s.number in
          omega (arith, low, big, v, is))
    ]

pub returns-clause-tells : goal.returns-clause-tells
returns-clause-tells c = λ H k.
    let s = c.args.self.now in
    let x = squeue_of s in
    let t = squeue_of c.process.new.self in
    let own : x.own ≡ Out c.args.p = search rules in
    let did : Processed (take c.in-Some.count s.hand.items) c.args.j c.in-Some-2.done.feeds c.in-Some-2.done.ask x t =
    MatchOption-at_some _ (λ done. Processed (take c.in-Some.count s.hand.items) c.args.j done.feeds done.ask x t) c.in-Some-2.done c.in-Some-2.is c.in_ok-done.ensures.processed in
    let asked : c.in-Some-2.done.ask ≡ true = kept c.in-Some-2.done.ask c.if-not-done.false in
    let all : Processed (take (length s.hand.items - c.args.rest) s.hand.items) c.args.j c.in-Some-2.done.feeds true x t =
    subst (λ (b : Bool). Processed (take (length s.hand.items - c.args.rest) s.hand.items) c.args.j c.in-Some-2.done.feeds b x t) asked
    (subst (λ (n : ℕ). Processed (take n s.hand.items) c.args.j c.in-Some-2.done.feeds c.in-Some-2.done.ask x t) c.in-Some.ensures.1 did) in
    grant_stands (setting_of s) H c.args.p c.args.j c.args.rest x k c.in-Some-2.done.feeds t (squeue_of c.put_back.new.self) own c.in-Some.ensures.0 c.if-j-p.false all c.in_ok-put_back.ensures.back
