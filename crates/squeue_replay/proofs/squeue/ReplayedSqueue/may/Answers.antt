use Rattle.std.proofs.Common.{◌<◌, map, sym, subst, arith}
use Rattle.std.proofs.lemmas.Bool.{ltb-true, lt-ltb}
use Rattle.perimeter_core.specs.declared.marks.SynchAct.{SynchAct}
use Rattle.perimeter_core.specs.History.{worker}
use Rattle.squeue_replay.specs.Replaying.{setting_of}
use Rattle.squeue_replay.specs.Standing.{guest_of}
use Rattle.squeue_replay.specs.Steps.{ActMay}
use Rattle.squeue_replay.proofs.SettingFacts.{worker_is}
use Rattle.squeue_replay.proofs.squeue.ReplayedSqueue.may.Goals as goal

pub returns-then-self-p : goal.returns-then-self-p
returns-then-self-p c =
    let s = c.args.self.now in
    let w = worker_is s.run.plan.now s.run.calls.now s.run.setup.squeues s.run.setup.rings s.run.setup.spread s.number in (
      λ h.
          let lt = ltb-true c.args.p c.worker.result h in
          let low : c.args.p < worker (setting_of s) = omega (arith, lt, w, c.worker.ensures) in
          subst (λ (a : SynchAct). ActMay (setting_of s) (map guest_of s.guests.items) c.args.p a) (sym c.in-Away.is) (low, c.if-self-p.true),
      λ a.
          let low = (subst (λ (b : SynchAct). ActMay (setting_of s) (map guest_of s.guests.items) c.args.p b) c.in-Away.is a).0 in
          lt-ltb c.args.p c.worker.result (omega (arith, low, w, c.worker.ensures)),
    )
