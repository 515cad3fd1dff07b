use Rattle.std.proofs.Common.{◌≤◌, length, map, arith}
use Rattle.squeue_replay.specs.Standing.{guest_of}
use Rattle.conn_blocks.specs.CallLists.{calls_of}
use Rattle.squeue_replay.proofs.MayActs.{call_may, no_call, no_thread, other_conn}
use Rattle.squeue_replay.proofs.squeue.ReplayedSqueue.may_call.Goals as goal
use Rattle.squeue_replay.proofs.squeue.ReplayedSqueue.may_call.Goals.{then-j-ge-CALLERS-via-then-j-ge-CALLERS, then-j-ge-CALLERS-via-else-j-ge-CALLERS+then-p-self, then-k-len-via-then-k-len, then-k-len-via-else-k-len+then-get-c}

pub returns-then-j-ge-CALLERS : goal.returns-then-j-ge-CALLERS
returns-then-j-ge-CALLERS c = (
  λ none. absurd (let bad : ⊥ = cc none in bad),
  λ a.
      let s = c.args.self.now in
      let bad : ⊥ = elim c.then-j-ge-CALLERS.branch [
        | then-j-ge-CALLERS-via-then-j-ge-CALLERS w ↦
            no_thread s.run.plan.now s.run.calls.now s.run.setup.squeues s.run.setup.rings s.run.setup.spread s.number (map guest_of s.guests.items) c.args.p c.args.c c.args.j c.args.k (omega (arith, w.if-j-ge-CALLERS.true)) a
        | then-j-ge-CALLERS-via-else-j-ge-CALLERS+then-p-self w ↦ w.if-p-self.true a.1
      ] in
      absurd bad,
)

pub returns-then-k-len : goal.returns-then-k-len
returns-then-k-len c = (
  λ none. absurd (let bad : ⊥ = cc none in bad),
  λ a.
      let s = c.args.self.now in
      let bad : ⊥ = elim c.then-k-len.branch [
        | then-k-len-via-then-k-len w ↦
            (let far : length (calls_of s.run.calls.now c.args.j) ≤ c.args.k = omega (arith, w.if-k-len.true, c.len.ensures.value) in
            no_call s.run.plan.now s.run.calls.now s.run.setup.squeues s.run.setup.rings s.run.setup.spread s.number (map guest_of s.guests.items) c.args.p c.args.c c.args.j c.args.k c.len.ensures.threads far a)
        | then-k-len-via-else-k-len+then-get-c w ↦
            other_conn s.run.plan.now s.run.calls.now s.run.setup.squeues s.run.setup.rings s.run.setup.spread s.number (map guest_of s.guests.items) c.args.p c.args.c c.args.j c.args.k c.len.ensures.threads w.get.result w.get.ensures w.if-get-c.true a
      ] in
      absurd bad,
)

pub returns : goal.returns
returns c =
    let s = c.args.self.now in (
      λ h. call_may s.run.plan.now s.run.calls.now s.run.setup.squeues s.run.setup.rings s.run.setup.spread s.number (map guest_of s.guests.items) c.args.p c.args.c c.args.j c.args.k
          (omega (arith, c.if-j-ge-CALLERS.false)) c.if-p-self.false c.get.result c.get.ensures c.if-get-c.false (c.is_here.ensures.0 h),
      λ a. c.is_here.ensures.1 a.2,
    )
