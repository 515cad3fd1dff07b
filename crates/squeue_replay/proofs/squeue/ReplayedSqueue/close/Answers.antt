use Rattle.std.proofs.Common.{true, refl, arith}
use Rattle.std.proofs.lemmas.List.{map-set}
use Rattle.squeue_replay.specs.Replaying.{setting_of, squeue_of}
use Rattle.squeue_replay.proofs.Reading.{kept, pass_at, seat}
use Rattle.squeue_replay.proofs.OwnMarks.{close_stands, may_close}
use Rattle.squeue_replay.proofs.squeue.ReplayedSqueue.close.Goals as goal

pub returns-then-not-is_idle-clause-marked : goal.returns-then-not-is_idle-clause-marked
returns-then-not-is_idle-clause-marked c H k may =
    let no_idle = c.if-not-is_idle.ensures.1 (may_close (setting_of c.args.self.now) H c.args.p (squeue_of c.args.self.now) k may) in let bad : ⊥ = cc in bad

pub index_mut-requires : goal.index_mut-requires
index_mut-requires c =
    let i = c.if-not-is_idle.ensures.0 refl in
    let less = seat kept c.args.self.now.passes.items c.args.p i.pass i.was in
    omega (arith, less, c.args.self.now.passes.ok.0)

pub returns-clause-marked : goal.returns-clause-marked
returns-clause-marked c H k =
    let s = c.args.self.now in
    let i = c.if-not-is_idle.ensures.0 refl in
    let less = seat kept s.passes.items c.args.p i.pass i.was in
    let x = c.index_mut.result.now in
    rw (map-set kept s.passes.items c.args.p (record x { closed = true }))
    (close_stands (setting_of s) H c.args.p (squeue_of s) (kept x) k i (pass_at s.passes.items c.args.p x less c.index_mut.ensures.value))
