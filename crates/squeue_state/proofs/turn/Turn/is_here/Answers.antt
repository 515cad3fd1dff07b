use Rattle.std.proofs.Common.{arith}
use Rattle.squeue_state.proofs.Reading.{reads, here_flags, here_at}
use Rattle.squeue_state.proofs.turn.Turn.is_here.Goals as goal

pub index-requires : goal.index-requires
index-requires g c =
    let b = reads g.R.Resident c.self.inside.of.value c.self.inside.held c.args.self.now c.get.result.now c.self.invariant c.self.view_is c.get.ensures in
    omega (arith, c.requires, c.get.result.now.inner.here.ok.0, here_flags g.R.Resident c.args.self.now.squeue.given c.get.result.now.inner c.args.self.now.found b)

pub returns : goal.returns
returns g c =
    let b = reads g.R.Resident c.self.inside.of.value c.self.inside.held c.args.self.now c.get.result.now c.self.invariant c.self.view_is c.get.ensures in
    here_at g.R.Resident c.args.self.now.squeue.given c.get.result.now.inner c.args.self.now.found c.args.c c.index.result.now b c.requires c.index.ensures
