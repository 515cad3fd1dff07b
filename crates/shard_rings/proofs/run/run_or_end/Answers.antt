use Rattle.std.proofs.Common.{◌++◌, All, drop, take, IfOk, length, sym, ◌∙◌, ap, subst, arith}
use Rattle.squeue_serve.specs.Lending.{lent_to, tasks_in}
use Rattle.squeue_rings.proofs.Starts.{from_ok}
use Rattle.shards.specs.Sharing.{limits_for}
use Rattle.shard_rings.specs.Columns.{rings_in}
use Rattle.shard_rings.specs.Jobs.{AllServe, HasBroughtOf, HaveDone, MayDo}
use Rattle.shard_rings.specs.Making.{AreTasks, IsNewRing}
use Rattle.shard_rings.proofs.Apart.{rings_are}
use Rattle.shard_rings.proofs.Ready.{all_done, all_ended, all_may, all_rings}
use Rattle.shard_rings.proofs.run.run_or_end.Goals as goal

pub run_all-requires-clause-may : goal.run_all-requires-clause-may
run_all-requires-clause-may g c κs within =
    let ss = c.args.squeues.now in
    let jobs = c.args.jobs.now.items in
    let count = c.args.count in
    let serve = from_ok (λ _. AllServe limits_for ss count × AreTasks count (length ss) (IsNewRing (length ss)) (tasks_in jobs)) c.args.made.now c.in-Ok.field-0 c.in-Ok.is c.requires.serve in
    subst (λ l. All (λ j. MayDo limits_for ss j.task j.places.items) l) (sym c.deref_mut.ensures.value) (all_may limits_for ss count jobs serve.1 c.requires.lent serve.0)

pub returns-in-Ok-clause-done : goal.returns-in-Ok-clause-done
returns-in-Ok-clause-done g c =
    let ss = c.args.squeues.now in
    let jobs = c.args.jobs.now.items in
    let count = c.args.count in
    let new = c.run_all.new.jobs in
    let serve = from_ok (λ _. AllServe limits_for ss count × AreTasks count (length ss) (IsNewRing (length ss)) (tasks_in jobs)) c.args.made.now c.in-Ok.field-0 c.in-Ok.is c.requires.serve in
    let done = subst (λ l. HaveDone limits_for ss g.B.Brings.did l new) c.deref_mut.ensures.value c.run_all.ensures in
    let same = c.run_all.auto.jobs ∙ ap length c.deref_mut.ensures.value in
    let back = take c.args.jobs.now.len (new ++ drop (length new) jobs) in
    subst (λ made. IfOk made (λ _. AreTasks count (length ss) (HasBroughtOf limits_for ss g.B.Brings.did (tasks_in jobs) (lent_to back)) (tasks_in back))) (sym c.in-Ok.is)
    (all_done limits_for ss count jobs serve.1 c.requires.lent g.B.Brings.did new same done c.args.jobs.now.len (omega (arith, c.args.jobs.now.ok.0)))

pub returns-in-Ok-clause-lent : goal.returns-in-Ok-clause-lent
returns-in-Ok-clause-lent g c =
    let ss = c.args.squeues.now in
    let jobs = c.args.jobs.now.items in
    let count = c.args.count in
    let new = c.run_all.new.jobs in
    let serve = from_ok (λ _. AllServe limits_for ss count × AreTasks count (length ss) (IsNewRing (length ss)) (tasks_in jobs)) c.args.made.now c.in-Ok.field-0 c.in-Ok.is c.requires.serve in
    let done = subst (λ l. HaveDone limits_for ss g.B.Brings.did l new) c.deref_mut.ensures.value c.run_all.ensures in
    let same = c.run_all.auto.jobs ∙ ap length c.deref_mut.ensures.value in
    all_ended limits_for ss count jobs serve.1 c.requires.lent g.B.Brings.did new same done c.args.jobs.now.len (omega (arith, c.args.jobs.now.ok.0))

pub returns-in-Ok-clause-rings : goal.returns-in-Ok-clause-rings
returns-in-Ok-clause-rings g c =
    let ss = c.args.squeues.now in
    let jobs = c.args.jobs.now.items in
    let count = c.args.count in
    let new = c.run_all.new.jobs in
    let serve = from_ok (λ _. AllServe limits_for ss count × AreTasks count (length ss) (IsNewRing (length ss)) (tasks_in jobs)) c.args.made.now c.in-Ok.field-0 c.in-Ok.is c.requires.serve in
    let done = subst (λ l. HaveDone limits_for ss g.B.Brings.did l new) c.deref_mut.ensures.value c.run_all.ensures in
    let same = c.run_all.auto.jobs ∙ ap length c.deref_mut.ensures.value in
    all_rings limits_for ss count jobs serve.1 c.requires.lent g.B.Brings.did new same done c.args.jobs.now.len (omega (arith, c.args.jobs.now.ok.0))

pub returns-in-Err-clause-rings : goal.returns-in-Err-clause-rings
returns-in-Err-clause-rings g c =
    let many = c.requires.many in
    let jobs = c.args.jobs.now.items in
    ap (λ l. length (rings_in l)) c.run_unused.ensures.tasks ∙ (rings_are c.args.count many.0 (IsNewRing many.0) (tasks_in jobs) many.2).0
