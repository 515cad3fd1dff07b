use Rattle.std.proofs.Common.{◌≡◌, All, length, reverse, refl, ap, sym, ◌∙◌, subst, arith}
use Rattle.std.proofs.lemmas.Result.{IfOk-weaker}
use Rattle.squeue_serve.specs.Lending.{AreLent, lent_to, tasks_in}
use Rattle.squeue_serve.specs.Places.{IsNew, MayEnd}
use Rattle.squeue_rings.proofs.Starts.{from_ok}
use Rattle.shards.specs.Sharing.{limits_for}
use Rattle.shard_rings.specs.Columns.{AreEnded, MayFinishAll, rings_in}
use Rattle.shard_rings.specs.Jobs.{AllServe, HasBroughtOf}
use Rattle.shard_rings.specs.Making.{AreMadeOf, AreTasks, IsNewRing}
use Rattle.shard_rings.proofs.Begun.{many_jobs, many_residents, moved, new_rings, some_room, they_serve, they_stand}
use Rattle.shard_rings.proofs.Whole.{has_run, may_finish, rows_full}
use Rattle.shard_rings.proofs.run.run_made.Goals as goal

pub make_all-made-requires-clause-room : goal.make_all-made-requires-clause-room
make_all-made-requires-clause-room g c =
    (some_room c.args.count c.args.pool.now.parcels c.requires.rings.0 c.requires.parcels.0, c.requires.parcels.1)

pub make_all-made-requires-clause-residents : goal.make_all-made-requires-clause-residents
make_all-made-requires-clause-residents g c =
    let b = c.requires.begun in
    they_stand c.args.count b.0 b.1 c.args.residents.items (tasks_in c.args.means.jobs.items) b.2

pub make_all-made-requires-clause-jobs : goal.make_all-made-requires-clause-jobs
make_all-made-requires-clause-jobs g c =
    let b = c.requires.begun in
    let n = many_jobs c.args.count b.0 b.1 c.args.residents.items (tasks_in c.args.means.jobs.items) b.2 c.args.means.jobs.items refl in
    omega (arith, n)

pub run_or_end-requires-clause-many : goal.run_or_end-requires-clause-many
run_or_end-requires-clause-many g c κs within =
    let b = c.requires.begun in
    let n = many_residents c.args.count b.0 b.1 c.args.residents.items (tasks_in c.args.means.jobs.items) b.2 in
    let same = ap length c.as_slice.ensures.value in (
      length b.0,
      omega (arith, n, same, c.make_all-made.ensures.few),
      subst (λ t. AreTasks c.args.count (length b.0) (IsNewRing (length b.0)) t) (sym c.make_all-made.ensures.tasks)
          (new_rings c.args.count b.0 b.1 c.args.residents.items (tasks_in c.args.means.jobs.items) b.2 (length b.0) refl),
    )

pub run_or_end-requires-clause-serve : goal.run_or_end-requires-clause-serve
run_or_end-requires-clause-serve g c κs within =
    let b = c.requires.begun in
    let count = c.args.count in
    IfOk-weaker c.make_all-made.result _ _
    (λ _ made.
    (subst (λ ss. AllServe limits_for ss count × AreTasks count (length ss) (IsNewRing (length ss)) (tasks_in c.make_all-made.new.jobs.items)) (sym c.as_slice.ensures.value)
    (subst (λ t. AllServe limits_for c.make_all-made.new.squeues.all.items count × AreTasks count (length c.make_all-made.new.squeues.all.items) (IsNewRing (length c.make_all-made.new.squeues.all.items)) t) (sym c.make_all-made.ensures.tasks)
    (they_serve count b.0 b.1 c.args.residents.items (tasks_in c.args.means.jobs.items) b.2 limits_for c.make_all-made.new.squeues.all.items made))))
    c.make_all-made.ensures.made

pub run_or_end-requires-clause-lent : goal.run_or_end-requires-clause-lent
run_or_end-requires-clause-lent g c κs within =
    subst (λ ss. AreLent IsNew 0 c.args.count ss (lent_to c.make_all-made.new.jobs.items)) (sym c.as_slice.ensures.value) c.make_all-made.ensures.lent

pub gather-requires-clause-lent : goal.gather-requires-clause-lent
gather-requires-clause-lent g c =
    subst (λ ss. AreLent (MayEnd limits_for) 0 c.args.count ss (lent_to c.run_or_end.new.jobs.items)) c.as_slice.ensures.value c.run_or_end.ensures.lent

pub gather-requires-clause-jobs : goal.gather-requires-clause-jobs
gather-requires-clause-jobs g c =
    let b = c.requires.begun in
    let n = many_jobs c.args.count b.0 b.1 c.args.residents.items (tasks_in c.args.means.jobs.items) b.2 c.make_all-made.new.jobs.items (sym c.make_all-made.ensures.tasks) in
    omega (arith, n, c.run_or_end.ensures.count, c.make_all-made.ensures.few)

pub gather-requires-clause-empty : goal.gather-requires-clause-empty
gather-requires-clause-empty g c = c.requires.room.left.0

pub gather-requires-clause-room : goal.gather-requires-clause-room
gather-requires-clause-room g c = let a = c.requires.room.left.1 in omega (arith, a, c.make_all-made.ensures.few)

pub take_apart-rings-requires-clause-room : goal.take_apart-rings-requires-clause-room
take_apart-rings-requires-clause-room g c =
    let n = ap (λ t. length (rings_in t)) c.gather.ensures.tasks ∙ c.run_or_end.ensures.rings in
    let a = c.requires.room.bringers.1 in
    let b = c.requires.room.rows.1 in
    (omega (arith, n, a), omega (arith, n, b))

pub finish_all-served-requires-clause-rows : goal.finish_all-served-requires-clause-rows
finish_all-served-requires-clause-rows g c =
    let b = c.requires.begun in
    let count = c.args.count in
    let ss = c.make_all-made.new.squeues.all.items in
    let vs = reverse c.gather.new.left.items in
    let lent = lent_to c.run_or_end.new.jobs.items in
    let first = tasks_in c.args.means.jobs.items in
    let tasks = tasks_in c.gather.new.jobs.items in
    let made = from_ok (λ _. AreMadeOf limits_for count c.args.residents.items ss) c.make_all-made.result c.in_ok-made.field-0 c.in_ok-made.was c.make_all-made.ensures.made in
    let done = from_ok
    (λ _. AreTasks count (length c.as_slice.result.now) (HasBroughtOf limits_for c.as_slice.result.now g.B.Brings.did (tasks_in c.make_all-made.new.jobs.items) lent) (tasks_in c.run_or_end.new.jobs.items))
    c.make_all-made.result c.in_ok-made.field-0 c.in_ok-made.was c.run_or_end.ensures.done in
    let after = moved limits_for g.B.Brings.did count ss c.as_slice.result.now first (tasks_in c.make_all-made.new.jobs.items) tasks (tasks_in c.run_or_end.new.jobs.items) lent c.as_slice.ensures.value c.make_all-made.ensures.tasks c.gather.ensures.tasks done in
    subst (λ l. All (λ row. length row.items ≡ length l) c.take_apart-rings.result.rows.items) (sym c.reverse.ensures.items)
    (rows_full _ g.B.Brings.did (λ r k h. h.1) (λ r t e. e) count b.0 b.1 c.args.residents.items first tasks b.2 ss made lent after vs c.gather.ensures.left c.take_apart-rings.result.rows.items c.take_apart-rings.ensures.rows)

pub finish_all-served-requires-clause-may : goal.finish_all-served-requires-clause-may
finish_all-served-requires-clause-may g c =
    let b = c.requires.begun in
    let count = c.args.count in
    let ss = c.make_all-made.new.squeues.all.items in
    let vs = reverse c.gather.new.left.items in
    let lent = lent_to c.run_or_end.new.jobs.items in
    let first = tasks_in c.args.means.jobs.items in
    let tasks = tasks_in c.gather.new.jobs.items in
    let made = from_ok (λ _. AreMadeOf limits_for count c.args.residents.items ss) c.make_all-made.result c.in_ok-made.field-0 c.in_ok-made.was c.make_all-made.ensures.made in
    let done = from_ok
    (λ _. AreTasks count (length c.as_slice.result.now) (HasBroughtOf limits_for c.as_slice.result.now g.B.Brings.did (tasks_in c.make_all-made.new.jobs.items) lent) (tasks_in c.run_or_end.new.jobs.items))
    c.make_all-made.result c.in_ok-made.field-0 c.in_ok-made.was c.run_or_end.ensures.done in
    let after = moved limits_for g.B.Brings.did count ss c.as_slice.result.now first (tasks_in c.make_all-made.new.jobs.items) tasks (tasks_in c.run_or_end.new.jobs.items) lent c.as_slice.ensures.value c.make_all-made.ensures.tasks c.gather.ensures.tasks done in
    subst (MayFinishAll c.take_apart-rings.result.rows.items) (sym c.reverse.ensures.items)
    (may_finish _ g.B.Brings.did (λ r k h. h.1) (λ r t e. e) count b.0 b.1 c.args.residents.items first tasks b.2 ss made lent after vs c.gather.ensures.left c.take_apart-rings.result.rows.items c.take_apart-rings.ensures.rows)

pub returns : goal.returns
returns g c shared before begun =
    let count = c.args.count in
    let ss = c.make_all-made.new.squeues.all.items in
    let vs = reverse c.gather.new.left.items in
    let lent = lent_to c.run_or_end.new.jobs.items in
    let first = tasks_in c.args.means.jobs.items in
    let tasks = tasks_in c.gather.new.jobs.items in
    let made = from_ok (λ _. AreMadeOf limits_for count c.args.residents.items ss) c.make_all-made.result c.in_ok-made.field-0 c.in_ok-made.was c.make_all-made.ensures.made in
    let done = from_ok
    (λ _. AreTasks count (length c.as_slice.result.now) (HasBroughtOf limits_for c.as_slice.result.now g.B.Brings.did (tasks_in c.make_all-made.new.jobs.items) lent) (tasks_in c.run_or_end.new.jobs.items))
    c.make_all-made.result c.in_ok-made.field-0 c.in_ok-made.was c.run_or_end.ensures.done in
    let after = moved limits_for g.B.Brings.did count ss c.as_slice.result.now first (tasks_in c.make_all-made.new.jobs.items) tasks (tasks_in c.run_or_end.new.jobs.items) lent c.as_slice.ensures.value c.make_all-made.ensures.tasks c.gather.ensures.tasks done in
    let ended = subst (λ l. AreEnded c.take_apart-rings.result.rows.items l c.finish_all-served.result.items) c.reverse.ensures.items c.finish_all-served.ensures in
    has_run _ g.B.Brings.did (λ r k h. h.1) (λ r t e. e) count shared before c.args.residents.items first tasks begun ss made lent after vs c.gather.ensures.left c.take_apart-rings.result.rows.items c.take_apart-rings.ensures.rows
    c.take_apart-rings.result.rings.items c.take_apart-rings.ensures.rings c.finish_all-served.result.items ended
