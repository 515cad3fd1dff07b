use Rattle.std.proofs.Common.{◌≡◌, ℕ, ◌*◌, ◌≤◌, length, sym, ◌∙◌, subst, arith}
use Rattle.squeue_serve.specs.Lending.{HaveRoom, tasks_in}
use Rattle.histories.specs.Limits.{most_feeds}
use Rattle.shard_rings.specs.Making.{AreEnds}
use Rattle.shard_rings.specs.Rooms.{HasRoom}
use Rattle.shard_rings.proofs.Begun.{has_begun}
use Rattle.shard_rings.proofs.run.run_shards.Goals as goal

pub residents_of-requires-clause-ends : goal.residents_of-requires-clause-ends
residents_of-requires-clause-ends g c =
    let many : c.len-many.result ≡ length c.args.shared.items = omega (arith, c.len-many.ensures, c.args.shared.ok) in
    (length c.args.rings.items, omega (arith, c.requires.rings.1), subst (λ (n : ℕ). AreEnds (length c.args.rings.items) n c.in_ok-tasks.ends.items) many c.in_ok-tasks.ensures.ends)

pub run_made-requires-clause-rings : goal.run_made-requires-clause-rings
run_made-requires-clause-rings g c κs within =
    let count : c.len-count.result ≡ length c.args.rings.items = omega (arith, c.len-count.ensures, c.args.rings.ok) in
    (omega (arith, count, c.requires.rings.0), omega (arith, count, c.requires.rings.1))

pub run_made-requires-clause-parcels : goal.run_made-requires-clause-parcels
run_made-requires-clause-parcels g c κs within =
    let count : c.len-count.result ≡ length c.args.rings.items = omega (arith, c.len-count.ensures, c.args.rings.ok) in
    (c.requires.parcels.0, subst (λ (n : ℕ). n * c.args.pool.now.parcels ≤ most_feeds) (sym count) c.requires.parcels.1)

pub run_made-requires-clause-few : goal.run_made-requires-clause-few
run_made-requires-clause-few g c κs within = let n = c.in_ok-residents.ensures.count in omega (arith, n, c.requires.squeues)

pub run_made-requires-clause-begun : goal.run_made-requires-clause-begun
run_made-requires-clause-begun g c κs within =
    let count : c.len-count.result ≡ length c.args.rings.items = omega (arith, c.len-count.ensures, c.args.rings.ok) in
    let many : c.len-many.result ≡ length c.args.shared.items = omega (arith, c.len-many.ensures, c.args.shared.ok) in (
      c.args.shared.items,
      c.args.rings.items,
      has_begun c.len-count.result c.len-many.result c.args.shared.items c.args.rings.items c.in_ok-tasks.ends.items c.in_ok-residents.residents.items (tasks_in c.in_ok-jobs.jobs.items) c.in_ok-tasks.tasks.items count many
          c.in_ok-tasks.ensures.tasks c.in_ok-tasks.ensures.ends c.in_ok-residents.ensures c.in_ok-jobs.ensures.tasks,
    )

pub run_made-requires-clause-jobs : goal.run_made-requires-clause-jobs
run_made-requires-clause-jobs g c κs within =
    let many : c.len-many.result ≡ length c.args.shared.items = omega (arith, c.len-many.ensures, c.args.shared.ok) in
    let n : c.len-many.result ≡ length c.in_ok-residents.residents.items = many ∙ sym c.in_ok-residents.ensures.count in
    (c.in_ok-jobs.ensures.empty, subst (λ (k : ℕ). HaveRoom k c.in_ok-jobs.jobs.items) n c.in_ok-jobs.ensures.room)

pub run_made-requires-clause-room : goal.run_made-requires-clause-room
run_made-requires-clause-room g c κs within =
    let many : c.len-many.result ≡ length c.args.shared.items = omega (arith, c.len-many.ensures, c.args.shared.ok) in
    let n : c.len-many.result ≡ length c.in_ok-residents.residents.items = many ∙ sym c.in_ok-residents.ensures.count in
    subst (λ (k : ℕ). HasRoom c.len-count.result k c.in_ok-room.room) n c.in_ok-room.ensures

pub returns-in-Ok : goal.returns-in-Ok
returns-in-Ok g c =
    let count : c.len-count.result ≡ length c.args.rings.items = omega (arith, c.len-count.ensures, c.args.rings.ok) in
    let many : c.len-many.result ≡ length c.args.shared.items = omega (arith, c.len-many.ensures, c.args.shared.ok) in
    c.run_made.ensures c.args.shared.items c.args.rings.items
    (has_begun c.len-count.result c.len-many.result c.args.shared.items c.args.rings.items c.in_ok-tasks.ends.items c.in_ok-residents.residents.items (tasks_in c.in_ok-jobs.jobs.items) c.in_ok-tasks.tasks.items count many
    c.in_ok-tasks.ensures.tasks c.in_ok-tasks.ensures.ends c.in_ok-residents.ensures c.in_ok-jobs.ensures.tasks)
