use Rattle.std.proofs.Common.{◌≡◌, ◌∙◌, ◌≤◌, sym, ap, subst, arith, length, take, drop, ◌++◌, List, vec_capacity}
use Rattle.std.specs.Prelude.{All}
use Rattle.std.proofs.lemmas.Result.{IfOk-weaker}
use Rattle.ring_groups.specs.declared.groups.Group.{Group}
use Rattle.ring_groups.specs.Groups.{AllOfGroups, HaveEnded, MayServe, all_in, many_in}
use Rattle.ring_groups.proofs.Grouped.{all_groups, few_ended, few_in, many_ends, whole_back}
use Rattle.squeue_arrivals.specs.Watching.{ServedWith}
use Rattle.squeue_arrivals.specs.declared.watching.WatchedEnd.{WatchedEnd}
use Rattle.squeue_arrivals.specs.declared.served.ServedSource.{ServedSource}
use Rattle.squeue_arrivals.proofs.arriving.serve_with.Given.{Over}
use Rattle.squeue_arrivals.proofs.arriving.serve_with.Goals.{After-serve_groups}
use Rattle.squeue_arrivals.proofs.arriving.serve_with.Goals as goal

-- the groups are again the vector that was lent
back : (g : Over) (c : After-serve_groups g) → take c.in_ok-groups.groups.len (c.serve_groups.new.groups ++ drop (length c.serve_groups.new.groups) c.in_ok-groups.groups.items) ≡ c.serve_groups.new.groups
back g c =
    let all = c.in_ok-groups.groups in
    let first = ap length c.deref_mut.ensures.value in
    whole_back all.len all.items c.serve_groups.new.groups (omega (arith, c.serve_groups.auto.groups, first, all.ok.0)) (omega (arith, all.ok.0))

-- and all of its sources are those that were given
dealt : (g : Over) (c : After-serve_groups g) → all_in c.deref_mut.result.now ≡ c.args.sources.items
dealt g c = ap all_in c.deref_mut.ensures.value ∙ c.in_ok-groups.ensures.groups

may : (g : Over) (c : After-serve_groups g) → All MayServe c.deref_mut.result.now
may g c = subst (All MayServe) (sym c.deref_mut.ensures.value) c.in_ok-groups.ensures.may

pub serve_groups-requires-clause-groups : goal.serve_groups-requires-clause-groups
serve_groups-requires-clause-groups g c κs within i d lt =
    let all = ap all_in c.deref_mut.ensures.value ∙ c.in_ok-groups.ensures.groups in
    (subst (All MayServe) (sym c.deref_mut.ensures.value) c.in_ok-groups.ensures.may i d lt, omega (arith, few_in c.deref_mut.result.now i d lt, ap length all, c.requires.sources))

pub gather_all-requires-clause-room : goal.gather_all-requires-clause-room
gather_all-requires-clause-room g c =
    let at = (goal.at.gather_all-requires-clause-room g c).After-serve_groups in
    let few =
    few_ended (ServedWith g.X.KeySteps.begins g.X.KeySteps.step g.A.Arrivals.origin g.A.Arrivals.given g.A.Arrivals.is_over c.args.steps c.args.pool.now.places (g.V.Watches.says c.args.watcher.now) (g.V.Watches.many c.args.watcher.now) c.args.watched) c.deref_mut.result.now c.serve_groups.new.groups (omega (arith, c.serve_groups.auto.groups)) c.serve_groups.ensures in
    let many : many_in c.serve_groups.new.groups ≤ vec_capacity c.in_ok-room.room =
    omega (arith, few, ap length (dealt g at), c.in_ok-room.ensures.exact, c.len.ensures, c.args.sources.ok.0) in
    (c.in_ok-room.ensures.items, subst (λ (gs : List (Group g.row.A.Denot (ServedSource g.row.A.Denot g.row.X-Item.Denot g.row.X-State.Denot) (WatchedEnd g.row.V-Seen.Denot))). many_in gs ≤ vec_capacity c.in_ok-room.room) (sym (back g at)) many)

-- as many ends have room as there are groups
pub gather_all-requires-clause-squeues : goal.gather_all-requires-clause-squeues
gather_all-requires-clause-squeues g c =
    let at = (goal.at.gather_all-requires-clause-squeues g c).After-serve_groups in
    let same = ap length (back g at) in
    (c.in_ok-ends.ensures.items, omega (arith, same, c.serve_groups.auto.groups, ap length c.deref_mut.ensures.value, c.in_ok-ends.ensures.exact, c.in_ok-groups.groups.ok.0))

-- what is left of all sources, by their squeues
served : (g : Over) (c : After-serve_groups g) (ds : List (ServedSource g.row.A.Denot g.row.X-Item.Denot g.row.X-State.Denot)) (zs : List (WatchedEnd g.row.V-Seen.Denot))
    → HaveEnded (take c.in_ok-groups.groups.len (c.serve_groups.new.groups ++ drop (length c.serve_groups.new.groups) c.in_ok-groups.groups.items)) ds zs
    → AllOfGroups (ServedWith g.X.KeySteps.begins g.X.KeySteps.step g.A.Arrivals.origin g.A.Arrivals.given g.A.Arrivals.is_over c.args.steps c.args.pool.now.places (g.V.Watches.says c.args.watcher.now) (g.V.Watches.many c.args.watcher.now) c.args.watched) zs c.args.sources.items ds
served g c ds zs h =
    subst (λ (es : List g.row.A.Denot). AllOfGroups (ServedWith g.X.KeySteps.begins g.X.KeySteps.step g.A.Arrivals.origin g.A.Arrivals.given g.A.Arrivals.is_over c.args.steps c.args.pool.now.places (g.V.Watches.says c.args.watcher.now) (g.V.Watches.many c.args.watcher.now) c.args.watched) zs es ds) (dealt g c)
    (all_groups (ServedWith g.X.KeySteps.begins g.X.KeySteps.step g.A.Arrivals.origin g.A.Arrivals.given g.A.Arrivals.is_over c.args.steps c.args.pool.now.places (g.V.Watches.says c.args.watcher.now) (g.V.Watches.many c.args.watcher.now) c.args.watched) c.deref_mut.result.now c.serve_groups.new.groups ds zs
    (may g c) (omega (arith, c.serve_groups.auto.groups)) c.serve_groups.ensures
    (subst (λ (gs : List (Group g.row.A.Denot (ServedSource g.row.A.Denot g.row.X-Item.Denot g.row.X-State.Denot) (WatchedEnd g.row.V-Seen.Denot))). HaveEnded gs ds zs) (back g c) h))

pub returns-clause-groups : goal.returns-clause-groups
returns-clause-groups g c = IfOk-weaker c.gather_all.result _ _ (λ r h. served g (goal.at.returns-clause-groups g c).After-serve_groups _ _ h) c.gather_all.ensures

pub returns-clause-many : goal.returns-clause-many
returns-clause-many g c =
    let at = (goal.at.returns-clause-many g c).After-serve_groups in
    let dealt_to = c.in_ok-groups.ensures.many c.requires.pool.squeues in
    IfOk-weaker c.gather_all.result _ _
    (λ r h. (let n = many_ends _ _ _ h in omega (arith, n, dealt_to, ap length (back g at), c.serve_groups.auto.groups, ap length c.deref_mut.ensures.value))) c.gather_all.ensures
