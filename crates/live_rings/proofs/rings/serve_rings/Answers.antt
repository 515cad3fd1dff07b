use Rattle.std.proofs.Common.{◌≡◌, ◌∙◌, ◌≤◌, sym, ap, subst, arith, length, min, take, drop, ◌++◌, List, vec_capacity}
use Rattle.std.specs.Prelude.{All}
use Rattle.live_rings.specs.declared.ending.Ends.{Ends}
use Rattle.ring_groups.specs.declared.groups.Group.{Group}
use Rattle.live_rings.specs.declared.ending.EndedRing.{EndedRing}
use Rattle.ring_groups.specs.Groups.{HaveEnded, MayServe, all_in, many_in}
use Rattle.histories.specs.Endings.{Ending}
use Rattle.live_rings.specs.Served.{AllLived, EndedIn, HasEnded}
use Rattle.ring_groups.proofs.Grouped.{all_groups, few_ended, many_ends, of_groups, whole_back}
use Rattle.live_rings.proofs.rings.serve_rings.Given.{Over}
use Rattle.live_rings.proofs.rings.serve_rings.Goals.{After-serve_groups}
use Rattle.live_rings.proofs.rings.serve_rings.Goals as goal

-- the groups are again the vector that was lent
back : (g : Over) (c : After-serve_groups g) → take c.in_ok-groups.groups.len (c.serve_groups.new.groups ++ drop (length c.serve_groups.new.groups) c.in_ok-groups.groups.items) ≡ c.serve_groups.new.groups
back g c =
    let all = c.in_ok-groups.groups in
    let first = ap length c.deref_mut.ensures.value in
    whole_back all.len all.items c.serve_groups.new.groups (omega (arith, c.serve_groups.auto.groups, first, all.ok.0)) (omega (arith, all.ok.0))

-- and all of its streams are those that were given
dealt : (g : Over) (c : After-serve_groups g) → all_in c.deref_mut.result.now ≡ c.args.ends.items
dealt g c = ap all_in c.deref_mut.ensures.value ∙ c.in_ok-groups.ensures.groups

pub serve_groups-requires-clause-groups : goal.serve_groups-requires-clause-groups
serve_groups-requires-clause-groups g c κs within = subst (All MayServe) (sym c.deref_mut.ensures.value) c.in_ok-groups.ensures.may

pub gather_all-requires-clause-room : goal.gather_all-requires-clause-room
gather_all-requires-clause-room g c =
    let at = (goal.at.gather_all-requires-clause-room g c).After-serve_groups in
    let few =
    few_ended (EndedIn g.S.Source.rest g.S.Source.read_faults g.K.Sink.contents g.K.Sink.write_faults c.args.setup.now) c.deref_mut.result.now c.serve_groups.new.groups (omega (arith, c.serve_groups.auto.groups)) c.serve_groups.ensures in
    let many : many_in c.serve_groups.new.groups ≤ vec_capacity c.in_ok-room.room =
    omega (arith, few, ap length (dealt g at), c.in_ok-room.ensures.exact, c.len.ensures, c.args.ends.ok.0) in
    (c.in_ok-room.ensures.items, subst (λ (gs : List (Group (Ends g.row.S.Denot g.row.K.Denot) (EndedRing g.row.S.Denot g.row.K.Denot) Ending)). many_in gs ≤ vec_capacity c.in_ok-room.room) (sym (back g at)) many)

-- as many ends have room as there are groups
pub gather_all-requires-clause-squeues : goal.gather_all-requires-clause-squeues
gather_all-requires-clause-squeues g c =
    let at = (goal.at.gather_all-requires-clause-squeues g c).After-serve_groups in
    let same = ap length (back g at) in
    (c.in_ok-ended.ensures.items, omega (arith, same, c.serve_groups.auto.groups, ap length c.deref_mut.ensures.value, c.in_ok-ended.ensures.exact, c.in_ok-groups.groups.ok.0))

-- what is left of all streams, by their squeues
lived : (g : Over) (c : After-serve_groups g) (ds : List (EndedRing g.row.S.Denot g.row.K.Denot)) (zs : List Ending)
    → HaveEnded (take c.in_ok-groups.groups.len (c.serve_groups.new.groups ++ drop (length c.serve_groups.new.groups) c.in_ok-groups.groups.items)) ds zs
    → AllLived g.S.Source.rest g.S.Source.read_faults g.K.Sink.contents g.K.Sink.write_faults c.args.setup.now zs c.args.ends.items ds
lived g c ds zs h =
    subst (λ (es : List (Ends g.row.S.Denot g.row.K.Denot)). AllLived g.S.Source.rest g.S.Source.read_faults g.K.Sink.contents g.K.Sink.write_faults c.args.setup.now zs es ds) (dealt g c)
    (all_groups (EndedIn g.S.Source.rest g.S.Source.read_faults g.K.Sink.contents g.K.Sink.write_faults c.args.setup.now) c.deref_mut.result.now c.serve_groups.new.groups ds zs
    (subst (All MayServe) (sym c.deref_mut.ensures.value) c.in_ok-groups.ensures.may) (omega (arith, c.serve_groups.auto.groups)) c.serve_groups.ensures
    (subst (λ (gs : List (Group (Ends g.row.S.Denot g.row.K.Denot) (EndedRing g.row.S.Denot g.row.K.Denot) Ending)). HaveEnded gs ds zs) (back g c) h))

pub returns-clause-lived : goal.returns-clause-lived
returns-clause-lived g c = lived g (goal.at.returns-clause-lived g c).After-serve_groups _ _ c.in_ok-streams.ensures

pub returns-clause-ended : goal.returns-clause-ended
returns-clause-ended g c =
    of_groups (EndedIn g.S.Source.rest g.S.Source.read_faults g.K.Sink.contents g.K.Sink.write_faults c.args.setup.now)
    (HasEnded g.S.Source.rest g.S.Source.read_faults g.K.Sink.contents g.K.Sink.write_faults c.args.setup.now) (λ z k e d h. h.ended) _ _ _
    (lived g (goal.at.returns-clause-ended g c).After-serve_groups _ _ c.in_ok-streams.ensures)

-- there are as many ends as groups were dealt
ends : (g : Over) (c : After-serve_groups g) (ds : List (EndedRing g.row.S.Denot g.row.K.Denot)) (zs : List Ending) → 1 ≤ c.args.setup.now.squeues
    → HaveEnded (take c.in_ok-groups.groups.len (c.serve_groups.new.groups ++ drop (length c.serve_groups.new.groups) c.in_ok-groups.groups.items)) ds zs
    → length zs ≡ min c.args.setup.now.squeues (length c.args.ends.items)
ends g c ds zs some h =
    let many = many_ends (take c.in_ok-groups.groups.len (c.serve_groups.new.groups ++ drop (length c.serve_groups.new.groups) c.in_ok-groups.groups.items)) ds zs h in
    omega (arith, many, ap length (back g c), c.serve_groups.auto.groups, ap length c.deref_mut.ensures.value, c.in_ok-groups.ensures.many some)

pub returns-clause-squeues : goal.returns-clause-squeues
returns-clause-squeues g c = ends g (goal.at.returns-clause-squeues g c).After-serve_groups _ _ c.requires.setup.squeues c.in_ok-streams.ensures
