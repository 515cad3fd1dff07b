use Rattle.std.proofs.Common.{◌≤◌, length, sym, ◌∙◌, arith}
use Rattle.histories.proofs.ListPlaces.{some_at}
use Rattle.squeue_serve.proofs.Unused.{each_at}
use Rattle.histories.specs.Runs.{home_before, home_of}
use Rattle.squeue_rings.proofs.PacedAll.{moved_paced}
use Rattle.squeue_rings.proofs.Reaching.{may_come, may_leave, moved_all, own, pass_at, stays_all}
use Rattle.squeue_rings.proofs.bringing.reach.Goals as goal

pub move_home-requires-clause-hints : goal.move_home-requires-clause-hints
move_home-requires-clause-hints g c =
    let ready = c.requires.ready in
    let s = some_at c.args.access.now.squeues.now 0 (omega (arith, c.requires.run.count, c.args.homes.some)) in
    let o = own g.R.Resident.limits c.args.homes.squeues c.args.homes.spread ready.0 ready.1 c.args.access.now.squeues.now ready.2 ready.3 c.args.feed c.args.places.now.items ready.4 0 s.0 s.1 in
    let most = each_at (λ s. length s.given.starts ≤ c.requires.hints.0) c.args.access.now.squeues.now 0 s.0 c.requires.hints.1 s.1 in
    (omega (arith, o.1, most, c.requires.hints.2), c.requires.hints.3)

pub move_home-requires-clause-from : goal.move_home-requires-clause-from
move_home-requires-clause-from g c s is =
    let ready = c.requires.ready in
    let limits = g.R.Resident.limits in
    let hb = home_before c.args.homes.squeues c.args.homes.spread c.args.feed in
    let moved = sym c.moves.ensures ∙ c.if-moves.true in
    let p = pass_at limits c.args.homes.squeues c.args.homes.spread ready.0 ready.1 c.args.access.now.squeues.now ready.2 ready.3 c.args.feed c.args.places.now.items ready.4 hb s is in
    (p.0, p.1, may_leave limits c.args.homes.squeues c.args.homes.spread ready.0 ready.1 c.args.access.now.squeues.now ready.2 ready.3 c.args.feed c.args.places.now.items ready.4 moved s p.0 is (c.requires.run.numbered hb s is) p.1)

pub move_home-requires-clause-to : goal.move_home-requires-clause-to
move_home-requires-clause-to g c s is =
    let ready = c.requires.ready in
    let limits = g.R.Resident.limits in
    let ho = home_of c.args.homes.squeues c.args.homes.spread c.args.feed in
    let moved = sym c.moves.ensures ∙ c.if-moves.true in
    let p = pass_at limits c.args.homes.squeues c.args.homes.spread ready.0 ready.1 c.args.access.now.squeues.now ready.2 ready.3 c.args.feed c.args.places.now.items ready.4 ho s is in
    (p.0, p.1, may_come limits c.args.homes.squeues c.args.homes.spread ready.0 ready.1 c.args.access.now.squeues.now ready.2 ready.3 c.args.feed c.args.places.now.items ready.4 moved s p.0 is (c.requires.run.numbered ho s is) p.1)

pub returns-then-moves : goal.returns-then-moves
returns-then-moves g c =
    record {
      reached = λ r list done behind ready.
          moved_all g.R.Resident.limits c.args.homes.squeues c.args.homes.spread r list c.args.access.now.squeues.now done behind c.args.feed c.args.places.now.items ready (sym c.moves.ensures ∙ c.if-moves.true) c.move_home.new.places.items c.requires.run.count c.requires.run.numbered
          c.move_home.ensures;
      paced = λ r list done behind mode budget ready before.
          moved_paced g.R.Resident.limits c.args.homes.squeues c.args.homes.spread mode budget r c.args.access.now.squeues.now done done c.args.places.now.items c.move_home.new.places.items ready.at before c.args.feed c.move_home.ensures;
    }

pub returns-else-moves : goal.returns-else-moves
returns-else-moves g c =
    record {
      reached = λ r list done behind ready.
          stays_all g.R.Resident.limits c.args.homes.squeues c.args.homes.spread r list c.args.access.now.squeues.now done behind c.args.feed c.args.places.now.items ready (sym c.moves.ensures ∙ c.if-moves.false);
      paced = λ r list done behind mode budget ready before. before;
    }
