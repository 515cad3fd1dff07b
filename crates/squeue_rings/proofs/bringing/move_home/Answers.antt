use Rattle.std.proofs.Common.{◌≡◌, ◌≢◌, ◌<◌, length, slice_get, sym, ap, ◌∙◌, subst, arith}
use Rattle.conn_migrate.specs.Moving.{MayCome, MayLeave}
use Rattle.histories.proofs.ListPlaces.{some_at}
use Rattle.histories.specs.Runs.{home_before, home_of}
use Rattle.squeue_rings.proofs.Slots.{got_at, one_pass}
use Rattle.squeue_rings.proofs.Standing.{other_home}
use Rattle.squeue_rings.proofs.bringing.move_home.Goals as goal

pub take_at-left-requires : goal.take_at-left-requires
take_at-left-requires g c =
    let from = c.home_before-from.result in
    let e : from ≡ home_before c.args.homes.squeues c.args.homes.spread c.args.feed = c.home_before-from.ensures.home in
    let s = some_at c.args.access.now.squeues.now from (omega (arith, c.home_before-from.ensures.range, c.requires.run.count)) in
    let r = c.requires.from s.0 (ap (slice_get c.args.access.now.squeues.now) (sym e) ∙ s.1) in
    (r.0, ap (slice_get c.args.places.now.items) e ∙ r.1)

pub take_at-come-requires : goal.take_at-come-requires
take_at-come-requires g c =
    let from = c.home_before-from.result in
    let to = c.home-to.result in
    let e : from ≡ home_before c.args.homes.squeues c.args.homes.spread c.args.feed = c.home_before-from.ensures.home in
    let d : to ≡ home_of c.args.homes.squeues c.args.homes.spread c.args.feed = c.home-to.ensures.home in
    let apart : to ≢ from = λ h. other_home c.args.homes.squeues c.args.homes.spread c.args.feed c.requires.moves (sym e ∙ (sym h ∙ d)) in
    let s = some_at c.args.access.now.squeues.now to (omega (arith, c.home-to.ensures.range, c.requires.run.count)) in
    let r = c.requires.to s.0 (ap (slice_get c.args.access.now.squeues.now) (sym d) ∙ s.1) in
    (r.0, c.take_at-left.ensures.others to apart ∙ (ap (slice_get c.args.places.now.items) d ∙ r.1))

pub migrate-left-requires-clause-from : goal.migrate-left-requires-clause-from
migrate-left-requires-clause-from g c =
    let from = c.home_before-from.result in
    let a = c.index-squeues-from.result in
    let e : from ≡ home_before c.args.homes.squeues c.args.homes.spread c.args.feed = c.home_before-from.ensures.home in
    let lt : from < length c.args.access.now.squeues.now = omega (arith, c.home_before-from.ensures.range, c.requires.run.count) in
    let is = got_at c.args.access.now.squeues.now from a lt c.index-squeues-from.is in
    let r = c.requires.from a (ap (slice_get c.args.access.now.squeues.now) (sym e) ∙ is) in
    subst (MayLeave g.R.Resident.limits a c.args.feed.c) (one_pass c.args.places.now.items from r.0 c.take_at-left.result (ap (slice_get c.args.places.now.items) e ∙ r.1) c.take_at-left.ensures.taken) r.2

pub migrate-left-requires-clause-to : goal.migrate-left-requires-clause-to
migrate-left-requires-clause-to g c =
    let from = c.home_before-from.result in
    let to = c.home-to.result in
    let b = c.index-squeues-to.result in
    let e : from ≡ home_before c.args.homes.squeues c.args.homes.spread c.args.feed = c.home_before-from.ensures.home in
    let d : to ≡ home_of c.args.homes.squeues c.args.homes.spread c.args.feed = c.home-to.ensures.home in
    let apart : to ≢ from = λ h. other_home c.args.homes.squeues c.args.homes.spread c.args.feed c.requires.moves (sym e ∙ (sym h ∙ d)) in
    let lt : to < length c.args.access.now.squeues.now = omega (arith, c.home-to.ensures.range, c.requires.run.count) in
    let is = got_at c.args.access.now.squeues.now to b lt c.index-squeues-to.is in
    let r = c.requires.to b (ap (slice_get c.args.access.now.squeues.now) (sym d) ∙ is) in
    subst (MayCome g.R.Resident.limits b c.args.feed.c)
    (one_pass c.take_at-left.new.places.items to r.0 c.take_at-come.result (c.take_at-left.ensures.others to apart ∙ (ap (slice_get c.args.places.now.items) d ∙ r.1)) c.take_at-come.ensures.taken) r.2

pub migrate-left-requires-clause-origin : goal.migrate-left-requires-clause-origin
migrate-left-requires-clause-origin g c =
    let from = c.home_before-from.result in
    let to = c.home-to.result in
    let lf : from < length c.args.access.now.squeues.now = omega (arith, c.home_before-from.ensures.range, c.requires.run.count) in
    let lt : to < length c.args.access.now.squeues.now = omega (arith, c.home-to.ensures.range, c.requires.run.count) in
    c.requires.run.same_origin from to c.index-squeues-from.result c.index-squeues-to.result (got_at c.args.access.now.squeues.now from c.index-squeues-from.result lf c.index-squeues-from.is) (got_at c.args.access.now.squeues.now to c.index-squeues-to.result lt c.index-squeues-to.is)

pub migrate-left-requires-clause-hint : goal.migrate-left-requires-clause-hint
migrate-left-requires-clause-hint g c =
    let to = c.home-to.result in
    let lt : to < length c.args.access.now.squeues.now = omega (arith, c.home-to.ensures.range, c.requires.run.count) in
    let n = c.requires.run.numbered to c.index-squeues-to.result (got_at c.args.access.now.squeues.now to c.index-squeues-to.result lt c.index-squeues-to.is) in
    (c.requires.hints.0, omega (arith, n, c.home-to.ensures.range, c.requires.hints.1))

pub returns : goal.returns
returns g c =
    let from = c.home_before-from.result in
    let to = c.home-to.result in
    let e : from ≡ home_before c.args.homes.squeues c.args.homes.spread c.args.feed = c.home_before-from.ensures.home in
    let d : to ≡ home_of c.args.homes.squeues c.args.homes.spread c.args.feed = c.home-to.ensures.home in
    let apart : to ≢ from = λ h. other_home c.args.homes.squeues c.args.homes.spread c.args.feed c.requires.moves (sym e ∙ (sym h ∙ d)) in
    let lf : from < length c.args.access.now.squeues.now = omega (arith, c.home_before-from.ensures.range, c.requires.run.count) in
    let lt : to < length c.args.access.now.squeues.now = omega (arith, c.home-to.ensures.range, c.requires.run.count) in
    record {
      a = c.index-squeues-from.result;
      b = c.index-squeues-to.result;
      pa = c.take_at-left.result;
      qa = c.migrate-left.result.0;
      pb = c.take_at-come.result;
      qb = c.migrate-left.result.1;
      from = ap (slice_get c.args.access.now.squeues.now) (sym e) ∙ got_at c.args.access.now.squeues.now from c.index-squeues-from.result lf c.index-squeues-from.is;
      to = ap (slice_get c.args.access.now.squeues.now) (sym d) ∙ got_at c.args.access.now.squeues.now to c.index-squeues-to.result lt c.index-squeues-to.is;
      was_from = ap (slice_get c.args.places.now.items) (sym e) ∙ c.take_at-left.ensures.taken;
      was_to = ap (slice_get c.args.places.now.items) (sym d) ∙ (sym (c.take_at-left.ensures.others to apart) ∙ c.take_at-come.ensures.taken);
      now_from = ap (slice_get c.put_at-2.new.places.items) (sym e) ∙ (c.put_at-2.ensures.others from (λ h. apart (sym h)) ∙ c.put_at.ensures.place);
      now_to = ap (slice_get c.put_at-2.new.places.items) (sym d) ∙ c.put_at-2.ensures.place;
      others = λ k a b.
          let na : k ≢ from = λ h. a (h ∙ e) in
          let nb : k ≢ to = λ h. b (h ∙ d) in
          c.put_at-2.ensures.others k nb ∙ (c.put_at.ensures.others k na ∙ (c.take_at-come.ensures.others k nb ∙ c.take_at-left.ensures.others k na));
      count = c.put_at-2.ensures.count ∙ (c.put_at.ensures.count ∙ (c.take_at-come.ensures.count ∙ c.take_at-left.ensures.count));
      out = c.migrate-left.ensures.out;
      put = c.migrate-left.ensures.put;
      left = c.migrate-left.ensures.left;
      come = c.migrate-left.ensures.come;
      next = c.migrate-left.ensures.next;
      due = c.migrate-left.ensures.due;
    }
