use Rattle.std.proofs.Common.{◌≡◌, [], ◌∷◌, length, length-append, reverse, refl, ap, sym, ◌∙◌, subst, arith, rules}
use Rattle.std.proofs.lemmas.List.{length-map, length-replicate, reverse-reverse}
use Rattle.squeue_state.specs.Behind.{ever}
use Rattle.squeue_serve.specs.Places.{IsNew}
use Rattle.squeue_serve.specs.Lending.{AreLent, lent_to}
use Rattle.squeue_rings.proofs.Lends.{fits, none_yet, one_more}
use Rattle.placed_parts.specs.Standing.{all_new}
use Rattle.shards.specs.Numbering.{ring_limits}
use Rattle.shards.specs.Sharing.{StandsFor, limits_for, rings_of}
use Rattle.shard_rings.specs.Making.{IsMadeOf, life}
use Rattle.shard_rings.proofs.Finishing.{all_at}
use Rattle.shard_rings.proofs.Made.{SoFar, all_made, few_asks, few_feeds, is_made_of, lives_count, next, next_at, next_few, none_made, one_made, stands_empty}
use Rattle.shard_rings.proofs.making.make_all.Goals as goal

pub residents-init : goal.residents-init
residents-init g c =
    let none = c.requires.empty.0 in
    let all = c.args.residents.items in
    let left : all ≡ reverse c.reverse.new.self.items = sym (ap reverse c.reverse.ensures.items ∙ reverse-reverse all) in
    record {
      made = subst (λ rs. SoFar limits_for c.args.rings all rs c.args.squeues.now.all.items) left (none_made limits_for c.args.rings all c.args.squeues.now.all.items none);
      lent = subst (λ l. AreLent IsNew 0 c.args.rings l (lent_to c.args.jobs.now.items)) (sym none) (none_yet 0 c.args.rings c.args.jobs.now.items c.requires.places.0);
      rooms = ap length c.requires.empty.1 ∙ sym (ap length none);
      each_room = λ k d lt. let z = ap length c.requires.empty.1 in absurd (omega (arith, lt, z));
      tasks = refl;
      places = c.requires.places.1;
      room = c.requires.capacity.0;
      room_of_rooms = c.requires.capacity.1;
    }

pub overflow_cast-number : goal.overflow_cast-number
overflow_cast-number g c =
    let n = next_few limits_for c.args.rings c.args.residents.items c.residents.residents.items c.pop.new.self.items c.in-Some.resident c.in-Some.ensures.items c.residents.squeues.all.items c.residents.invariant.made in
    omega (arith, n, c.len-number.ensures, c.residents.squeues.all.ok.0, c.requires.few)

pub make_bounded-requires-clause-few : goal.make_bounded-requires-clause-few
make_bounded-requires-clause-few g c =
    let n = lives_count c.deref.result.now c.args.rings (ap ever c.deref.ensures.value ∙ c.in_ok-lives.ensures) in
    (omega (arith, n, c.requires.rings.0), omega (arith, n, c.requires.rings.1))

pub make_bounded-requires-clause-rings : goal.make_bounded-requires-clause-rings
make_bounded-requires-clause-rings g c =
    let n = lives_count c.deref.result.now c.args.rings (ap ever c.deref.ensures.value ∙ c.in_ok-lives.ensures) in
    (c.requires.rings.0, omega (arith, n))

pub make_bounded-requires-clause-feeds : goal.make_bounded-requires-clause-feeds
make_bounded-requires-clause-feeds g c = few_feeds c.deref.result.now c.args.rings (ap ever c.deref.ensures.value ∙ c.in_ok-lives.ensures) c.requires.rings.1

pub make_bounded-requires-clause-asks : goal.make_bounded-requires-clause-asks
make_bounded-requires-clause-asks g c = few_asks c.deref.result.now c.args.rings (ap ever c.deref.ensures.value ∙ c.in_ok-lives.ensures) c.requires.rings.1

pub make_bounded-requires-clause-fresh : goal.make_bounded-requires-clause-fresh
make_bounded-requires-clause-fresh g c =
    let at = next_at limits_for c.args.rings c.args.residents.items c.residents.residents.items c.pop.new.self.items c.in-Some.resident c.in-Some.ensures.items c.residents.squeues.all.items c.residents.invariant.made in
    let stands = all_at (λ r. StandsFor r (all_new c.args.rings) × (rings_of r ≡ c.args.rings) × (limits_for r ≡ ring_limits c.args.rings)) c.args.residents.items (length c.residents.squeues.all.items) c.in-Some.resident c.requires.residents at in
    stands_empty c.args.rings (StandsFor c.in-Some.resident) stands.0

pub lend-requires-clause-fit : goal.lend-requires-clause-fit
lend-requires-clause-fit g c = fits 0 c.args.rings c.residents.squeues.all.items (lent_to c.residents.jobs.items) c.residents.invariant.lent

pub lend-requires-clause-jobs : goal.lend-requires-clause-jobs
lend-requires-clause-jobs g c =
    let n = next_few limits_for c.args.rings c.args.residents.items c.residents.residents.items c.pop.new.self.items c.in-Some.resident c.in-Some.ensures.items c.residents.squeues.all.items c.residents.invariant.made in
    let same = ap length c.residents.invariant.tasks in
    let a = length-map c.residents.jobs.items (λ j. j.task) in
    let b = length-map c.args.jobs.now.items (λ j. j.task) in
    omega (arith, n, same, a, b, c.requires.jobs)

pub lend-requires-clause-squeues : goal.lend-requires-clause-squeues
lend-requires-clause-squeues g c =
    let n = next_few limits_for c.args.rings c.args.residents.items c.residents.residents.items c.pop.new.self.items c.in-Some.resident c.in-Some.ensures.items c.residents.squeues.all.items c.residents.invariant.made in
    let i = c.residents.invariant in
    let a = i.room in
    let b = i.room_of_rooms in
    let r = i.rooms in
    (omega (arith, n, a), omega (arith, n, b, r))

pub lend-requires-clause-places : goal.lend-requires-clause-places
lend-requires-clause-places g c k d lt =
    let n = next_few limits_for c.args.rings c.args.residents.items c.residents.residents.items c.pop.new.self.items c.in-Some.resident c.in-Some.ensures.items c.residents.squeues.all.items c.residents.invariant.made in
    let room = c.residents.invariant.places k d lt in
    omega (arith, n, room)

pub lend-requires-clause-passes : goal.lend-requires-clause-passes
lend-requires-clause-passes g c =
    let n = lives_count c.deref.result.now c.args.rings (ap ever c.deref.ensures.value ∙ c.in_ok-lives.ensures) in
    omega (arith, n, c.in_ok-squeue.ensures.passes.0)

pub residents-preserved : goal.residents-preserved
residents-preserved g c =
    let all = c.args.residents.items in
    let ss = c.residents.squeues.all.items in
    let s = c.in_ok-squeue.squeue in
    let left = reverse c.pop.new.self.items in
    let first = c.in-Some.resident in
    let i = c.residents.invariant in
    let quotas = ap ever c.deref.ensures.value ∙ c.in_ok-lives.ensures in
    let n = lives_count c.deref.result.now c.args.rings quotas in
    let q : c.len-number.result ≡ length ss = omega (arith, c.len-number.ensures, c.residents.squeues.all.ok.0) in
    let so = next limits_for c.args.rings all c.residents.residents.items c.pop.new.self.items first c.in-Some.ensures.items ss i.made in
    let at = next_at limits_for c.args.rings all c.residents.residents.items c.pop.new.self.items first c.in-Some.ensures.items ss i.made in
    let stands = all_at (λ r. StandsFor r (all_new c.args.rings) × (rings_of r ≡ c.args.rings) × (limits_for r ≡ ring_limits c.args.rings)) all (length ss) first c.requires.residents at in
    let made = is_made_of StandsFor rings_of limits_for c.args.rings c.len-number.result _ first (ever c.deref.result.now) s quotas stands.0 stands.1 stands.2 c.in_ok-squeue.ensures.given in
    let counted : length s.given.quotas ≡ c.args.rings = ap length (c.in_ok-squeue.ensures.given.its_quotas ∙ quotas) ∙ length-replicate c.args.rings life in
    record {
      made = subst (λ l. SoFar limits_for c.args.rings all left l) (sym c.lend.ensures.squeues)
          (one_made limits_for c.args.rings all left first ss s so (subst (λ k. IsMadeOf limits_for c.args.rings k first s) q made));
      lent = subst (λ l. AreLent IsNew 0 c.args.rings l (lent_to c.lend.new.jobs.items)) (sym c.lend.ensures.squeues)
          (one_more 0 c.args.rings ss s c.in_ok-squeue.passes.items (lent_to c.residents.jobs.items) (lent_to c.lend.new.jobs.items) c.lend.ensures.handed i.lent counted c.in_ok-squeue.ensures.passes.1);
      rooms = let m = ap length c.lend.ensures.squeues ∙ length-append ss (s ∷ []) in let r = i.rooms in omega (arith, m, c.lend.ensures.rooms.0, r);
      each_room = c.lend.ensures.rooms.1;
      tasks = c.lend.ensures.tasks ∙ i.tasks;
      places = c.lend.ensures.places (length all) i.places;
      room = let r = i.room in omega (arith, c.lend.ensures.capacity.0, r);
      room_of_rooms = let r = i.room_of_rooms in omega (arith, c.lend.ensures.capacity.1, r);
    }

pub returns-clause-made : goal.returns-clause-made
returns-clause-made g c =
    let empty : c.residents.residents.items ≡ [] = search rules in
    all_made limits_for c.args.rings c.args.residents.items (reverse c.residents.residents.items) c.residents.squeues.all.items (ap reverse empty) c.residents.invariant.made

pub returns-in_err-lives-clause-lent : goal.returns-in_err-lives-clause-lent
returns-in_err-lives-clause-lent g c =
    subst (λ l. AreLent IsNew 0 c.args.rings l (lent_to c.args.jobs.now.items)) (sym c.requires.empty.0) (none_yet 0 c.args.rings c.args.jobs.now.items c.requires.places.0)
