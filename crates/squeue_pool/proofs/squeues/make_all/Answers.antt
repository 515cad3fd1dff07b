use Rattle.std.proofs.Common.{◌≡◌, ℕ, List, [], ◌∷◌, length, length-append, map, reverse, refl, ap, sym, ◌∙◌, subst, arith, rules}
use Rattle.std.proofs.lemmas.List.{length-map, reverse-append, reverse-reverse}
use Rattle.histories.specs.Quotas.{pairs}
use Rattle.squeue_state.specs.Naming.{Named}
use Rattle.squeue_serve.specs.Places.{IsNew}
use Rattle.squeue_serve.specs.Lending.{AreLent, lent_to}
use Rattle.squeue_rings.proofs.Lends.{fits, none_yet, one_more}
use Rattle.squeue_pool.proofs.Made.{SoFar, all_made, few_made, next_count, next_empty, next_is, next_made, next_passes, next_suits, none_made}
use Rattle.squeue_pool.proofs.squeues.make_all.Given.{Over}
use Rattle.squeue_pool.proofs.squeues.make_all.Goals.{After-len-q}
use Rattle.squeue_pool.proofs.squeues.make_all.Goals as goal

pub loop-resident-init : goal.loop-resident-init
loop-resident-init g c =
    let none = c.requires.empty.0 in
    let all = c.args.residents.items in
    let quotas : List (List (ℕ × ℕ)) = map (λ v. pairs v.items) c.args.quotas.now in
    let left : all ≡ reverse c.reverse.new.self.items = sym (ap reverse c.reverse.ensures.items ∙ reverse-reverse all) in
    record {
      made = subst (λ (rs : List g.row.R.Denot). SoFar g.R.Resident c.args.pool.now all quotas rs c.args.squeues.now.all.items) left (none_made g.R.Resident c.args.pool.now all quotas c.args.squeues.now.all.items none);
      lent = subst (λ (l : List (Named g.row.R.Denot)). AreLent IsNew 1 c.args.count l (lent_to c.args.jobs.now.items)) (sym none) (none_yet 1 c.args.count c.args.jobs.now.items c.requires.places.0);
      rooms = ap length c.requires.empty.1 ∙ sym (ap length none);
      each_room = λ k d lt. let z = ap length c.requires.empty.1 in absurd (omega (arith, lt, z));
      tasks = refl;
      places = c.requires.places.1;
      room = c.requires.room.0;
      room_of_rooms = c.requires.room.1;
    }

-- what is left, and what was made so far
so_far : (g : Over) (c : After-len-q g) → SoFar g.R.Resident c.args.pool.now c.args.residents.items (map (λ v. pairs v.items) c.args.quotas.now) (c.in-Some.resident ∷ reverse c.pop.new.self.items) c.loop-resident.squeues.all.items
so_far g c =
    let turned : reverse c.loop-resident.residents.items ≡ c.in-Some.resident ∷ reverse c.pop.new.self.items = ap reverse c.in-Some.ensures.items ∙ reverse-append c.pop.new.self.items (c.in-Some.resident ∷ []) in
    subst (λ (rs : List g.row.R.Denot). SoFar g.R.Resident c.args.pool.now c.args.residents.items (map (λ v. pairs v.items) c.args.quotas.now) rs c.loop-resident.squeues.all.items) turned c.loop-resident.invariant.made

pub overflow_cast-q : goal.overflow_cast-q
overflow_cast-q g c =
    let p = c.args.pool.now in
    let quotas : List (List (ℕ × ℕ)) = map (λ v. pairs v.items) c.args.quotas.now in
    let n = few_made g.R.Resident p c.args.residents.items quotas (c.in-Some.resident ∷ reverse c.pop.new.self.items) c.loop-resident.squeues.all.items c.requires.pool.0 c.requires.pool.3 (so_far g (goal.at.overflow_cast-q g c).After-len-q) in
    omega (arith, n, c.len-q.ensures, c.loop-resident.squeues.all.ok.0, c.squeues-most.ensures)

pub make-requires-clause-few : goal.make-requires-clause-few
make-requires-clause-few g c =
    let at = goal.at.make-requires-clause-few g c in
    let q : c.len-q.result ≡ length c.loop-resident.squeues.all.items = omega (arith, c.len-q.ensures, c.loop-resident.squeues.all.ok.0) in
    let n = next_count g.R.Resident c.args.pool.now c.args.residents.items c.args.quotas.now (reverse c.pop.new.self.items) c.in-Some.resident c.loop-resident.squeues.all.items c.requires.pool.0 (so_far g at.After-len-q) c.requires.pool.3
    c.len-q.result c.index-quotas-q.result c.deref.result.now q c.index-quotas-q.is c.deref.ensures.value in
    (omega (arith, n, c.requires.pool.1.0), omega (arith, n, c.requires.pool.1.1))

pub make-requires-clause-rings : goal.make-requires-clause-rings
make-requires-clause-rings g c =
    let at = goal.at.make-requires-clause-rings g c in
    let q : c.len-q.result ≡ length c.loop-resident.squeues.all.items = omega (arith, c.len-q.ensures, c.loop-resident.squeues.all.ok.0) in
    let n = next_count g.R.Resident c.args.pool.now c.args.residents.items c.args.quotas.now (reverse c.pop.new.self.items) c.in-Some.resident c.loop-resident.squeues.all.items c.requires.pool.0 (so_far g at.After-len-q) c.requires.pool.3
    c.len-q.result c.index-quotas-q.result c.deref.result.now q c.index-quotas-q.is c.deref.ensures.value in
    (c.requires.pool.1.0, omega (arith, n))

pub make-requires-clause-feeds : goal.make-requires-clause-feeds
make-requires-clause-feeds g c =
    let at = goal.at.make-requires-clause-feeds g c in
    let q : c.len-q.result ≡ length c.loop-resident.squeues.all.items = omega (arith, c.len-q.ensures, c.loop-resident.squeues.all.ok.0) in
    (next_suits g.R.Resident c.args.pool.now c.args.residents.items c.args.quotas.now (reverse c.pop.new.self.items) c.in-Some.resident c.loop-resident.squeues.all.items c.requires.pool.0 (so_far g at.After-len-q) c.requires.pool.3
    c.len-q.result c.index-quotas-q.result c.deref.result.now q c.index-quotas-q.is c.deref.ensures.value).feeds

pub make-requires-clause-asks : goal.make-requires-clause-asks
make-requires-clause-asks g c =
    let at = goal.at.make-requires-clause-asks g c in
    let q : c.len-q.result ≡ length c.loop-resident.squeues.all.items = omega (arith, c.len-q.ensures, c.loop-resident.squeues.all.ok.0) in
    (next_suits g.R.Resident c.args.pool.now c.args.residents.items c.args.quotas.now (reverse c.pop.new.self.items) c.in-Some.resident c.loop-resident.squeues.all.items c.requires.pool.0 (so_far g at.After-len-q) c.requires.pool.3
    c.len-q.result c.index-quotas-q.result c.deref.result.now q c.index-quotas-q.is c.deref.ensures.value).asks

pub make-requires-clause-fresh : goal.make-requires-clause-fresh
make-requires-clause-fresh g c =
    let at = goal.at.make-requires-clause-fresh g c in
    let q : c.len-q.result ≡ length c.loop-resident.squeues.all.items = omega (arith, c.len-q.ensures, c.loop-resident.squeues.all.ok.0) in
    next_empty g.R.Resident c.args.pool.now c.requires.pool.0 c.len-q.result c.in-Some.resident (pairs c.deref.result.now)
    (next_suits g.R.Resident c.args.pool.now c.args.residents.items c.args.quotas.now (reverse c.pop.new.self.items) c.in-Some.resident c.loop-resident.squeues.all.items c.requires.pool.0 (so_far g at.After-len-q) c.requires.pool.3
    c.len-q.result c.index-quotas-q.result c.deref.result.now q c.index-quotas-q.is c.deref.ensures.value)

pub lend-requires-clause-fit : goal.lend-requires-clause-fit
lend-requires-clause-fit g c = fits 1 c.args.count c.loop-resident.squeues.all.items (lent_to c.loop-resident.jobs.items) c.loop-resident.invariant.lent

pub lend-requires-clause-jobs : goal.lend-requires-clause-jobs
lend-requires-clause-jobs g c =
    let at = goal.at.lend-requires-clause-jobs g c in
    let quotas : List (List (ℕ × ℕ)) = map (λ v. pairs v.items) c.args.quotas.now in
    let n = few_made g.R.Resident c.args.pool.now c.args.residents.items quotas (c.in-Some.resident ∷ reverse c.pop.new.self.items) c.loop-resident.squeues.all.items c.requires.pool.0 c.requires.pool.3 (so_far g at.After-len-q) in
    let same = ap length c.loop-resident.invariant.tasks in
    let a = length-map c.loop-resident.jobs.items (λ j. j.task) in
    let b = length-map c.args.jobs.now.items (λ j. j.task) in
    omega (arith, n, same, a, b, c.requires.jobs)

pub lend-requires-clause-places : goal.lend-requires-clause-places
lend-requires-clause-places g c k d lt =
    let at = goal.at.lend-requires-clause-places g c in
    let quotas : List (List (ℕ × ℕ)) = map (λ v. pairs v.items) c.args.quotas.now in
    let n = few_made g.R.Resident c.args.pool.now c.args.residents.items quotas (c.in-Some.resident ∷ reverse c.pop.new.self.items) c.loop-resident.squeues.all.items c.requires.pool.0 c.requires.pool.3 (so_far g at.After-len-q) in
    let room = c.loop-resident.invariant.places k d lt in
    omega (arith, n, room)

pub lend-requires-clause-passes : goal.lend-requires-clause-passes
lend-requires-clause-passes g c =
    let at = goal.at.lend-requires-clause-passes g c in
    let q : c.len-q.result ≡ length c.loop-resident.squeues.all.items = omega (arith, c.len-q.ensures, c.loop-resident.squeues.all.ok.0) in
    let n = next_count g.R.Resident c.args.pool.now c.args.residents.items c.args.quotas.now (reverse c.pop.new.self.items) c.in-Some.resident c.loop-resident.squeues.all.items c.requires.pool.0 (so_far g at.After-len-q) c.requires.pool.3
    c.len-q.result c.index-quotas-q.result c.deref.result.now q c.index-quotas-q.is c.deref.ensures.value in
    omega (arith, n, c.in_ok-squeue.ensures.passes.0, c.requires.pool.2)

pub loop-resident-preserved : goal.loop-resident-preserved
loop-resident-preserved g c =
    let at = goal.at.loop-resident-preserved g c in
    let G = g.R.Resident in
    let p = c.args.pool.now in
    let ss = c.loop-resident.squeues.all.items in
    let s = c.in_ok-squeue.squeue in
    let left = reverse c.pop.new.self.items in
    let first = c.in-Some.resident in
    let q : c.len-q.result ≡ length ss = omega (arith, c.len-q.ensures, c.loop-resident.squeues.all.ok.0) in
    let so = so_far g at.After-len-q in
    let its = next_is G p c.args.residents.items c.args.quotas.now left first ss c.requires.pool.0 so c.requires.pool.3 c.len-q.result c.index-quotas-q.result c.deref.result.now q c.index-quotas-q.is c.deref.ensures.value _ s c.in_ok-squeue.ensures.given c.in_ok-squeue.ensures.room in
    let made = next_made G p c.args.residents.items c.args.quotas.now left first ss c.requires.pool.0 so c.requires.pool.3 c.len-q.result c.index-quotas-q.result c.deref.result.now q c.index-quotas-q.is c.deref.ensures.value s its in
    let passes = next_passes G p c.args.residents.items c.args.quotas.now left first ss c.requires.pool.0 so c.requires.pool.3 c.len-q.result c.index-quotas-q.result c.deref.result.now q c.index-quotas-q.is c.deref.ensures.value s its in
    let counted : length s.given.quotas ≡ c.args.count = passes ∙ sym c.requires.pool.2 in
    record {
      made = subst (λ (l : List (Named g.row.R.Denot)). SoFar G p c.args.residents.items (map (λ v. pairs v.items) c.args.quotas.now) left l) (sym c.lend.ensures.squeues) made;
      lent = subst (λ (l : List (Named g.row.R.Denot)). AreLent IsNew 1 c.args.count l (lent_to c.lend.new.jobs.items)) (sym c.lend.ensures.squeues)
          (one_more 1 c.args.count ss s c.in_ok-squeue.passes.items (lent_to c.loop-resident.jobs.items) (lent_to c.lend.new.jobs.items) c.lend.ensures.handed c.loop-resident.invariant.lent counted c.in_ok-squeue.ensures.passes.1);
      rooms = let n = ap length c.lend.ensures.squeues ∙ length-append ss (s ∷ []) in omega (arith, n, c.lend.ensures.rooms.0, c.loop-resident.invariant.rooms);
      each_room = c.lend.ensures.rooms.1;
      tasks = c.lend.ensures.tasks ∙ c.loop-resident.invariant.tasks;
      places = c.lend.ensures.places p.pace.homes.squeues c.loop-resident.invariant.places;
      room = omega (arith, c.lend.ensures.capacity.0, c.loop-resident.invariant.room);
      room_of_rooms = omega (arith, c.lend.ensures.capacity.1, c.loop-resident.invariant.room_of_rooms);
    }

pub returns-clause-made : goal.returns-clause-made
returns-clause-made g c =
    let quotas : List (List (ℕ × ℕ)) = map (λ v. pairs v.items) c.args.quotas.now in
    let empty : c.loop-resident.residents.items ≡ [] = search rules in
    all_made g.R.Resident c.args.pool.now c.args.residents.items quotas (reverse c.loop-resident.residents.items) c.loop-resident.squeues.all.items c.requires.pool.0 c.requires.pool.3 (ap reverse empty) c.loop-resident.invariant.made
