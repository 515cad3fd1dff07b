use Rattle.std.proofs.Common.{◌≡◌, ℕ, ◌<◌, ◌≤◌, ◌^◌, List, length, sum, ap, sym, subst, arith}
use Rattle.perimeter_core.specs.Residing.{IsWithin}
use Rattle.histories.specs.Limits.{most_feeds}
use Rattle.squeue_pool.specs.Keys.{HadAll, HaveKeys, key_work}
use Rattle.squeue_pool.specs.Placed.{as_resident}
use Rattle.squeue_pool.specs.Runs.{HasRun}
use Rattle.squeue_pool.proofs.Placed.{have_had, new_by, new_have}
use Rattle.squeue_pool.proofs.by_key.serve_by_key.Goals as goal

pub places_of-requires-clause-rows : goal.places_of-requires-clause-rows
places_of-requires-clause-rows g c = let n = ap length c.requires.feeds in omega (arith, n, c.len.ensures, c.args.counts.ok)

pub places_of-requires-clause-within : goal.places_of-requires-clause-within
places_of-requires-clause-within g c =
    let n : length c.args.counts.items ≡ c.len.result = omega (arith, c.len.ensures, c.args.counts.ok) in
    subst (λ (k : ℕ). IsWithin k (g.S.Parts.limits c.args.shared)) n c.requires.within

pub run_by_key-requires-clause-counts : goal.run_by_key-requires-clause-counts
run_by_key-requires-clause-counts g c κs within = subst (λ (ns : List ℕ). (length ns < 2 ^ 32) × (sum ns ≤ most_feeds)) (sym c.deref.ensures.value) c.requires.counts

pub run_by_key-requires-clause-residents : goal.run_by_key-requires-clause-residents
run_by_key-requires-clause-residents g c κs within =
    let p = c.args.pool.now in
    let n : c.len.result ≡ length c.args.counts.items = omega (arith, c.len.ensures, c.args.counts.ok) in
    let new = new_by c.args.shared c.len.result (length c.args.counts.items) c.squeues.result p.pace.homes.squeues c.in_ok-residents.residents.items n c.squeues.ensures c.in_ok-residents.ensures in
    subst (λ (ns : List ℕ). HaveKeys (as_resident g.S.Parts) p.pace.homes.squeues ns c.in_ok-residents.residents.items) (sym c.deref.ensures.value)
    (new_have g.S.Parts c.args.shared c.args.counts.items p c.in_ok-residents.residents.items new c.requires.feeds)

pub returns-clause-served : goal.returns-clause-served
returns-clause-served g c =
    let p = c.args.pool.now in
    let rs = c.in_ok-residents.residents.items in
    let n : c.len.result ≡ length c.args.counts.items = omega (arith, c.len.ensures, c.args.counts.ok) in
    let new = new_by c.args.shared c.len.result (length c.args.counts.items) c.squeues.result p.pace.homes.squeues rs n c.squeues.ensures c.in_ok-residents.ensures in
    have_had g.S.Parts c.args.shared c.args.counts.items p rs new c.in_ok-left.left.items
    (subst (λ (ns : List ℕ). HasRun (as_resident g.S.Parts) p (key_work p.pace.homes.squeues p.rings ns rs) c.in_ok-left.left.items) c.deref.ensures.value c.in_ok-left.ensures.run)
    (subst (λ (ns : List ℕ). HadAll (as_resident g.S.Parts) p.pace.homes.squeues ns c.in_ok-left.left.items) c.deref.ensures.value c.in_ok-left.ensures.had)

pub returns-clause-ran : goal.returns-clause-ran
returns-clause-ran g c =
    let p = c.args.pool.now in
    let rs = c.in_ok-residents.residents.items in
    let n : c.len.result ≡ length c.args.counts.items = omega (arith, c.len.ensures, c.args.counts.ok) in
    record {
      residents = rs;
      new = new_by c.args.shared c.len.result (length c.args.counts.items) c.squeues.result p.pace.homes.squeues rs n c.squeues.ensures c.in_ok-residents.ensures;
      ran = subst (λ (ns : List ℕ). HasRun (as_resident g.S.Parts) p (key_work p.pace.homes.squeues p.rings ns rs) c.in_ok-left.left.items) c.deref.ensures.value c.in_ok-left.ensures.run;
    }
