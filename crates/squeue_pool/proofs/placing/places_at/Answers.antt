use Rattle.std.proofs.Common.{◌≡◌, ℕ, ◌%◌, ◌==◌, [], ◌∷◌, length, length-append, map, ap, sym, ◌∙◌, subst, arith}
use Rattle.std.specs.List.{range_with_len}
use Rattle.perimeter_core.specs.Residing.{IsWithin}
use Rattle.squeue_rings.proofs.Tasked.{numbers_more}
use Rattle.squeue_pool.proofs.Placed.{new_at}
use Rattle.squeue_pool.proofs.placing.places_at.Goals as goal

pub loop-c-preserved : goal.loop-c-preserved
loop-c-preserved g c =
    record {
      flags = numbers_more (λ n. n % c.args.squeues == c.args.q) c.loop-c.c [] c.loop-c.starts.items c.push_reserved.new.self.items c.loop-c.invariant.flags c.push_reserved.ensures.items;
      count = ap length c.push_reserved.ensures.items ∙ (length-append c.loop-c.starts.items ((c.loop-c.c % c.args.squeues == c.args.q) ∷ []) ∙ omega (arith, c.loop-c.invariant.count));
      room = omega (arith, c.push_reserved.ensures.capacity, c.loop-c.invariant.room);
    }

pub make_where-requires-clause-rows : goal.make_where-requires-clause-rows
make_where-requires-clause-rows g c =
    let last : c.loop-c.c ≡ c.args.count = omega (arith, c.loop-c-test.false, c.loop-c.auto) in
    let n : length c.deref.result.now ≡ c.args.count = ap length c.deref.ensures.value ∙ (c.loop-c.invariant.count ∙ last) in
    c.requires.rows ∙ sym n

pub make_where-requires-clause-within : goal.make_where-requires-clause-within
make_where-requires-clause-within g c =
    let last : c.loop-c.c ≡ c.args.count = omega (arith, c.loop-c-test.false, c.loop-c.auto) in
    let n : length c.deref.result.now ≡ c.args.count = ap length c.deref.ensures.value ∙ (c.loop-c.invariant.count ∙ last) in
    subst (λ (k : ℕ). IsWithin k (g.S.Parts.limits c.args.shared)) (sym n) c.requires.within

pub returns : goal.returns
returns g c =
    let last : c.loop-c.c ≡ c.args.count = omega (arith, c.loop-c-test.false, c.loop-c.auto) in
    let starts : c.deref.result.now ≡ map (λ n. n % c.args.squeues == c.args.q) (range_with_len 0 c.args.count) =
    c.deref.ensures.value ∙ (c.loop-c.invariant.flags ∙ ap (λ (n : ℕ). map (λ n. n % c.args.squeues == c.args.q) (range_with_len 0 n)) last) in
    new_at c.args.shared c.args.count c.args.squeues c.args.q c.deref.result.now starts c.make_where.result c.make_where.ensures.stands c.make_where.ensures.count c.make_where.ensures.shared
