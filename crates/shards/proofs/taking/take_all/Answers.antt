use Rattle.std.proofs.Common.{◌≡◌, List, [], ◌∷◌, ◌++◌, length, refl, sym, ◌∙◌, arith, append-nil, append_assoc, ap}
use Rattle.rtrb.specs.Ring.{known_items, received}
use Rattle.shards.proofs.MergedMore.{joined, merges_one, merges_same, merges_then}
use Rattle.shards.proofs.taking.take_all.Goals as goal

all_here : {A : Type 0} (xs ys zs : List A) → length ys ≡ 0 → xs ++ ys ≡ zs → xs ≡ zs
all_here xs [] zs none is = sym (append-nil xs) ∙ is
all_here xs (y ∷ ys) zs none is = absurd (omega (arith, none))

pub loop-k-init : goal.loop-k-init
loop-k-init g c =
    let back = c.slots_beside-back.ensures in
    let looked = c.slots_beside-many.ensures in
    let was = c.args.end.now in
    record {
      left = omega (arith, looked.value);
      all = looked.fifo ∙ looked.producer.1;
      front = (known_items c.slots_beside-back.new.self, ap (λ l. l ++ known_items c.slots_beside-back.new.self) (sym back.looked.1) ∙ back.fifo);
      same = (looked.looked.0, back.producer.0);
      merges =
          merges_same g.X.Shared.is_made c.args.p was (record { input = c.slots_beside-many.new.self; back = c.slots_beside-back.new.producer }) c.args.shared.now looked.looked.1
          back.producer.1;
      origin = refl;
    }

pub take_known-requires : goal.take_known-requires
take_known-requires g c =
    let left = c.loop-k.invariant.left in
    let more = c.loop-k-test.true in
    omega (arith, left, more)

pub loop-k-preserved : goal.loop-k-preserved
loop-k-preserved g c =
    let i = c.loop-k.invariant in
    let one = c.take_known.ensures in
    let left = i.left in
    let fewer = one.left in
    record {
      left = omega (arith, left, fewer);
      all = one.all ∙ i.all;
      front = (i.front.0 ++ one.took.went ∷ [], sym (append_assoc (received c.args.ring.now.back) i.front.0 (one.took.went ∷ [])) ∙ (ap (λ l. l ++ one.took.went ∷ []) i.front.1 ∙ sym one.took.pushed));
      same = joined c.args.end.now c.loop-k.end c.take_known.new.end i.same one.same;
      merges =
          merges_then g.X.Shared.is_made c.args.p c.args.end.now c.loop-k.end c.take_known.new.end c.args.shared.now c.loop-k.shared c.take_known.new.shared i.merges
          (merges_one g.X.Shared.is_made c.args.p c.loop-k.end c.take_known.new.end c.loop-k.shared c.take_known.new.shared one.took);
      origin = one.origin ∙ i.origin;
    }

pub returns-clause-all : goal.returns-clause-all
returns-clause-all g c =
    let i = c.loop-k.invariant in
    let left = i.left in
    let over = c.loop-k-test.false in
    all_here (received c.loop-k.end.input) (known_items c.loop-k.end.input) _ (omega (arith, left, over)) i.all
