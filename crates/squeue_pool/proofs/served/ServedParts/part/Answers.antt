use Rattle.std.proofs.Common.{◌≡◌, true, subst, arith}
use Rattle.std.specs.Prelude.{is_some}
use Rattle.squeue_pool.proofs.Placed.{is_there, its_feeds, its_own, read_at}
use Rattle.squeue_pool.proofs.served.ServedParts.part.Goals as goal

pub unreachable-requires : goal.unreachable-requires
unreachable-requires g c =
    let v = c.args.self.now in
    let at = read_at v.left.items c.len.result c.args.c c.index.result.now (omega (arith, c.len.ensures, v.left.ok)) v.some c.index.ensures in
    let there = subst (λ o. is_some o ≡ true) c.in-None.is (is_there v.shared v.counts.items v.left.items c.requires.served c.args.c c.index.result.now c.requires.range at c.part.result c.part.ensures.here) in
    cc there

pub returns-clause-own : goal.returns-clause-own
returns-clause-own g c =
    let v = c.args.self.now in
    let at = read_at v.left.items c.len.result c.args.c c.index.result.now (omega (arith, c.len.ensures, v.left.ok)) v.some c.index.ensures in
    its_own v.shared v.counts.items v.left.items c.requires.served c.args.c c.index.result.now c.requires.range at c.in-Some.part.now c.in-Some.ensures.stands

pub returns-clause-fed : goal.returns-clause-fed
returns-clause-fed g c =
    let v = c.args.self.now in
    let at = read_at v.left.items c.len.result c.args.c c.index.result.now (omega (arith, c.len.ensures, v.left.ok)) v.some c.index.ensures in
    its_feeds v.shared v.counts.items v.left.items c.requires.served c.args.c c.index.result.now c.requires.range at c.in-Some.part.now c.in-Some.ensures.stands
