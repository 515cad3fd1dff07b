use Rattle.std.proofs.Common.{◌≡◌, None, Some, rules, ap, sym, ◌∙◌, arith}
use Rattle.ring_threads.proofs.Lying.{as_many, lies_at}
use Rattle.ring_threads.proofs.served.left_block.Goals as goal

pub part-requires : goal.part-requires
part-requires c = omega (arith, c.requires.range, as_many c.args.finished.now.parts c.requires.there)

pub unreachable-requires : goal.unreachable-requires
unreachable-requires c =
    let f = c.requires.there c.args.c (omega (arith, c.requires.range, as_many c.args.finished.now.parts c.requires.there)) in
    let e : Some (Some f.0) ≡ Some None = sym f.1 ∙ c.in_default.ensures in
    cc e

pub returns : goal.returns
returns c =
    let same : c.in-Some.block.now.value ≡ c.deref.result.now = search rules in
    lies_at c.args.finished.now.parts c.args.c c.in-Some.block.now c.requires.there c.in-Some.ensures ∙ ap Some same
