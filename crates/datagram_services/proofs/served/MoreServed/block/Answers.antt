use Rattle.std.proofs.Common.{◌≡◌, None, Some, length, slice_get, ap, sym, ◌∙◌, arith}
use Rattle.datagram_services.specs.Lying.{streams_at}
use Rattle.datagram_services.specs.Served.{MoreServedOf}
use Rattle.datagram_services.proofs.Lying.{as_many, lies_at}
use Rattle.datagram_services.proofs.served.MoreServed.block.Goals as goal

pub part-requires : goal.part-requires
part-requires c =
    let n : length (streams_at c.self.inside.finished.parts) ≡ length c.args.self.now.streams = ap (λ (v : MoreServedOf). length v.streams) c.self.view_is in
    omega (arith, c.requires, n, as_many c.self.inside.finished.parts c.self.invariant)

pub unreachable-requires : goal.unreachable-requires
unreachable-requires c =
    let n : length (streams_at c.self.inside.finished.parts) ≡ length c.args.self.now.streams = ap (λ (v : MoreServedOf). length v.streams) c.self.view_is in
    let f = c.self.invariant c.args.c (omega (arith, c.requires, n, as_many c.self.inside.finished.parts c.self.invariant)) in
    let e : Some (Some f.0) ≡ Some None = sym f.1 ∙ c.in_default.ensures in
    cc e

pub returns : goal.returns
returns c =
    sym (ap (λ (v : MoreServedOf). slice_get v.streams c.args.c) c.self.view_is) ∙ lies_at c.self.inside.finished.parts c.args.c c.in-Some.block.now c.self.invariant c.in-Some.ensures
