use Rattle.std.proofs.Common.{rules, arith, ◌≤◌, ◌+◌, length-drop, length-append, length, ap, ◌∙◌, sym, drop}
use Rattle.std.proofs.lemmas.List.{drop_all}
use Rattle.sq_base.specs.MemoryEnds.{MemInput}
use Rattle.sq_base.proofs.EndsLemmas.{part_and_rest}
use Rattle.sq_base.proofs.mem.MemSourceSource.read.Goals as goal

pub returns-clause-bytes : goal.returns-clause-bytes
returns-clause-bytes c =
    let items = c.self.inside.bytes.items in
    let at = c.self.inside.at in
    let n = c.min-n.result in
    let fits : at + n ≤ length items = omega (arith, c.self.inside.bytes.ok.0, c.self.invariant, c.min-n.ensures, c.deref.ensures.len) in (
      ap (λ (m : MemInput). m.left) (sym c.self.view_is) ∙ part_and_rest items c.copy_from_slice.new.self (drop n c.args.buf.now) at n (search rules) fits,
      λ none room. drop_all (at + n) items (omega (arith, c.self.inside.bytes.ok.0, c.self.invariant, c.min-n.ensures, c.min.ensures, c.deref.ensures.len, length-append c.copy_from_slice.new.self (drop n c.args.buf.now), length-drop n c.args.buf.now, c.copy_from_slice.ensures.len)),
    )
