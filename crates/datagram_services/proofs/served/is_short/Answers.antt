use Rattle.std.proofs.Common.{◌≡◌, ◌<◌, false, None, Some, slice_get, ap, sym, ◌∙◌, subst, arith, inl, inr}
use Rattle.std.proofs.lemmas.Bool.{cases_lt}
use Rattle.std.proofs.lemmas.Option.{slice_get_within}
use Rattle.datagram_services.specs.declared.block.StreamBlock.{StreamBlock}
use Rattle.datagram_services.proofs.served.is_short.Goals as goal

pub unreachable-requires : goal.unreachable-requires
unreachable-requires c =
    let f = c.requires.there c.loop-c.c (omega (arith, c.loop-c-test.true, c.requires.count)) in
    let e : Some (Some f.0) ≡ Some None = sym f.1 ∙ c.in_default.ensures in
    cc e

pub loop-c-preserved : goal.loop-c-preserved
loop-c-preserved c = λ k b lt is. elim (cases_lt k c.loop-c.c) [
  | inl before ↦ c.loop-c.invariant k b before is
  | inr after ↦
      let e : k ≡ c.loop-c.c = omega (arith, lt, after) in
      let whole : c.in-Some.block.now.short ≡ false = sym c.short.ensures ∙ c.if-short.false in
      let there : Some (Some b) ≡ Some (Some c.in-Some.block.now) = sym is ∙ (ap (slice_get c.args.finished.now.parts) e ∙ c.in-Some.ensures) in
      let same : c.in-Some.block.now ≡ b = cc (sym there) in
      subst (λ (x : StreamBlock). x.short ≡ false) same whole
]

pub returns : goal.returns
returns c = λ whole k b is.
    let lt : k < c.loop-c.c = omega (arith, slice_get_within c.args.finished.now.parts k (Some b) is, c.requires.count, c.loop-c-test.false) in
    c.loop-c.invariant k b lt is
