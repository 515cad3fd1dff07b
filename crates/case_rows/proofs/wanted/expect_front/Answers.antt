use Rattle.std.proofs.Common.{◌≡◌, ◌∙◌, ℕ, List, ap, arith, length, min, take}
use Rattle.std.proofs.lemmas.Bool.Decides.{Decides-eqb}
use Rattle.std.proofs.lemmas.Slice.Eq.{starts_is}
use Rattle.case_rows.proofs.Outputs.{front_of}
use Rattle.case_rows.proofs.wanted.expect_front.Goals as goal

pub returns-then-starts_with : goal.returns-then-starts_with
returns-then-starts_with c =
    let w = c.in_ok-wanted.wanted.items in
    let is = c.deref.ensures.value in
    let begins = (starts_is Decides-eqb c.deref.result.now c.args.out.now c.starts_with.result c.starts_with.ensures.value).0 c.if-starts_with.true in
    let long : length c.args.out.now ≡ min c.args.len (length c.deref.result.now) = omega (arith, c.in_ok-expect_number.ensures, c.min.ensures, c.len.ensures, ap (λ (l : List ℕ). length l) is) in
    front_of c.deref.result.now c.args.out.now c.args.len begins long ∙ ap (λ (l : List ℕ). take c.args.len l) (is ∙ c.in_ok-wanted.ensures)
