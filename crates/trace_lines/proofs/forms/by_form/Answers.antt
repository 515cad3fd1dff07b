use Rattle.std.proofs.Common.{arith, ◌≡◌, ◌+◌, [], ◌∷◌, get_or, drop, subst}
use Rattle.std.proofs.lemmas.Grind.{common_steps}
use Rattle.trace_lines.proofs.Filled.{IsRead, left_at, blank_is, byte_is, read_all, read_blank, read_byte}
use Rattle.trace_lines.proofs.forms.by_form.Goals as goal
use Rattle.trace_lines.proofs.forms.by_form.Goals.{then-b-eq35+in-Some, else-b-eq35+in-Some-behind_byte}

pub loop-b-preserved : goal.loop-b-preserved
loop-b-preserved g c =
    let i = c.loop-b.b-index in
    let form = c.args.form.now in
    let at : drop i form ≡ get_or form i 0 ∷ drop (i + 1) form = left_at form i (omega arith) in
    let r : IsRead c.args.text.now form (get_or form i 0 ∷ drop (i + 1) form) c.loop-b.numbers c.loop-b.rest.now c.loop-b.count g.row.N =
    subst (λ l. IsRead c.args.text.now form l c.loop-b.numbers c.loop-b.rest.now c.loop-b.count g.row.N) at c.loop-b.invariant in
    elim c.if-b-eq35.branch [
      | then-b-eq35+in-Some w ↦
          rw (w.numbers-is, w.count-is, w.rest-is)
          (read_blank c.args.text.now form (drop (i + 1) form) c.loop-b.numbers c.loop-b.rest.now w.in-Some.others.now (get_or form i 0) w.in-Some.n c.loop-b.count g.row.N r
          (blank_is (get_or form i 0) w.if-b-eq35.true) w.in-Some.ensures.0 w.in-Some.ensures.1)
      | else-b-eq35+in-Some-behind_byte w ↦
          rw (w.numbers-is, w.count-is, w.rest-is)
          (read_byte c.args.text.now form (drop (i + 1) form) c.loop-b.numbers c.loop-b.rest.now w.in-Some-behind_byte.others.now (get_or form i 0) c.loop-b.count g.row.N r
          (byte_is (get_or form i 0) w.if-b-eq35.false) w.in-Some-behind_byte.ensures)
    ]

pub returns : goal.returns
returns g c =
    let i = c.loop-b.b-index in
    let form = c.args.form.now in
    let none : drop i form ≡ [] = grind (arith, common_steps) in
    read_all c.args.text.now form c.loop-b.numbers c.loop-b.rest.now c.loop-b.count g.row.N
    (subst (λ l. IsRead c.args.text.now form l c.loop-b.numbers c.loop-b.rest.now c.loop-b.count g.row.N) none c.loop-b.invariant)
