use Rattle.std.proofs.Common.{arith, ◌≡◌, ◌+◌, ◌∙◌, ap, sym, ℕ}
use Rattle.pcapng_reader.specs.Options.{resolution, option_size}
use Rattle.pcapng_reader.specs.Numbers.{padded}
use Rattle.pcapng_reader.proofs.Walk.{ends_here, found_here, passes_here, too_short}
use Rattle.pcapng_reader.proofs.interface.resolution.Goals as goal

pub returns-then-code-eq0 : goal.returns-then-code-eq0
unfolding resolution
returns-then-code-eq0 c =
    let z = c.loop-rest.rest.now in
    let inv = c.loop-rest.invariant in
    let sized : 4 + c.padded-size.result ≡ option_size c.args.order z = ap (λ (n : ℕ). 4 + n) (c.padded-size.ensures ∙ ap padded c.u16_at-len.ensures) in
    sym (ends_here inv.0 c.args.order z _ _ _ c.u16_at-code.ensures c.u16_at-len.ensures sized c.then-code-eq0.either) ∙ inv.2

pub returns-then-len-eq1 : goal.returns-then-len-eq1
unfolding resolution
returns-then-len-eq1 c =
    let z = c.loop-rest.rest.now in
    let inv = c.loop-rest.invariant in
    let sized : 4 + c.padded-size.result ≡ option_size c.args.order z = ap (λ (n : ℕ). 4 + n) (c.padded-size.ensures ∙ ap padded c.u16_at-len.ensures) in
    sym (found_here inv.0 c.args.order z _ _ _ c.u16_at-code.ensures c.u16_at-len.ensures sized inv.1 (omega arith) c.if-code-eq0.false c.if-rest-size.false c.if-code-eq9.true c.if-len-eq1.true) ∙ inv.2

pub loop-rest-preserved : goal.loop-rest-preserved
loop-rest-preserved c =
    let z = c.loop-rest.rest.now in
    let inv = c.loop-rest.invariant in
    let sized : 4 + c.padded-size.result ≡ option_size c.args.order z = ap (λ (n : ℕ). 4 + n) (c.padded-size.ensures ∙ ap padded c.u16_at-len.ensures) in
    let more = passes_here inv.0 c.args.order z _ _ _ c.u16_at-code.ensures c.u16_at-len.ensures sized c.rest_at-rest.result.now c.rest_at-rest.ensures inv.1 (omega arith) c.if-code-eq0.false c.if-rest-size.false c.else-code-eq9.either in
    (more.0, more.1, more.2 ∙ inv.2)

pub returns : goal.returns
unfolding resolution
returns c =
    let inv = c.loop-rest.invariant in
    sym (too_short inv.0 c.args.order c.loop-rest.rest.now (omega arith)) ∙ inv.2
