use Rattle.std.proofs.Common.{◌≡◌, ◌∙◌, ap, arith, length, take}
use Rattle.live_server.proofs.AnsweredLemmas.{no_frames}
use Rattle.live_server.proofs.frames.serve_next.Goals as goal

pub returns-then-not-goes_on-clause-framed : goal.returns-then-not-goes_on-clause-framed
returns-then-not-goes_on-clause-framed g c =
    let whole : c.len-whole.result ≡ length c.args.out.now.items = omega (arith, c.len-whole.ensures, c.args.out.now.ok.0) in
    no_frames _ _ (c.truncate.ensures.items ∙ ap (λ n. take n c.serve_front.new.out.items) whole ∙ c.serve_front.ensures.stays)

pub returns-else-not-goes_on-clause-framed : goal.returns-else-not-goes_on-clause-framed
returns-else-not-goes_on-clause-framed g c =
    let whole : c.len-whole.result ≡ length c.args.out.now.items = omega (arith, c.len-whole.ensures, c.args.out.now.ok.0) in
    no_frames _ _ (c.truncate.ensures.items ∙ ap (λ n. take n c.serve_front.new.out.items) whole ∙ c.serve_front.ensures.stays)
