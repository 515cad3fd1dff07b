use Rattle.std.proofs.Common.{ap, ◌∙◌, arith}
use Rattle.echo_services.specs.Chargen.{pattern}
use Rattle.echo_services.proofs.PatternLemmas.{pattern_goes_on}
use Rattle.echo_services.proofs.text.pattern_text.Goals as goal

pub loop-i-preserved : goal.loop-i-preserved
loop-i-preserved c =
    pattern_goes_on c.args.from c.loop-i.i c.pattern.result c.loop-i.text.items c.push.new.self.items c.loop-i.invariant
    (c.pattern.ensures ∙ ap pattern (omega (arith, c.from-in-loop-i.ensures, c.from-in-loop-i-2.ensures))) c.in_ok-push.ensures.items
