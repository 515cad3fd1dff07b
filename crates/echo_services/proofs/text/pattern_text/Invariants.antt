use Rattle.std.proofs.Common.{◌≡◌}
use Rattle.echo_services.specs.Chargen.{pattern_from}
use Rattle.echo_services.proofs.text.pattern_text.Given as goal

abbrev pub invariant-loop-i : goal.invariant-loop-i
invariant-loop-i l = l.text.items ≡ pattern_from l.from l.i
