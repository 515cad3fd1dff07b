use Rattle.std.proofs.Common.{◌≡◌, drop}
use Rattle.shell.specs.Asked.{givens_of, value_for}
use Rattle.shell.proofs.asked.Asked.value.Given as goal

-- none of the options before has the name
abbrev pub invariant-loop-given : goal.invariant-loop-given
invariant-loop-given g l = value_for l.name (givens_of l.self.givens.items) ≡ value_for l.name (givens_of (drop l.given-index l.self.givens.items))
