use Rattle.std.proofs.Common.{◌≡◌, ◌++◌, length}
use Rattle.http_pages.specs.AnswerText.{escaped}
use Rattle.http_pages.proofs.text.push_escaped.Given as goal

abbrev pub invariant-loop-path : goal.invariant-loop-path
invariant-loop-path l = l.text.items ++ escaped l.path ≡ l.fn.text.items ++ escaped l.fn.path

abbrev pub decreases-loop-path : goal.decreases-loop-path
decreases-loop-path l = length l.path
