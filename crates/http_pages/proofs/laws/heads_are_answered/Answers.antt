use Rattle.http_pages.proofs.JudgeLemmas.{judged, others}
use Rattle.http_pages.proofs.laws.heads_are_answered.Goals as goal

pub returns-clause-judged : goal.returns-clause-judged
returns-clause-judged c = judged

pub returns-clause-others : goal.returns-clause-others
returns-clause-others c = others
