use Rattle.live_server.proofs.PromiseLemmas.{text_bounded, text_counted, time_counts_anew}
use Rattle.live_server.proofs.laws.text_is_bounded.Goals as goal

pub returns-clause-counted : goal.returns-clause-counted
returns-clause-counted c = text_counted

pub returns-clause-bounded : goal.returns-clause-bounded
returns-clause-bounded c = text_bounded

pub returns-clause-time : goal.returns-clause-time
returns-clause-time c = time_counts_anew
