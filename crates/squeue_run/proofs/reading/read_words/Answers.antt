use Rattle.std.proofs.Common.{◌≤◌, ◌<◌, length, subst, sym}
use Rattle.std.specs.List.{AllByRecursion}
use Rattle.conn_blocks.specs.Limits.{callers, most_calls}
use Rattle.squeue_run.proofs.InRange.{setup_in_range}
use Rattle.squeue_run.proofs.Threads.{few_asked}
use Rattle.squeue_run.proofs.reading.read_words.Goals as goal

pub lists_in-requires-clause-few : goal.lists_in-requires-clause-few
lists_in-requires-clause-few c = subst (λ l. length l ≤ most_calls) (sym c.deref.ensures.value) (few_asked _ _ c.in-Ok.ensures.ok).count

pub lists_in-requires-clause-threads : goal.lists_in-requires-clause-threads
lists_in-requires-clause-threads c = subst (λ l. AllByRecursion (λ w. w.thread < callers) l) (sym c.deref.ensures.value) (few_asked _ _ c.in-Ok.ensures.ok).threads

pub returns-in-Ok-lists_in-clause-setup : goal.returns-in-Ok-lists_in-clause-setup
returns-in-Ok-lists_in-clause-setup c = setup_in_range _ _ c.in-Ok.ensures.ok
