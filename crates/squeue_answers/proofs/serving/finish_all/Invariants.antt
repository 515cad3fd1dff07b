use Rattle.std.proofs.Common.{◌≡◌, ◌+◌, ◌≤◌, ◌++◌, [], List, length, vec_capacity}
use Rattle.std.specs.Prelude.{All, reverse}
use Rattle.ring_groups.specs.Groups.{AllBecame}
use Rattle.squeue_arrivals.specs.declared.served.ServedSource.{ServedSource}
use Rattle.squeue_answers.specs.declared.steps.Answerer.{Answerer}
use Rattle.squeue_answers.specs.declared.steps.Asked.{Asked}
use Rattle.squeue_answers.specs.Asking.{AskingOf}
use Rattle.squeue_answers.specs.Serving.{IsFinished}
use Rattle.squeue_answers.proofs.serving.finish_all.Given as goal

-- the first of them are finished
abbrev pub invariant-served : goal.invariant-served
invariant-served g l = record {
  gone : List (ServedSource (AskingOf g.row.A.Denot g.row.K.Denot g.row.X-Item.Denot g.row.X-Answer.Denot) (Asked g.row.X-Item.Denot g.row.X-Answer.Denot)
      (Answerer g.row.X-State.Denot g.row.X-Answer.Denot));
  all : l.fn.served.items ≡ gone ++ reverse l.served.items;
  finished : AllBecame
      (IsFinished (λ w. w.steps) g.X.KeyAnswers.begins g.X.KeyAnswers.step g.A.Arrivals.origin g.A.Arrivals.given g.A.Arrivals.is_over g.K.Sink.got l.answering l.pool.places) gone
      l.answered.items;
  rooms : length l.rooms.items ≡ length l.served.items;
  empty : All (λ r. (r.items ≡ []) × (l.pool.places ≤ vec_capacity r)) l.rooms.items;
  room : length l.answered.items + length l.served.items ≤ vec_capacity l.answered;
}

abbrev pub decreases-served : goal.decreases-served
decreases-served g l = length l.served.items
