-- What a sink got.
use Rattle.std.specs.Prelude.{List}
use Rattle.squeue_answers.specs.declared.got_answers.GotAnswers.{GotAnswers}

-- all answers, oldest first
abbrev pub got_by : {A : Type 0} → GotAnswers A → List A
got_by g = g.items.value
