-- A list as a sink.
use Rattle.std.specs.Prelude.{List}
use Rattle.squeue_answers.specs.declared.sinks.Kept.{Kept}
use Rattle.squeue_answers.specs.Getting.{got_by}

module _ {A : Type 0} where
  -- the answers that it keeps, and those that it got
  abbrev pub answers_of : Kept A → List A
  answers_of s = s.answers.items

  abbrev pub kept_of : Kept A → List A
  kept_of s = got_by s.got
