-- The lines that a replay answers with.
use Rattle.std.specs.Prelude.{ℕ, List, [], ◌∷◌, ◌++◌, codes}
use Rattle.std.specs.Fmt.{decimal}
use Rattle.trace_replay.specs.declared.reason.Reason.{Reason}
use Rattle.trace_replay.specs.declared.reason.Reason.TheVariants as reason

abbrev pub line : List ℕ → List ℕ
line text = text ++ 10 ∷ []

abbrev pub reason_text : Reason → List ℕ
reason_text reason.NoReport = codes "no report"
reason_text reason.Capture = codes "capture"
reason_text reason.Form = codes "form"
reason_text (reason.Illegal q n) = codes "illegal squeue " ++ (decimal q ++ (codes " mark " ++ decimal n))
reason_text (reason.Open q) = codes "open squeue " ++ decimal q
reason_text (reason.Unfit q n) = codes "unfit squeue " ++ (decimal q ++ (codes " mark " ++ decimal n))
reason_text (reason.Order c) = codes "order " ++ decimal c
reason_text (reason.Text n) = codes "text " ++ decimal n

abbrev pub yes_line : List ℕ
yes_line = line (codes "yes")

abbrev pub no_line : Reason → List ℕ
no_line r = line (codes "no: " ++ reason_text r)
