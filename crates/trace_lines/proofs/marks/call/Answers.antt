use Rattle.std.proofs.Common.{[], ◌∷◌, refl}
use Rattle.trace_lines.proofs.marks.call.Goals as goal

pub returns-in_default : goal.returns-in_default
returns-in_default c = λ d j k rest small is. c.in_default.ensures (d ∷ j ∷ k ∷ []) rest refl (small.0, (small.1, (small.2, tt))) is
