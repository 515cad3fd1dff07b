use Rattle.std.proofs.Common.{◌≡◌, ◌+◌, ◌≤◌, ◌++◌, ℕ, Some, List, length, slice_get, vec_capacity}
use Rattle.std.specs.Prelude.{reverse}
use Rattle.squeue_arrivals.specs.declared.served.KeyPart.{KeyPart}
use Rattle.squeue_answers.specs.declared.steps.Answerer.{Answerer}
use Rattle.squeue_answers.specs.Parting.{IsCompared, plain_parts}
use Rattle.squeue_answers.specs.Rings.{SameInputs}
use Rattle.squeue_answers.proofs.parts.plain_parts_of.Given as goal

-- the first parts are compared, and stand without their rings
abbrev pub invariant-parts : goal.invariant-parts
invariant-parts g l = record {
  gone : List (KeyPart (Answerer g.row.S.Denot g.row.A.Denot));
  all : l.fn.parts.items ≡ gone ++ reverse l.parts.items;
  plain : l.plain.items ≡ plain_parts gone;
  same : SameInputs l.initial.rings l.rings;
  compared : (i : ℕ) (part : KeyPart (Answerer g.row.S.Denot g.row.A.Denot)) → slice_get gone i ≡ Some part → IsCompared l.initial.rings part;
  room : length l.plain.items + length l.parts.items ≤ vec_capacity l.plain;
}

abbrev pub decreases-parts : goal.decreases-parts
decreases-parts g l = length l.parts.items
