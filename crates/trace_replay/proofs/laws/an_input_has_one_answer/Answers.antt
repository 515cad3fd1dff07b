use Rattle.std.proofs.Common.{◌≡◌, ℕ, List, inl, inr, ap, sym, ◌∙◌}
use Rattle.trace_replay.specs.Answers.{IsEither}
use Rattle.trace_replay.specs.Reasons.{Holds}
use Rattle.trace_replay.specs.Replays.{Replays}
use Rattle.trace_replay.specs.Texts.{no_line}
use Rattle.trace_replay.specs.declared.reason.Reason.{Reason}
use Rattle.trace_replay.proofs.laws.an_input_has_one_answer.Goals as goal

one_text : (input text other : List ℕ) → ((r s : Reason) → Holds r input → Holds s input → r ≡ s) → ((r : Reason) → Holds r input → Replays input → ⊥) → IsEither input text → IsEither input other → text ≡ other
one_text input text other one none (inl a) (inl b) = a.1 ∙ sym b.1
one_text input text other one none (inl a) (inr b) = absurd (none b.0 b.1 a.0)
one_text input text other one none (inr a) (inl b) = absurd (none a.0 a.1 b.0)
one_text input text other one none (inr a) (inr b) = a.2 ∙ (ap no_line (one a.0 b.0 a.1 b.1) ∙ sym b.2)

pub returns : goal.returns
returns c input text other = one_text input text other (c.an_input_has_one_reason.ensures input) (c.what_replays_has_no_reason.ensures input)
