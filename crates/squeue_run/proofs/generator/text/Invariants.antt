use Rattle.std.proofs.Common.{◌≡◌, ◌+◌, ◌≤◌, ℕ, length, vec_capacity}
use Rattle.squeue_run.specs.GeneratedCapture.{state_at, drawn_text}
use Rattle.squeue_run.proofs.generator.text.Given as goal

abbrev pub invariant-loop : goal.invariant-loop
invariant-loop l = record {
  count : length l.bytes.items ≡ l.counter;
  few : l.len ≤ 96;
  room : l.len ≤ vec_capacity l.bytes;
  text : (number from : ℕ) → l.initial.draws.state ≡ state_at number from → l.bytes.items ≡ drawn_text number from l.counter;
  drawn : (number from : ℕ) → l.initial.draws.state ≡ state_at number from → l.draws.state ≡ state_at number (from + l.counter);
}
