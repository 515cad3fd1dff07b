-- The answers of a rate limiter to the requests of a channel.
use Rattle.std.specs.Prelude.{◌≡◌, ◌≢◌, ◌++◌, ◌≤◌, ℕ, Bool, None, Some, List, [], Contains, length, map, nat_eq, slice_get}
use Rattle.std.specs.List.{IsDistinct}
use Rattle.key_limiter.specs.Limiting.{decisions_of, full, level_by}
use Rattle.key_limiter.specs.declared.limiter.Level.{Level}
use Rattle.key_limiter.specs.declared.limiter.Limit.{Limit}
use Rattle.squeue_arrivals.specs.Arriving.{HasCause, items_for, keys_of, refused_in}
use Rattle.squeue_arrivals.specs.Channelling.{is_hung_up, received_by}
use Rattle.squeue_arrivals.specs.declared.channelled.Channelled.{Channelled}
use Rattle.squeue_arrivals.specs.declared.served.KeyPart.{KeyPart}
use Rattle.squeue_arrivals.specs.declared.served.Refused.{Refused}
use Rattle.squeue_answers.specs.Answering.{answers_in, items_in}
use Rattle.squeue_answers.specs.Keeping.{kept_of}
use Rattle.squeue_answers.specs.declared.serving.AnsweredSource.{AnsweredSource}
use Rattle.squeue_answers.specs.declared.sinks.Kept.{Kept}

-- Through a channel came these requests, each a key, a time and an answer, and then maybe one that was refused; else the channel has no sender any more.
-- The sink got their answers. What the
-- requests of a key are answered is what the limiter decides of their times, in order. There is one part for each key among them, and no other, and
-- there are no more than places
pub record IsLimited {W : Type 0} (limit : Limit) (most : ℕ) (left : AnsweredSource (Channelled ℕ W) (Kept Bool) ℕ Level) : Type 0 where
  pub all : List (ℕ × (ℕ × Bool))
  pub its_requests : received_by left.source ≡ items_in all ++ refused_in left.refused
  pub all_came : left.refused ≡ None → is_hung_up left.source
  pub its_answers : kept_of left.sink ≡ answers_in all
  pub by_rule : (k : ℕ) → map (λ x. x.1) (items_for k all) ≡ decisions_of limit (map (λ x. x.0) (items_for k all))
  pub few : length left.parts.items ≤ most
  pub distinct : IsDistinct nat_eq (keys_of left.parts.items)
  pub each : (i : ℕ) (part : KeyPart Level) → slice_get left.parts.items i ≡ Some part
      → (items_for part.key all ≢ []) × (part.state ≡ level_by limit (full limit) (map (λ x. x.0) (items_for part.key all)))
  pub every : (k : ℕ) → items_for k all ≢ [] → Contains (keys_of left.parts.items) k
  pub cause : (r : Refused ℕ) → left.refused ≡ Some r → HasCause r.cause most (length left.parts.items) (items_in all) r.key
