-- How far the generator has come: what its private functions say. No public clause speaks of it.
use Rattle.std.specs.Prelude.{◌≡◌, ℕ, ◌+◌, ◌<◌, ◌%◌, ◌^◌, ◌==◌, nat_lt, List, length, slice_get, Some, if◌then◌else◌}
use Rattle.squeue_run.specs.GeneratedCapture.{isn, iss, sent_before, text_before, round_text, state_at}
use Rattle.squeue_run.specs.declared.generator.Client.{Client}

-- connection c before a round
unfoldable pub client_at : ℕ → ℕ → ℕ → Client
client_at number round c = record { isn = isn number c; iss = iss number c; sent = sent_before round c % 2 ^ 32; echoed = c % 2 == 0 }

-- the segments of this round are made for the connections before c
pub record Ready (number round c state : ℕ) (clients : List Client) : Type 0 where
  pub count : length clients ≡ 1000
  pub each : (d : ℕ) → d < 1000 → slice_get clients d ≡ Some (client_at number (if nat_lt d c then round + 1 else round) d)
  pub drawn : state ≡ state_at number (2000 + text_before round + round_text round c)
