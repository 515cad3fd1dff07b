-- Which requests of a key pass: a bucket of tokens that fills with time.
use Rattle.std.specs.Prelude.{ℕ, ◌+◌, ◌-◌, Bool, if◌then◌else◌, List, [], ◌∷◌, max, min, nat_le}
use Rattle.key_limiter.specs.declared.limiter.Level.{Level}
use Rattle.key_limiter.specs.declared.limiter.Limit.{Limit}

-- what the bucket holds at a time: a microsecond's worth more for each microsecond since it was looked at, up to the most
abbrev pub filled_at : Limit → Level → ℕ → ℕ
filled_at limit level time = min limit.most (level.filled + (time - level.at))

-- a request passes where the bucket holds a token then
abbrev pub passes : Limit → Level → ℕ → Bool
passes limit level time = nat_le limit.token (filled_at limit level time)

-- and takes it out. A time before one that was seen fills nothing
abbrev pub level_after : Limit → Level → ℕ → Level
level_after limit level time =
    record {
      filled = filled_at limit level time - (if passes limit level time then limit.token else 0);
      at = max level.at time;
    }

-- which of these requests pass, by their times, from this level on
abbrev pub decided_from : Limit → Level → List ℕ → List Bool
decided_from limit level [] = []
decided_from limit level (time ∷ times) = passes limit level time ∷ decided_from limit (level_after limit level time) times

-- the bucket is full at first
abbrev pub full : Limit → Level
full limit = record { filled = limit.most; at = 0 }

abbrev pub decisions_of : Limit → List ℕ → List Bool
decisions_of limit times = decided_from limit (full limit) times

-- the level after these requests
abbrev pub level_by : Limit → Level → List ℕ → Level
level_by limit level [] = level
level_by limit level (time ∷ times) = level_by limit (level_after limit level time) times
