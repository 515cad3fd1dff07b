-- What the parts of the limiter stand for.
use Rattle.std.specs.Prelude.{◌≡◌, ◌≤◌, ℕ, List, [], length, map, take, slice_index_or, vec_capacity}
use Rattle.squeue.specs.declared.Act.{Act}
use Rattle.squeue.specs.History.{Limits}
use Rattle.squeue.specs.Deeds.{fed}
use Rattle.key_limiter.specs.declared.limiter.Bucket.{Bucket}
use Rattle.key_limiter.specs.declared.limiter.Limit.{Limit}
use Rattle.key_limiter.specs.declared.limiter.Requests.{Requests}
use Rattle.key_limiter.specs.Limiting.{decisions_of, full, level_by}

-- for each key the times of its requests
abbrev pub rows_of : Requests → List (List ℕ)
rows_of r = map (λ row. row.items) r.rows.now

abbrev pub row_of : List (List ℕ) → ℕ → List ℕ
row_of rows c = slice_index_or rows c []

-- the limit, and the requests
abbrev pub origin_of : Requests → Limit × List (List ℕ)
origin_of r = (r.limit, rows_of r)

-- the bucket has decided as many requests as there were feeds
abbrev pub HasDecided : Bucket → List Act → Type 0
HasDecided k had = fed had ≡ length k.passed.items

-- a key's bucket decided the first requests of the key, and has room for all of them
pub record Decides (limit : Limit) (row : List ℕ) (k : Bucket) : Type 0 where
  pub within : length k.passed.items ≤ length row
  pub room : length row ≤ vec_capacity k.passed
  pub passed : k.passed.items ≡ decisions_of limit (take (length k.passed.items) row)
  pub level : k.level ≡ level_by limit (full limit) (take (length k.passed.items) row)

abbrev pub IsPartOf : Limit × List (List ℕ) → ℕ → Bucket → Type 0
IsPartOf origin c k = Decides origin.0 (row_of origin.1 c) k

-- each key has a feed for each of its requests, no bucket leaves, and there are these calls
abbrev pub limits_of : Requests → Limits
limits_of r = record { feeds = map length (rows_of r); leaves = []; calls = r.calls.now }
