-- The feeds of a ring at a squeue, and their limits.
use Rattle.std.specs.Prelude.{ℕ, ◌-◌, ◌^◌, List, [], replicate}
use Rattle.perimeter_core.specs.History.{Limits}
use Rattle.shards.specs.declared.counting.Counted.{Counted}
use Rattle.shards.specs.declared.counting.Counting.{Counting}

-- how many feeds a ring has had since its part was put in
abbrev pub had_of : Counted → ℕ
had_of p = p.had

-- each ring may have so many feeds after its part was put in, and the part may leave so often
abbrev pub limits_with : ℕ → List (ℕ × ℕ × ℕ) → Limits
limits_with rings calls = record { feeds = replicate rings (2 ^ 32 - 1); leaves = replicate rings (2 ^ 52); calls = calls }

abbrev pub limits_of : Counting → Limits
limits_of r = limits_with r.count r.calls.items

-- those of a shard, which nobody calls
abbrev pub ring_limits : ℕ → Limits
ring_limits rings = limits_with rings []
