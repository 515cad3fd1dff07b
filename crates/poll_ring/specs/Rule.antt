-- The rule that a ring's queue keeps between any two steps.
use Rattle.std.specs.Prelude.{◌≡◌, ◌+◌, ℕ, true, false, List}
use Rattle.std.specs.List.{range_with_len}
use mathlib.Core.Option.{some}
use lib.ListN.{get_elem?, length}
use Rattle.poll_ring.specs.declared.rule.View.{View}

-- what the first pass of a queue knows, which may do both
abbrev pub unsplit : View
unsplit = record { feeds = true; polls = true; put = 0; popped = 0 }

-- what the pass of the end that puts knows, after n puts
abbrev pub feeder : ℕ → View
feeder n = record { feeds = true; polls = false; put = n; popped = 0 }

-- what the pass of the end that pops knows, after n pops
abbrev pub poller : ℕ → View
poller n = record { feeds = false; polls = true; put = 0; popped = n }

-- only the pass f may put, and it knows how many were put; only the pass p may pop, and it knows how many were popped
abbrev pub Knows : (f put p popped : ℕ) → ℕ → View → Type 0
Knows f put p popped pass v = (v.feeds ≡ true → (pass ≡ f) × (v.put ≡ put)) × (v.polls ≡ true → (pass ≡ p) × (v.popped ≡ popped))

-- the queue holds the numbers from how many were popped to how many were put less one, oldest first, and each pass knows its own count
pub record Keeps (numbers : List ℕ) (views : List View) : Type 0 where
  pub put : ℕ
  pub popped : ℕ
  pub count : put ≡ popped + length numbers
  pub next_ones : numbers ≡ range_with_len popped (length numbers)
  pub feeding : ℕ
  pub polling : ℕ
  pub each : (pass : ℕ) (v : View) → get_elem? views pass ≡ some v → Knows feeding put polling popped pass v
