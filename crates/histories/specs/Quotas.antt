-- How many feeds and asks the passes of a squeue may enter, as lists of pairs.
use Rattle.std.specs.Prelude.{ℕ, List, map, ◌+◌, [], ◌∷◌}
use Rattle.histories.specs.declared.quota.Quota.{Quota}

-- a slice of quotas, as contracts see it
abbrev pub pairs : List Quota → List (ℕ × ℕ)
pairs quotas = map (λ q. (q.feeds, q.asks)) quotas

-- the sum of the asks of the quotas
abbrev pub ask_quotas : List (ℕ × ℕ) → ℕ
ask_quotas [] = 0
ask_quotas (q ∷ qs) = q.1 + ask_quotas qs
