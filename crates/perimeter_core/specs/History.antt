-- A history of a perimeter, what is fixed before it begins, and the state that it leads to.
use Rattle.std.specs.Prelude.{ℕ, ◌+◌, Bool, false, if◌then◌else◌, ◌==◌, List, [], ◌∷◌, length, replicate, slice_index_or}
use Rattle.perimeter_core.specs.declared.entries.Act.{Act}
use Rattle.perimeter_core.specs.declared.marks.Own.TheVariants.{Free}
use Rattle.perimeter_core.specs.declared.marks.Mark.{Mark}
use Rattle.perimeter_core.specs.declared.marks.Mark.TheVariants as On
use Rattle.perimeter_core.specs.Perimeter.{State, after}

-- an element of a history: a mark, and the acts for which a block stands that the mark puts in
pub record Element : Type 0 where
  pub mark : Mark
  pub note : List Act

-- an element without a note
abbrev pub plain : Mark → Element
plain m = record { mark = m; note = [] }

-- what a resident allows: for each connection, how many feeds it may have and how often it may leave; and the calls
-- that exist, (c, j, k) where call k of thread j is on connection c
pub record Limits : Type 0 where
  pub feeds : List ℕ
  pub leaves : List ℕ
  pub calls : List (ℕ × ℕ × ℕ)

-- what is fixed before a history begins. Passes are numbered from 0: the rings' first, the worker's last
pub record Setting : Type 0 where
  pub rings : ℕ
  -- of each pass but the worker's, how many feeds and how many asks it may enter
  pub quotas : List (ℕ × ℕ)
  -- for each connection, whether its block is here at the start
  pub starts : List Bool
  pub limits : Limits

abbrev pub worker : Setting → ℕ
worker S = length S.quotas

abbrev pub passes : Setting → ℕ
passes S = length S.quotas + 1

abbrev pub conns : Setting → ℕ
conns S = length S.starts

abbrev pub feed_quota : Setting → ℕ → ℕ
feed_quota S p = (slice_index_or S.quotas p (0, 0)).0

abbrev pub ask_quota : Setting → ℕ → ℕ
ask_quota S p = (slice_index_or S.quotas p (0, 0)).1

-- the sum of all quotas, and of those of feeds alone
abbrev pub all_quotas : List (ℕ × ℕ) → ℕ
all_quotas [] = 0
all_quotas (q ∷ qs) = q.0 + q.1 + all_quotas qs

abbrev pub feed_quotas : List (ℕ × ℕ) → ℕ
feed_quotas [] = 0
feed_quotas (q ∷ qs) = q.0 + feed_quotas qs

-- nobody has the perimeter, nothing is queued, no pass is closed
abbrev pub start : Setting → State
start S =
    record {
      own = Free;
      chain = [];
      hand = [];
      wake = false;
      polling = false;
      here = S.starts;
      closed = replicate (passes S) false;
    }

-- the state after a history, whose oldest element stands first
abbrev pub run_from : State → List Element → State
run_from s [] = s
run_from s (e ∷ H) = run_from (after s e.mark) H

abbrev pub run : Setting → List Element → State
run S H = run_from (start S) H

-- the pass that makes a mark
abbrev pub pass_of : Mark → ℕ
pass_of (On.Fill p es) = p
pass_of (On.Fast p e) = p
pass_of (On.Claim p es) = p
pass_of (On.Take p) = p
pass_of (On.Leave p rest act) = p
pass_of (On.Ask p) = p
pass_of (On.Grant p j rest) = p
pass_of (On.Accept j) = j
pass_of (On.Work p) = p
pass_of (On.Close p) = p

-- the elements of a history that a pass made
abbrev pub made_by : ℕ → List Element → List Element
made_by p [] = []
made_by p (e ∷ H) = if pass_of e.mark == p then e ∷ made_by p H else made_by p H
