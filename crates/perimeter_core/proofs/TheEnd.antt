-- After the end nothing may follow.
use Rattle.std.proofs.Common.{◌≢◌, ℕ, ◌+◌, ◌<◌, List, ◌∷◌, ◌++◌, length, arith}
use Rattle.perimeter_core.specs.declared.marks.Mark.{Mark}
use Rattle.perimeter_core.specs.declared.marks.Mark.TheVariants as On
use Rattle.perimeter_core.specs.Perimeter.{State, Can, Idle}
use Rattle.perimeter_core.specs.History.{Element, Setting, worker, run}
use Rattle.perimeter_core.specs.Legal.{Legal, InRange, WorkerOnly, IdleFirst}
use Rattle.perimeter_core.specs.Ending.{IsOver}
use Rattle.perimeter_core.proofs.OneMore.{legal_front, legal_next}
use Rattle.perimeter_core.proofs.Sound.{Sound}
use Rattle.perimeter_core.proofs.OrderAndWake.{sound}

-- a pass that isn't the worker's is closed, so it isn't idle
shut : (S : Setting) (s : State) (p : ℕ) → IsOver S s → p < length S.quotas + 1 → p ≢ length S.quotas → Idle s p → ⊥
shut S s p end range other idle = let b : p < length S.quotas = omega arith in cc (end.closed p b, idle.open_pass)

stops : (S : Setting) (s : State) (m : Mark) → IsOver S s → Sound s → Can (worker S) s m → InRange S m → WorkerOnly (worker S) m → IdleFirst s m → ⊥
stops S s (On.Fill p es) end k can range only idle = shut S s p end range.0 only idle
stops S s (On.Fast p e) end k can range only idle = shut S s p end range.0 only idle
stops S s (On.Claim p es) end k can range only idle = shut S s p end range.0 only idle
stops S s (On.Ask p) end k can range only idle = shut S s p end range.0 only idle
stops S s (On.Close p) end k can range only idle = shut S s p end range.0 only idle
stops S s (On.Take p) end k can range only idle = cc (end.free, can.0)
stops S s (On.Leave p rest act) end k can range only idle = cc (end.free, can.0)
stops S s (On.Grant p j rest) end k can range only idle = cc (end.free, can.0)
stops S s (On.Accept j) end k can range only idle = cc (end.free, can)
stops S s (On.Work p) end k can range only idle = cc (can.1, rw (end.free, end.empty) at k.wake)

pub final : (S : Setting) (H K : List Element) (e : Element) → IsOver S (run S H) → Legal S (H ++ e ∷ K) → ⊥
final S H K e end l =
    let m = legal_next S H K e l in
    stops S (run S H) e.mark end (sound S H (legal_front S H (e ∷ K) l)) m.step m.range m.worker_only m.idle
