-- What a pass knows of itself, kept by one element of another pass.
use Rattle.std.proofs.Common.{◌≢◌, ℕ, List, [], ◌∷◌, ◌++◌}
use Rattle.perimeter_core.specs.History.{Element, Setting, worker, start, run, pass_of}
use Rattle.perimeter_core.specs.Legal.{May, Legal}
use Rattle.perimeter_core.specs.Knowledge.{PassKept}
use Rattle.perimeter_core.proofs.OneMore.{run_push}
use Rattle.perimeter_core.proofs.OrderAndWake.{sound}
use Rattle.perimeter_core.proofs.OthersMarks.{closed_kept, owner_kept, granted_kept}
use Rattle.perimeter_core.proofs.IdleKept.{idle_kept, ask_kept}

pub pass_kept : (S : Setting) (H : List Element) (e : Element) (p : ℕ) → Legal S H → May S H e → pass_of e.mark ≢ p → PassKept (run S H) (run S (H ++ e ∷ [])) e p
pass_kept S H e p l m ne =
    rw (run_push (start S) H e)
    (record {
      closed = closed_kept (run S H) e.mark p ne;
      idle = idle_kept (worker S) (run S H) e.mark p m.step (sound S H l) m.kind ne;
      owner = owner_kept (worker S) (run S H) e.mark p m.step ne;
      granted = granted_kept (worker S) (run S H) e.mark p m.step ne;
      asked = ask_kept (worker S) (run S H) e.mark p m.step (sound S H l) m.asks_last ne;
    })
