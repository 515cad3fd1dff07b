-- What is found by going through the marks of one squeue, which are legal.
use Rattle.std.specs.Prelude.{◌≡◌, ◌↔◌, ℕ, Bool, Decides, IsTrue, MatchOption, Option, Some, List, [], ◌∷◌, ◌++◌, length, slice_get}
use Rattle.perimeter_core.specs.Legal.{Legal}
use Rattle.histories.specs.Endings.{Ending}
use Rattle.ring_quotas.specs.declared.setup.Setup.{Setup}
use Rattle.perimeter_core.specs.declared.marks.Mark.{Mark}
use Rattle.squeue_replay.specs.declared.pace.PaceCheck.{PaceCheck}
use Rattle.squeue_replay.specs.declared.squeue.ReplayedSqueue.{ReplayedSqueue}
use Rattle.squeue_replay.specs.Histories.{note_of}
use Rattle.squeue_replay.specs.Pacing.{KeepsAt, PaceStands}
use Rattle.squeue_replay.specs.Replaying.{history_of, setting_of, squeue_of}
use Rattle.squeue_replay.specs.Standing.{GuestOf, GuestStands, Stands}
use Rattle.trace_replay.specs.Reasons.{AreFit, HasClosed, IsUnfitAt}

-- what the squeue had of each connection, whether it has ended, and the first mark that breaks the homes, the mode or the budget
pub record HasGone (setup : Setup) (q : ℕ) (e : Ending) (guests : List GuestOf) (over : Bool) (broken : Option ℕ) : Type 0 where
  pub legal : Legal e.setting e.history
  pub count : length guests ≡ length e.setting.starts
  pub each : (c : ℕ) (g : GuestOf) → slice_get guests c ≡ Some g → GuestStands e.setting e.history c g
  pub ended : IsTrue over ↔ HasClosed e
  pub unfit : MatchOption broken (AreFit setup q e) (IsUnfitAt setup q e)

-- one more legal mark: what is kept stands for the longer history, and whether the mark fits is told
pub record HasAdded (old : ReplayedSqueue) (was : PaceCheck) (past : List Mark) (m : Mark)
    (new : ReplayedSqueue) (pace : PaceCheck) (keeps : Bool) : Type 0 where
  pub stands : Stands (setting_of old) (history_of old (past ++ m ∷ [])) (squeue_of new)
  pub paced : PaceStands (setting_of old) (history_of old (past ++ m ∷ [])) pace
  pub fits : Decides keeps (KeepsAt was.setup was.squeue (setting_of old) (history_of old past)
      (record { mark = m; note = note_of old.run.setup.squeues old.run.setup.spread old.number past m }))
