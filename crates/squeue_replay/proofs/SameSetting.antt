-- Squeues of the same number of the same run have the same setting, and a note fits both.
use Rattle.std.proofs.Common.{◌≡◌, ℕ, List, refl, sym, subst}
use Rattle.perimeter_core.specs.declared.entries.Act.{Act}
use Rattle.perimeter_core.specs.declared.marks.SynchAct.{SynchAct}
use Rattle.perimeter_core.specs.History.{Element}
use Rattle.squeue_replay.specs.declared.squeue.RunSetup.{RunSetup}
use Rattle.squeue_replay.specs.declared.squeue.ReplayedSqueue.{ReplayedSqueue}
use Rattle.squeue_replay.specs.Replaying.{setting_of}
use Rattle.squeue_replay.specs.Steps.{NotesFeeds}

pub same_setting : (a b : ReplayedSqueue) → a.run ≡ b.run → a.number ≡ b.number → setting_of a ≡ setting_of b
same_setting a b run number = rw (run, number) refl

pub same_notes : (a b : ReplayedSqueue) (H : List Element) (act : SynchAct) (note : List Act) → a.run ≡ b.run → a.number ≡ b.number
    → NotesFeeds b.run.setup.squeues b.run.setup.spread b.number H act note → NotesFeeds a.run.setup.squeues a.run.setup.spread a.number H act note
same_notes a b H act note run number feeds =
    subst (λ (r : RunSetup). NotesFeeds r.setup.squeues r.setup.spread a.number H act note) (sym run)
    (subst (λ (n : ℕ). NotesFeeds b.run.setup.squeues b.run.setup.spread n H act note) (sym number) feeds)
