-- What the history of printed marks notes of a Leave.
use Rattle.std.proofs.Common.{◌≡◌, ℕ, ◌*◌, List, [], ◌∷◌, length, map, refl, ap, sym, ◌∙◌, arith}
use Rattle.std.specs.List.{range_with_len}
use Rattle.std.proofs.lemmas.List.FromFn.{length-range_with_len}
use Rattle.perimeter_core.specs.declared.entries.Act.TheVariants as Did
use Rattle.perimeter_core.specs.declared.marks.Mark.{Mark}
use Rattle.perimeter_core.specs.declared.marks.Mark.TheVariants as On
use Rattle.perimeter_core.specs.declared.marks.SynchAct.{SynchAct}
use Rattle.perimeter_core.specs.declared.marks.SynchAct.TheVariants as Done
use Rattle.perimeter_core.specs.Deeds.{fed}
use Rattle.perimeter_core.specs.Legal.{NoteFits}
use Rattle.squeue_replay.specs.Histories.{note_of, noted, stay_of, times_in}
use Rattle.squeue_replay.specs.Steps.{NotesFeeds}
use Rattle.squeue_replay.proofs.OneMoreMark.{noted_marks}

fed_all : (xs : List ℕ) → fed (map Did.Feed xs) ≡ length xs
fed_all [] = refl
fed_all (x ∷ xs) = let e = fed_all xs in omega (arith, e)

module _ (squeues spread q : ℕ) (past : List Mark) (p rest : ℕ) where
  pub notes_feeds : (act : SynchAct) → NotesFeeds squeues spread q (noted squeues spread q past) act (note_of squeues spread q past (On.Leave p rest act))
  notes_feeds (Done.In c) =
      fed_all (range_with_len 0 (stay_of squeues q c (times_in c past) * spread))
      ∙ (length-range_with_len 0 (stay_of squeues q c (times_in c past) * spread)
      ∙ ap (λ (ms : List Mark). stay_of squeues q c (times_in c ms) * spread) (sym (noted_marks squeues spread q past)))
  notes_feeds Done.None = tt
  notes_feeds Done.Away = tt
  notes_feeds (Done.Call c j k) = tt
  notes_feeds (Done.Out c) = tt

  pub note_fits : (act : SynchAct) → NoteFits (On.Leave p rest act) (note_of squeues spread q past (On.Leave p rest act))
  note_fits (Done.In c) = tt
  note_fits Done.None = refl
  note_fits Done.Away = refl
  note_fits (Done.Call c j k) = refl
  note_fits (Done.Out c) = refl
