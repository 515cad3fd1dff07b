-- What is told of one more mark, by the kind that it was read as.
use Rattle.std.proofs.Common.{◌≡◌, ◌≢◌, ℕ, Bool, if◌then◌else◌, Option, Some, None, List, [], ◌∷◌, refl, sym, subst}
use Rattle.std.specs.Prelude.{IfOk, Result, Ok}
use Rattle.perimeter_core.specs.declared.entries.Act.{Act}
use Rattle.perimeter_core.specs.declared.entries.Entry.TheVariants as Entered
use Rattle.perimeter_core.specs.declared.entries.Feed.{Feed}
use Rattle.perimeter_core.specs.declared.marks.Mark.{Mark}
use Rattle.perimeter_core.specs.declared.marks.Mark.TheVariants as On
use Rattle.perimeter_core.specs.declared.marks.SynchAct.{SynchAct}
use Rattle.perimeter_core.specs.Perimeter.{State}
use Rattle.perimeter_core.specs.History.{Element}
use Rattle.perimeter_core.specs.Deeds.{done_by, entries}
use Rattle.perimeter_core.specs.Legal.{NoteFits}
use Rattle.squeue_replay.specs.declared.squeue.ReplayedSqueue.{ReplayedSqueue}
use Rattle.perimeter_core.specs.declared.marks.Kind.{Kind}
use Rattle.perimeter_core.specs.declared.marks.Kind.TheVariants as Kind'
use Rattle.squeue_replay.specs.Histories.{note_of}
use Rattle.perimeter_core.specs.Kinds.{mark_by}
use Rattle.squeue_replay.specs.Marks.{HasItsFeeds, IsPrinted}
use Rattle.squeue_replay.specs.Entering.{AreSmall, Follows}
use Rattle.squeue_replay.specs.Replaying.{setting_of, squeue_of}
use Rattle.squeue_replay.specs.Standing.{SqueueOf, Stands}
use Rattle.squeue_replay.specs.Steps.{NotesFeeds, Tells}
use Rattle.squeue_replay.proofs.Adding.{Answers, claimed_feeds, fast_follows, leave_told, none_told, plain_told, small_feeds, some_feeds}

-- the answer to the mark of this kind
abbrev pub Told : {E : Type 0} → ReplayedSqueue → SqueueOf → ℕ → List Feed → Result (Option ℕ) E → Kind → Type 0
Told s t p feeds r y = IfOk r (λ o. Answers s.run.setup.squeues s.run.setup.spread s.number (setting_of s) (squeue_of s) t (mark_by p y feeds) (HasItsFeeds y feeds) o)

module _ {E : Type 0} (s : ReplayedSqueue) (t : SqueueOf) (p : ℕ) (feeds : List Feed) {x : Kind} {r : Result (Option ℕ) E} where
  -- nothing is processed
  nothing_told : (y : Kind) (b : Bool) → x ≡ y → r ≡ Ok (if b then Some 0 else None)
      → ((past : List Mark) → note_of s.run.setup.squeues s.run.setup.spread s.number past (mark_by p y feeds) ≡ []) → ((st : State) → done_by st (mark_by p y feeds) ≡ [])
      → ((H : List Element) → Stands (setting_of s) H (squeue_of s) → IsPrinted (mark_by p y feeds) → HasItsFeeds y feeds → Follows (setting_of s) H t (mark_by p y feeds) b) → Told s t p feeds r x
  nothing_told y b is made plain nothing follows =
      subst (λ (z : Kind). Told s t p feeds r z) (sym is)
      (none_told s.run.setup.squeues s.run.setup.spread s.number (setting_of s) (squeue_of s) t (mark_by p y feeds) (HasItsFeeds y feeds) r b made plain nothing follows)

  -- an Ask or a Claim of it, and what a pass does without a chain
  pub told_alone : (y : Kind) (b : Bool) → x ≡ y → r ≡ Ok (if b then Some 0 else None)
      → ((past : List Mark) → note_of s.run.setup.squeues s.run.setup.spread s.number past (mark_by p y feeds) ≡ []) → ((st : State) → done_by st (mark_by p y feeds) ≡ [])
      → ((H : List Element) → Stands (setting_of s) H (squeue_of s) → Follows (setting_of s) H t (mark_by p y feeds) b) → Told s t p feeds r x
  told_alone y b is made plain nothing follows = nothing_told y b is made plain nothing (λ H k printed has. follows H k)

  -- feeds are entered, as they were read
  module _ (b : Bool) {read : List Feed} (same : read ≡ feeds) (made : r ≡ Ok (if b then Some 0 else None)) where
    pub told_fill : x ≡ Kind'.Fill → ((H : List Element) → Stands (setting_of s) H (squeue_of s) → read ≢ [] → AreSmall read → Follows (setting_of s) H t (On.Fill p (entries read)) b) → Told s t p feeds r x
    told_fill is does =
        let all = subst (λ (fs : List Feed). (H : List Element) → Stands (setting_of s) H (squeue_of s) → fs ≢ [] → AreSmall fs → Follows (setting_of s) H t (On.Fill p (entries fs)) b) same does in
        nothing_told Kind'.Fill b is made (λ past. refl) (λ st. refl) (λ H k printed has. all H k (some_feeds feeds printed.1) (small_feeds feeds printed.2))

    pub told_claim : x ≡ Kind'.Claim → ((H : List Element) → Stands (setting_of s) H (squeue_of s) → read ≢ [] → AreSmall read → Follows (setting_of s) H t (On.Claim p (entries read)) b) → Told s t p feeds r x
    told_claim is does =
        let all = subst (λ (fs : List Feed). (H : List Element) → Stands (setting_of s) H (squeue_of s) → fs ≢ [] → AreSmall fs → Follows (setting_of s) H t (On.Claim p (entries fs)) b) same does in
        nothing_told Kind'.Claim b is made (λ past. refl) (λ st. refl)
        (λ H k printed has. let e = claimed_feeds p feeds printed in all H k (some_feeds feeds e.0) (small_feeds feeds e.1))

    pub told_fast : x ≡ Kind'.Fast → ((H : List Element) → Stands (setting_of s) H (squeue_of s) → (f : Feed) → read ≡ f ∷ [] → AreSmall read → Follows (setting_of s) H t (On.Fast p (Entered.Feed f.c f.n)) b) → Told s t p feeds r x
    told_fast is does =
        let all = subst (λ (fs : List Feed). (H : List Element) → Stands (setting_of s) H (squeue_of s) → (f : Feed) → fs ≡ f ∷ [] → AreSmall fs → Follows (setting_of s) H t (On.Fast p (Entered.Feed f.c f.n)) b) same does in
        nothing_told Kind'.Fast b is made (λ past. refl) (λ st. refl) (λ H k printed has. fast_follows (setting_of s) H t p feeds b has printed.1 (all H k))

-- feeds may be processed
module _ {E : Type 0} (s : ReplayedSqueue) (t : SqueueOf) (p : ℕ) (feeds : List Feed) {x : Kind} (r : Result (Option ℕ) E) where
  pub told_take : x ≡ Kind'.Take → IfOk r (λ o. (H : List Element) → Stands (setting_of s) H (squeue_of s) → Tells (setting_of s) H t (record { mark = On.Take p; note = [] }) o) → Told s t p feeds r x
  told_take is tells =
      subst (λ (z : Kind). Told s t p feeds r z) (sym is)
      (plain_told s.run.setup.squeues s.run.setup.spread s.number (setting_of s) (squeue_of s) t (On.Take p) (HasItsFeeds Kind'.Take feeds) r (λ past. refl) tells)

  pub told_grant : (j rest : ℕ) → x ≡ Kind'.Grant j rest → IfOk r (λ o. (H : List Element) → Stands (setting_of s) H (squeue_of s) → Tells (setting_of s) H t (record { mark = On.Grant p j rest; note = [] }) o) → Told s t p feeds r x
  told_grant j rest is tells =
      subst (λ (z : Kind). Told s t p feeds r z) (sym is)
      (plain_told s.run.setup.squeues s.run.setup.spread s.number (setting_of s) (squeue_of s) t (On.Grant p j rest) (HasItsFeeds (Kind'.Grant j rest) feeds) r (λ past. refl) tells)

  pub told_leave : (rest : ℕ) (act : SynchAct) → x ≡ Kind'.Leave rest act
      → IfOk r (λ o. (H : List Element) (note : List Act) → Stands (setting_of s) H (squeue_of s) → NoteFits (On.Leave p rest act) note
      → NotesFeeds s.run.setup.squeues s.run.setup.spread s.number H act note → Tells (setting_of s) H t (record { mark = On.Leave p rest act; note = note }) o) → Told s t p feeds r x
  told_leave rest act is tells =
      subst (λ (z : Kind). Told s t p feeds r z) (sym is)
      (leave_told s.run.setup.squeues s.run.setup.spread s.number (setting_of s) (squeue_of s) t p rest act (HasItsFeeds (Kind'.Leave rest act) feeds) r tells)
