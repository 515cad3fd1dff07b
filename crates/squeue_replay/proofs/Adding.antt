-- What is told of one more mark, by the history that the marks make.
use Rattle.std.proofs.Common.{◌≡◌, ◌≢◌, ℕ, suc, Bool, true, false, ◌⊎◌, inl, inr, if◌then◌else◌, Option, Some, None, List, [], ◌∷◌, ◌++◌, length, refl, ap, sym, ◌∙◌, subst, arith}
use Rattle.std.specs.Prelude.{IfOk, MatchOption, Result, Ok, Err}
use Rattle.perimeter_core.specs.declared.entries.Entry.TheVariants as Entered
use Rattle.perimeter_core.specs.declared.entries.Feed.{Feed}
use Rattle.perimeter_core.specs.declared.marks.Mark.{Mark}
use Rattle.perimeter_core.specs.declared.marks.Mark.TheVariants as On
use Rattle.perimeter_core.specs.declared.entries.Act.{Act}
use Rattle.perimeter_core.specs.declared.marks.SynchAct.{SynchAct}
use Rattle.perimeter_core.specs.Perimeter.{State}
use Rattle.perimeter_core.specs.History.{Element, Setting, run}
use Rattle.perimeter_core.specs.Deeds.{done_by, entries}
use Rattle.perimeter_core.specs.Legal.{Legal, NoteFits, feed_count}
use Rattle.squeue_replay.specs.Histories.{note_of, noted}
use Rattle.perimeter_core.specs.Kinds.{fast_entry}
use Rattle.squeue_replay.specs.Marks.{AreFeeds, IsPrinted}
use Rattle.squeue_replay.specs.Standing.{SqueueOf, Stands}
use Rattle.squeue_replay.specs.Steps.{NotesFeeds, Tells}
use Rattle.squeue_replay.specs.Entering.{AreSmall, Follows}
use Rattle.squeue_replay.proofs.LeaveNotes.{note_fits, notes_feeds}
use Rattle.squeue_replay.proofs.OneMoreMark.{noted_push, not_legal}

-- the answer to a mark, behind any marks
abbrev pub Answers : ℕ → ℕ → ℕ → Setting → SqueueOf → SqueueOf → Mark → Type 0 → Option ℕ → Type 0
Answers squeues spread q S s t m F o = (past : List Mark) → Stands S (noted squeues spread q past) s → IsPrinted m → F
    → MatchOption o (Legal S (noted squeues spread q (past ++ m ∷ [])) → ⊥)
    (λ n. Stands S (noted squeues spread q (past ++ m ∷ [])) t × (n ≡ feed_count (done_by (run S (noted squeues spread q past)) m)))

tells_more : (S : Setting) (H more : List Element) (t : SqueueOf) (e : Element) (o : Option ℕ) → more ≡ H ++ e ∷ [] → Tells S H t e o
    → MatchOption o (Legal S more → ⊥) (λ n. Stands S more t × (n ≡ feed_count (done_by (run S H) e.mark)))
tells_more S H more t e None is refused = λ l. not_legal S H e refused (subst (Legal S) is l)
tells_more S H more t e (Some n) is told = (subst (λ (G : List Element). Stands S G t) (sym is) told.0, told.1)

follows_tells : (S : Setting) (H : List Element) (t : SqueueOf) (m : Mark) (b : Bool) → ((st : State) → done_by st m ≡ []) → Follows S H t m b → Tells S H t (record { mark = m; note = [] }) (if b then Some 0 else None)
follows_tells S H t m true none f = (f, sym (ap feed_count (none (run S H))))
follows_tells S H t m false none f = f

-- a mark that reports nothing
pub none_told : {E : Type 0} (squeues spread q : ℕ) (S : Setting) (s t : SqueueOf) (m : Mark) (F : Type 0) (r : Result (Option ℕ) E) (b : Bool) → r ≡ Ok (if b then Some 0 else None)
    → ((past : List Mark) → note_of squeues spread q past m ≡ []) → ((st : State) → done_by st m ≡ []) → ((H : List Element) → Stands S H s → IsPrinted m → F → Follows S H t m b)
    → IfOk r (λ o. Answers squeues spread q S s t m F o)
none_told squeues spread q S s t m F r b is plain none follows =
    rw is (λ past k printed f.
    tells_more S (noted squeues spread q past) (noted squeues spread q (past ++ m ∷ [])) t (record { mark = m; note = [] }) (if b then Some 0 else None)
    (noted_push squeues spread q past m ∙ ap (λ note. noted squeues spread q past ++ record { mark = m; note = note } ∷ []) (plain past))
    (follows_tells S (noted squeues spread q past) t m b none (follows (noted squeues spread q past) k printed f)))

-- the feeds of a mark as they were read
pub some_feeds : (fs : List Feed) → entries fs ≢ [] → fs ≢ []
some_feeds [] some e = some refl
some_feeds (f ∷ fs) some e = absurd cc

pub small_feeds : (fs : List Feed) → AreFeeds (entries fs) → AreSmall fs
small_feeds [] k = tt
small_feeds (f ∷ fs) k = (k.1, small_feeds fs k.2)

pub fast_follows : (S : Setting) (H : List Element) (t : SqueueOf) (p : ℕ) (fs : List Feed) (b : Bool) → length fs ≡ 1 → AreFeeds (fast_entry p fs ∷ [])
    → ((f : Feed) → fs ≡ f ∷ [] → AreSmall fs → Follows S H t (On.Fast p (Entered.Feed f.c f.n)) b) → Follows S H t (On.Fast p (fast_entry p fs)) b
fast_follows S H t p [] b one k follows = absurd k
fast_follows S H t p (f ∷ []) b one k follows = follows f refl (k.1, tt)
fast_follows S H t p (f ∷ g ∷ fs) b one k follows = absurd (let none : suc (suc (length fs)) ≡ 1 = one in omega arith)

-- a Claim of the pass's own Ask is printed as one
pub claimed_feeds : (p : ℕ) (fs : List Feed) → IsPrinted (On.Claim p (entries fs)) → (entries fs ≢ []) × AreFeeds (entries fs)
claimed_feeds p fs k = at fs k.1
  where
    at : (gs : List Feed) → ((entries gs ≢ []) × AreFeeds (entries gs)) ⊎ (entries gs ≡ Entered.Ask p ∷ []) → (entries gs ≢ []) × AreFeeds (entries gs)
    at gs (inl w) = w
    at [] (inr e) = absurd cc
    at (g ∷ gs) (inr e) = absurd cc

pub plain_told : {E : Type 0} (squeues spread q : ℕ) (S : Setting) (s t : SqueueOf) (m : Mark) (F : Type 0) (r : Result (Option ℕ) E) → ((past : List Mark) → note_of squeues spread q past m ≡ [])
    → IfOk r (λ o. (H : List Element) → Stands S H s → Tells S H t (record { mark = m; note = [] }) o) → IfOk r (λ o. Answers squeues spread q S s t m F o)
plain_told squeues spread q S s t m F (Ok o) plain told = λ past k printed f.
    tells_more S (noted squeues spread q past) (noted squeues spread q (past ++ m ∷ [])) t (record { mark = m; note = [] }) o
    (noted_push squeues spread q past m ∙ ap (λ note. noted squeues spread q past ++ record { mark = m; note = note } ∷ []) (plain past)) (told (noted squeues spread q past) k)
plain_told squeues spread q S s t m F (Err e) plain told = tt

pub leave_told : {E : Type 0} (squeues spread q : ℕ) (S : Setting) (s t : SqueueOf) (p rest : ℕ) (act : SynchAct) (F : Type 0) (r : Result (Option ℕ) E)
    → IfOk r (λ o. (H : List Element) (note : List Act) → Stands S H s → NoteFits (On.Leave p rest act) note → NotesFeeds squeues spread q H act note
    → Tells S H t (record { mark = On.Leave p rest act; note = note }) o) → IfOk r (λ o. Answers squeues spread q S s t (On.Leave p rest act) F o)
leave_told squeues spread q S s t p rest act F (Ok o) told = λ past k printed f.
    tells_more S (noted squeues spread q past) (noted squeues spread q (past ++ On.Leave p rest act ∷ [])) t (record { mark = On.Leave p rest act; note = note_of squeues spread q past (On.Leave p rest act) }) o
    (noted_push squeues spread q past (On.Leave p rest act))
    (told (noted squeues spread q past) (note_of squeues spread q past (On.Leave p rest act)) k (note_fits squeues spread q past p rest act) (notes_feeds squeues spread q past p rest act))
leave_told squeues spread q S s t p rest act F (Err e) told = tt
