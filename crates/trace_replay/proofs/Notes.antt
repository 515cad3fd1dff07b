-- Histories with the same marks, whose notes have as many feeds: the machine, what is legal and the pace of the rings are the same.
use Rattle.std.proofs.Common.{◌≡◌, ◌≢◌, ℕ, ◌+◌, ◌≤◌, ◌<◌, ◌==◌, ◌⊎◌, true, false, if◌then◌else◌, Option, Some, None, List, [], ◌∷◌, ◌++◌, length, refl, ap, sym, ◌∙◌, subst}
use Rattle.std.specs.Prelude.{IfSome, slice_index}
use mathlib.Core.Path.{fun_ext}
use Rattle.perimeter_core.specs.declared.entries.Entry.{Entry}
use Rattle.perimeter_core.specs.declared.marks.Own.TheVariants.{Free}
use Rattle.perimeter_core.specs.declared.marks.SynchAct.TheVariants as Done
use Rattle.perimeter_core.specs.declared.marks.Mark.{Mark}
use Rattle.perimeter_core.specs.declared.marks.Mark.TheVariants as On
use Rattle.perimeter_core.specs.Perimeter.{State, Can, after}
use Rattle.perimeter_core.specs.History.{Element, Setting, ask_quota, feed_quota, pass_of, run, run_from, start, worker}
use Rattle.perimeter_core.specs.Deeds.{done, done_by, done_from, due, due_after, due_from, entries_of, fed, feeds_of, puts_in, takes_out, times_left}
use Rattle.perimeter_core.specs.Legal.{ActsFit, AsksLast, AtItsAsk, Enters, IdleFirst, InRange, Legal, LegalFrom, May, NoteFits, Progress, RightKind, WorkerOnly, all_feeds, ask_count, asks_by, feed_count, feeds_by}
use Rattle.histories.specs.declared.mode.Mode.{Mode}
use Rattle.histories.specs.Keeping.{AreHome, Keeps, KeepsFrom, KeepsPace, claims_feeds, fills, fills_one, gives_it_up, is_fast, leaves_it, taken, taken_after, taken_from}

abbrev pub Alike : List Element → List Element → Type 0
Alike [] [] = Unit {0}
Alike [] (f ∷ K) = ⊥
Alike (e ∷ H) [] = ⊥
Alike (e ∷ H) (f ∷ K) = (e.mark ≡ f.mark) × (fed e.note ≡ fed f.note) × Alike H K

-- only an In has a note
abbrev pub NotesFit : List Element → Type 0
NotesFit [] = Unit {0}
NotesFit (e ∷ H) = NoteFits e.mark e.note × NotesFit H

module _ (P : List Element → List Element → Type 0) (none : P [] []) (more : (e f : Element) (H K : List Element) → e.mark ≡ f.mark → fed e.note ≡ fed f.note → P H K → P (e ∷ H) (f ∷ K)) where
  pub alike_ind : (H K : List Element) → Alike H K → P H K
  alike_ind [] [] a = none
  alike_ind [] (f ∷ K) a = absurd a
  alike_ind (e ∷ H) [] a = absurd a
  alike_ind (e ∷ H) (f ∷ K) a = more e f H K a.0 a.1 (alike_ind H K a.2)

pub alike_more : (H K : List Element) (e f : Element) → Alike H K → e.mark ≡ f.mark → fed e.note ≡ fed f.note → Alike (H ++ e ∷ []) (K ++ f ∷ [])
alike_more H K e f a m n = alike_ind (λ H K. Alike (H ++ e ∷ []) (K ++ f ∷ [])) (m, n, tt) (λ x y H K i j h. (i, j, h)) H K a

pub run_alike : (H K : List Element) → Alike H K → (s : State) → run_from s H ≡ run_from s K
run_alike H K a =
    alike_ind (λ H K. (s : State) → run_from s H ≡ run_from s K) (λ s. refl)
    (λ e f H K m n i s. ap (λ (x : Mark). run_from (after s x) H) m ∙ i (after s f.mark)) H K a

pub done_alike : (H K : List Element) → Alike H K → (s : State) → done_from s H ≡ done_from s K
done_alike H K a =
    alike_ind (λ H K. (s : State) → done_from s H ≡ done_from s K) (λ s. refl)
    (λ e f H K m n i s. ap (λ (x : Mark). done_by s x ++ done_from (after s x) H) m ∙ ap (λ (es : List Entry). done_by s f.mark ++ es) (i (after s f.mark))) H K a

due_one : (c n : ℕ) (e f : Element) → e.mark ≡ f.mark → fed e.note ≡ fed f.note → due_after c n e ≡ due_after c n f
due_one c n e f m same = λ i. if puts_in c (m i) then same i else n + length (feeds_of c (entries_of (m i)))

pub due_alike : (H K : List Element) → Alike H K → (c n : ℕ) → due_from c n H ≡ due_from c n K
due_alike H K a =
    alike_ind (λ H K. (c n : ℕ) → due_from c n H ≡ due_from c n K) (λ c n. refl)
    (λ e f H K m same i c n. ap (λ (k : ℕ). due_from c k H) (due_one c n e f m same) ∙ i c (due_after c n f)) H K a

pub left_alike : (H K : List Element) → Alike H K → (c : ℕ) → times_left c H ≡ times_left c K
left_alike H K a =
    alike_ind (λ H K. (c : ℕ) → times_left c H ≡ times_left c K) (λ c. refl)
    (λ e f H K m same h c. λ i. (if takes_out c (m i) then 1 else 0) + h c i) H K a

feeds_alike : (H K : List Element) → Alike H K → (p : ℕ) → feeds_by p H ≡ feeds_by p K
feeds_alike H K a =
    alike_ind (λ H K. (p : ℕ) → feeds_by p H ≡ feeds_by p K) (λ c. refl)
    (λ e f H K m same h p. λ i. (if pass_of (m i) == p then feed_count (entries_of (m i)) else 0) + h p i) H K a

asks_alike : (H K : List Element) → Alike H K → (p : ℕ) → asks_by p H ≡ asks_by p K
asks_alike H K a =
    alike_ind (λ H K. (p : ℕ) → asks_by p H ≡ asks_by p K) (λ c. refl)
    (λ e f H K m same h p. λ i. (if pass_of (m i) == p then ask_count (entries_of (m i)) else 0) + h p i) H K a

-- an act fits by how often a block left
acts_same : (S : Setting) (H K : List Element) → ((c : ℕ) → times_left c H ≡ times_left c K) → (s : State) (m : Mark) → ActsFit S H s m → ActsFit S K s m
acts_same S H K left s (On.Leave p rest (Done.Out c)) h = (h.0, h.1, subst (λ (n : ℕ). n < slice_index S.limits.leaves c) (left c) h.2, h.3)
acts_same S H K left s (On.Leave p rest (Done.In c)) h = h
acts_same S H K left s (On.Leave p rest (Done.Call c j k)) h = h
acts_same S H K left s (On.Leave p rest Done.Away) h = h
acts_same S H K left s (On.Leave p rest Done.None) h = h
acts_same S H K left s (On.Fill p es) h = h
acts_same S H K left s (On.Fast p e) h = h
acts_same S H K left s (On.Claim p es) h = h
acts_same S H K left s (On.Take p) h = h
acts_same S H K left s (On.Ask p) h = h
acts_same S H K left s (On.Grant p j rest) h = h
acts_same S H K left s (On.Accept j) h = h
acts_same S H K left s (On.Work p) h = h
acts_same S H K left s (On.Close p) h = h

at_both : (P : State → Mark → Type 0) (s t : State) (m n : Mark) → s ≡ t → m ≡ n → P s m → P t n
at_both P s t m n r e h = subst (λ (x : State). P x n) r (subst (P s) e h)

pub may_alike : (S : Setting) (H K : List Element) (e f : Element) → Alike H K → e.mark ≡ f.mark → fed e.note ≡ fed f.note → NoteFits f.mark f.note → May S H e → May S K f
may_alike S H K e f a m n note may =
    let r : run S H ≡ run S K = run_alike H K a (start S) in
    let d : due H ≡ due K = fun_ext (λ c. due_alike H K a c 0) in
    let more = alike_more H K e f a m n in
    let both : (P : State → Mark → Type 0) → P (run S H) e.mark → P (run S K) f.mark = λ P h. at_both P (run S H) (run S K) e.mark f.mark r m h in
    record {
      step = both (λ s x. Can (worker S) s x) may.step;
      range = subst (InRange S) m may.range;
      worker_only = subst (WorkerOnly (worker S)) m may.worker_only;
      idle = both (λ s x. IdleFirst s x) may.idle;
      kind = subst RightKind m may.kind;
      enters = subst (λ (next : ℕ → ℕ). Enters S (run S K) (pass_of f.mark) next (entries_of f.mark)) d (both (λ s x. Enters S s (pass_of x) (due H) (entries_of x)) may.enters);
      quota = record {
        feeds = subst (λ (k : ℕ). k ≤ feed_quota S (pass_of f.mark)) (feeds_alike (H ++ e ∷ []) (K ++ f ∷ []) more (pass_of f.mark))
            (subst (λ (x : Mark). feeds_by (pass_of x) (H ++ e ∷ []) ≤ feed_quota S (pass_of x)) m may.quota.feeds);
        asks = subst (λ (k : ℕ). k ≤ ask_quota S (pass_of f.mark)) (asks_alike (H ++ e ∷ []) (K ++ f ∷ []) more (pass_of f.mark))
            (subst (λ (x : Mark). asks_by (pass_of x) (H ++ e ∷ []) ≤ ask_quota S (pass_of x)) m may.quota.asks);
      };
      asks_last = both (λ s x. AsksLast s x) may.asks_last;
      at_its_ask = both (λ s x. AtItsAsk s x) may.at_its_ask;
      act = acts_same S H K (left_alike H K a) (run S K) f.mark (both (λ s x. ActsFit S H s x) may.act);
      progress = both (λ s x. Progress s x) may.progress;
      note = note;
    }

legal_from_alike : (S : Setting) (past last H K : List Element) → Alike past last → Alike H K → NotesFit K → LegalFrom S past H → LegalFrom S last K
legal_from_alike S past last [] [] before a notes l = tt
legal_from_alike S past last [] (f ∷ K) before a notes l = absurd a
legal_from_alike S past last (e ∷ H) [] before a notes l = absurd a
legal_from_alike S past last (e ∷ H) (f ∷ K) before a notes l = (
  may_alike S past last e f before a.0 a.1 notes.0 l.0,
  legal_from_alike S (past ++ e ∷ []) (last ++ f ∷ []) H K (alike_more past last e f before a.0 a.1) a.2 notes.1 l.1,
)

pub legal_alike : (S : Setting) (H K : List Element) → Alike H K → NotesFit K → Legal S H → Legal S K
legal_alike S H K a notes l = legal_from_alike S [] [] H K tt a notes l

notes_fit_from : (S : Setting) (past H : List Element) → LegalFrom S past H → NotesFit H
notes_fit_from S past [] l = tt
notes_fit_from S past (e ∷ H) l = (l.0.note, notes_fit_from S (past ++ e ∷ []) H l.1)

pub notes_fit : (S : Setting) (H : List Element) → Legal S H → NotesFit H
notes_fit S H l = notes_fit_from S [] H l

-- the pace of a ring
taken_after_same : (S : Setting) (past last : List Element) (o : Option ℕ) (m : Mark) → done S past ≡ done S last → taken_after S past o m ≡ taken_after S last o m
taken_after_same S past last o (On.Fast p e) d = ap (λ (es : List Entry). Some (feed_count es)) d
taken_after_same S past last o (On.Claim p es) d = ap (λ (xs : List Entry). if all_feeds es then Some (feed_count xs) else None) d
taken_after_same S past last o (On.Take p) d = refl
taken_after_same S past last o (On.Leave p rest act) d = refl
taken_after_same S past last o (On.Fill p es) d = refl
taken_after_same S past last o (On.Ask p) d = refl
taken_after_same S past last o (On.Grant p j rest) d = refl
taken_after_same S past last o (On.Accept j) d = refl
taken_after_same S past last o (On.Work p) d = refl
taken_after_same S past last o (On.Close p) d = refl

taken_from_alike : (S : Setting) (r : ℕ) (past last H K : List Element) (o : Option ℕ) → Alike past last → Alike H K → taken_from S r past o H ≡ taken_from S r last o K
taken_from_alike S r past last [] [] o before a = refl
taken_from_alike S r past last [] (f ∷ K) o before a = absurd a
taken_from_alike S r past last (e ∷ H) [] o before a = absurd a
taken_from_alike S r past last (e ∷ H) (f ∷ K) o before a =
    let by_mark : (if pass_of e.mark == r then taken_after S past o e.mark else o) ≡ (if pass_of f.mark == r then taken_after S past o f.mark else o) =
    ap (λ (m : Mark). if pass_of m == r then taken_after S past o m else o) a.0 in
    let by_past : (if pass_of f.mark == r then taken_after S past o f.mark else o) ≡ (if pass_of f.mark == r then taken_after S last o f.mark else o) =
    ap (λ (t : Option ℕ). if pass_of f.mark == r then t else o) (taken_after_same S past last o f.mark (done_alike past last before (start S))) in
    taken_from_alike S r (past ++ e ∷ []) (last ++ f ∷ []) H K (if pass_of e.mark == r then taken_after S past o e.mark else o) (alike_more past last e f before a.0 a.1) a.2
    ∙ ap (λ (t : Option ℕ). taken_from S r (last ++ f ∷ []) t K) (by_mark ∙ by_past)

pub taken_alike : (S : Setting) (r : ℕ) (H K : List Element) → Alike H K → taken S r H ≡ taken S r K
taken_alike S r H K a = taken_from_alike S r [] [] H K None tt a

module _ (squeues spread : ℕ) (mode : Mode) (budget q : ℕ) (S : Setting) (r : ℕ) where
  keeps_alike : (past last : List Element) (e f : Element) → Alike past last → e.mark ≡ f.mark → fed e.note ≡ fed f.note
      → Keeps squeues spread mode budget q S r past e → Keeps squeues spread mode budget q S r last f
  keeps_alike past last e f a m n k =
      let more = alike_more past last e f a m n in
      let was : run S past ≡ run S last = run_alike past last a (start S) in
      let is : run S (past ++ e ∷ []) ≡ run S (last ++ f ∷ []) = run_alike (past ++ e ∷ []) (last ++ f ∷ []) more (start S) in
      let had : taken S r past ≡ taken S r last = taken_alike S r past last a in
      let did : done S (past ++ e ∷ []) ≡ done S (last ++ f ∷ []) = done_alike (past ++ e ∷ []) (last ++ f ∷ []) more (start S) in
      record {
        home = subst (λ (x : Mark). AreHome squeues spread q (entries_of x)) m k.home;
        fill = λ x. subst (λ (m : Mark). (is_fast m ≡ false) × (claims_feeds m ≡ false)) m (k.fill x);
        no_claim = λ x. subst (λ (m : Mark). claims_feeds m ≡ false) m (k.no_claim x);
        busy = λ x y. subst (λ (s : State). s.own ≢ Free) was (k.busy x (subst (λ (m : Mark). fills m ≡ true) (sym m) y));
        busy_or_behind = λ x y. subst (λ (s : State). (s.own ≢ Free) ⊎ (s.chain ≢ [])) was (k.busy_or_behind x (subst (λ (m : Mark). fills_one m ≡ true) (sym m) y));
        leaves_next = λ x y. subst (λ (m : Mark). leaves_it m ≡ true) m (k.leaves_next x (λ none. y (sym had ∙ none)));
        few = λ x. subst (λ (es : List Entry). IfSome (taken S r last) (λ n. feed_count es ≤ n + budget)) did
            (subst (λ (o : Option ℕ). IfSome o (λ n. feed_count (done S (past ++ e ∷ [])) ≤ n + budget)) had (k.few (subst (λ (m : Mark). gives_it_up m ≡ true) (sym m) x)));
        full = λ x y z. subst (λ (es : List Entry). IfSome (taken S r last) (λ n. feed_count es ≡ n + budget)) did
            (subst (λ (o : Option ℕ). IfSome o (λ n. feed_count (done S (past ++ e ∷ [])) ≡ n + budget)) had
            (k.full x (subst (λ (m : Mark). leaves_it m ≡ true) (sym m) y) (subst (λ (s : State). s.chain ≢ []) (sym is) z)));
      }

  keeps_from_alike : (past last H K : List Element) → Alike past last → Alike H K → KeepsFrom squeues spread mode budget q S r past H → KeepsFrom squeues spread mode budget q S r last K
  keeps_from_alike past last [] [] before a k = tt
  keeps_from_alike past last [] (f ∷ K) before a k = absurd a
  keeps_from_alike past last (e ∷ H) [] before a k = absurd a
  keeps_from_alike past last (e ∷ H) (f ∷ K) before a k = (
    λ own. keeps_alike past last e f before a.0 a.1 (k.0 (ap pass_of a.0 ∙ own)),
    keeps_from_alike (past ++ e ∷ []) (last ++ f ∷ []) H K (alike_more past last e f before a.0 a.1) a.2 k.1,
  )

  pub pace_alike : (H K : List Element) → Alike H K → KeepsPace squeues spread mode budget q S r H → KeepsPace squeues spread mode budget q S r K
  pace_alike H K a k = keeps_from_alike [] [] H K tt a k
