-- The stays of a block are known to its ring, and all that is reported of the block is done in one of them.
use Rattle.std.proofs.Common.{◌≡◌, ◌≢◌, ℕ, ◌%◌, ◌==◌, Bool, true, false, if◌then◌else◌, Option, Some, None, is_some, List, [], ◌∷◌, ◌++◌, refl, ap, sym, ◌∙◌, subst, append_assoc, arith}
use Rattle.std.proofs.lemmas.List.{append-nil}
use Rattle.std.proofs.lemmas.Bool.Decides.{nat_tests}
use Rattle.perimeter_core.specs.declared.entries.Act.{Act}
use Rattle.perimeter_core.specs.Perimeter.{State, after, is_here}
use Rattle.perimeter_core.specs.History.{Element, Setting, start, run, run_from, pass_of, made_by}
use Rattle.perimeter_core.specs.Deeds.{acts, acts_after, reported, puts_in, takes_out}
use Rattle.perimeter_core.specs.Legal.{May, LegalFrom, Legal}
use Rattle.perimeter_core.proofs.OneMore.{legal_ind, legal_from_back}
use Rattle.perimeter_core.proofs.OthersMarks.{puts_other}
use Rattle.perimeter_core.proofs.FeedOrder.{puts_away}
use Rattle.perimeter_core.proofs.OwnersReport.{none_reported}
use Rattle.histories.specs.Stays.{Stay, Stays, as_list, all_in, begun, longer_by, stays, reports_from, reports, done_in, note_of, AreSameStays}
use Rattle.histories.proofs.OneSqueue.{stays_push, fits}

-- the stays before anything happened
abbrev pub at_first : Setting → ℕ → Stays
at_first S c = record { ended = []; now = if is_here (start S) c then Some (begun []) else None }

pub note_longer : (more had : List Act) (o : Option Stay) → note_of (longer_by more had o) ≡ note_of o
note_longer more had None = refl
note_longer more had (Some v) = refl

-- an element of another pass neither begins nor ends a stay
same_after : (S : Setting) (H : List Element) (e : Element) (c : ℕ) → May S H e → pass_of e.mark ≢ c % S.rings → AreSameStays (stays S H c) (stays S (H ++ e ∷ []) c)
same_after S H e c m other =
    let v : Stays = stays S H c in
    let moves = puts_other S H (run S H) e.mark c m.act other in
    let step : stays S (H ++ e ∷ []) c ≡ record { ended = v.ended; now = longer_by (reported c (run S H) e.mark) (acts_after c (run S H) (acts S H c) e) v.now }
    = stays_push c (start S) [] (at_first S c) H e ∙ rw (moves.0, moves.1) refl in
    record {
      ended = ap (λ (w : Stays). w.ended) step;
      note = ap (λ (w : Stays). note_of w.now) step ∙ note_longer (reported c (run S H) e.mark) (acts_after c (run S H) (acts S H c) e) v.now;
    }

same_from : (S : Setting) (past K : List Element) (c : ℕ) → LegalFrom S past K → made_by (c % S.rings) K ≡ [] → AreSameStays (stays S past c) (stays S (past ++ K) c)
same_from S past [] c l none = rw append-nil (record { ended = refl; note = refl })
same_from S past (e ∷ K) c l none =
    at (pass_of e.mark == c % S.rings) refl none (λ other nobody.
    let first = same_after S past e c l.0 other in
    let rest = same_from S (past ++ e ∷ []) K c l.1 nobody in
    subst (λ (G : List Element). AreSameStays (stays S past c) (stays S G c)) (append_assoc past (e ∷ []) K)
    (record { ended = rest.ended ∙ first.ended; note = rest.note ∙ first.note }))
  where
    at : (b : Bool) → (pass_of e.mark == c % S.rings) ≡ b → (if b then e ∷ made_by (c % S.rings) K else made_by (c % S.rings) K) ≡ []
        → (pass_of e.mark ≢ c % S.rings → made_by (c % S.rings) K ≡ [] → AreSameStays (stays S past c) (stays S (past ++ e ∷ K) c))
        → AreSameStays (stays S past c) (stays S (past ++ e ∷ K) c)
    at true is nil go = absurd (let bad : ⊥ = cc in bad)
    at false is nil go = go (λ same. let bad : ⊥ = grind (arith, nat_tests, is, same) in bad) nil

pub same_stays : (S : Setting) (H K : List Element) (c : ℕ) → Legal S (H ++ K) → made_by (c % S.rings) K ≡ [] → AreSameStays (stays S H c) (stays S (H ++ K) c)
same_stays S H K c l none = same_from S H K c (legal_from_back S [] H K l) none

pub reports_push : (c : ℕ) (s : State) (H : List Element) (e : Element) → reports_from c s (H ++ e ∷ []) ≡ reports_from c s H ++ reported c (run_from s H) e.mark
reports_push c s [] e = append-nil (reported c s e.mark)
reports_push c s (x ∷ H) e =
    ap (λ (had : List Act). reported c s x.mark ++ had) (reports_push c (after s x.mark) H e)
    ∙ sym (append_assoc (reported c s x.mark) (reports_from c (after s x.mark) H) (reported c (run_from (after s x.mark) H) e.mark))

done_both : (vs ws : List Stay) → done_in (vs ++ ws) ≡ done_in vs ++ done_in ws
done_both [] ws = refl
done_both (v ∷ vs) ws = ap (λ (had : List Act). v.own ++ had) (done_both vs ws) ∙ sym (append_assoc v.own (done_in vs) (done_in ws))

-- what is reported is done in the stay that goes on, and nothing is where none does
done_longer : (vs : List Stay) (more had : List Act) (o : Option Stay) → (is_some o ≡ false → more ≡ []) → done_in (vs ++ as_list (longer_by more had o)) ≡ done_in (vs ++ as_list o) ++ more
done_longer vs more had None none = rw (none refl) (sym (append-nil (done_in (vs ++ []))))
done_longer vs more had (Some v) none =
    done_both vs (record { note = v.note; own = v.own ++ more; had = had } ∷ [])
    ∙ (ap (λ (l : List Act). done_in vs ++ l) (append-nil (v.own ++ more) ∙ ap (λ (l : List Act). l ++ more) (sym (append-nil v.own)))
    ∙ (sym (append_assoc (done_in vs) (v.own ++ []) more) ∙ ap (λ (l : List Act). l ++ more) (sym (done_both vs (v ∷ [])))))

done_begun : (vs : List Stay) (note more : List Act) → more ≡ [] → done_in (vs ++ begun note ∷ []) ≡ done_in vs ++ more
done_begun vs note more none = done_both vs (begun note ∷ []) ∙ ap (λ (l : List Act). done_in vs ++ l) (sym none)

done_after : (a b : Bool) (more had note : List Act) (v : Stays) → (a ≡ true → more ≡ []) → (is_some v.now ≡ false → more ≡ [])
    → done_in (all_in (if a then record { ended = all_in v; now = Some (begun note) }
    else if b then record { ended = v.ended ++ as_list (longer_by more had v.now); now = None }
    else record { ended = v.ended; now = longer_by more had v.now })) ≡ done_in (all_in v) ++ more
done_after true b more had note v comes away = done_begun (all_in v) note more (comes refl)
done_after false true more had note v comes away = ap done_in (append-nil (v.ended ++ as_list (longer_by more had v.now))) ∙ done_longer v.ended more had v.now away
done_after false false more had note v comes away = done_longer v.ended more had v.now away

done_first : (b : Bool) → [] ≡ done_in (as_list (if b then Some (begun []) else None))
done_first true = refl
done_first false = refl

pub reports_are_done : (S : Setting) (H : List Element) (c : ℕ) → Legal S H → reports S H c ≡ done_in (all_in (stays S H c))
reports_are_done S H c l =
    legal_ind S (λ (G : List Element). reports S G c ≡ done_in (all_in (stays S G c))) (done_first (is_here (start S) c))
    (λ G e k i m.
    let s : State = run S G in
    let here = (fits S c G k).is_now in
    let nothing = none_reported S G e c k m in
    rw (reports_push c (start S) G e, stays_push c (start S) [] (at_first S c) G e)
    (ap (λ (l : List Act). l ++ reported c s e.mark) i
    ∙ sym (done_after (puts_in c e.mark) (takes_out c e.mark) (reported c s e.mark) (acts_after c s (acts S G c) e) e.note (stays S G c)
    (λ comes. nothing (puts_away S G s e.mark c m.act comes).0) (λ none. nothing (here ∙ none)))))
    H l
