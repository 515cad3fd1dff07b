-- One more element at the end of a history, and an induction over legal histories.
use Rattle.std.proofs.Common.{◌≡◌, ℕ, List, [], ◌∷◌, ◌++◌, refl, ap, sym, ◌∙◌, subst, append_assoc}
use Rattle.std.proofs.lemmas.List.{append-nil}
use Rattle.perimeter_core.specs.Perimeter.{State, after}
use Rattle.perimeter_core.specs.History.{Element, Setting, run_from}
use Rattle.perimeter_core.specs.Deeds.{entries_of, done_by, entered, done_from, due_after, due_from}
use Rattle.perimeter_core.specs.Legal.{May, LegalFrom, Legal}

pub run_push : (s : State) (H : List Element) (e : Element) → run_from s (H ++ e ∷ []) ≡ after (run_from s H) e.mark
run_push s [] e = refl
run_push s (x ∷ H) e = run_push (after s x.mark) H e

pub entered_push : (H : List Element) (e : Element) → entered (H ++ e ∷ []) ≡ entered H ++ entries_of e.mark
entered_push [] e = append-nil (entries_of e.mark)
entered_push (x ∷ H) e =
    ap (λ xs. entries_of x.mark ++ xs) (entered_push H e) ∙ sym (append_assoc (entries_of x.mark) (entered H) (entries_of e.mark))

pub done_push : (s : State) (H : List Element) (e : Element) → done_from s (H ++ e ∷ []) ≡ done_from s H ++ done_by (run_from s H) e.mark
done_push s [] e = append-nil (done_by s e.mark)
done_push s (x ∷ H) e =
    ap (λ xs. done_by s x.mark ++ xs) (done_push (after s x.mark) H e)
    ∙ sym (append_assoc (done_by s x.mark) (done_from (after s x.mark) H) (done_by (run_from (after s x.mark) H) e.mark))

pub due_push : (c n : ℕ) (H : List Element) (e : Element) → due_from c n (H ++ e ∷ []) ≡ due_after c (due_from c n H) e
due_push c n [] e = refl
due_push c n (x ∷ H) e = due_push c (due_after c n x) H e

pub legal_from_more : (S : Setting) (past H : List Element) (e : Element) → LegalFrom S past H → May S (past ++ H) e → LegalFrom S past (H ++ e ∷ [])
legal_from_more S past [] e l m = (subst (λ (G : List Element). May S G e) (append-nil past) m, tt)
legal_from_more S past (x ∷ H) e l m =
    (l.0, legal_from_more S (past ++ x ∷ []) H e l.1 (subst (λ (G : List Element). May S G e) (sym (append_assoc past (x ∷ []) H)) m))

-- a legal history goes on by each element that may follow
pub legal_more : (S : Setting) (H : List Element) (e : Element) → Legal S H → May S H e → Legal S (H ++ e ∷ [])
legal_more S H e l m = legal_from_more S [] H e l m

pub legal_from_front : (S : Setting) (past H K : List Element) → LegalFrom S past (H ++ K) → LegalFrom S past H
legal_from_front S past [] K l = tt
legal_from_front S past (x ∷ H) K l = (l.0, legal_from_front S (past ++ x ∷ []) H K l.1)

pub legal_from_back : (S : Setting) (past H K : List Element) → LegalFrom S past (H ++ K) → LegalFrom S (past ++ H) K
legal_from_back S past [] K l = subst (λ (G : List Element). LegalFrom S G K) (sym (append-nil past)) l
legal_from_back S past (x ∷ H) K l =
    subst (λ (G : List Element). LegalFrom S G K) (append_assoc past (x ∷ []) H) (legal_from_back S (past ++ x ∷ []) H K l.1)

-- each beginning of a legal history is legal
pub legal_front : (S : Setting) (H K : List Element) → Legal S (H ++ K) → Legal S H
legal_front S H K l = legal_from_front S [] H K l

-- and what comes next may follow it
pub legal_next : (S : Setting) (H K : List Element) (e : Element) → Legal S (H ++ e ∷ K) → May S H e
legal_next S H K e l = (legal_from_back S [] H (e ∷ K) l).0

-- what holds of the empty history, and is kept by each element that may follow, holds of each legal history
module _ (S : Setting) (P : List Element → Type 0) (none : P []) (more : (H : List Element) (e : Element) → Legal S H → P H → May S H e → P (H ++ e ∷ [])) where
  ind_from : (past rest : List Element) → Legal S past → P past → LegalFrom S past rest → P (past ++ rest)
  ind_from past [] l p h = subst P (sym (append-nil past)) p
  ind_from past (e ∷ rest) l p h =
      subst P (append_assoc past (e ∷ []) rest) (ind_from (past ++ e ∷ []) rest (legal_more S past e l h.0) (more past e l p h.0) h.1)

  pub legal_ind : (H : List Element) → Legal S H → P H
  legal_ind H l = ind_from [] H tt none l
