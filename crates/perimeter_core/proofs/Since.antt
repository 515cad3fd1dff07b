-- What a pass knows of itself over many elements of other passes.
use Rattle.std.proofs.Common.{◌≡◌, ◌≢◌, ℕ, Bool, true, false, if◌then◌else◌, ◌==◌, inl, inr, List, [], ◌∷◌, ◌++◌, refl, ap, sym, ◌∙◌, subst, append_assoc, arith}
use Rattle.std.proofs.lemmas.List.{append-nil}
use Rattle.std.proofs.lemmas.Bool.Decides.{nat_tests}
use Rattle.perimeter_core.specs.declared.entries.Entry.{Entry}
use Rattle.perimeter_core.specs.Perimeter.{State}
use Rattle.perimeter_core.specs.History.{Element, Setting, run, pass_of, made_by}
use Rattle.perimeter_core.specs.Deeds.{entries_of, entered}
use Rattle.perimeter_core.specs.Legal.{Legal}
use Rattle.perimeter_core.specs.Knowledge.{PassKept, KnownSince}
use Rattle.perimeter_core.proofs.OneMore.{legal_front, legal_next}
use Rattle.perimeter_core.proofs.PassKept.{pass_kept}

-- the next element isn't the pass's, nor is any later one
pub none_made : (p : ℕ) (e : Element) (K : List Element) → made_by p (e ∷ K) ≡ [] → (pass_of e.mark ≢ p) × (made_by p K ≡ [])
none_made p e K h = go (pass_of e.mark == p) refl h
  where
    go : (b : Bool) → (pass_of e.mark == p) ≡ b → (if b then e ∷ made_by p K else made_by p K) ≡ [] → (pass_of e.mark ≢ p) × (made_by p K ≡ [])
    go true is h = absurd cc
    go false is h = (grind (arith, nat_tests), h)

queued : (s t u : State) (es fs : List Entry) → t.chain ≡ s.chain ++ es → u.chain ≡ t.chain ++ fs → u.chain ≡ s.chain ++ (es ++ fs)
queued s t u es fs a b = b ∙ (ap (λ xs. xs ++ fs) a ∙ append_assoc s.chain es fs)

known_join : (s t u : State) (e : Element) (K : List Element) (p : ℕ) → PassKept s t e p → KnownSince t u K p → KnownSince s u (e ∷ K) p
known_join s t u e K p a b =
    record {
      closed = b.closed ∙ a.closed;
      idle = λ i. b.idle (a.idle i);
      owner = λ o.
          let x = a.owner o in
          let y = b.owner x.0 in
          (y.0, y.1 ∙ x.1, queued s t u (entries_of e.mark) (entered K) x.2 y.2, y.3 ∙ x.3);
      granted = λ o.
          let x = a.granted o in
          let y = b.granted x.0 in
          (y.0, y.1 ∙ x.1, queued s t u (entries_of e.mark) (entered K) x.2 y.2, y.3 ∙ x.3);
      asked = λ h.
          elim (a.asked h) [ inl q ↦ b.asked q | inr g ↦ inr ((b.granted g).0) ];
    }

pub known_since : (S : Setting) (H K : List Element) (p : ℕ) → Legal S (H ++ K) → made_by p K ≡ [] → KnownSince (run S H) (run S (H ++ K)) K p
known_since S H [] p l h =
    rw append-nil
    (record {
      closed = refl;
      idle = λ i. i;
      owner = λ o. (o, refl, sym (append-nil (run S H).chain), refl);
      granted = λ o. (o, refl, sym (append-nil (run S H).chain), refl);
      asked = λ h. inl h;
    })
known_since S H (e ∷ K) p l h =
    let n = none_made p e K h in
    let whole : (H ++ e ∷ []) ++ K ≡ H ++ (e ∷ K) = append_assoc H (e ∷ []) K in
    let l' : Legal S ((H ++ e ∷ []) ++ K) = subst (λ (G : List Element). Legal S G) (sym whole) l in
    known_join (run S H) (run S (H ++ e ∷ [])) (run S (H ++ (e ∷ K))) e K p
    (pass_kept S H e p (legal_front S H (e ∷ K) l) (legal_next S H K e l) n.0)
    (subst (λ (G : List Element). KnownSince (run S (H ++ e ∷ [])) (run S G) K p) whole (known_since S (H ++ e ∷ []) K p l' n.1))
