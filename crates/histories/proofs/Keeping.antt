-- Whether a ring has taken the perimeter with feeds, over the parts of a history.
use Rattle.std.proofs.Common.{◌≡◌, ℕ, ◌==◌, if◌then◌else◌, Option, List, [], ◌∷◌, ◌++◌, ap, sym, ◌∙◌, append_assoc}
use Rattle.std.proofs.lemmas.List.{append-nil}
use Rattle.perimeter_core.specs.History.{Element, Setting, pass_of}
use Rattle.histories.specs.Keeping.{taken_after, taken_from}

module _ (S : Setting) (r : ℕ) where
  -- whether the ring has taken the perimeter with feeds, over two parts
  pub taken_join : (past : List Element) (o : Option ℕ) (H K : List Element) → taken_from S r past o (H ++ K) ≡ taken_from S r (past ++ H) (taken_from S r past o H) K
  taken_join past o [] K = ap (λ (P : List Element). taken_from S r P o K) (sym (append-nil past))
  taken_join past o (e ∷ H) K =
      let next : Option ℕ = if pass_of e.mark == r then taken_after S past o e.mark else o in
      taken_join (past ++ e ∷ []) next H K ∙ ap (λ (P : List Element). taken_from S r P (taken_from S r (past ++ e ∷ []) next H) K) (append_assoc past (e ∷ []) H)
