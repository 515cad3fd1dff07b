-- A pass that is idle may close, whatever others did since it last looked.
use Rattle.std.proofs.Common.{◌≡◌, ◌==◌, ◌<◌, if◌then◌else◌, ℕ, Bool, true, false, List, [], ◌∷◌, ◌++◌, length, ap, sym, ◌∙◌, subst, refl, arith}
use Rattle.turn_gate.specs.History.{Begins, only}
use Rattle.perimeter_core.specs.Perimeter.{Idle}
use Rattle.perimeter_core.specs.History.{Element, Setting, run}
use Rattle.perimeter_core.specs.Legal.{Legal, May, feeds_by, asks_by}
use Rattle.perimeter_core.proofs.Since.{known_since}
use Rattle.perimeter_core.proofs.Quotas.{within}
use Rattle.histories.specs.Elements.{number_of, closed_by}
use Rattle.squeue_state.proofs.Makers.{others_made}

nothing : (b : Bool) (x : ℕ) → (if b then x else x) ≡ x
nothing true x = refl
nothing false x = refl

feeds_closed : (p q : ℕ) (H : List Element) → feeds_by p (H ++ closed_by q ∷ []) ≡ feeds_by p H
feeds_closed p q [] = omega (arith, nothing (q == p) 0)
feeds_closed p q (e ∷ H) = omega (arith, feeds_closed p q H)

asks_closed : (p q : ℕ) (H : List Element) → asks_by p (H ++ closed_by q ∷ []) ≡ asks_by p H
asks_closed p q [] = omega (arith, nothing (q == p) 0)
asks_closed p q (e ∷ H) = omega (arith, asks_closed p q H)

may_close : (S : Setting) (H : List Element) (p : ℕ) → Legal S H → Idle (run S H) p → p < length S.quotas → May S H (closed_by p)
may_close S H p l idle small =
    let q = within S p H l in
    record {
      step = idle;
      range = (omega (arith, small), tt);
      worker_only = λ same. absurd (omega (arith, small, same));
      idle = idle;
      kind = tt;
      enters = tt;
      quota = record { feeds = omega (arith, feeds_closed p p H, q.feeds); asks = omega (arith, asks_closed p p H, q.asks) };
      asks_last = tt;
      at_its_ask = tt;
      act = tt;
      progress = tt;
      note = refl;
    }

-- by what the pass has seen, and what its turn then found
pub still_may_close : (S : Setting) (seen found mine made : List Element) (p n : ℕ) → only number_of p seen ≡ mine → Idle (run S seen) p → p < length S.quotas → n ≡ p → made ≡ mine → Begins seen found → Legal S found → only number_of n found ≡ made → May S found (closed_by n)
still_may_close S seen found mine made p n own idle small is same (rest, goes_on) legal now =
    let l : Legal S (seen ++ rest) = subst (Legal S) goes_on legal in
    let all : only number_of p (seen ++ rest) ≡ mine = ap (only number_of p) (sym goes_on) ∙ (subst (λ (k : ℕ). only number_of k found ≡ made) is now ∙ same) in
    let none = others_made p seen rest mine own all in
    let kept : Idle (run S (seen ++ rest)) p = (known_since S seen rest p l none).idle idle in
    let may : May S (seen ++ rest) (closed_by p) = may_close S (seen ++ rest) p l kept small in
    subst (λ (k : ℕ). May S found (closed_by k)) (sym is) (subst (λ (H : List Element). May S H (closed_by p)) (sym goes_on) may)
