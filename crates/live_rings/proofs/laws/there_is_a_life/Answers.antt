use Rattle.std.proofs.Common.{◌≡◌, ◌+◌, [], ◌∷◌, Bool, cond, ap, subst, sym}
use Rattle.live_server.proofs.TableLemmas.{tuple_equivalence}
use Rattle.live_chats.specs.Lived.{AreMadeOf, lives}
use Rattle.live_chats.proofs.LivedLemmas.{none_made, one_stay}
use Rattle.live_rings.specs.WorkedLife.{told}
use Rattle.live_rings.proofs.laws.there_is_a_life.Goals as goal

pub returns-clause-lived : goal.returns-clause-lived
returns-clause-lived c = λ t.
    let heard : 2 ∷ [] ≡ lives (told t) = ap (λ (b : Bool). (1 + cond b 1 0) ∷ []) (sym (tuple_equivalence.refl t)) in
    subst (AreMadeOf (2 ∷ [])) heard (one_stay [] [] [] 2 (none_made []))
