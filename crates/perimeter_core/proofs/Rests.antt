-- While a pass is owner or granted, the marks of others leave what the resident stands for.
use Rattle.std.proofs.Common.{◌≡◌, ◌≢◌, ℕ, inl, inr, List, [], ◌∷◌, ◌++◌, refl, ap, sym, ◌∙◌, subst, append_assoc}
use Rattle.std.proofs.lemmas.List.{append-nil}
use Rattle.perimeter_core.specs.declared.marks.SynchAct.TheVariants as Done
use Rattle.perimeter_core.specs.declared.marks.Mark.{Mark}
use Rattle.perimeter_core.specs.declared.marks.Mark.TheVariants as On
use Rattle.perimeter_core.specs.Perimeter.{State, Can}
use Rattle.perimeter_core.specs.History.{Element, Setting, worker, run, pass_of, made_by}
use Rattle.perimeter_core.specs.Deeds.{done_by}
use Rattle.perimeter_core.specs.Legal.{May, Legal}
use Rattle.perimeter_core.specs.Blocks.{peri, act_of}
use Rattle.perimeter_core.specs.Knowledge.{HasIt}
use Rattle.perimeter_core.proofs.OneMore.{legal_front, legal_next}
use Rattle.perimeter_core.proofs.BlocksFollow.{peri_push}
use Rattle.perimeter_core.proofs.FeedActs.{with_none}
use Rattle.perimeter_core.proofs.PassKept.{pass_kept}
use Rattle.perimeter_core.proofs.Since.{none_made}

-- such a mark reports nothing
silent : (w : ℕ) (s : State) (m : Mark) (p : ℕ) → Can w s m → pass_of m ≢ p → HasIt s p → (done_by s m ≡ []) × (act_of m ≡ Done.None)
silent w s (On.Fill q es) p can ne o = (refl, refl)
silent w s (On.Ask q) p can ne o = (refl, refl)
silent w s (On.Close q) p can ne o = (refl, refl)
silent w s (On.Fast q e) p can ne o = (refl, refl)
silent w s (On.Claim q es) p can ne o = (refl, refl)
silent w s (On.Accept j) p can ne o = (refl, refl)
silent w s (On.Work q) p can ne o = (refl, refl)
silent w s (On.Take q) p can ne o = elim o [ inl h ↦ absurd (ne (cc (can.0, h))) | inr h ↦ absurd (cc (can.0, h)) ]
silent w s (On.Leave q rest act) p can ne o = elim o [ inl h ↦ absurd (ne (cc (can.0, h))) | inr h ↦ absurd (cc (can.0, h)) ]
silent w s (On.Grant q j rest) p can ne o = elim o [ inl h ↦ absurd (ne (cc (can.0, h))) | inr h ↦ absurd (cc (can.0, h)) ]

pub rests : (S : Setting) (H : List Element) (e : Element) (p : ℕ) → May S H e → pass_of e.mark ≢ p → HasIt (run S H) p → peri S (H ++ e ∷ []) ≡ peri S H
rests S H e p m ne o =
    let q = silent (worker S) (run S H) e.mark p m.step ne o in
    peri_push S H e m ∙ (rw (q.0, q.1) (with_none (peri S H)))

still : (S : Setting) (H : List Element) (e : Element) (p : ℕ) → Legal S H → May S H e → pass_of e.mark ≢ p → HasIt (run S H) p → HasIt (run S (H ++ e ∷ [])) p
still S H e p l m ne o = let k = pass_kept S H e p l m ne in elim o [ inl h ↦ inl ((k.owner h).0) | inr h ↦ inr ((k.granted h).0) ]

pub rests_since : (S : Setting) (H K : List Element) (p : ℕ) → Legal S (H ++ K) → made_by p K ≡ [] → HasIt (run S H) p → peri S (H ++ K) ≡ peri S H
rests_since S H [] p l h o = rw append-nil refl
rests_since S H (e ∷ K) p l h o =
    let n = none_made p e K h in
    let whole : (H ++ e ∷ []) ++ K ≡ H ++ (e ∷ K) = append_assoc H (e ∷ []) K in
    let l' : Legal S ((H ++ e ∷ []) ++ K) = subst (λ (G : List Element). Legal S G) (sym whole) l in
    let m = legal_next S H K e l in
    let f = legal_front S H (e ∷ K) l in
    let r = rests_since S (H ++ e ∷ []) K p l' n.1 (still S H e p f m n.0 o) in
    (ap (λ (G : List Element). peri S G) (sym whole) ∙ r) ∙ rests S H e p m n.0 o
