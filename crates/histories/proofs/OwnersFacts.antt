-- What holds of an owner.
use Rattle.std.proofs.Common.{◌≡◌, ℕ, ◌+◌, ◌<◌, List, [], ◌∷◌, ◌++◌, refl, ap, sym, ◌∙◌, subst, append_assoc, arith}
use Rattle.perimeter_core.specs.declared.entries.Entry.{Entry}
use Rattle.perimeter_core.specs.declared.marks.Own.{Own}
use Rattle.perimeter_core.specs.declared.marks.Own.TheVariants.{Free, Out, Granted}
use Rattle.perimeter_core.specs.declared.marks.Mark.{Mark}
use Rattle.perimeter_core.specs.declared.marks.Mark.TheVariants as On
use Rattle.perimeter_core.specs.Perimeter.{State, after}
use Rattle.perimeter_core.specs.History.{Element, Setting, passes, start, run, made_by}
use Rattle.perimeter_core.specs.Deeds.{entered, entries_of, done, done_by}
use Rattle.perimeter_core.specs.Legal.{Legal, InRange, feed_count}
use Rattle.perimeter_core.proofs.OneMore.{run_push, done_push, legal_ind, legal_front}
use Rattle.perimeter_core.proofs.OrderAndWake.{order}
use Rattle.perimeter_core.proofs.Quotas.{feed_count-append}
use Rattle.perimeter_core.proofs.Since.{known_since}

-- who has the perimeter is one of the passes
abbrev Below : Setting → Own → Type 0
Below S Free = Unit {0}
Below S (Out p) = p < passes S
Below S (Granted p) = p < passes S

below_after : (S : Setting) (s : State) (m : Mark) → InRange S m → Below S s.own → Below S (after s m).own
below_after S s (On.Fill p es) r b = b
below_after S s (On.Fast p e) r b = r.0
below_after S s (On.Claim p es) r b = r.0
below_after S s (On.Take p) r b = b
below_after S s (On.Leave p rest act) r b = tt
below_after S s (On.Ask p) r b = b
below_after S s (On.Grant p j rest) r b = r.1
below_after S s (On.Accept j) r b = r.0
below_after S s (On.Work p) r b = r.0
below_after S s (On.Close p) r b = b

below : (S : Setting) (H : List Element) → Legal S H → Below S (run S H).own
below S H l =
    legal_ind S (λ (G : List Element). Below S (run S G).own) tt
    (λ G e k i m. rw (run_push (start S) G e) (below_after S (run S G) e.mark m.range i)) H l

pub owner_below : (S : Setting) (H : List Element) (p : ℕ) → Legal S H → (run S H).own ≡ Out p → p < passes S
owner_below S H p l o = subst (λ (w : Own). Below S w) o (below S H l)

pub entered-append : (H K : List Element) → entered (H ++ K) ≡ entered H ++ entered K
entered-append [] K = refl
entered-append (e ∷ H) K = ap (λ (xs : List Entry). entries_of e.mark ++ xs) (entered-append H K) ∙ sym (append_assoc (entries_of e.mark) (entered H) (entered K))

-- each feed that was entered is processed, in the hand or in the chain
counted : (S : Setting) (H : List Element) → Legal S H → feed_count (entered H) ≡ feed_count (done S H) + (feed_count (run S H).hand + feed_count (run S H).chain)
counted S H l =
    ap feed_count (order S H l)
    ∙ (feed_count-append (done S H) ((run S H).hand ++ (run S H).chain)
    ∙ ap (λ (n : ℕ). feed_count (done S H) + n) (feed_count-append (run S H).hand (run S H).chain))

-- while a pass is owner, nothing is processed but what its own marks say
pub done_still : (S : Setting) (H K : List Element) (p : ℕ) → Legal S (H ++ K) → made_by p K ≡ [] → (run S H).own ≡ Out p → feed_count (done S (H ++ K)) ≡ feed_count (done S H)
done_still S H K p l others o =
    let k = (known_since S H K p l others).owner o in
    let e = ap feed_count (entered-append H K) ∙ feed_count-append (entered H) (entered K) in
    let hand = ap (λ (xs : List Entry). feed_count xs) k.1 in
    let chain = ap (λ (xs : List Entry). feed_count xs) k.2 ∙ feed_count-append (run S H).chain (entered K) in
    omega (arith, e, hand, chain, counted S (H ++ K) l, counted S H (legal_front S H K l))

pub done_more : (S : Setting) (H : List Element) (e : Element) → feed_count (done S (H ++ e ∷ [])) ≡ feed_count (done S H) + feed_count (done_by (run S H) e.mark)
done_more S H e = ap feed_count (done_push (start S) H e) ∙ feed_count-append (done S H) (done_by (run S H) e.mark)
