-- In a legal history as many stays of a connection have ended as it has Outs.
use Rattle.std.proofs.Common.{◌≡◌, ℕ, ◌+◌, Bool, true, false, if◌then◌else◌, Option, Some, None, is_some, List, [], ◌∷◌, ◌++◌, length, refl, sym, ◌∙◌, arith}
use Rattle.std.proofs.lemmas.List.{length-append}
use Rattle.perimeter_core.specs.declared.entries.Act.{Act}
use Rattle.perimeter_core.specs.Perimeter.{State, is_here}
use Rattle.perimeter_core.specs.History.{Element, Setting, start, run}
use Rattle.perimeter_core.specs.Deeds.{acts, acts_after, reported, puts_in, takes_out, times_left}
use Rattle.perimeter_core.specs.Legal.{Legal}
use Rattle.perimeter_core.proofs.OneMore.{legal_ind}
use Rattle.perimeter_core.proofs.FeedOrder.{puts_away}
use Rattle.perimeter_core.proofs.LeavesFew.{left_push}
use Rattle.histories.specs.Stays.{Stay, Stays, as_list, all_in, begun, longer_by, stays}
use Rattle.histories.proofs.OneSqueue.{stays_push, fits}
use Rattle.histories.proofs.StaysSeen.{takes_here}

one_longer : (vs : List Stay) (more had : List Act) (o : Option Stay) → is_some o ≡ true → length (vs ++ as_list (longer_by more had o)) ≡ length vs + 1
one_longer vs more had None h = absurd (let no : false ≡ true = h in let bad : ⊥ = cc in bad)
one_longer vs more had (Some v) h = length-append vs (record { note = v.note; own = v.own ++ more; had = had } ∷ []) ∙ omega arith

as_long : (vs : List Stay) (o : Option Stay) → is_some o ≡ false → length (vs ++ as_list o) ≡ length vs
as_long vs None h = length-append vs [] ∙ omega arith
as_long vs (Some v) h = absurd (let no : true ≡ false = h in let bad : ⊥ = cc in bad)

abbrev next : Bool → Bool → List Act → List Act → List Act → Stays → Stays
next a b more had note v =
    if a then record { ended = all_in v; now = Some (begun note) }
    else if b then record { ended = v.ended ++ as_list (longer_by more had v.now); now = None }
    else record { ended = v.ended; now = longer_by more had v.now }

counted : (a b : Bool) (more had note : List Act) (v : Stays) (n : ℕ) → length v.ended ≡ n → (a ≡ true → is_some v.now ≡ false) → (b ≡ true → (is_some v.now ≡ true) × (a ≡ false))
    → length (next a b more had note v).ended ≡ n + (if b then 1 else 0)
counted true true more had note v n e away here = let no : true ≡ false = (here refl).1 in absurd (let bad : ⊥ = cc in bad)
counted true false more had note v n e away here = omega (arith, as_long v.ended v.now (away refl), e)
counted false true more had note v n e away here = omega (arith, one_longer v.ended more had v.now (here refl).0, e)
counted false false more had note v n e away here = omega (arith, e)

pub ended_count : (S : Setting) (H : List Element) (c : ℕ) → Legal S H → length (stays S H c).ended ≡ times_left c H
ended_count S H c l =
    legal_ind S (λ (G : List Element). length (stays S G c).ended ≡ times_left c G) refl
    (λ G e k i m.
    let s : State = run S G in
    let here = (fits S c G k).is_now in
    rw (left_push c G e, stays_push c (start S) [] record { ended = []; now = if is_here (start S) c then Some (begun []) else None } G e)
    (counted (puts_in c e.mark) (takes_out c e.mark) (reported c s e.mark) (acts_after c s (acts S G c) e) e.note (stays S G c) (times_left c G) i
    (λ comes. sym here ∙ (puts_away S G s e.mark c m.act comes).0)
    (λ leaves. let out = takes_here S G s e.mark c m.act leaves in (sym here ∙ out.0, out.1))))
    H l
