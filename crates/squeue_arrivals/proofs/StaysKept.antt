-- Parts that were taken out, in a history that goes on.
use Rattle.std.proofs.Common.{◌≡◌, ℕ, ◌+◌, ◌≤◌, ◌==◌, Bool, true, false, if◌then◌else◌, List, [], ◌∷◌, ◌++◌, refl, ap, sym, ◌∙◌, subst, arith, append_assoc, append-nil}
use Rattle.std.proofs.lemmas.Bool.Decides.{nat_tests}
use Rattle.turn_gate.specs.History.{Begins, only}
use Rattle.turn_gate.specs.Passes.{number, seen}
use Rattle.turn_gate.specs.declared.pass.Pass.{Pass}
use Rattle.perimeter_core.specs.declared.marks.SynchAct.TheVariants as Done
use Rattle.perimeter_core.specs.Deeds.{acts, fed, takes_out, times_left}
use Rattle.perimeter_core.specs.History.{Element, Limits, Setting, made_by, pass_of}
use Rattle.squeue_state.specs.Naming.{Named, setting_of}
use Rattle.squeue_state.proofs.Makers.{others_made}
use Rattle.histories.specs.Elements.{left_by_pass, number_of}
use Rattle.histories.proofs.Counts.{left_append}
use Rattle.conn_migrate.specs.Moving.{Moved}
use Rattle.squeue_arrivals.specs.Stayed.{WasFed, fed_behind}

pub begins_on : (xs ys zs : List Element) → Begins xs ys → Begins ys zs → Begins xs zs
begins_on xs ys zs a b = (a.0 ++ b.0, b.1 ∙ (ap (λ (l : List Element). l ++ b.0) a.1 ∙ append_assoc xs a.0 b.0))

pub begins_itself : (xs : List Element) → Begins xs xs
begins_itself xs = ([], sym (append-nil xs))

-- a history that goes on has as many Outs as before, or more
pub left_more : (c : ℕ) (H J : List Element) → Begins H J → times_left c H ≤ times_left c J
left_more c H J grows = let n = ap (times_left c) grows.1 in omega (arith, n, left_append c H grows.0)

module _ (S : Setting) (p c : ℕ) where
  fed_append : (past H J : List Element) → fed_behind S p c past (H ++ J) ≡ fed_behind S p c past H + fed_behind S p c (past ++ H) J
  fed_append past [] J = let e = ap (λ (l : List Element). fed_behind S p c l J) (append-nil past) in omega (arith, e)
  fed_append past (e ∷ H) J =
      let same : fed_behind S p c ((past ++ e ∷ []) ++ H) J ≡ fed_behind S p c (past ++ e ∷ H) J = ap (λ (l : List Element). fed_behind S p c l J) (append_assoc past (e ∷ []) H) in
      let more = fed_append (past ++ e ∷ []) H J in
      omega (arith, more, same)

  -- where nobody takes the part out, or the pass makes nothing, it ends no stay
  none_out : (past H : List Element) → times_left c H ≡ 0 → fed_behind S p c past H ≡ 0
  none_out past [] none = refl
  none_out past (e ∷ H) none = by (takes_out c e.mark) (none_out (past ++ e ∷ []) H) none
    where
      by : (b : Bool) → (times_left c H ≡ 0 → fed_behind S p c (past ++ e ∷ []) H ≡ 0) → (if b then 1 else 0) + times_left c H ≡ 0
          → (if b then (if pass_of e.mark == p then fed (acts S (past ++ e ∷ []) c) else 0) else 0) + fed_behind S p c (past ++ e ∷ []) H ≡ 0
      by true go h = absurd (omega (arith, h))
      by false go h = let r = go (omega (arith, h)) in omega (arith, r)

  none_made : (past H : List Element) → made_by p H ≡ [] → fed_behind S p c past H ≡ 0
  none_made past [] none = refl
  none_made past (e ∷ H) none = by (takes_out c e.mark) (pass_of e.mark == p) (none_made (past ++ e ∷ []) H) none
    where
      by : (a b : Bool) → (made_by p H ≡ [] → fed_behind S p c (past ++ e ∷ []) H ≡ 0) → (if b then e ∷ made_by p H else made_by p H) ≡ []
          → (if a then (if b then fed (acts S (past ++ e ∷ []) c) else 0) else 0) + fed_behind S p c (past ++ e ∷ []) H ≡ 0
      by a true go h = absurd (cc h)
      by true false go h = let r = go h in omega (arith, r)
      by false false go h = let r = go h in omega (arith, r)

  fed_grown : (n : ℕ) (H J : List Element) (grows : Begins H J) → fed_behind S p c H grows.0 ≡ 0 → WasFed S p c n H → WasFed S p c n J
  fed_grown n H J grows none has =
      let more : fed_behind S p c [] (H ++ grows.0) ≡ fed_behind S p c [] H + fed_behind S p c H grows.0 = fed_append [] H grows.0 in
      let all : fed_behind S p c [] (H ++ grows.0) ≡ n = omega (arith, more, none, has) in
      ap (fed_behind S p c []) grows.1 ∙ all

  -- where the history goes on with nothing of the pass
  pub fed_others : (n : ℕ) (H J : List Element) → Begins H J → only number_of p J ≡ only number_of p H → WasFed S p c n H → WasFed S p c n J
  fed_others n H J grows same has =
      fed_grown n H J grows (none_made H grows.0 (others_made p H grows.0 (only number_of p H) refl (ap (only number_of p) (sym grows.1) ∙ same))) has

-- where the part was taken out no more
pub fed_on : (S : Setting) (p q c n m : ℕ) (H J : List Element) → Begins H J → q ≡ p → m ≡ n → times_left c J ≤ times_left c H → WasFed S p c n H → WasFed S q c m J
fed_on S p q c n m H J grows same many few has =
    let all = ap (times_left c) grows.1 in
    let none : times_left c grows.0 ≡ 0 = omega (arith, few, all, left_append c H grows.0) in
    subst (λ (r : ℕ). WasFed S r c m J) (sym same) (fed_grown S p c n H J grows (none_out S p c H grows.0 none) has ∙ sym many)

-- a part that was never taken out had nothing
pub none_fed : (S : Setting) (p c n : ℕ) (H : List Element) → times_left c H ≡ 0 → n ≡ 0 → WasFed S p c n H
none_fed S p c n H none zero = none_out S p c [] H none ∙ sym zero

-- the pass took a part out once, and nobody else did
pub fed_more : {R : Type 0} (limits : R → Limits) (s : Named R) (c n more all : ℕ) (p q : Pass Element) → WasFed (setting_of limits s.given) (number p) c n (seen p) → Moved limits s (Done.Out c) [] p q
    → fed (acts (setting_of limits s.given) (seen q) c) ≡ more → all ≡ n + more → number q ≡ number p → times_left c (seen q) ≤ times_left c (seen p) + 1
    → WasFed (setting_of limits s.given) (number q) c all (seen q) × (times_left c (seen p) + 1 ≤ times_left c (seen q))
fed_more limits s c n more all p q was moved feeds sums same few =
    let S : Setting = setting_of limits s.given in
    let found : List Element = moved.left.found in
    let e : Element = left_by_pass (number p) 0 (Done.Out c) [] in
    let now : seen q ≡ found ++ e ∷ [] = moved.left.now_seen in
    let grows : Begins (seen p) found = begins_on (seen p) (seen moved.owner) found moved.came.goes_on.grows moved.left.goes_on in
    let own : (c == c) ≡ true = grind (arith, nat_tests) in
    let its : (number p == number p) ≡ true = grind (arith, nat_tests) in
    let once : times_left c (e ∷ []) ≡ 1 = ap (λ (b : Bool). (if b then 1 else 0) + 0) own in
    let count : times_left c (seen q) ≡ times_left c found + 1 = let n = ap (times_left c) now in omega (arith, n, left_append c found (e ∷ []), once) in
    let before : WasFed S (number p) c n found = fed_on S (number p) (number p) c n n (seen p) found grows refl refl (omega (arith, few, count)) was in
    let last : fed_behind S (number p) c found (e ∷ []) ≡ fed (acts S (found ++ e ∷ []) c) =
    ap (λ (b : Bool). (if b then (if number p == number p then fed (acts S (found ++ e ∷ []) c) else 0) else 0) + 0) own
    ∙ (ap (λ (b : Bool). (if b then fed (acts S (found ++ e ∷ []) c) else 0) + 0) its ∙ (let z : fed (acts S (found ++ e ∷ []) c) + 0 ≡ fed (acts S (found ++ e ∷ []) c) = omega arith in z)) in
    let had : fed (acts S (found ++ e ∷ []) c) ≡ more = subst (λ (H : List Element). fed (acts S H c) ≡ more) now feeds in
    let joined : fed_behind S (number p) c [] (found ++ e ∷ []) ≡ fed_behind S (number p) c [] found + fed_behind S (number p) c found (e ∷ []) = fed_append S (number p) c [] found (e ∷ []) in
    let whole : WasFed S (number p) c all (found ++ e ∷ []) = omega (arith, joined, before, last, had, sums) in
    let le = left_more c (seen p) found grows in
    (subst (λ (r : ℕ). WasFed S r c all (seen q)) (sym same) (subst (WasFed S (number p) c all) (sym now) whole), omega (arith, le, count))
