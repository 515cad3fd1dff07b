use Rattle.std.proofs.Common.{◌≡◌, ℕ, ◌+◌, ◌<◌, ◌++◌, Bool, true, false, List, [], ◌∷◌, suc, zero, slice_get, IfSome, append_assoc, length, drop, ap, refl, sym, subst, ◌∙◌, arith}
use Rattle.conn_classifier.specs.declared.kinds.Item.{Item}
use Rattle.conn_classifier.specs.declared.kinds.Item.TheVariants.{Time, Segment}
use Rattle.conn_classifier.specs.Plan.{PlanOf, items_in, records_of, IsSpaced}
use Rattle.conn_classifier.specs.RingList.{feeds, is_time, to_segment}
use Rattle.conn_classifier.proofs.planned.Plan.bring.Goals as goal

-- behind a time item with segments to come there is one
next_one : (at : ℕ) (rest : List Item) → IsSpaced (Time at ∷ rest) → 0 < length (records_of rest) → to_segment rest ≡ 1
next_one at [] s h = absurd (let no : ⊥ = omega arith in no)
next_one at (Time time ∷ rest) s h = absurd s
next_one at (Segment time rec iss seg ∷ rest) s h = refl

-- a segment comes alone
one : (xs : List Item) (n : ℕ) (b : Bool) → IfSome (slice_get xs n) (λ item. b ≡ is_time item) → b ≡ false → IsSpaced (drop n xs) → to_segment (drop n xs) ≡ 1
one [] zero b is off spaced = absurd spaced
one [] (suc n) b is off spaced = absurd spaced
one (x ∷ xs) (suc n) b is off spaced = one xs n b is off spaced
one (Segment at rec iss seg ∷ xs) zero b is off spaced = refl
one (Time at ∷ xs) zero b is off spaced = absurd (let no : ⊥ = cc in no)

-- behind the time item stands the segment
two : (xs : List Item) (n : ℕ) (b : Bool) → IfSome (slice_get xs n) (λ item. b ≡ is_time item) → b ≡ true → IsSpaced (drop n xs)
    → 0 < length (records_of (drop n xs)) → to_segment (drop n xs) ≡ 2
two [] zero b is on spaced some = absurd spaced
two [] (suc n) b is on spaced some = absurd spaced
two (x ∷ xs) (suc n) b is on spaced some = two xs n b is on spaced some
two (Segment at rec iss seg ∷ xs) zero b is on spaced some = absurd (let no : ⊥ = cc in no)
two (Time at ∷ xs) zero b is on spaced some = ap suc (next_one at xs spaced some)

pub returns-then-not-is_time-clause-next : goal.returns-then-not-is_time-clause-next
returns-then-not-is_time-clause-next c =
    let is = subst (λ (p : PlanOf). IfSome (slice_get (items_in p c.args.c) c.args.n) (λ item. c.is_time.result ≡ is_time item)) c.view.ensures c.is_time.ensures in
    ap (λ k. c.args.n + k) (sym (one (items_in c.args.self.now c.args.c) c.args.n c.is_time.result is c.if-not-is_time.true c.requires.spaced))

pub returns-then-not-is_time-clause-list : goal.returns-then-not-is_time-clause-list
returns-then-not-is_time-clause-list c =
    let is = subst (λ (p : PlanOf). IfSome (slice_get (items_in p c.args.c) c.args.n) (λ item. c.is_time.result ≡ is_time item)) c.view.ensures c.is_time.ensures in
    c.in_ok-push.ensures.items ∙ ap (λ k. c.args.list.now.items ++ feeds c.args.c c.args.n k)
    (sym (one (items_in c.args.self.now c.args.c) c.args.n c.is_time.result is c.if-not-is_time.true c.requires.spaced))

pub returns-clause-next : goal.returns-clause-next
returns-clause-next c =
    let is = subst (λ (p : PlanOf). IfSome (slice_get (items_in p c.args.c) c.args.n) (λ item. c.is_time.result ≡ is_time item)) c.view.ensures c.is_time.ensures in
    ap (λ k. c.args.n + k) (sym (two (items_in c.args.self.now c.args.c) c.args.n c.is_time.result is c.if-not-is_time.false c.requires.spaced c.requires.segment))

pub returns-clause-list : goal.returns-clause-list
returns-clause-list c =
    let is = subst (λ (p : PlanOf). IfSome (slice_get (items_in p c.args.c) c.args.n) (λ item. c.is_time.result ≡ is_time item)) c.view.ensures c.is_time.ensures in
    c.in_ok-push-2.ensures.items ∙ ap (λ l. l ++ record { c = c.args.c; n = c.args.n + 1 } ∷ []) c.in_ok-push.ensures.items
    ∙ append_assoc c.args.list.now.items (record { c = c.args.c; n = c.args.n } ∷ []) (record { c = c.args.c; n = c.args.n + 1 } ∷ [])
    ∙ ap (λ k. c.args.list.now.items ++ feeds c.args.c c.args.n k)
    (sym (two (items_in c.args.self.now c.args.c) c.args.n c.is_time.result is c.if-not-is_time.false c.requires.spaced c.requires.segment))
