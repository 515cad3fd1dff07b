-- What a walk over the served segments brings is the front of a ring's list.
use Rattle.std.proofs.Common.{◌≡◌, ℕ, ◌+◌, ◌-◌, ◌<◌, ◌≤◌, ◌%◌, ◌==◌, Bool, true, false, List, [], ◌∷◌, ◌++◌, suc, zero, length, map, drop, filter, get_or, set, replicate, Some, slice_get, refl, sym, ap, subst, ◌∙◌, arith, eq-eqb, length-drop, append_assoc, append-nil, if◌then◌else◌}
use Rattle.std.specs.List.{AllByRecursion, range_with_len}
use Rattle.std.proofs.lemmas.Bool.{eqb-true, eqb-false}
use Rattle.std.proofs.lemmas.List.{get_or-set_same, get_or-set_other, get_or-replicate, length-set, length-replicate, map-append, drop_more}
use Rattle.std.proofs.lemmas.List.Elements.{filter-append}
use Rattle.perimeter_core.specs.declared.entries.Feed.{Feed}
use Rattle.conn_classifier.specs.declared.kinds.Item.{Item}
use Rattle.conn_classifier.specs.declared.kinds.Item.TheVariants.{Time, Segment}
use Rattle.conn_classifier.specs.Plan.{PlanOf, IsPlan, IsSpaced, Climbs, records_of, items_in}
use Rattle.conn_classifier.specs.RingList.{feeds, first_record, to_segment, record_of, last_feeds, IsFront}
use Rattle.conn_classifier.proofs.PlanFacts.{items_at, no_below}

-- lists
drop_plus : {X : Type 0} (n m : ℕ) (xs : List X) → drop (n + m) xs ≡ drop m (drop n xs)
drop_plus zero m xs = let e : 0 + m ≡ m = omega arith in ap (λ k. drop k xs) e
drop_plus {X = X} (suc n) m [] = let e : suc n + m ≡ suc (n + m) = omega arith in ap (λ k. drop {A = X} k []) e ∙ none m
  where
    none : (m : ℕ) → ◌≡◌ {A = List X} [] (drop m [])
    none zero = refl
    none (suc m) = refl
drop_plus (suc n) m (x ∷ xs) = let e : suc n + m ≡ suc (n + m) = omega arith in ap (λ k. drop k (x ∷ xs)) e ∙ drop_plus n m xs

pub drop_at : {X : Type 0} (xs : List X) (n : ℕ) (x : X) → slice_get xs n ≡ Some x → drop n xs ≡ x ∷ drop (n + 1) xs
drop_at [] n x e = absurd (let no : ⊥ = cc in no)
drop_at (y ∷ ys) zero x e = let same : y ≡ x = cc in ap (λ z. z ∷ ys) same
drop_at (y ∷ ys) (suc n) x e =
    let on : suc n + 1 ≡ suc (n + 1) = omega arith in
    drop_at ys n x e ∙ sym (ap (λ m. x ∷ drop m (y ∷ ys)) on)

pub below_length : {X : Type 0} (xs : List X) (n : ℕ) (y : X) (ys : List X) → drop n xs ≡ y ∷ ys → n < length xs
below_length xs n y ys e = omega (arith, ap length e, length-drop n xs)

pub any_default : (xs : List ℕ) (i d e : ℕ) → i < length xs → get_or xs i d ≡ get_or xs i e
any_default [] i d e lt = absurd (let no : ⊥ = omega arith in no)
any_default (x ∷ xs) zero d e lt = refl
any_default (x ∷ xs) (suc i) d e lt = let less : i < length xs = omega (arith, lt) in any_default xs i d e less

-- feeds
feeds_add : (c n i j : ℕ) → feeds c n i ++ feeds c (n + i) j ≡ feeds c n (i + j)
feeds_add c n zero j =
    let a : n + 0 ≡ n = omega arith in
    let b : 0 + j ≡ j = omega arith in
    ap (λ m. feeds c m j) a ∙ sym (ap (feeds c n) b)
feeds_add c n (suc i) j =
    let a : n + suc i ≡ (n + 1) + i = omega arith in
    let b : suc i + j ≡ suc (i + j) = omega arith in
    ap (λ m. record { c = c; n = n } ∷ (feeds c (n + 1) i ++ feeds c m j)) a
    ∙ ap (λ l. record { c = c; n = n } ∷ l) (feeds_add c (n + 1) i j)
    ∙ sym (ap (feeds c n) b)

filter_same : (c n k : ℕ) → filter (λ (f : Feed). f.c == c) (feeds c n k) ≡ feeds c n k
filter_same c n zero = refl
filter_same c n (suc k) = let e : (c == c) ≡ true = eq-eqb c c refl in rw e (ap (λ l. record { c = c; n = n } ∷ l) (filter_same c (n + 1) k))

filter_other : (c d n k : ℕ) → (d == c) ≡ false → filter (λ (f : Feed). f.c == c) (feeds d n k) ≡ []
filter_other c d n zero e = refl
filter_other c d n (suc k) e = rw e (filter_other c d (n + 1) k e)

only_feeds : (P : ℕ → Type 0) (c n k : ℕ) (fs : List Feed) → P c → AllByRecursion (λ (f : Feed). P f.c) fs → AllByRecursion (λ (f : Feed). P f.c) (feeds c n k ++ fs)
only_feeds P c n zero fs h all = all
only_feeds P c n (suc k) fs h all = (h, only_feeds P c (n + 1) k fs h all)

climbs_from : (a b : ℕ) (xs : List ℕ) → a ≤ b → Climbs b xs → Climbs a xs
climbs_from a b [] le h = tt
climbs_from a b (x ∷ xs) le h = (omega (arith, le, h.0), h.1)

-- the items up to and with the next segment, and what is behind
pub record NextSegment (xs : List Item) (rec : ℕ) (recs : List ℕ) : Type 0 where
  pub spaced : IsSpaced (drop (to_segment xs) xs)
  pub records : records_of (drop (to_segment xs) xs) ≡ recs
  pub same : (m : ℕ) → m < to_segment xs → first_record (drop m xs) ≡ rec
  pub within : to_segment xs < length xs

spaced_some : (xs : List Item) → IsSpaced xs → 0 < length xs
spaced_some [] h = absurd h
spaced_some (x ∷ xs) h = omega arith

next_segment : (xs : List Item) (rec : ℕ) (recs : List ℕ) → IsSpaced xs → records_of xs ≡ rec ∷ recs → NextSegment xs rec recs
next_segment [] rec recs s e = absurd s
next_segment (Segment at here iss seg ∷ xs) rec recs s e = record {
  spaced = s;
  records = (cc);
  same = one;
  within = omega (arith, spaced_some xs s);
}
  where
    one : (m : ℕ) → m < 1 → first_record (drop m (Segment at here iss seg ∷ xs)) ≡ rec
    one zero lt = (cc)
    one (suc m) lt = no_below {n = m} (omega (arith, lt))
next_segment (Time at ∷ []) rec recs s e = absurd (let no : ⊥ = cc in no)
next_segment (Time at ∷ (Time time ∷ xs)) rec recs s e = absurd s
next_segment (Time at ∷ (Segment time here iss seg ∷ xs)) rec recs s e = record {
  spaced = s;
  records = (cc);
  same = two;
  within = omega (arith, spaced_some xs s);
}
  where
    two : (m : ℕ) → m < 2 → first_record (drop m (Time at ∷ (Segment time here iss seg ∷ xs))) ≡ rec
    two zero lt = (cc)
    two (suc zero) lt = (cc)
    two (suc (suc m)) lt = no_below {n = m} (omega (arith, lt))

one_left : (xs : List Item) → IsSpaced xs → records_of xs ≡ [] → length xs ≡ 1
one_left [] s e = absurd s
one_left (Segment at rec iss seg ∷ xs) s e = absurd (let no : ⊥ = cc in no)
one_left (Time at ∷ []) s e = refl
one_left (Time at ∷ (Time time ∷ xs)) s e = absurd s
one_left (Time at ∷ (Segment time rec iss seg ∷ xs)) s e = absurd (let no : ⊥ = cc in no)

module _ (p : PlanOf) (rings r : ℕ) where
  abbrev pub behind : ℕ → ℕ → ℕ
  behind c n = n + to_segment (drop n (items_in p c))

  -- the feeds that the connections' segments bring, where this is the number of each connection's next item
  abbrev pub walk : List ℕ → List ℕ → List Feed
  walk [] next = []
  walk (c ∷ cs) next =
      if c % rings == r then feeds c (get_or next c 0) (to_segment (drop (get_or next c 0) (items_in p c))) ++ walk cs (set next c (behind c (get_or next c 0))) else walk cs next

  -- what is left of each connection's items stands for what is left of the places
  pub record Left (qs : List (ℕ × ℕ)) (next : List ℕ) : Type 0 where
    pub long : length next ≡ length p.tuples
    pub spaced : (c : ℕ) → c < length p.tuples → IsSpaced (drop (get_or next c 0) (items_in p c))
    pub records : (c : ℕ) → c < length p.tuples → (c % rings == r) ≡ true → records_of (drop (get_or next c 0) (items_in p c)) ≡ map (λ q. q.1) (filter (λ q. q.0 == c) qs)

  skip : (q : ℕ × ℕ) (qs : List (ℕ × ℕ)) (next : List ℕ) → (q.0 % rings == r) ≡ false → Left (q ∷ qs) next → Left qs next
  skip q qs next off left = record { long = left.long; spaced = left.spaced; records = λ c lt on. by c lt on (q.0 == c) refl }
    where
      by : (c : ℕ) → c < length p.tuples → (c % rings == r) ≡ true → (b : Bool) → (q.0 == c) ≡ b
          → records_of (drop (get_or next c 0) (items_in p c)) ≡ map (λ q. q.1) (filter (λ q. q.0 == c) qs)
      by c lt on true e = absurd (let same : (q.0 % rings == r) ≡ (c % rings == r) = ap (λ n. n % rings == r) (eqb-true _ _ e) in let no : ⊥ = cc in no)
      by c lt on false e = rw e at (left.records c lt on)

  module _ (q : ℕ × ℕ) (qs : List (ℕ × ℕ)) (next : List ℕ) (left : Left (q ∷ qs) next) (lt : q.0 < length p.tuples) (on : (q.0 % rings == r) ≡ true) where
    next_here : NextSegment (drop (get_or next q.0 0) (items_in p q.0)) q.1 (map (λ q. q.1) (filter (λ a. a.0 == q.0) qs))
    next_here =
        let self : (q.0 == q.0) ≡ true = eq-eqb q.0 q.0 refl in
        let recs = rw self at (left.records q.0 lt on) in
        next_segment _ _ _ (left.spaced q.0 lt) recs

    abbrev moved : List ℕ
    moved = set next q.0 (behind q.0 (get_or next q.0 0))

    moved_same : get_or moved q.0 0 ≡ behind q.0 (get_or next q.0 0)
    moved_same = let less : q.0 < length next = omega (arith, lt, left.long) in get_or-set_same next q.0 _ 0 less

    moved_other : (c : ℕ) → (q.0 == c) ≡ false → get_or moved c 0 ≡ get_or next c 0
    moved_other c e = get_or-set_other next q.0 c _ 0 (λ same. eqb-false _ _ e (sym same))

    rest_here : drop (get_or moved q.0 0) (items_in p q.0) ≡ drop (to_segment (drop (get_or next q.0 0) (items_in p q.0))) (drop (get_or next q.0 0) (items_in p q.0))
    rest_here = ap (λ n. drop n (items_in p q.0)) moved_same ∙ drop_plus (get_or next q.0 0) _ (items_in p q.0)

    go : Left qs moved
    go = record { long = length-set next q.0 _ ∙ left.long; spaced = λ c less. spaced_at c less (q.0 == c) refl; records = λ c less ring. records_at c less ring (q.0 == c) refl }
      where
        spaced_at : (c : ℕ) → c < length p.tuples → (b : Bool) → (q.0 == c) ≡ b → IsSpaced (drop (get_or moved c 0) (items_in p c))
        spaced_at c less true e =
            subst (λ c. IsSpaced (drop (get_or moved c 0) (items_in p c))) (eqb-true _ _ e) (subst IsSpaced (sym rest_here) next_here.spaced)
        spaced_at c less false e = subst (λ n. IsSpaced (drop n (items_in p c))) (sym (moved_other c e)) (left.spaced c less)

        records_at : (c : ℕ) → c < length p.tuples → (c % rings == r) ≡ true → (b : Bool) → (q.0 == c) ≡ b
            → records_of (drop (get_or moved c 0) (items_in p c)) ≡ map (λ q. q.1) (filter (λ q. q.0 == c) qs)
        records_at c less ring true e =
            subst (λ c. records_of (drop (get_or moved c 0) (items_in p c)) ≡ map (λ (q : ℕ × ℕ). q.1) (filter (λ (q : ℕ × ℕ). q.0 == c) qs)) (eqb-true _ _ e)
            (ap records_of rest_here ∙ next_here.records)
        records_at c less ring false e =
            ap (λ n. records_of (drop n (items_in p c))) (moved_other c e) ∙ (rw e at (left.records c less ring))

  climbs_over : (c n k b rec : ℕ) (fs : List Feed) → b ≤ rec → ((m : ℕ) → m < k → record_of p (record { c = c; n = n + m }) ≡ rec)
      → Climbs rec (map (record_of p) fs) → Climbs b (map (record_of p) (feeds c n k ++ fs))
  climbs_over c n zero b rec fs le same h = climbs_from b rec _ le h
  climbs_over c n (suc k) b rec fs le same h =
      let a : n + 0 ≡ n = omega arith in
      let none : 0 < suc k = omega arith in
      let here : record_of p (record { c = c; n = n }) ≡ rec = ap (λ m. record_of p (record { c = c; n = m })) (sym a) ∙ same 0 none in (
        omega (arith, le, here),
        climbs_over c (n + 1) k _ rec fs (omega (arith, here))
            (λ m lt. let e : (n + 1) + m ≡ n + suc m = omega arith in let less : suc m < suc k = omega (arith, lt) in ap (λ j. record_of p (record { c = c; n = j })) e ∙ same (suc m) less) h,
      )

  pub record Walks (least : ℕ) (next : List ℕ) (front : List Feed) : Type 0 where
    pub each : (c : ℕ) → c < length p.tuples → filter (λ f. f.c == c) front ≡ (if c % rings == r then feeds c (get_or next c 0) (length (items_in p c) - 1 - get_or next c 0) else [])
    pub only : AllByRecursion (λ (f : Feed). f.c < length p.tuples) front
    pub rising : Climbs least (map (record_of p) front)

  walks_none : (next : List ℕ) (least : ℕ) → Left [] next → Walks least next []
  walks_none next least left = record { each = λ c lt. by c lt (c % rings == r) refl; only = tt; rising = tt }
    where
      by : (c : ℕ) → c < length p.tuples → (b : Bool) → (c % rings == r) ≡ b → [] ≡ (if c % rings == r then feeds c (get_or next c 0) (length (items_in p c) - 1 - get_or next c 0) else [])
      by c lt true e =
          let one = one_left (drop (get_or next c 0) (items_in p c)) (left.spaced c lt) (left.records c lt e) in
          let none : 0 ≡ length (items_in p c) - 1 - get_or next c 0 = omega (arith, one, length-drop (get_or next c 0) (items_in p c)) in
          rw e (ap (feeds c (get_or next c 0)) none)
      by c lt false e = rw e refl

  walks_on : (q : ℕ × ℕ) (qs : List (ℕ × ℕ)) (next : List ℕ) (least : ℕ) (left : Left (q ∷ qs) next) (lt : q.0 < length p.tuples) (on : (q.0 % rings == r) ≡ true) → least ≤ q.1
      → (fs : List Feed) → Walks q.1 (moved q qs next left lt on) fs
      → Walks least next (feeds q.0 (get_or next q.0 0) (to_segment (drop (get_or next q.0 0) (items_in p q.0))) ++ fs)
  walks_on q qs next least left lt on le fs w = record {
    each = λ c less. by c less (q.0 == c) refl;
    only = only_feeds (λ c. c < length p.tuples) q.0 n k fs lt w.only;
    rising = climbs_over q.0 n k least q.1 fs le (λ m less. ap first_record (drop_plus n m (items_in p q.0)) ∙ here.same m less) w.rising;
  }
    where
      n : ℕ
      n = get_or next q.0 0

      k : ℕ
      k = to_segment (drop (get_or next q.0 0) (items_in p q.0))

      here : NextSegment (drop (get_or next q.0 0) (items_in p q.0)) q.1 (map (λ q. q.1) (filter (λ a. a.0 == q.0) qs))
      here = next_here q qs next left lt on

      whole : k + (length (items_in p q.0) - 1 - (n + k)) ≡ length (items_in p q.0) - 1 - n
      whole = omega (arith, here.within, length-drop n (items_in p q.0))

      Brings : ℕ → Type 0
      Brings c = filter (λ (f : Feed). f.c == c) (feeds q.0 (get_or next q.0 0) (to_segment (drop (get_or next q.0 0) (items_in p q.0))) ++ fs)
          ≡ (if c % rings == r then feeds c (get_or next c 0) (length (items_in p c) - 1 - get_or next c 0) else [])

      rest : filter (λ (f : Feed). f.c == q.0) fs ≡ feeds q.0 (n + k) (length (items_in p q.0) - 1 - (n + k))
      rest = (rw on at (w.each q.0 lt)) ∙ ap (λ m. feeds q.0 m (length (items_in p q.0) - 1 - m)) (moved_same q qs next left lt on)

      here_brings : Brings q.0
      here_brings = filter-append (λ (f : Feed). f.c == q.0) (feeds q.0 n k) fs
          ∙ (λ i. filter_same q.0 n k i ++ rest i) ∙ feeds_add q.0 n k _ ∙ ap (feeds q.0 n) whole ∙ sym (rw on refl)

      by : (c : ℕ) → c < length p.tuples → (b : Bool) → (q.0 == c) ≡ b → filter (λ (f : Feed). f.c == c) (feeds q.0 (get_or next q.0 0) (to_segment (drop (get_or next q.0 0) (items_in p q.0))) ++ fs)
          ≡ (if c % rings == r then feeds c (get_or next c 0) (length (items_in p c) - 1 - get_or next c 0) else [])
      by c less true e = subst Brings (eqb-true _ _ e) here_brings
      by c less false e = rw filter-append (rw (filter_other c q.0 n k e) (w.each c less ∙ ap (λ m. if c % rings == r then feeds c m (length (items_in p c) - 1 - m) else []) (moved_other q qs next left lt on c e)))

  pub walks : (qs : List (ℕ × ℕ)) (next : List ℕ) (least : ℕ) → Left qs next → AllByRecursion (λ (q : ℕ × ℕ). q.0 < length p.tuples) qs → Climbs least (map (λ q. q.1) qs)
      → Walks least next (walk (map (λ q. q.0) qs) next)
  walks [] next least left within rising = walks_none next least left
  walks (q ∷ qs) next least left within rising =
      by (q.0 % rings == r) refl (λ off. walks qs next q.1 (skip q qs next off left) within.1 rising.1)
      (λ on. walks qs (moved q qs next left within.0 on) q.1 (go q qs next left within.0 on) within.1 rising.1)
    where
      by : (b : Bool) → (q.0 % rings == r) ≡ b → ((q.0 % rings == r) ≡ false → Walks q.1 next (walk (map (λ q. q.0) qs) next))
          → ((on : (q.0 % rings == r) ≡ true) → Walks q.1 (moved q qs next left within.0 on) (walk (map (λ q. q.0) qs) (moved q qs next left within.0 on)))
          → Walks least next (walk (map (λ q. q.0) (q ∷ qs)) next)
      by true e off on = subst (Walks least next) (sym (rw e refl)) (walks_on q qs next least left within.0 e rising.0 _ (on e))
      by false e off on =
          let w = off e in
          subst (Walks least next) (sym (rw e refl)) (record { each = w.each; only = w.only; rising = climbs_from least q.1 _ rising.0 w.rising })

  -- the rest of the order, and what is left for it
  pub record Going (cs next : List ℕ) : Type 0 where
    pub places : List (ℕ × ℕ)
    pub is : map (λ q. q.0) places ≡ cs
    pub within : AllByRecursion (λ (q : ℕ × ℕ). q.0 < length p.tuples) places
    pub left : Left places next

  module _ (c : ℕ) (cs next : List ℕ) (going : Going (c ∷ cs) next) where
    pub conn_here : c < length p.tuples
    conn_here = by going.places going.is going.within
      where
        by : (qs : List (ℕ × ℕ)) → map (λ q. q.0) qs ≡ c ∷ cs → AllByRecursion (λ (q : ℕ × ℕ). q.0 < length p.tuples) qs → c < length p.tuples
        by [] e w = absurd (let no : ⊥ = cc in no)
        by (q ∷ qs) e w = let same : q.0 ≡ c = cc in omega (arith, same, w.0)

    pub spaced_here : IsSpaced (drop (get_or next c 0) (items_in p c))
    spaced_here = going.left.spaced c conn_here

    pub some_here : (c % rings == r) ≡ true → 0 < length (records_of (drop (get_or next c 0) (items_in p c)))
    some_here on = by going.places going.is going.left
      where
        by : (qs : List (ℕ × ℕ)) → map (λ q. q.0) qs ≡ c ∷ cs → Left qs next → 0 < length (records_of (drop (get_or next c 0) (items_in p c)))
        by [] e left = absurd (let no : ⊥ = cc in no)
        by (q ∷ qs) e left =
            let same : q.0 ≡ c = cc in
            let self = eq-eqb q.0 c same in
            let recs = rw self at (left.records c conn_here on) in
            omega (arith, ap length recs)

    pub skips : (c % rings == r) ≡ false → Going cs next
    skips off = by going.places going.is going.within going.left
      where
        by : (qs : List (ℕ × ℕ)) → map (λ q. q.0) qs ≡ c ∷ cs → AllByRecursion (λ (q : ℕ × ℕ). q.0 < length p.tuples) qs → Left qs next → Going cs next
        by [] e w left = absurd (let no : ⊥ = cc in no)
        by (q ∷ qs) e w left =
            let same : q.0 ≡ c = cc in
            let more : map (λ (q : ℕ × ℕ). q.0) qs ≡ cs = cc in
            record { places = qs; is = more; within = w.1; left = skip q qs next (ap (λ m. m % rings == r) same ∙ off) left }

    pub goes : (c % rings == r) ≡ true → Going cs (set next c (behind c (get_or next c 0)))
    goes on = by going.places going.is going.within going.left
      where
        by : (qs : List (ℕ × ℕ)) → map (λ q. q.0) qs ≡ c ∷ cs → AllByRecursion (λ (q : ℕ × ℕ). q.0 < length p.tuples) qs → Left qs next
            → Going cs (set next c (behind c (get_or next c 0)))
        by [] e w left = absurd (let no : ⊥ = cc in no)
        by (q ∷ qs) e w left =
            let same : q.0 ≡ c = cc in
            let more : map (λ (q : ℕ × ℕ). q.0) qs ≡ cs = cc in
            let after = go q qs next left w.0 (ap (λ m. m % rings == r) same ∙ on) in
            record { places = qs; is = more; within = w.1; left = subst (λ m. Left qs (set next m (behind m (get_or next m 0)))) same after }

    module _ (list new whole : List Feed) (so_far : list ++ walk (c ∷ cs) next ≡ whole) where
      pub brings : (c % rings == r) ≡ true → new ≡ list ++ feeds c (get_or next c 0) (to_segment (drop (get_or next c 0) (items_in p c)))
          → new ++ walk cs (set next c (behind c (get_or next c 0))) ≡ whole
      brings on e =
          ap (λ l. l ++ walk cs (set next c (behind c (get_or next c 0)))) e
          ∙ append_assoc list (feeds c (get_or next c 0) (to_segment (drop (get_or next c 0) (items_in p c)))) (walk cs (set next c (behind c (get_or next c 0))))
          ∙ (rw on at so_far)

      pub passes : (c % rings == r) ≡ false → list ++ walk cs next ≡ whole
      passes off = rw off at so_far

  -- at a place of the order
  module _ (items order : List ℕ) (is_order : items ≡ order) (i : ℕ) (lt : i < length items) where
    at_place : drop i order ≡ get_or items i 0 ∷ drop (i + 1) order
    at_place = subst (λ l. drop i l ≡ get_or items i 0 ∷ drop (i + 1) l) is_order (drop_more items i 0 lt)

    pub going_at : (next : List ℕ) → Going (drop i order) next → Going (get_or items i 0 ∷ drop (i + 1) order) next
    going_at next g = subst (λ cs. Going cs next) at_place g

    pub walk_at : (list whole : List Feed) (next : List ℕ) → list ++ walk (drop i order) next ≡ whole → list ++ walk (get_or items i 0 ∷ drop (i + 1) order) next ≡ whole
    walk_at list whole next e = subst (λ cs. list ++ walk cs next ≡ whole) at_place e

  module _ (is : IsPlan p) where
    left_all : Left is.ordered.places (replicate (length p.tuples) 0)
    left_all = record {
      long = length-replicate (length p.tuples) 0;
      spaced = λ c lt. subst (λ n. IsSpaced (drop n (items_in p c))) (sym (get_or-replicate (length p.tuples) c 0 0 lt)) (items_at p c is lt).spaced;
      records = λ c lt on. ap (λ n. records_of (drop n (items_in p c))) (get_or-replicate (length p.tuples) c 0 0 lt) ∙ is.ordered.each c lt;
    }

    pub starts : Going p.order (replicate (length p.tuples) 0)
    starts = record { places = is.ordered.places; is = sym is.ordered.order; within = is.ordered.within; left = left_all }

    pub front_is : IsFront p rings r (walk p.order (replicate (length p.tuples) 0))
    front_is =
        let w = walks is.ordered.places (replicate (length p.tuples) 0) 0 left_all is.ordered.within is.ordered.rising in
        subst (λ cs. IsFront p rings r (walk cs (replicate (length p.tuples) 0))) (sym is.ordered.order) (record {
          each = λ c lt. w.each c lt ∙ ap (λ n. if c % rings == r then feeds c n (length (items_in p c) - 1 - n) else []) (get_or-replicate (length p.tuples) c 0 0 lt)
              ∙ (let all : length (items_in p c) - 1 - 0 ≡ length (items_in p c) - 1 = omega arith in ap (λ k. if c % rings == r then feeds c 0 k else []) all);
          only = w.only;
          rising = w.rising;
        })

  -- one connection more at the end
  range_more : (a n : ℕ) → range_with_len a (n + 1) ≡ range_with_len a n ++ (a + n) ∷ []
  range_more a zero = let e : a ≡ a + 0 = omega arith in ap (λ m. m ∷ []) e
  range_more a (suc n) =
      let on : suc n + 1 ≡ suc (n + 1) = omega arith in
      let e : (a + 1) + n ≡ a + suc n = omega arith in
      ap (range_with_len a) on ∙ ap (λ l. a ∷ l) (range_more (a + 1) n ∙ ap (λ m. range_with_len (a + 1) n ++ m ∷ []) e)

  last_more : (n : ℕ) → last_feeds p rings r (n + 1) ≡ last_feeds p rings r n ++ map (λ c. record { c = c; n = length (items_in p c) - 1 }) (filter (λ c. c % rings == r) (n ∷ []))
  last_more n =
      let zero : 0 + n ≡ n = omega arith in
      ap (λ l. map last (filter ring l)) (range_more 0 n ∙ ap (λ m. range_with_len 0 n ++ m ∷ []) zero)
      ∙ ap (map last) (filter-append ring (range_with_len 0 n) (n ∷ [])) ∙ map-append last (filter ring (range_with_len 0 n)) (filter ring (n ∷ []))
    where
      ring : ℕ → Bool
      ring c = c % rings == r

      last : ℕ → Feed
      last c = record { c = c; n = length (items_in p c) - 1 }

  pub last_on : (n : ℕ) → (n % rings == r) ≡ true → last_feeds p rings r (n + 1) ≡ last_feeds p rings r n ++ record { c = n; n = length (items_in p n) - 1 } ∷ []
  last_on n e = last_more n ∙ rw e refl

  pub last_off : (n : ℕ) → (n % rings == r) ≡ false → last_feeds p rings r (n + 1) ≡ last_feeds p rings r n
  last_off n e = last_more n ∙ rw e (append-nil _)
