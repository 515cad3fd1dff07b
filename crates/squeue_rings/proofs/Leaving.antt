-- What is so of a feed before which its connection moves, and how often the connection has left a squeue by then.
use Rattle.std.proofs.Common.{◌≡◌, ◌≢◌, ℕ, zero, suc, ◌+◌, ◌-◌, ◌*◌, ◌/◌, ◌%◌, ◌<◌, ◌==◌, ◌&&◌, not, inl, inr, Bool, true, false, if◌then◌else◌, List, [], ◌∷◌, ◌++◌, refl, ap, sym, ◌∙◌, subst, append_assoc, arith}
use Rattle.std.proofs.lemmas.Bool.{cases_eq, cases_lt, eqb-true, eqb-false, eq-eqb, ne_eqb}
use Rattle.std.proofs.lemmas.List.{append-nil}
use Rattle.std.proofs.lemmas.Nat.{div-add-mod'}
use Rattle.std.proofs.Math.Nat.{mod-add-mod, mod-lt, zero-div}
use Rattle.perimeter_core.specs.declared.entries.Feed.{Feed as FeedOf}
use Rattle.histories.specs.Homes.{home}
use Rattle.histories.specs.Runs.{InOrder, brought, count, home_before, home_of, is_left_by, leaves, moves}
use Rattle.squeue_rings.proofs.Counting.{count_one, number_is, other_more, own_more}
use Rattle.squeue_rings.proofs.Standing.{not_left, other_home, same_home}
use Rattle.squeue_rings.proofs.Visits.{elsewhere, visits, visits_are}

-- of n and the next number, in steps of d
up_one : (d n x y u v : ℕ) → x * d + u ≡ n + 1 → y * d + v ≡ n → u < d → v < d → x ≢ y → x ≡ y + 1
up_one d n x y u v a b su sv apart =
    elim (cases_lt x (y + 1)) [
      | inl lt ↦ let e : y ≡ x + 1 + (y - (x + 1)) = omega (arith, lt, apart) in absurd (below (y - (x + 1)) (subst (λ (z : ℕ). z * d + v ≡ n) e b))
      | inr le ↦ elim (cases_lt (y + 1) x) [
        | inl lt ↦ let e : x ≡ y + 2 + (x - (y + 2)) = omega (arith, lt) in absurd (above (x - (y + 2)) (subst (λ (z : ℕ). z * d + u ≡ n + 1) e a))
        | inr ge ↦ omega (arith, le, ge)
      ]
    ]
  where
    below : (e : ℕ) → (x + 1 + e) * d + v ≡ n → ⊥
    below e b = omega (arith, a, b, su)

    above : (e : ℕ) → (y + 2 + e) * d + u ≡ n + 1 → ⊥
    above e a = omega (arith, a, b, su, sv)

-- where the next number begins a new d numbers, it is the first of them
pub first_of : (d n x y u v : ℕ) → x * d + u ≡ n + 1 → y * d + v ≡ n → v < d → x ≡ y + 1 → n + 1 ≡ x * d
first_of d n x y u v a b sv up = let e : (y + 1) * d + u ≡ n + 1 = subst (λ (z : ℕ). z * d + u ≡ n + 1) up a in let f : n + 1 ≡ (y + 1) * d = omega (arith, e, b, sv) in f ∙ ap (λ (z : ℕ). z * d) (sym up)

-- Feed number n is the first at another home
pub record Turns (spread n : ℕ) : Type 0 where
  pub some : spread ≢ 0
  pub next : n / spread ≡ (n - 1) / spread + 1
  pub first : n ≡ n / spread * spread

turns_at : (spread n : ℕ) → spread ≢ 0 → suc n / spread ≢ n / spread → Turns spread (suc n)
turns_at spread n some apart =
    let a : suc n / spread * spread + suc n % spread ≡ n + 1 = (let d = div-add-mod' (suc n) spread in omega (arith, d)) in
    let below : (m : ℕ) → m % spread < spread = λ m. mod-lt m (omega (arith, some)) in
    let up = up_one spread n (suc n / spread) (n / spread) (suc n % spread) (n % spread) a (div-add-mod' n spread) (below (suc n)) (below n) apart in
    let one = first_of spread n (suc n / spread) (n / spread) (suc n % spread) (n % spread) a (div-add-mod' n spread) (below n) up in
    let back : suc n - 1 ≡ n = omega arith in
    record { some = some; next = up ∙ ap (λ (k : ℕ). k / spread + 1) (sym back); first = (let z : suc n ≡ n + 1 = omega arith in z) ∙ one }

module _ (squeues spread c : ℕ) where
  -- the home, as the place of a way that goes round the squeues
  pub home_is : (n : ℕ) → spread ≢ 0 → home squeues spread c n ≡ (c + n / spread) % squeues
  home_is n some = rw (ne_eqb spread 0 some) refl

  pub turns : (n : ℕ) → home squeues spread c (n - 1) ≢ home squeues spread c n → Turns spread n
  turns zero apart = absurd (apart refl)
  turns (suc n) apart = by (spread == 0) refl
    where
      back : suc n - 1 ≡ n
      back = omega arith

      by : (b : Bool) → (spread == 0) ≡ b → Turns spread (suc n)
      by true e = absurd (apart (rw e refl))
      by false e = turns_at spread n (eqb-false spread 0 e) (λ still. apart (rw (e, back, still) refl))

  -- a move goes to the next squeue
  pub next_home : (n : ℕ) → home squeues spread c (n - 1) ≢ home squeues spread c n → home squeues spread c n ≡ (home squeues spread c (n - 1) + 1) % squeues
  next_home n apart =
      let t = turns n apart in
      let sum : c + n / spread ≡ c + (n - 1) / spread + 1 = (let e = t.next in omega (arith, e)) in
      home_is n t.some
      ∙ (ap (λ (k : ℕ). k % squeues) sum
      ∙ (sym (mod-add-mod (c + (n - 1) / spread) squeues 1) ∙ ap (λ (k : ℕ). (k + 1) % squeues) (sym (home_is (n - 1) t.some))))

  module _ (q : ℕ) (wide : 1 < squeues) (some : spread ≢ 0) where
    -- no move, no other round
    still_round : (n : ℕ) → home squeues spread c (n - 1) ≡ home squeues spread c n → n / spread ≡ (n - 1) / spread
    still_round zero e = refl
    still_round (suc n) e =
        let back : suc n - 1 ≡ n = omega arith in
        elim (cases_eq (suc n / spread) (n / spread)) [
          | inl still ↦ still ∙ ap (λ (k : ℕ). k / spread) (sym back)
          | inr apart ↦
              let up : c + suc n / spread ≡ c + n / spread + 1 = (let t = (turns_at spread n some apart).next ∙ ap (λ (k : ℕ). k / spread + 1) back in omega (arith, t)) in
              let place : (c + n / spread) % squeues ≡ (c + n / spread + 1) % squeues =
              sym (ap (home squeues spread c) back ∙ home_is n some) ∙ (e ∙ (home_is (suc n) some ∙ ap (λ (k : ℕ). k % squeues) up)) in
              let none = elsewhere squeues (c + n / spread) 1 wide place in
              absurd (omega (arith, none))
        ]

    -- it has left the squeue as often as its homes before the last one were there
    abbrev Counted : List FeedOf → Type 0
    Counted e = count (is_left_by squeues spread c q) e ≡ visits squeues c q ((brought c e - 1) / spread)

    counted_more : (e : List FeedOf) (f : FeedOf) → f.n ≡ brought f.c e → Counted e → Counted (e ++ f ∷ [])
    counted_more e f is known =
        elim (cases_eq f.c c) [
          | inl own ↦ by own (moves squeues spread f) refl
          | inr other ↦
              let none : is_left_by squeues spread c q f ≡ false = ap (λ (b : Bool). b && leaves squeues spread q f) (ne_eqb f.c c other) in
              let more = count_one (is_left_by squeues spread c q) e f false none in
              let z : count (is_left_by squeues spread c q) e + 0 ≡ count (is_left_by squeues spread c q) e = omega arith in
              more ∙ (z ∙ (known ∙ ap (λ (k : ℕ). visits squeues c q ((k - 1) / spread)) (sym (other_more c e f other))))
        ]
      where
        round : ℕ
        round = (f.n - 1) / spread

        by : f.c ≡ c → (b : Bool) → moves squeues spread f ≡ b → Counted (e ++ f ∷ [])
        by own b moved =
            let had : brought c e ≡ f.n = ap (λ (d : ℕ). brought d e) (sym own) ∙ sym is in
            let now : brought c (e ++ f ∷ []) - 1 ≡ f.n =
            (let m = own_more e f in let k : brought f.c (e ++ f ∷ []) - 1 ≡ f.n = omega (arith, m, is) in ap (λ (d : ℕ). brought d (e ++ f ∷ []) - 1) (sym own) ∙ k) in
            let before : count (is_left_by squeues spread c q) e ≡ visits squeues c q round = known ∙ ap (λ (k : ℕ). visits squeues c q ((k - 1) / spread)) had in
            let after : visits squeues c q ((brought c (e ++ f ∷ []) - 1) / spread) ≡ visits squeues c q (f.n / spread) = ap (λ (k : ℕ). visits squeues c q (k / spread)) now in
            to b moved before ∙ sym after
          where
            is_own : (f.c == c) ≡ true
            is_own = eq-eqb f.c c own

            to : (b : Bool) → moves squeues spread f ≡ b → count (is_left_by squeues spread c q) e ≡ visits squeues c q round
                → count (is_left_by squeues spread c q) (e ++ f ∷ []) ≡ visits squeues c q (f.n / spread)
            to false still before =
                let here : home squeues spread c (f.n - 1) ≡ home squeues spread c f.n =
                subst (λ (d : ℕ). home squeues spread d (f.n - 1) ≡ home squeues spread d f.n) own (same_home squeues spread f still) in
                let more = count_one (is_left_by squeues spread c q) e f false (not_left squeues spread c q f still) in
                let z : count (is_left_by squeues spread c q) e + 0 ≡ count (is_left_by squeues spread c q) e = omega arith in
                more ∙ (z ∙ (before ∙ ap (visits squeues c q) (sym (still_round f.n here))))
            to true moved before =
                let apart = other_home squeues spread f moved in
                let t = turns f.n (subst (λ (d : ℕ). home squeues spread d (f.n - 1) ≢ home squeues spread d f.n) own apart) in
                let from : home_before squeues spread f ≡ (c + round) % squeues = ap (λ (d : ℕ). home squeues spread d (f.n - 1)) own ∙ home_is (f.n - 1) some in
                let left : is_left_by squeues spread c q f ≡ ((c + round) % squeues == q) =
                ap (λ (b : Bool). b && leaves squeues spread q f) is_own
                ∙ (only (home_before squeues spread f == q) refl ∙ ap (λ (k : ℕ). k == q) from) in
                let one = count_one (is_left_by squeues spread c q) e f ((c + round) % squeues == q) left in
                let u : f.n / spread ≡ suc round = (let n = t.next in omega (arith, n)) in
                one ∙ (ap (λ (k : ℕ). k + (if (c + round) % squeues == q then 1 else 0)) before ∙ ap (visits squeues c q) (sym u))
              where
                only : (b : Bool) → (home_before squeues spread f == q) ≡ b → (b && not (home_of squeues spread f == q)) ≡ b
                only true here =
                    let at = eqb-true (home_before squeues spread f) q here in
                    ap not (ne_eqb (home_of squeues spread f) q (λ there. other_home squeues spread f moved (at ∙ sym there)))
                only false here = refl

    counted_all : (list e fs behind : List FeedOf) → InOrder list → list ≡ e ++ (fs ++ behind) → Counted e → Counted (e ++ fs)
    counted_all list e [] behind order is known = subst Counted (sym (append-nil e)) known
    counted_all list e (f ∷ fs) behind order is known =
        subst Counted (append_assoc e (f ∷ []) fs)
        (counted_all list (e ++ f ∷ []) fs behind order (is ∙ sym (append_assoc e (f ∷ []) (fs ++ behind)))
        (counted_more e f (number_is list e (fs ++ behind) f order is) known))

    pub times_gone : (list done behind : List FeedOf) → InOrder list → list ≡ done ++ behind → count (is_left_by squeues spread c q) done ≡ visits squeues c q ((brought c done - 1) / spread)
    times_gone list done behind order is = counted_all list [] done behind order is (ap (visits squeues c q) (sym (zero-div spread)))

-- Before the move to it, a connection has left its next home once for each time that it went round the squeues
pub gone_round : (squeues spread : ℕ) (list done behind : List FeedOf) (f : FeedOf) → 0 < squeues → InOrder list → list ≡ done ++ f ∷ behind → moves squeues spread f ≡ true
    → count (is_left_by squeues spread f.c (home_of squeues spread f)) done ≡ f.n / spread / squeues
gone_round squeues spread list done behind f wide order is moved =
    let all = times_gone squeues spread f.c to (omega (arith, wide, not_one)) t.some list done (f ∷ behind) order is in
    let had : visits squeues f.c to ((brought f.c done - 1) / spread) ≡ visits squeues f.c to round = ap (λ (k : ℕ). visits squeues f.c to ((k - 1) / spread)) (sym (number_is list done behind f order is)) in
    let not_there : ((f.c + round) % squeues == to) ≡ false = ne_eqb ((f.c + round) % squeues) to (λ e. apart (home_is squeues spread f.c (f.n - 1) t.some ∙ e)) in
    let more : visits squeues f.c to (suc round) ≡ visits squeues f.c to round =
    ap (λ (b : Bool). visits squeues f.c to round + (if b then 1 else 0)) not_there ∙ (let z : visits squeues f.c to round + 0 ≡ visits squeues f.c to round = omega arith in z) in
    let u : suc round + 0 ≡ f.n / spread = (let n = t.next in omega (arith, n)) in
    let all_visits = visits_are squeues f.c to (suc round) 0 wide (ap (λ (k : ℕ). (f.c + k) % squeues) u ∙ sym (home_is squeues spread f.c f.n t.some)) in
    all ∙ (had ∙ (sym more ∙ (all_visits ∙ ap (λ (k : ℕ). k / squeues) u)))
  where
    apart : home_before squeues spread f ≢ home_of squeues spread f
    apart = other_home squeues spread f moved

    t : Turns spread f.n
    t = turns squeues spread f.c f.n apart

    round : ℕ
    round = (f.n - 1) / spread

    to : ℕ
    to = home_of squeues spread f

    not_one : squeues ≢ 1
    not_one e =
        let below : (n : ℕ) → home squeues spread f.c n < 1 = λ n. subst (λ (k : ℕ). home squeues spread f.c n < k) e (rw (home_is squeues spread f.c n t.some) (mod-lt (f.c + n / spread) wide)) in
        let a = below (f.n - 1) in
        let b = below f.n in
        apart (omega (arith, a, b))
