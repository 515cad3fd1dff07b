-- One step of the generator: a draw, a byte of text, a record, a round.
use Rattle.std.proofs.Common.{◌≡◌, ℕ, ◌+◌, ◌/◌, ◌%◌, ◌^◌, ◌<◌, ◌≤◌, Bool, true, false, ◌&&◌, cond, eqb, leb, List, [], ◌∷◌, ◌++◌, suc, zero, length, map, get_or, sum_by}
use Rattle.std.proofs.Common.{refl, ap, subst, ◌∙◌, append_assoc, length-append, arith, add-one}
use Rattle.std.specs.List.{flat_map, list_all}
use Rattle.std.proofs.lemmas.List.{append-nil, length-map}
use Rattle.std.proofs.lemmas.List.FromFn.{length-range_with_len, get_or-range_with_len}
use Rattle.std.proofs.lemmas.List.Sums.{sum_by-append}
use Rattle.std.proofs.lemmas.List.Folds.{list_all_at}
use Rattle.std.proofs.lemmas.Bool.{eqb-true, leb-true, false_from_ne_true}
use Rattle.std.proofs.lemmas.Grind.{flat_map-append}
use Rattle.ring_quotas.proofs.Moving.{range_more}
use Rattle.squeue_run.specs.GeneratedCapture.{below, next_state, state_at, draw, text_len, sent_before, round_text, text_before, drawn_text, text_at, record_at, round_before, rounds_before}

pub ruleset joins = (append_assoc, length-append)

pub below_next : (n : ℕ) → below (n + 1) ≡ below n ++ n ∷ []
below_next n = rw add-one (range_more 0 n ∙ ap (λ k. below n ++ k ∷ []) (let e : 0 + n ≡ n = omega arith in e))

flat_more : (f : ℕ → List ℕ) (n : ℕ) → flat_map f (below (n + 1)) ≡ flat_map f (below n) ++ f n
flat_more f n = ap (flat_map f) (below_next n) ∙ flat_map-append f (below n) (n ∷ []) ∙ ap (λ l. flat_map f (below n) ++ l) (append-nil (f n))

sum_more : (f : ℕ → ℕ) (n : ℕ) → sum_by f (below (n + 1)) ≡ sum_by f (below n) + f n
sum_more f n = ap (sum_by f) (below_next n) ∙ sum_by-append f (below n) (n ∷ []) ∙ ap (λ k. sum_by f (below n) + k) (let e : 0 + f n ≡ f n = omega arith in e)

pub sent_more : (round c : ℕ) → sent_before (round + 1) c ≡ sent_before round c + text_len round c
unfolding sent_before
sent_more round c = sum_more (λ k. text_len k c) round

pub round_text_more : (round c : ℕ) → round_text round (c + 1) ≡ round_text round c + text_len round c
unfolding round_text
round_text_more round c = sum_more (λ d. text_len round d) c

pub text_more : (round : ℕ) → text_before (round + 1) ≡ text_before round + round_text round 1000
unfolding text_before
text_more round = sum_more (λ k. round_text k 1000) round

pub round_more : (number round c : ℕ) → round_before number round (c + 1) ≡ round_before number round c ++ record_at number round c
unfolding round_before
round_more number round c = flat_more (record_at number round) c

pub rounds_more : (number round : ℕ) → rounds_before number (round + 1) ≡ rounds_before number round ++ round_before number round 1000
unfolding rounds_before
rounds_more number round = flat_more (λ k. round_before number k 1000) round

pub drawn_more : (number from n : ℕ) → drawn_text number from (n + 1) ≡ drawn_text number from n ++ draw number (from + n) % 256 ∷ []
unfolding drawn_text
drawn_more number from n = ap (map (λ i. draw number (from + i) % 256)) (below_next n) ∙ map_push (below n)
  where
    map_push : (xs : List ℕ) → map (λ i. draw number (from + i) % 256) (xs ++ n ∷ []) ≡ map (λ i. draw number (from + i) % 256) xs ++ draw number (from + n) % 256 ∷ []
    map_push [] = refl
    map_push (x ∷ xs) = ap (λ l. draw number (from + x) % 256 ∷ l) (map_push xs)

pub length-drawn : (number from n : ℕ) → length (drawn_text number from n) ≡ n
unfolding drawn_text
length-drawn number from n = length-map (below n) (λ i. draw number (from + i) % 256) ∙ length-range_with_len 0 n

pub state_more : (number k : ℕ) → state_at number (k + 1) ≡ next_state (state_at number k)
unfolding state_at
state_more number k = rw add-one refl

pub drawn : (number k : ℕ) → draw number k ≡ next_state (state_at number k) / 2 ^ 32
unfolding draw state_at
drawn number k = refl

pub text_at_len : (number round c : ℕ) → length (text_at number round c) ≡ text_len round c
unfolding text_at
text_at_len number round c = length-drawn number (2000 + text_before round + round_text round c) (text_len round c)

-- each connection sends 4,656 bytes of text before round 98, and none from there on: what is sent goes by c % 96
same_len : (c k : ℕ) → text_len k c ≡ text_len k (c % 96)
unfolding text_len
same_len c k = ap (λ m. cond (leb 2 k && leb k 97) (1 + m) 0) (let e : (c + k) % 96 ≡ (c % 96 + k) % 96 = omega arith in e)

same_sent : (round c : ℕ) → sent_before round c ≡ sent_before round (c % 96)
unfolding sent_before
same_sent round c = λ i. sum_by (λ k. same_len c k i) (below round)

sums_98 : list_all (λ e. eqb (sent_before 98 e) 4656) (below 96) ≡ true
unfolding sent_before text_len
sums_98 = refl

all_below : (p : ℕ → Bool) (n e : ℕ) → e < n → list_all p (below n) ≡ true → p e ≡ true
all_below p n e lt h = at (p e) refl
  where
    zero_more : (k : ℕ) → 0 + k ≡ k
    zero_more k = omega arith

    at : (b : Bool) → p e ≡ b → p e ≡ true
    at true f = f
    at false f =
        let here : p (get_or (below n) e 0) ≡ false = ap p (get_or-range_with_len 0 n e 0 lt ∙ zero_more e) ∙ f in
        let bad = list_all_at p (below n) e 0 (let room : e < length (below n) = omega (arith, length-range_with_len 0 n, lt) in room) here in
        cc

sent_98 : (c : ℕ) → sent_before 98 c ≡ 4656
sent_98 c =
    same_sent 98 c ∙ eqb-true (sent_before 98 (c % 96)) 4656
    (all_below (λ e. eqb (sent_before 98 e) 4656) 96 (c % 96) (let lt : c % 96 < 96 = omega arith in lt) sums_98)

no_text : (round c : ℕ) → 98 ≤ round → text_len round c ≡ 0
unfolding text_len
no_text round c past =
    ap (λ b. cond (leb 2 round && b) (1 + (c + round) % 96) 0) (false_from_ne_true (leb round 97) (λ h. let le : round ≤ 97 = leb-true round 97 h in omega arith))
    ∙ same (leb 2 round)
  where
    same : (b : Bool) → cond (b && false) (1 + (c + round) % 96) 0 ≡ 0
    same true = refl
    same false = refl

-- from round 98 on all text is sent
pub all_sent : (k c : ℕ) → sent_before (98 + k) c ≡ 4656
all_sent zero c = sent_98 c
all_sent (suc k) c =
    let step = sent_more (98 + k) c in
    let none = no_text (98 + k) c (omega arith) in
    let before = all_sent k c in
    let e : sent_before (98 + k + 1) c ≡ 4656 = omega (arith, step, none, before) in
    subst (λ r. sent_before r c ≡ 4656) (let r : 98 + k + 1 ≡ 98 + suc k = omega arith in r) e

pub none_drawn : (number from : ℕ) → drawn_text number from 0 ≡ []
unfolding drawn_text
none_drawn number from = refl

pub no_records : (number round : ℕ) → round_before number round 0 ≡ []
unfolding round_before
no_records number round = refl

pub no_rounds : (number : ℕ) → rounds_before number 0 ≡ []
unfolding rounds_before
no_rounds number = refl

pub text_at_is : (number round c : ℕ) → drawn_text number (2000 + text_before round + round_text round c) (text_len round c) ≡ text_at number round c
unfolding text_at
text_at_is number round c = refl

-- five parts in a row
pub five_parts : (old a b c d e p q r s body : List ℕ) → a ≡ old ++ p → b ≡ a ++ q → c ≡ b ++ r → d ≡ c ++ s → e ≡ d ++ body
    → e ≡ old ++ (p ++ (q ++ (r ++ (s ++ body))))
five_parts old a b c d e p q r s body f g h i j =
    j ∙ ap (λ l. l ++ body) (i ∙ ap (λ l. l ++ s) (h ∙ ap (λ l. l ++ r) (g ∙ ap (λ l. l ++ q) f))) ∙ simp append_assoc

-- six parts in a row
pub six_parts : (old a b c d e f p q r s t u : List ℕ) → a ≡ old ++ p → b ≡ a ++ q → c ≡ b ++ r → d ≡ c ++ s → e ≡ d ++ t → f ≡ e ++ u
    → f ≡ old ++ (p ++ (q ++ (r ++ (s ++ (t ++ u)))))
six_parts old a b c d e f p q r s t u i j k l m n =
    n ∙ ap (λ x. x ++ u) (m ∙ ap (λ x. x ++ t) (l ∙ ap (λ x. x ++ s) (k ∙ ap (λ x. x ++ r) (j ∙ ap (λ x. x ++ q) i)))) ∙ simp append_assoc

pub no_draw : (number : ℕ) → number ≡ state_at number 0
unfolding state_at
no_draw number = refl
