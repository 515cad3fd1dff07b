-- How long the generated capture is: 24 bytes, and for each of 100,000 records 56 with its text, of which each connection sends 4,656 bytes.
use Rattle.std.proofs.Common.{◌≡◌, ℕ, ◌+◌, ◌*◌, List, [], ◌∷◌, suc, length, sum_by, refl, sym, ap, ◌∙◌, arith}
use Rattle.std.proofs.lemmas.List.{length-append}
use Rattle.std.proofs.lemmas.List.FromFn.{length-range_with_len}
use Rattle.std.proofs.lemmas.List.Concat.{length-flat_map}
use Rattle.std.proofs.lemmas.List.Sums.{sum_by-cons}
use Rattle.sq_base.specs.declared.kinds.Tuple.{Tuple}
use Rattle.segment_codec.specs.declared.packet.Reply.{Reply}
use Rattle.segment_codec.specs.SegmentBytes.{segment_bytes, ip_with, tcp_with, ip_sum, tcp_sum}
use Rattle.segment_codec.specs.Options.{option_bytes}
use Rattle.squeue_run.specs.GeneratedCapture.{below, text_len, sent_before, round_text, text_before, segment_at, ends_of, record_of, record_at, round_before, rounds_before, file_header, generated}
use Rattle.squeue_run.proofs.GeneratorSteps.{text_at_len, all_sent}
use Rattle.squeue_run.proofs.Records.{tcp_len}

segment_size : (t : Tuple) (r : Reply) → option_bytes r.options ≡ [] → length (segment_bytes t r) ≡ 40 + length r.text
unfolding segment_bytes
segment_size t r none =
    let total = 20 + length (tcp_with t r 0) in
    omega (arith, length-append (ip_with t total (ip_sum t total)) (tcp_with t r (tcp_sum t r)), tcp_len t r (tcp_sum t r) none)

pub body_size : (number round c : ℕ) → length (segment_bytes (ends_of c) (segment_at number round c)) ≡ 40 + text_len round c
unfolding segment_at
body_size number round c = segment_size (ends_of c) (segment_at number round c) refl ∙ ap (λ n. 40 + n) (text_at_len number round c)

framed : (at : ℕ) (body : List ℕ) → length (record_of at body) ≡ 16 + length body
unfolding record_of
framed at body = omega arith

pub record_size : (number round c : ℕ) → length (record_at number round c) ≡ 56 + text_len round c
unfolding record_at
record_size number round c = omega (arith, framed (10 * (1000 * round + c)) (segment_bytes (ends_of c) (segment_at number round c)), body_size number round c)

-- a sum of so much each, and of a rest
split_sum : (f : ℕ → ℕ) (k : ℕ) (xs : List ℕ) → sum_by (λ x. k + f x) xs ≡ k * length xs + sum_by f xs
split_sum f k [] = let e : 0 ≡ k * 0 + 0 = omega arith in e
split_sum f k (x ∷ xs) =
    let e : (k + f x) + (k * length xs + sum_by f xs) ≡ k * suc (length xs) + (f x + sum_by f xs) = omega arith in
    sum_by-cons (λ y. k + f y) x xs ∙ ap (λ n. (k + f x) + n) (split_sum f k xs) ∙ e ∙ ap (λ n. k * suc (length xs) + n) (sym (sum_by-cons f x xs))

add_sums : (f g : ℕ → ℕ) (xs : List ℕ) → sum_by (λ x. f x + g x) xs ≡ sum_by f xs + sum_by g xs
add_sums f g [] = refl
add_sums f g (x ∷ xs) =
    let e : (f x + g x) + (sum_by f xs + sum_by g xs) ≡ (f x + sum_by f xs) + (g x + sum_by g xs) = omega arith in
    sum_by-cons (λ y. f y + g y) x xs ∙ ap (λ n. (f x + g x) + n) (add_sums f g xs) ∙ e ∙ (λ i. sym (sum_by-cons f x xs) i + sym (sum_by-cons g x xs) i)

no_sums : (ys : List ℕ) → sum_by (λ y. 0) ys ≡ 0
no_sums [] = refl
no_sums (y ∷ ys) = sum_by-cons (λ z. 0) y ys ∙ ap (λ n. 0 + n) (no_sums ys)

-- the order of two sums
swapped : (f : ℕ → ℕ → ℕ) (xs ys : List ℕ) → sum_by (λ x. sum_by (f x) ys) xs ≡ sum_by (λ y. sum_by (λ x. f x y) xs) ys
swapped f [] ys = sym (no_sums ys)
swapped f (x ∷ xs) ys =
    sum_by-cons (λ z. sum_by (f z) ys) x xs ∙ ap (λ n. sum_by (f x) ys + n) (swapped f xs ys)
    ∙ sym (add_sums (f x) (λ y. sum_by (λ z. f z y) xs) ys) ∙ (λ i. sum_by (λ y. sym (sum_by-cons (λ z. f z y) x xs) i) ys)

pub length_below : (n : ℕ) → length (below n) ≡ n
length_below n = length-range_with_len 0 n

pub same_sum : (f : ℕ → ℕ) (t : ℕ) (xs : List ℕ) → ((x : ℕ) → f x ≡ t) → sum_by f xs ≡ t * length xs
same_sum f t [] h = let e : 0 ≡ t * 0 = omega arith in e
same_sum f t (x ∷ xs) h =
    let e : t + t * length xs ≡ t * suc (length xs) = omega arith in
    sum_by-cons f x xs ∙ (λ i. h x i + same_sum f t xs h i) ∙ e

round_size : (number round n : ℕ) → length (round_before number round n) ≡ 56 * n + round_text round n
unfolding round_before round_text
round_size number round n =
    length-flat_map (record_at number round) (below n) ∙ (λ i. sum_by (λ c. record_size number round c i) (below n))
    ∙ split_sum (text_len round) 56 (below n) ∙ ap (λ k. 56 * k + sum_by (λ d. text_len round d) (below n)) (length_below n)

rounds_size : (number n : ℕ) → length (rounds_before number n) ≡ 56000 * n + text_before n
unfolding rounds_before text_before
rounds_size number n =
    length-flat_map (λ k. round_before number k 1000) (below n) ∙ (λ i. sum_by (λ k. round_size number k 1000 i) (below n))
    ∙ split_sum (λ k. round_text k 1000) 56000 (below n) ∙ ap (λ k. 56000 * k + sum_by (λ j. round_text j 1000) (below n)) (length_below n)

all_text : (n conns t : ℕ) → ((d : ℕ) → sent_before n d ≡ t) → sum_by (λ k. round_text k conns) (below n) ≡ t * conns
unfolding round_text sent_before
all_text n conns t h =
    swapped text_len (below n) (below conns) ∙ same_sum (λ d. sum_by (λ k. text_len k d) (below n)) t (below conns) h ∙ ap (λ k. t * k) (length_below conns)

text_size : text_before 100 ≡ 4656000
unfolding text_before
text_size = all_text 100 1000 4656 (all_sent 2)

pub generated_size : (number : ℕ) → length (generated number) ≡ 10256024
unfolding generated file_header
generated_size number = omega (arith, length-append file_header (rounds_before number 100), rounds_size number 100, text_size)
