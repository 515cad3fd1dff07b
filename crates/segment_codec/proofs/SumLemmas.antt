-- A checksum makes the sum whole.
use Rattle.std.proofs.Common.{◌≡◌, ℕ, zero, suc, ◌+◌, ◌-◌, ◌<◌, ◌≤◌, List, [], ◌∷◌, ◌++◌, length, take, length-append, append_assoc, ap, ◌∙◌, arith, Option, Some, None, subst}
use Rattle.std.proofs.Math.ListN.{get_or}
use Rattle.std.proofs.lemmas.List.{take_more}
use Rattle.std.proofs.lemmas.Bool.Decides.{nat_tests}
use Rattle.sq_base.specs.InternetSum.{word_sum, reduced}
use Rattle.sq_base.proofs.SumLemmas.{reduced-reduced_add}
use Rattle.sq_base.specs.declared.kinds.Tuple.{Tuple}
use Rattle.segment_codec.specs.declared.packet.Reply.{Reply}
use Rattle.segment_codec.specs.SegmentBytes.{ip_with, ip_sum, tcp_with, tcp_sum, segment_bytes}
use Rattle.segment_codec.specs.Options.{option_bytes, word_bytes}
use Rattle.std.specs.Prelude.{flat_map}

pub sum_completes : (n : ℕ) → reduced (n + (65535 - reduced n)) ≡ 65535
sum_completes n = grind (arith, nat_tests)

pub word_sum-ip_with : (t : Tuple) (total sum : ℕ) → sum < 65536 → word_sum (ip_with t total sum) ≡ word_sum (ip_with t total 0) + sum
word_sum-ip_with t total sum h = omega arith

pub header_sums : (t : Tuple) (total : ℕ) → reduced (word_sum (ip_with t total (ip_sum t total))) ≡ 65535
unfolding ip_sum
header_sums t total =
    ap reduced (word_sum-ip_with t total (ip_sum t total) (omega arith)) ∙ sum_completes (word_sum (ip_with t total 0))

pub length-tcp_with : (t : Tuple) (r : Reply) (sum : ℕ) → length (tcp_with t r sum) ≡ 20 + length (option_bytes r.options) + length r.text
length-tcp_with t r sum = omega (arith, length-append (option_bytes r.options) r.text)

-- options are whole words
word_sum-words : (words : List (Option ℕ)) (text : List ℕ) → word_sum (flat_map word_bytes words ++ text) ≡ word_sum (flat_map word_bytes words) + word_sum text
word_sum-words [] text = omega arith
word_sum-words (None ∷ words) text = word_sum-words words text
word_sum-words (Some w ∷ words) text = omega (arith, word_sum-words words text)

word_sum-push : (words : List (Option ℕ)) (w : Option ℕ) → word_sum (flat_map word_bytes (words ++ (w ∷ []))) ≡ word_sum (flat_map word_bytes words) + word_sum (word_bytes w)
word_sum-push [] None = omega arith
word_sum-push [] (Some w) = omega arith
word_sum-push (None ∷ words) w = word_sum-push words w
word_sum-push (Some x ∷ words) w = omega (arith, word_sum-push words w)

-- the sum of one word more
pub sum_next : (words : List (Option ℕ)) (i : ℕ) (w : Option ℕ) → i < length words → get_or words i None ≡ w
    → word_sum (flat_map word_bytes (take (i + 1) words)) ≡ word_sum (flat_map word_bytes (take i words)) + word_sum (word_bytes w)
sum_next words i w within e =
    ap (λ l. word_sum (flat_map word_bytes l)) (take_more words i None within)
    ∙ (ap (λ o. word_sum (flat_map word_bytes (take i words ++ (o ∷ [])))) e ∙ word_sum-push (take i words) w)

word_sum-options : (words : List (Option ℕ)) (options text : List ℕ) → flat_map word_bytes words ≡ options → word_sum (options ++ text) ≡ word_sum options + word_sum text
word_sum-options words options text e = subst (λ o. word_sum (o ++ text) ≡ word_sum o + word_sum text) e (word_sum-words words text)

-- the sum of a TCP part is that of its fields, of its options, and of its text
pub word_sum_parts : (t : Tuple) (r : Reply) (words : List (Option ℕ)) → flat_map word_bytes words ≡ option_bytes r.options
    → word_sum (tcp_with t r 0) ≡ word_sum (take 20 (tcp_with t r 0)) + word_sum (option_bytes r.options) + word_sum r.text
word_sum_parts t r words e = omega (arith, word_sum-options words (option_bytes r.options) r.text e)

-- a sum that goes on from a reduced one
pub goes_on : (m n s t : ℕ) → s ≡ reduced m → t ≡ reduced (s + n) → t ≡ reduced (m + n)
goes_on m n s t p q = q ∙ (ap (λ k. reduced (k + n)) p ∙ reduced-reduced_add m n)

-- header and TCP part one behind the other are the datagram
pub datagram_is_joined : (t : Tuple) (r : Reply) (old reserved header whole : List ℕ) (total first second : ℕ)
    → reserved ≡ old → header ≡ reserved ++ ip_with t total first → whole ≡ header ++ tcp_with t r second
    → total ≡ 20 + length (tcp_with t r 0) → first ≡ ip_sum t total → second ≡ tcp_sum t r → whole ≡ old ++ segment_bytes t r
unfolding segment_bytes
datagram_is_joined t r old reserved header whole total first second p q s size f g =
    let n = 20 + length (tcp_with t r 0) in
    s ∙ (ap (λ l. l ++ tcp_with t r second) (q ∙ ap (λ l. l ++ ip_with t total first) p)
    ∙ (append_assoc old (ip_with t total first) (tcp_with t r second)
    ∙ ap (λ l. old ++ l) (ap (λ k. ip_with t total first ++ tcp_with t r k) g
    ∙ (ap (λ k. ip_with t total k ++ tcp_with t r (tcp_sum t r)) f
    ∙ ap (λ k. ip_with t k (ip_sum t k) ++ tcp_with t r (tcp_sum t r)) size))))

-- a word that is carried has its room among all of them
pub word_within : (words : List (Option ℕ)) (i w : ℕ) → i < length words → get_or words i None ≡ Some w
    → length (flat_map word_bytes (take i words)) + 4 ≤ length (flat_map word_bytes words)
word_within [] i w within e = absurd (omega (arith, within))
word_within (None ∷ words) zero w within e = absurd (let no : ⊥ = cc in no)
word_within (Some x ∷ words) zero w within e = omega arith
word_within (None ∷ words) (suc i) w within e = word_within words i w (omega (arith, within)) e
word_within (Some x ∷ words) (suc i) w within e = omega (arith, word_within words i w (omega (arith, within)) e)
