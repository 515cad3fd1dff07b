-- A text in its pieces: the first one and the rest.
use Rattle.std.proofs.Common.{◌≡◌, ◌≢◌, ◌∙◌, ℕ, ◌+◌, ◌<◌, ◌≤◌, ◌⊎◌, inl, inr, Bool, true, false, nat_lt, List, [], ◌∷◌, get_or, length, drop, map, refl, cond, arith, length-drop}
use Rattle.std.proofs.lemmas.Bool.{cases_order, le-ltb, lt-ltb, ne_eqb}
use Rattle.std.proofs.lemmas.List.{take_all, drop_all}
use Rattle.std.proofs.lemmas.List.Sums.{position_or_len_is, fails_before_first}
use Rattle.std.proofs.lemmas.List.Splits.{slice_split_first, slice_split_none}
use Rattle.std.specs.Prelude.{◌==◌, slice_index}
use Rattle.std.specs.List.{filter, slice_split, before_first, after_first, position_or_len}
use Rattle.httparse.specs.Grammar.{trim_ows}
use Rattle.http_pages.specs.Choosing.{from_slash, is_slash}
use Rattle.http_pages.specs.Heads.{is_filled, is_line_feed, lines, without_cr}
use Rattle.http_pages.specs.Requests.{is_comma, list_elements}

-- where the first byte of a value stands, or none does
pub first_at : (xs : List ℕ) (at n : ℕ) → n < length xs → slice_index xs n ≡ at → ((k : ℕ) → k < n → slice_index xs k ≢ at) → position_or_len (λ b. b == at) xs ≡ n
first_at xs at n within is before =
    position_or_len_is (λ b. b == at) xs n 0 (omega (arith, within)) (λ k h. ne_eqb (get_or xs k 0) at (before k h)) (λ _. grind (arith, is))

pub nowhere : (xs : List ℕ) (at : ℕ) → ((k : ℕ) → k < length xs → slice_index xs k ≢ at) → position_or_len (λ b. b == at) xs ≡ length xs
nowhere xs at none =
    position_or_len_is (λ b. b == at) xs (length xs) 0 (omega arith) (λ k h. ne_eqb (get_or xs k 0) at (none k h)) (λ h. absurd (omega (arith, h)))

-- a piece before others, unless it is empty
abbrev pub kept : List ℕ → List (List ℕ) → List (List ℕ)
kept piece others = cond (is_filled piece) (piece ∷ others) others

abbrev pub pieces : (List ℕ → List ℕ) → (ℕ → Bool) → List ℕ → List (List ℕ)
pieces f p xs = filter is_filled (map f (slice_split p xs))

first_piece : (f : List ℕ → List ℕ) (p : ℕ → Bool) (xs : List ℕ) → position_or_len p xs < length xs → pieces f p xs ≡ kept (f (before_first p xs)) (pieces f p (after_first p xs))
first_piece f p xs found = rw (slice_split_first p xs 0 found) refl

only_piece : (f : List ℕ → List ℕ) (p : ℕ → Bool) (xs : List ℕ) → f [] ≡ [] → length xs ≤ position_or_len p xs → pieces f p xs ≡ kept (f (before_first p xs)) (pieces f p (after_first p xs))
only_piece f p xs none all =
    let fails = slice_split_none p xs (λ k d h. fails_before_first p xs k d (omega (arith, h, all))) in
    let before : before_first p xs ≡ xs = take_all (position_or_len p xs) xs all in
    let behind : after_first p xs ≡ [] = drop_all (position_or_len p xs + 1) xs (omega (arith, all)) in
    rw (fails, before, behind, none) refl

either : (f : List ℕ → List ℕ) (p : ℕ → Bool) (xs : List ℕ) → f [] ≡ [] → (position_or_len p xs ≡ length xs) ⊎ ((position_or_len p xs < length xs) ⊎ (length xs < position_or_len p xs)) → pieces f p xs ≡ kept (f (before_first p xs)) (pieces f p (after_first p xs))
either f p xs none (inl same) = only_piece f p xs none (omega (arith, same))
either f p xs none (inr (inl found)) = first_piece f p xs found
either f p xs none (inr (inr more)) = only_piece f p xs none (omega (arith, more))

pub pieces-step : (f : List ℕ → List ℕ) (p : ℕ → Bool) (xs : List ℕ) → f [] ≡ [] → pieces f p xs ≡ kept (f (before_first p xs)) (pieces f p (after_first p xs))
pieces-step f p xs none = either f p xs none (cases_order (position_or_len p xs) (length xs))

pub after_less : (p : ℕ → Bool) (xs : List ℕ) → 0 < length xs → length (after_first p xs) < length xs
after_less p xs some = omega (arith, length-drop (position_or_len p xs + 1) xs, some)

filled : (piece : List ℕ) → 0 < length piece → is_filled piece ≡ true
filled [] h = absurd (omega (arith, h))
filled (b ∷ bs) h = refl

empty : (piece : List ℕ) → length piece ≡ 0 → is_filled piece ≡ false
empty [] h = refl
empty (b ∷ bs) h = absurd (omega (arith, h))

pub lines_next : (bytes line rest : List ℕ) → line ≡ without_cr (before_first is_line_feed bytes) → rest ≡ after_first is_line_feed bytes → 0 < length line → lines bytes ≡ line ∷ lines rest
unfolding lines without_cr
lines_next bytes line rest is behind some =
    pieces-step without_cr is_line_feed bytes refl ∙ rw (← is, ← behind, filled line some) refl

pub lines_none : (bytes : List ℕ) → length bytes ≡ 0 → lines bytes ≡ []
unfolding lines without_cr
lines_none [] h = refl
lines_none (b ∷ bytes) h = absurd (omega (arith, h))

pub lines_skip : (bytes line rest : List ℕ) → line ≡ without_cr (before_first is_line_feed bytes) → rest ≡ after_first is_line_feed bytes → length line ≡ 0 → lines bytes ≡ lines rest
unfolding lines without_cr
lines_skip bytes line rest is behind none =
    pieces-step without_cr is_line_feed bytes refl ∙ rw (← is, ← behind, empty line none) refl

pub elements_next : (bytes element rest : List ℕ) → element ≡ trim_ows (before_first is_comma bytes) → rest ≡ after_first is_comma bytes → 0 < length element → list_elements bytes ≡ element ∷ list_elements rest
unfolding list_elements trim_ows
elements_next bytes element rest is behind some =
    pieces-step trim_ows is_comma bytes refl ∙ rw (← is, ← behind, filled element some) refl

pub elements_none : (bytes : List ℕ) → length bytes ≡ 0 → list_elements bytes ≡ []
unfolding list_elements trim_ows
elements_none [] h = refl
elements_none (b ∷ bytes) h = absurd (omega (arith, h))

pub elements_skip : (bytes element rest : List ℕ) → element ≡ trim_ows (before_first is_comma bytes) → rest ≡ after_first is_comma bytes → length element ≡ 0 → list_elements bytes ≡ list_elements rest
unfolding list_elements trim_ows
elements_skip bytes element rest is behind none =
    pieces-step trim_ows is_comma bytes refl ∙ rw (← is, ← behind, empty element none) refl

-- from the first slash on
pub slash_found : (rest : List ℕ) (n : ℕ) → position_or_len is_slash rest ≡ n → n < length rest → from_slash rest ≡ drop n rest
slash_found rest n at within =
    let yes : nat_lt n (length rest) ≡ true = lt-ltb n (length rest) within in
    rw (at, yes) refl

pub slash_missed : (rest : List ℕ) → position_or_len is_slash rest ≡ length rest → from_slash rest ≡ 47 ∷ []
slash_missed rest at =
    let no : nat_lt (length rest) (length rest) ≡ false = le-ltb (length rest) (length rest) (omega arith) in
    rw (at, no) refl
