-- A decimal number at the front of a text, by its digits.
use Rattle.std.proofs.Common.{arith, rules, ◌≡◌, ℕ, zero, suc, ◌+◌, ◌-◌, ◌*◌, ◌/◌, ◌%◌, ◌^◌, ◌<◌, ◌≤◌, Bool, true, false, if◌then◌else◌, List, [], ◌∷◌, ◌++◌, length, get_or, drop, refl, subst, ◌∙◌, sym, ap, append_assoc}
use Rattle.std.specs.Char.{is_ascii_digit}
use Rattle.std.specs.Fmt.{decimal}
use Rattle.std.specs.Str.{all_ascii_digits}
use Rattle.std.proofs.lemmas.Fmt.{decimal_step, decimal_digit, digits_decimal, digits_value-decimal, first_decimal, decimal_nonempty}
use Rattle.std.proofs.lemmas.Str.Parse.{IsNumeralModel, numerals_by_fold}
use Rattle.trace_lines.specs.Fields.{BeginsWithNumber, ends_number}

-- the number that digits write behind those of n
abbrev pub read_on : ℕ → List ℕ → ℕ
read_on n [] = n
read_on n (c ∷ cs) = read_on (10 * n + (c - 48)) cs

pub own : IsNumeralModel (λ ds. all_ascii_digits ds ≡ true) (read_on 0)
own = numerals_by_fold _ (search rules) read_on (search rules)

-- the number that the digits at the front of a text write behind those of n, and what stands behind them
abbrev pub scan : ℕ → List ℕ → ℕ × List ℕ
scan n [] = (n, [])
scan n (b ∷ bs) = if is_ascii_digit b then scan (10 * n + (b - 48)) bs else (n, b ∷ bs)

-- digits are read one after another
pub scan_digits : (n : ℕ) (ds rest : List ℕ) → all_ascii_digits ds ≡ true → scan n (ds ++ rest) ≡ scan (read_on n ds) rest
scan_digits n [] rest h = refl
scan_digits n (d ∷ ds) rest h =
    let first : is_ascii_digit d ≡ true = grind (arith, h) in
    let others : all_ascii_digits ds ≡ true = grind (arith, h) in
    let next : scan n ((d ∷ ds) ++ rest) ≡ scan (10 * n + (d - 48)) (ds ++ rest) = rw first refl in
    next ∙ scan_digits (10 * n + (d - 48)) ds rest others

-- where the digits end
pub scan_end : (n : ℕ) (rest : List ℕ) → ends_number rest ≡ true → scan n rest ≡ (n, rest)
scan_end n [] h = refl
scan_end n (b ∷ bs) h = let stops : is_ascii_digit b ≡ false = grind (arith, h) in rw stops refl

-- more digits write no smaller number
grows_by : (digit : Bool) (n m : ℕ) (bs rest : List ℕ) → n ≤ (scan m bs).0 → n ≤ (if digit then scan m bs else (n, rest)).0
grows_by true n m bs rest h = h
grows_by false n m bs rest h = omega arith

pub scan_grows : (n : ℕ) (text : List ℕ) → n ≤ (scan n text).0
scan_grows n [] = omega arith
scan_grows n (b ∷ bs) = grows_by (is_ascii_digit b) n (10 * n + (b - 48)) bs (b ∷ bs) (omega (arith, scan_grows (10 * n + (b - 48)) bs))

-- behind the digits of n
pub scan_decimal : (n : ℕ) (rest : List ℕ) → n < 2 ^ 64 → scan 0 (decimal n ++ rest) ≡ scan n rest
scan_decimal n rest small =
    scan_digits 0 (decimal n) rest (digits_decimal own n small) ∙ ap (λ v. scan v rest) (digits_value-decimal own n small)

-- a text begins with at most one number
pub scan_number : (text : List ℕ) (n : ℕ) (rest : List ℕ) → n < 2 ^ 64 → BeginsWithNumber text n rest → scan 0 text ≡ (n, rest)
scan_number text n rest small b = ap (scan 0) b.joined ∙ (scan_decimal n rest small ∙ scan_end n rest b.whole)

-- a digit more behind a number
pub one_digit_more : (n d : ℕ) → 0 < n → d < 10 → 10 * n + d < 2 ^ 64 → decimal (10 * n + d) ≡ decimal n ++ (48 + d) ∷ []
one_digit_more n d some digit small =
    let tens : (10 * n + d) / 10 ≡ n = omega arith in
    let ones : (10 * n + d) % 10 ≡ d = omega arith in
    let step : decimal (10 * n + d) ≡ decimal ((10 * n + d) / 10) ++ (48 + (10 * n + d) % 10) ∷ [] = decimal_step (10 * n + d) (omega arith) small in
    subst (λ x. decimal (10 * n + d) ≡ decimal x ++ (48 + d) ∷ []) tens (subst (λ x. decimal (10 * n + d) ≡ decimal ((10 * n + d) / 10) ++ (48 + x) ∷ []) ones step)

-- one more digit is read
pub one_more_read : (value digit : ℕ) (others : List ℕ) → is_ascii_digit digit ≡ true → scan (10 * value + (digit - 48)) others ≡ scan value (digit ∷ others)
one_more_read value digit others is = rw is refl

-- a text whose digits write too great a number begins with none
pub too_great : (first value digit : ℕ) (text others : List ℕ) → first < 2 ^ 64 → is_ascii_digit digit ≡ true → scan value (digit ∷ others) ≡ scan first text
    → 2 ^ 64 ≤ 10 * value + (digit - 48) → (n : ℕ) (rest : List ℕ) → n < 2 ^ 64 → BeginsWithNumber (decimal first ++ text) n rest → ⊥
too_great first value digit text others small is same great n rest below b =
    let whole : scan first text ≡ (n, rest) = sym (scan_decimal first text small) ∙ scan_number (decimal first ++ text) n rest below b in
    let here : scan value (digit ∷ others) ≡ (n, rest) = same ∙ whole in
    let on : scan (10 * value + (digit - 48)) others ≡ (n, rest) = one_more_read value digit others is ∙ here in
    let least : 10 * value + (digit - 48) ≤ n = subst (λ x. 10 * value + (digit - 48) ≤ x) (ap (λ x. x.0) on) (scan_grows (10 * value + (digit - 48)) others) in
    omega (arith, least, great, below)

-- the first of some digits
by_digits : (ds rest : List ℕ) (b : ℕ) (bs : List ℕ) → 0 < length ds → all_ascii_digits ds ≡ true → b ∷ bs ≡ ds ++ rest → is_ascii_digit b ≡ true
by_digits [] rest b bs some all e = grind (arith, some)
by_digits (d ∷ ds) rest b bs some all e = grind (arith, all, e)

no_front : (ds rest : List ℕ) → 0 < length ds → [] ≡ ds ++ rest → ⊥
no_front [] rest some e = omega (arith, some)
no_front (d ∷ ds) rest some e = grind (arith, e)

-- a number's first digit, and what it is where that is 0
pub first_digit_of : (n b : ℕ) (bs rest : List ℕ) → n < 2 ^ 64 → BeginsWithNumber (b ∷ bs) n rest → is_ascii_digit b ≡ true
first_digit_of n b bs rest small h = by_digits (decimal n) rest b bs (decimal_nonempty n small) (digits_decimal own n small) h.joined

-- what stands behind one and the same byte
pub tail_same : (b : ℕ) (xs ys : List ℕ) → b ∷ xs ≡ b ∷ ys → xs ≡ ys
tail_same b xs ys e = cc

not_zero : (ds rest bs : List ℕ) → 48 < get_or ds 0 0 → 48 ∷ bs ≡ ds ++ rest → ⊥
not_zero [] rest bs h e = omega (arith, h)
not_zero (d ∷ ds) rest bs h e = grind (arith, h, e)

-- the digits so far, with one more
pub stays_joined : (first value digit : ℕ) (text others : List ℕ) → 0 < value → is_ascii_digit digit ≡ true → 10 * value + (digit - 48) < 2 ^ 64
    → decimal value ++ digit ∷ others ≡ decimal first ++ text → decimal (10 * value + (digit - 48)) ++ others ≡ decimal first ++ text
stays_joined first value digit text others some is small e =
    let low : 48 ≤ digit = grind (arith, is) in
    let high : digit - 48 < 10 = grind (arith, is) in
    let same : 48 + (digit - 48) ≡ digit = omega (arith, low) in
    let more : decimal (10 * value + (digit - 48)) ≡ decimal value ++ digit ∷ [] = subst (λ d. decimal (10 * value + (digit - 48)) ≡ decimal value ++ d ∷ []) same (one_digit_more value (digit - 48) some high small) in
    ap (λ l. l ++ others) more ∙ (append_assoc (decimal value) (digit ∷ []) others ∙ e)

-- one more digit of the text is read
pub reads_on : (first value more : ℕ) (text rest : List ℕ) → 0 < length rest → is_ascii_digit (get_or rest 0 0) ≡ true → more ≡ 10 * value + (get_or rest 0 0 - 48)
    → more < 2 ^ 64 → 0 < value → decimal value ++ rest ≡ decimal first ++ text → scan value rest ≡ scan first text
    → (0 < more) × (decimal more ++ drop 1 rest ≡ decimal first ++ text) × (scan more (drop 1 rest) ≡ scan first text)
reads_on first value more text [] some is e small above joined same = grind (arith, some)
reads_on first value more text (b ∷ bs) some is e small above joined same =
    let fits : 10 * value + (b - 48) < 2 ^ 64 = subst (λ n. n < 2 ^ 64) e small in
    let longer : decimal (10 * value + (b - 48)) ++ bs ≡ decimal first ++ text = stays_joined first value b text bs above is fits joined in
    let read : scan (10 * value + (b - 48)) bs ≡ scan first text = one_more_read value b bs is ∙ same in
    (omega (arith, e, above), subst (λ n. decimal n ++ bs ≡ decimal first ++ text) (sym e) longer, subst (λ n. scan n bs ≡ scan first text) (sym e) read)

-- where one more digit is too much there is no number
pub reads_no_more : (first value : ℕ) (text rest : List ℕ) → first < 2 ^ 64 → 0 < length rest → is_ascii_digit (get_or rest 0 0) ≡ true → scan value rest ≡ scan first text
    → 2 ^ 64 ≤ 10 * value + (get_or rest 0 0 - 48) → (n : ℕ) (after : List ℕ) → n < 2 ^ 64 → BeginsWithNumber (decimal first ++ text) n after → ⊥
reads_no_more first value text [] small some is same great n after below b = grind (arith, some)
reads_no_more first value text (d ∷ ds) small some is same great n after below b = too_great first value d text ds small is same great n after below b

-- no number but 0 begins with a 0
pub zero_alone : (n : ℕ) (bs rest : List ℕ) → n < 2 ^ 64 → BeginsWithNumber (48 ∷ bs) n rest → ends_number bs ≡ true
zero_alone zero bs rest small h = subst (λ l. ends_number l ≡ true) (sym (tail_same 48 bs rest (h.joined ∙ ap (λ l. l ++ rest) (decimal_digit 0 (omega arith))))) h.whole
zero_alone (suc n) bs rest small h = grind (arith, not_zero (decimal (suc n)) rest bs (first_decimal (suc n) (omega arith) small) h.joined)

-- the first digit of a text that begins with a number
pub first_is_digit : (text : List ℕ) (n : ℕ) (rest : List ℕ) → n < 2 ^ 64 → BeginsWithNumber text n rest → (0 < length text) × (is_ascii_digit (get_or text 0 0) ≡ true)
first_is_digit [] n rest small h = grind (arith, no_front (decimal n) rest (decimal_nonempty n small) h.joined)
first_is_digit (b ∷ bs) n rest small h = (omega arith, first_digit_of n b bs rest small h)

-- where it is a 0 that is the number
pub zero_ends : (text : List ℕ) (n : ℕ) (rest : List ℕ) → 0 < length text → get_or text 0 0 ≡ 48 → n < 2 ^ 64 → BeginsWithNumber text n rest → ends_number (drop 1 text) ≡ true
zero_ends [] n rest some e small h = grind (arith, some)
zero_ends (b ∷ bs) n rest some e small h = zero_alone n bs rest small (subst (λ x. BeginsWithNumber (x ∷ bs) n rest) e h)

-- and it is
pub is_zero : (text : List ℕ) → 0 < length text → get_or text 0 0 ≡ 48 → ends_number (drop 1 text) ≡ true → BeginsWithNumber text 0 (drop 1 text)
is_zero [] some e ends = grind (arith, some)
is_zero (b ∷ bs) some e ends = record { joined = ap (λ x. x ∷ bs) e ∙ sym (ap (λ l. l ++ bs) (decimal_digit 0 (omega arith))); whole = ends }

-- any other first digit
pub with_first : (text : List ℕ) → 0 < length text → is_ascii_digit (get_or text 0 0) ≡ true → decimal (get_or text 0 0 - 48) ++ drop 1 text ≡ text
with_first [] some is = grind (arith, some)
with_first (b ∷ bs) some is =
    let low : 48 ≤ b = grind (arith, is) in
    let high : b - 48 < 10 = grind (arith, is) in
    ap (λ l. l ++ bs) (decimal_digit (b - 48) high) ∙ ap (λ x. x ∷ bs) (omega (arith, low))

-- a text begins with one number
pub one_number : (text : List ℕ) (n m : ℕ) (rest other : List ℕ) → n < 2 ^ 64 → m < 2 ^ 64 → BeginsWithNumber text n rest → BeginsWithNumber text m other → n ≡ m
one_number text n m rest other small also h k = ap (λ x. x.0) (sym (scan_number text n rest small h) ∙ scan_number text m other also k)

-- two numbers that end, at the front of one text
pub same_numbers : (n m : ℕ) (a c : List ℕ) → n < 2 ^ 64 → m < 2 ^ 64 → ends_number a ≡ true → ends_number c ≡ true → decimal n ++ a ≡ decimal m ++ c → (n ≡ m) × (a ≡ c)
same_numbers n m a c small also ends stops e =
    let first : BeginsWithNumber (decimal n ++ a) n a = record { joined = refl; whole = ends } in
    let other : BeginsWithNumber (decimal n ++ a) m c = record { joined = e; whole = stops } in
    let both : (n, a) ≡ (m, c) = sym (scan_number (decimal n ++ a) n a small first) ∙ scan_number (decimal n ++ a) m c also other in
    (ap (λ x. x.0) both, ap (λ x. x.1) both)

-- what stands behind a text's number
pub same_rest : (text : List ℕ) (n m : ℕ) (a c : List ℕ) → n < 2 ^ 64 → m < 2 ^ 64 → BeginsWithNumber text n a → BeginsWithNumber text m c → a ≡ c
same_rest text n m a c small also h k = ap (λ x. x.1) (sym (scan_number text n a small h) ∙ scan_number text m c also k)
