-- A form in whose blanks numbers are read one after another.
use Rattle.std.proofs.Common.{arith, ◌≡◌, ◌≢◌, ℕ, ◌+◌, ◌^◌, ◌<◌, Bool, true, false, not, ◌||◌, List, [], ◌∷◌, ◌++◌, length, get_or, drop, take, set, refl, subst, ◌∙◌, sym, ap, ap₂, append_assoc, add-one, drop-cons}
use Rattle.std.specs.Char.{is_ascii_digit}
use Rattle.std.specs.Fmt.{decimal}
use Rattle.std.proofs.lemmas.Grind.{common_steps}
use Rattle.std.proofs.lemmas.List.{append-nil, take_more_set}
use Rattle.std.proofs.lemmas.Bool.{and_parts, not-true}
use Rattle.trace_lines.specs.Fields.{BeginsWithNumber, ends_number}
use Rattle.trace_lines.specs.Forms.{is_blank, filled, blank_count, AreSmall, ends_blank, is_form}
use Rattle.trace_lines.proofs.Numbers.{same_numbers, same_rest, tail_same}

filled_blank : (b n : ℕ) (form ns : List ℕ) → is_blank b ≡ true → filled (b ∷ form) (n ∷ ns) ≡ decimal n ++ filled form ns
filled_blank b n form ns is = rw is refl

filled_byte : (b : ℕ) (form ns : List ℕ) → is_blank b ≡ false → filled (b ∷ form) ns ≡ b ∷ filled form ns
filled_byte b form [] is = refl
filled_byte b form (n ∷ ns) is = rw is refl

count_blank : (b : ℕ) (form : List ℕ) → is_blank b ≡ true → blank_count (b ∷ form) ≡ 1 + blank_count form
count_blank b form is = rw is refl

count_byte : (b : ℕ) (form : List ℕ) → is_blank b ≡ false → blank_count (b ∷ form) ≡ blank_count form
count_byte b form is = rw is (omega arith)

-- the rest of a form is one
pub rest_of_form : (b : ℕ) (form : List ℕ) → is_form (b ∷ form) ≡ true → is_form form ≡ true
rest_of_form b form h = (and_parts _ _ h).1

behind_blank : (x y : Bool) → (not x || y) ≡ true → x ≡ true → y ≡ true
behind_blank true y h is = h
behind_blank false y h is = cc

pub ends_behind : (b : ℕ) (form : List ℕ) → is_form (b ∷ form) ≡ true → is_blank b ≡ true → ends_blank form ≡ true
ends_behind b form h is = behind_blank _ _ (and_parts _ _ h).0 is

-- a number ends where such a form stands behind it
pub ends_filled : (form ns t : List ℕ) → ends_blank form ≡ true → ends_number (filled form ns ++ t) ≡ true
ends_filled [] ns t h = cc
ends_filled (b ∷ form) ns t h =
    let parts = and_parts (not (is_ascii_digit b)) (not (is_blank b)) h in
    let byte : filled (b ∷ form) ns ≡ b ∷ filled form ns = filled_byte b form ns (not-true (is_blank b) parts.1) in
    subst (λ l. ends_number (l ++ t) ≡ true) (sym byte) parts.0

-- a form whose first blank has a number
number_first : (b n : ℕ) (form ns t : List ℕ) → is_blank b ≡ true → filled (b ∷ form) (n ∷ ns) ++ t ≡ decimal n ++ (filled form ns ++ t)
number_first b n form ns t is = ap (λ l. l ++ t) (filled_blank b n form ns is) ∙ append_assoc (decimal n) (filled form ns) t

byte_first : (b : ℕ) (form ns t : List ℕ) → is_blank b ≡ false → filled (b ∷ form) ns ++ t ≡ b ∷ (filled form ns ++ t)
byte_first b form ns t is = ap (λ l. l ++ t) (filled_byte b form ns is)

-- a text has one form in one way
abbrev pub IsOneWay : List ℕ → Type 0
IsOneWay form = (ns ms a c : List ℕ) → is_form form ≡ true → length ns ≡ blank_count form → length ms ≡ blank_count form → AreSmall ns → AreSmall ms
    → filled form ns ++ a ≡ filled form ms ++ c → (ns ≡ ms) × (a ≡ c)

one_way_blank : (b : ℕ) (form : List ℕ) → is_blank b ≡ true → IsOneWay form → IsOneWay (b ∷ form)
one_way_blank b form is ih [] ms a c proper ln lm sn sm e = absurd (omega (arith, count_blank b form is, ln))
one_way_blank b form is ih (n ∷ ns) [] a c proper ln lm sn sm e = absurd (omega (arith, count_blank b form is, lm))
one_way_blank b form is ih (n ∷ ns) (m ∷ ms) a c proper ln lm sn sm e =
    let ends : ends_blank form ≡ true = ends_behind b form proper is in
    let here : decimal n ++ (filled form ns ++ a) ≡ decimal m ++ (filled form ms ++ c) = sym (number_first b n form ns a is) ∙ (e ∙ number_first b m form ms c is) in
    let read = same_numbers n m (filled form ns ++ a) (filled form ms ++ c) (omega (arith, sn.0)) (omega (arith, sm.0)) (ends_filled form ns a ends) (ends_filled form ms c ends) here in
    let others = ih ns ms a c (rest_of_form b form proper) (omega (arith, count_blank b form is, ln)) (omega (arith, count_blank b form is, lm)) sn.1 sm.1 read.1 in
    (ap₂ (λ x l. x ∷ l) read.0 others.0, others.1)

one_way_byte : (b : ℕ) (form : List ℕ) → is_blank b ≡ false → IsOneWay form → IsOneWay (b ∷ form)
one_way_byte b form is ih ns ms a c proper ln lm sn sm e =
    let here : filled form ns ++ a ≡ filled form ms ++ c = tail_same b _ _ (sym (byte_first b form ns a is) ∙ (e ∙ byte_first b form ms c is)) in
    ih ns ms a c (rest_of_form b form proper) (ln ∙ count_byte b form is) (lm ∙ count_byte b form is) sn sm here

one_way_by : (v : Bool) (b : ℕ) (form : List ℕ) → is_blank b ≡ v → IsOneWay form → IsOneWay (b ∷ form)
one_way_by true b form is ih = one_way_blank b form is ih
one_way_by false b form is ih = one_way_byte b form is ih

one_way_none : IsOneWay []
one_way_none [] [] a c proper ln lm sn sm e = (refl, e)
one_way_none [] (m ∷ ms) a c proper ln lm sn sm e = absurd (omega (arith, lm))
one_way_none (n ∷ ns) ms a c proper ln lm sn sm e = absurd (omega (arith, ln))

pub one_way : (form : List ℕ) → IsOneWay form
one_way [] = one_way_none
one_way (b ∷ form) = one_way_by (is_blank b) b form refl (one_way form)

-- how far a form was read: what is left of it and of the text, and the numbers so far
pub record IsRead (text form left numbers rest : List ℕ) (count n : ℕ) : Type 0 where
  pub proper : is_form left ≡ true
  pub room : count + blank_count left ≡ n
  pub size : length numbers ≡ n
  pub small : AreSmall (take count numbers)
  pub found : (ms t : List ℕ) → rest ≡ filled left ms ++ t → text ≡ filled form (take count numbers ++ ms) ++ t
  pub owed : (ns t : List ℕ) → length ns ≡ n → AreSmall ns → text ≡ filled form ns ++ t → (ms : List ℕ) × ((length ms ≡ blank_count left) × AreSmall ms × (rest ≡ filled left ms ++ t))

all_taken : (numbers : List ℕ) → take (length numbers) numbers ≡ numbers
all_taken numbers = grind (arith, common_steps)

pub read_all : (text form numbers rest : List ℕ) (count n : ℕ) → IsRead text form [] numbers rest count n → (length numbers ≡ n) × AreSmall numbers × (text ≡ filled form numbers ++ rest)
read_all text form numbers rest count n r =
    let whole : count ≡ length numbers = omega (arith, r.room, r.size) in
    let all : take count numbers ≡ numbers = ap (λ k. take k numbers) whole ∙ all_taken numbers in
    (r.size, subst AreSmall all r.small, subst (λ l. text ≡ filled form l ++ rest) (append-nil (take count numbers) ∙ all) (r.found [] rest refl))

-- the number that the text must go on with
record NextNumber (rest left t : List ℕ) : Type 0 where
  number : ℕ
  others : List ℕ
  small : number < 2 ^ 32
  begins : BeginsWithNumber rest number (filled left others ++ t)
  count : length others ≡ blank_count left
  smalls : AreSmall others

next_number : (b : ℕ) (rest left ms t : List ℕ) → is_form (b ∷ left) ≡ true → is_blank b ≡ true → length ms ≡ blank_count (b ∷ left) → AreSmall ms → rest ≡ filled (b ∷ left) ms ++ t → NextNumber rest left t
next_number b rest left [] t proper is l s e = absurd (omega (arith, count_blank b left is, l))
next_number b rest left (m ∷ ms) t proper is l s e = record {
  number = m;
  others = ms;
  small = s.0;
  begins = record { joined = e ∙ number_first b m left ms t is; whole = ends_filled left ms t (ends_behind b left proper is) };
  count = omega (arith, count_blank b left is, l);
  smalls = s.1;
}

small_more : (xs : List ℕ) (m : ℕ) → AreSmall xs → m < 2 ^ 32 → AreSmall (xs ++ m ∷ [])
small_more [] m s h = (h, tt)
small_more (x ∷ xs) m s h = (s.0, small_more xs m s.1 h)

-- a blank is read
pub read_blank : (text form left numbers rest others : List ℕ) (b m count n : ℕ) → IsRead text form (b ∷ left) numbers rest count n → is_blank b ≡ true → m < 2 ^ 32 → BeginsWithNumber rest m others
    → IsRead text form left (set numbers count m) others (count + 1) n
read_blank text form left numbers rest others b m count n r is small begins =
    let below : count < length numbers = omega (arith, count_blank b left is, r.room, r.size) in
    let more : take (count + 1) (set numbers count m) ≡ take count numbers ++ m ∷ [] = take_more_set numbers count m below in
    record {
      proper = rest_of_form b left r.proper;
      room = omega (arith, count_blank b left is, r.room);
      size = grind (arith, common_steps, r.size);
      small = subst AreSmall (sym more) (small_more (take count numbers) m r.small small);
      found = λ ms t e.
          let all : rest ≡ filled (b ∷ left) (m ∷ ms) ++ t = begins.joined ∙ (ap (λ l. decimal m ++ l) e ∙ sym (number_first b m left ms t is)) in
          let joined : take count numbers ++ m ∷ ms ≡ take (count + 1) (set numbers count m) ++ ms = sym (append_assoc (take count numbers) (m ∷ []) ms) ∙ ap (λ l. l ++ ms) (sym more) in
          subst (λ l. text ≡ filled form l ++ t) joined (r.found (m ∷ ms) t all);
      owed = λ ns t l s e.
          let due = r.owed ns t l s e in
          let next = next_number b rest left due.0 t r.proper is due.1.0 due.1.1 due.1.2 in
          (next.others, (next.count, next.smalls, same_rest rest m next.number others (filled left next.others ++ t) (omega (arith, small)) (omega (arith, next.small)) begins next.begins));
    }

-- a byte is read
pub read_byte : (text form left numbers rest others : List ℕ) (b count n : ℕ) → IsRead text form (b ∷ left) numbers rest count n → is_blank b ≡ false → rest ≡ b ∷ others → IsRead text form left numbers others count n
read_byte text form left numbers rest others b count n r is here = record {
  proper = rest_of_form b left r.proper;
  room = omega (arith, count_byte b left is, r.room);
  size = r.size;
  small = r.small;
  found = λ ms t e. r.found ms t (here ∙ (ap (λ l. b ∷ l) e ∙ sym (byte_first b left ms t is)));
  owed = λ ns t l s e.
      let due = r.owed ns t l s e in
      (due.0, (due.1.0 ∙ count_byte b left is, due.1.1, tail_same b _ _ (sym here ∙ (due.1.2 ∙ byte_first b left due.0 t is))));
}

pub blank_is : (b : ℕ) → b ≡ 35 → is_blank b ≡ true
blank_is b h = rw h refl

pub byte_is : (b : ℕ) → b ≢ 35 → is_blank b ≡ false
byte_is b h = grind (arith, h)

-- what is left at a place of the form
pub left_at : (form : List ℕ) (i : ℕ) → i < length form → drop i form ≡ get_or form i 0 ∷ drop (i + 1) form
left_at form i h = rw (add-one, ← drop-cons form i 0 h) refl
