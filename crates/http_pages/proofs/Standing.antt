-- An answer stands, whatever comes behind its request.
use Rattle.std.proofs.Common.{◌≡◌, ◌∙◌, ℕ, ◌+◌, ◌-◌, ◌<◌, ◌≤◌, ◌⊎◌, inl, inr, Bool, true, false, not, ◌&&◌, List, [], ◌∷◌, ◌++◌, length, take, refl, sym, ap, arith, append-nil, length-append}
use Rattle.std.proofs.lemmas.Bool.{cases_order, leb-true, true≢false}
use Rattle.std.proofs.Math.Seq.{take-append-add}
use Rattle.std.proofs.lemmas.List.{take_all, take-append-le, length-take}
use Rattle.std.proofs.lemmas.Option.{same_Some, none-some}
use Rattle.std.specs.Prelude.{Option, Some, None, option_map, ◌==◌, nat_le, if◌then◌else◌}
use Rattle.httparse.specs.Ascii.{line_feed, carriage_return}
use Rattle.httparse.specs.Grammar.{is_token_byte}
use Rattle.http_pages.specs.declared.answer.Status.TheVariants.{BadRequest}
use Rattle.http_pages.specs.declared.answer.Answer.{Answer}
use Rattle.http_pages.specs.Choosing.{answer, refused}
use Rattle.http_pages.specs.Heads.{behind_empty_line, from_request_line, behind_head, begins_badly, first_of, head_length, is_line_feed}
use Rattle.http_pages.specs.Limits.{most_head}
use Rattle.http_pages.specs.Pages.{Page}
use Rattle.http_pages.specs.Reading.{answer_to, by_front, by_length, too_long}

-- more bytes may make an empty line of these
abbrev is_open : List ℕ → Bool
is_open [] = true
is_open (b ∷ []) = b == carriage_return
is_open (b ∷ c ∷ rest) = false

one_more : (t u : Bool) (b c : ℕ) (m : List ℕ) → is_open (if t then [] else b ∷ []) ≡ false → (b == carriage_return) ≡ u
    → (if t then from_request_line (c ∷ m) else (if u && (c == line_feed) then from_request_line m else b ∷ c ∷ m)) ≡ (if t then [] else b ∷ []) ++ (c ∷ m)
one_more true u b c m shut e = absurd (true≢false shut)
one_more false true b c m shut e = absurd (true≢false (sym e ∙ shut))
one_more false false b c m shut e = refl

one_stays : (b : ℕ) (m : List ℕ) → is_open (if b == line_feed then [] else b ∷ []) ≡ false → from_request_line (b ∷ m) ≡ (if b == line_feed then [] else b ∷ []) ++ m
unfolding from_request_line
one_stays b [] shut = sym (append-nil (if b == line_feed then [] else b ∷ []))
one_stays b (c ∷ m) shut = one_more (b == line_feed) (b == carriage_return) b c m shut refl

two_stay : (t u : Bool) (b c : ℕ) (rest m : List ℕ)
    → (is_open (from_request_line (c ∷ rest)) ≡ false → from_request_line (c ∷ rest ++ m) ≡ from_request_line (c ∷ rest) ++ m)
    → (is_open (from_request_line rest) ≡ false → from_request_line (rest ++ m) ≡ from_request_line rest ++ m)
    → is_open (if t then from_request_line (c ∷ rest) else (if u then from_request_line rest else b ∷ c ∷ rest)) ≡ false
    → (if t then from_request_line (c ∷ rest ++ m) else (if u then from_request_line (rest ++ m) else b ∷ c ∷ rest ++ m))
    ≡ (if t then from_request_line (c ∷ rest) else (if u then from_request_line rest else b ∷ c ∷ rest)) ++ m
two_stay true u b c rest m first second shut = first shut
two_stay false true b c rest m first second shut = second shut
two_stay false false b c rest m first second shut = refl

-- a line that has begun stays the first one
from_request_line-append : (xs m : List ℕ) → is_open (from_request_line xs) ≡ false → from_request_line (xs ++ m) ≡ from_request_line xs ++ m
unfolding from_request_line
from_request_line-append [] m shut = absurd (true≢false shut)
from_request_line-append (b ∷ []) m shut = one_stays b m shut
from_request_line-append (b ∷ c ∷ rest) m shut =
    two_stay (b == line_feed) ((b == carriage_return) && (c == line_feed)) b c rest m
    (from_request_line-append (c ∷ rest) m) (from_request_line-append rest m) shut

fewer_one : (t : Bool) (b : ℕ) → length (if t then [] else b ∷ []) ≤ 1
fewer_one true b = omega arith
fewer_one false b = omega arith

fewer_two : (t u : Bool) (b c : ℕ) (rest : List ℕ) → length (from_request_line (c ∷ rest)) ≤ length (c ∷ rest) → length (from_request_line rest) ≤ length rest
    → length (if t then from_request_line (c ∷ rest) else (if u then from_request_line rest else b ∷ c ∷ rest)) ≤ length (b ∷ c ∷ rest)
fewer_two true u b c rest first second = omega (arith, first)
fewer_two false true b c rest first second = omega (arith, second)
fewer_two false false b c rest first second = omega arith

from_request_line-length : (xs : List ℕ) → length (from_request_line xs) ≤ length xs
unfolding from_request_line
from_request_line-length [] = omega arith
from_request_line-length (b ∷ []) = fewer_one (b == line_feed) b
from_request_line-length (b ∷ c ∷ rest) =
    fewer_two (b == line_feed) ((b == carriage_return) && (c == line_feed)) b c rest (from_request_line-length (c ∷ rest)) (from_request_line-length rest)

empty_one : (t u : Bool) (m r : List ℕ) (c : ℕ) → (if t then Some [] else None) ≡ Some r → (if t then Some (c ∷ m) else (if u then Some m else None)) ≡ Some (r ++ (c ∷ m))
empty_one true u m r c is = ap (λ x. Some (x ++ (c ∷ m))) (same_Some [] r is)
empty_one false u m r c is = absurd (none-some r is)

empty_two : (t u : Bool) (c : ℕ) (rest m r : List ℕ) → (if t then Some (c ∷ rest) else (if u then Some rest else None)) ≡ Some r
    → (if t then Some (c ∷ rest ++ m) else (if u then Some (rest ++ m) else None)) ≡ Some (r ++ m)
empty_two true u c rest m r is = ap (λ x. Some (x ++ m)) (same_Some (c ∷ rest) r is)
empty_two false true c rest m r is = ap (λ x. Some (x ++ m)) (same_Some rest r is)
empty_two false false c rest m r is = absurd (none-some r is)

behind_empty_line-append : (xs m r : List ℕ) → behind_empty_line xs ≡ Some r → behind_empty_line (xs ++ m) ≡ Some (r ++ m)
behind_empty_line-append [] m r is = absurd (none-some r is)
behind_empty_line-append (b ∷ []) [] r is = is ∙ ap Some (sym (append-nil r))
behind_empty_line-append (b ∷ []) (c ∷ m) r is = empty_one (b == line_feed) ((b == carriage_return) && (c == line_feed)) m r c is
behind_empty_line-append (b ∷ c ∷ rest) m r is = empty_two (b == line_feed) ((b == carriage_return) && (c == line_feed)) c rest m r is

full_one : (t u : Bool) (c : ℕ) (m : List ℕ) (x : Option (List ℕ)) → (if t then Some [] else None) ≡ x → x ≡ None → u ≡ false → (if t then Some (c ∷ m) else (if u && (c == line_feed) then Some m else None)) ≡ x
full_one true u c m x is none shut = absurd (none-some [] (sym (is ∙ none)))
full_one false true c m x is none shut = absurd (true≢false shut)
full_one false false c m x is none shut = is

full_two : (t u : Bool) (c : ℕ) (rest m : List ℕ) (x : Option (List ℕ)) → (if t then Some (c ∷ rest) else (if u then Some rest else None)) ≡ x → x ≡ None
    → (if t then Some (c ∷ rest ++ m) else (if u then Some (rest ++ m) else None)) ≡ x
full_two true u c rest m x is none = absurd (none-some (c ∷ rest) (sym (is ∙ none)))
full_two false true c rest m x is none = absurd (none-some rest (sym (is ∙ none)))
full_two false false c rest m x is none = is

full-append : (xs m : List ℕ) (x : Option (List ℕ)) → behind_empty_line xs ≡ x → x ≡ None → is_open xs ≡ false → behind_empty_line (xs ++ m) ≡ x
full-append [] m x is none shut = absurd (true≢false shut)
full-append (b ∷ []) [] x is none shut = is
full-append (b ∷ []) (c ∷ m) x is none shut = full_one (b == line_feed) (b == carriage_return) c m x is none shut
full-append (b ∷ c ∷ rest) m x is none shut = full_two (b == line_feed) ((b == carriage_return) && (c == line_feed)) c rest m x is none

same_either : (t : Bool) (x : Option (List ℕ)) → (if t then x else x) ≡ x
same_either true x = refl
same_either false x = refl

open_waits : (ys : List ℕ) → is_open ys ≡ true → behind_head ys ≡ None
unfolding behind_head
open_waits [] e = refl
open_waits (b ∷ []) e = same_either (b == line_feed) None
open_waits (b ∷ c ∷ rest) e = absurd (true≢false (sym e))

shut_by : (t : Bool) (ys r : List ℕ) → is_open ys ≡ t → behind_head ys ≡ Some r → t ≡ false
shut_by true ys r e is = absurd (none-some r (sym (open_waits ys e) ∙ is))
shut_by false ys r e is = refl

shut : (ys r : List ℕ) → behind_head ys ≡ Some r → is_open ys ≡ false
shut ys r is = shut_by (is_open ys) ys r refl is

head_step : (t : Bool) (x : Option (List ℕ)) (bs m r : List ℕ) → behind_empty_line bs ≡ x → (behind_head bs ≡ Some r → behind_head (bs ++ m) ≡ Some (r ++ m))
    → (if t then first_of x (behind_head bs) else behind_head bs) ≡ Some r
    → (if t then first_of (behind_empty_line (bs ++ m)) (behind_head (bs ++ m)) else behind_head (bs ++ m)) ≡ Some (r ++ m)
head_step false x bs m r e later is = later is
head_step true None bs m r e later is = rw (full-append bs m None e refl (shut bs r is)) (later is)
head_step true (Some s) bs m r e later is = rw (behind_empty_line-append bs m s e) (ap (λ x. Some (x ++ m)) (same_Some s r is))

behind_head-append : (ys m r : List ℕ) → behind_head ys ≡ Some r → behind_head (ys ++ m) ≡ Some (r ++ m)
unfolding behind_head
behind_head-append [] m r is = absurd (none-some r is)
behind_head-append (b ∷ bs) m r is = head_step (is_line_feed b) (behind_empty_line bs) bs m r refl (behind_head-append bs m r) is

less_one : (t : Bool) (r : List ℕ) → (if t then Some [] else None) ≡ Some r → length r < 1
less_one true r is = omega (arith, ap length (same_Some [] r is))
less_one false r is = absurd (none-some r is)

less_two : (t u : Bool) (b c : ℕ) (rest r : List ℕ) → (if t then Some (c ∷ rest) else (if u then Some rest else None)) ≡ Some r → length r < length (b ∷ c ∷ rest)
less_two true u b c rest r is = omega (arith, ap length (same_Some (c ∷ rest) r is))
less_two false true b c rest r is = omega (arith, ap length (same_Some rest r is))
less_two false false b c rest r is = absurd (none-some r is)

behind_empty_line-length : (xs r : List ℕ) → behind_empty_line xs ≡ Some r → length r < length xs
behind_empty_line-length [] r is = absurd (none-some r is)
behind_empty_line-length (b ∷ []) r is = less_one (b == line_feed) r is
behind_empty_line-length (b ∷ c ∷ rest) r is = less_two (b == line_feed) ((b == carriage_return) && (c == line_feed)) b c rest r is

less_step : (t : Bool) (x : Option (List ℕ)) (b : ℕ) (bs r : List ℕ) → behind_empty_line bs ≡ x → (behind_head bs ≡ Some r → length r < length bs)
    → (if t then first_of x (behind_head bs) else behind_head bs) ≡ Some r → length r < length (b ∷ bs)
less_step false x b bs r e later is = omega (arith, later is)
less_step true None b bs r e later is = omega (arith, later is)
less_step true (Some s) b bs r e later is = omega (arith, behind_empty_line-length bs s e, ap length (same_Some s r is))

behind_head-length : (ys r : List ℕ) → behind_head ys ≡ Some r → length r < length ys
unfolding behind_head
behind_head-length [] r is = absurd (none-some r is)
behind_head-length (b ∷ bs) r is = less_step (is_line_feed b) (behind_empty_line bs) b bs r refl (behind_head-length bs r) is

-- a head that has ended ends there, whatever comes behind it
pub record Ends (xs m : List ℕ) (n : ℕ) : Type 0 where
  pub shut : is_open (from_request_line xs) ≡ false
  pub same : head_length (xs ++ m) ≡ Some n
  pub some : 1 ≤ n
  pub within : n ≤ length xs

ends_by : (x : Option (List ℕ)) (xs m : List ℕ) (n : ℕ) → behind_head (from_request_line xs) ≡ x → option_map (λ rest. length xs - length rest) x ≡ Some n → Ends xs m n
ends_by None xs m n e is = absurd (none-some n is)
ends_by (Some r) xs m n e is =
    let same = same_Some (length xs - length r) n is in
    let closed = shut (from_request_line xs) r e in
    let start = from_request_line-append xs m closed in
    let later = behind_head-append (from_request_line xs) m r e in
    let less = behind_head-length (from_request_line xs) r e in
    let most = from_request_line-length xs in
    record {
      shut = closed;
      same = rw (start, later) (ap Some (omega (arith, same, length-append xs m, length-append r m)));
      some = omega (arith, same, less, most);
      within = omega (arith, same);
    }

pub ends : (xs m : List ℕ) (n : ℕ) → head_length xs ≡ Some n → Ends xs m n
ends xs m n is = ends_by (behind_head (from_request_line xs)) xs m n refl is

bad_one : (t u : Bool) → (not t && not u) ≡ true → u ≡ false
bad_one true u e = absurd (true≢false (sym e))
bad_one false true e = absurd (true≢false (sym e))
bad_one false false e = refl

bad_shut : (ys : List ℕ) → begins_badly ys ≡ true → is_open ys ≡ false
bad_shut [] e = absurd (true≢false (sym e))
bad_shut (b ∷ []) e = bad_one (is_token_byte b) (b == carriage_return) e
bad_shut (b ∷ c ∷ rest) e = refl

bad_some : (ys : List ℕ) → begins_badly ys ≡ true → 1 ≤ length ys
bad_some [] e = absurd (true≢false (sym e))
bad_some (b ∷ bs) e = omega arith

bad_stays : (ys m : List ℕ) → is_open ys ≡ false → begins_badly (ys ++ m) ≡ begins_badly ys
bad_stays [] m e = absurd (true≢false e)
bad_stays (b ∷ bs) m e = refl

still : (xs m : List ℕ) (t : Bool) → is_open (from_request_line xs) ≡ false → begins_badly (from_request_line xs) ≡ t → begins_badly (from_request_line (xs ++ m)) ≡ t
still xs m t closed e = ap begins_badly (from_request_line-append xs m closed) ∙ bad_stays (from_request_line xs) m closed ∙ e

first_taken : {X : Type 0} (t : Bool) (a b : X) → t ≡ true → (if t then a else b) ≡ a
first_taken true a b e = refl
first_taken false a b e = absurd (true≢false (sym e))

second_taken : {X : Type 0} (t : Bool) (a b : X) → t ≡ false → (if t then a else b) ≡ b
second_taken true a b e = absurd (true≢false e)
second_taken false a b e = refl

abbrev bad_count : List ℕ → ℕ
bad_count front = length front - length (from_request_line front) + 1

abbrev bad_answer : ℕ → List ℕ → Option (Answer × ℕ)
bad_answer at front = Some (refused BadRequest false at, bad_count front)

bad_same : (front m : List ℕ) → is_open (from_request_line front) ≡ false → bad_count (front ++ m) ≡ bad_count front
bad_same front m closed =
    let start = from_request_line-append front m closed in
    omega (arith, ap length start, length-append front m, length-append (from_request_line front) m)

never_short : (t : Bool) (front : List ℕ) (a : Answer × ℕ) (found : Answer × ℕ) → nat_le most_head (length front) ≡ t → length front < most_head → (if t then Some a else None) ≡ Some found → ⊥
never_short true front a found e few is = omega (arith, leb-true most_head (length front) e, few)
never_short false front a found e few is = none-some found is

length_append : (x : Option ℕ) (pages : List Page) (at : ℕ) (front m : List ℕ) (found : Answer × ℕ) → length front < most_head → head_length front ≡ x
    → begins_badly (from_request_line front) ≡ false → by_length pages at front x ≡ Some found → by_front pages at (front ++ m) ≡ Some found
length_append None pages at front m found few e good is = absurd (never_short (nat_le most_head (length front)) front (too_long at front, most_head) found refl few is)
length_append (Some n) pages at front m found few e good is =
    let end = ends front m n e in
    second_taken (begins_badly (from_request_line (front ++ m))) (bad_answer at (front ++ m)) (by_length pages at (front ++ m) (head_length (front ++ m))) (still front m false end.shut good)
    ∙ ap (by_length pages at (front ++ m)) end.same
    ∙ ap (λ head. Some (answer pages at head, n)) (take-append-le n front m end.within)
    ∙ is

front_append : (t : Bool) (pages : List Page) (at : ℕ) (front m : List ℕ) (found : Answer × ℕ) → length front < most_head → begins_badly (from_request_line front) ≡ t
    → (if t then bad_answer at front else by_length pages at front (head_length front)) ≡ Some found → by_front pages at (front ++ m) ≡ Some found
front_append true pages at front m found few e is =
    let closed = bad_shut (from_request_line front) e in
    first_taken (begins_badly (from_request_line (front ++ m))) (bad_answer at (front ++ m)) (by_length pages at (front ++ m) (head_length (front ++ m))) (still front m true closed e)
    ∙ ap (λ n. Some (refused BadRequest false at, n)) (bad_same front m closed)
    ∙ is
front_append false pages at front m found few e is = length_append (head_length front) pages at front m found few refl e is

by_front-append : (pages : List Page) (at : ℕ) (front m : List ℕ) (found : Answer × ℕ) → length front < most_head → by_front pages at front ≡ Some found → by_front pages at (front ++ m) ≡ Some found
by_front-append pages at front m found few is = front_append (begins_badly (from_request_line front)) pages at front m found few refl is

take_through : (n : ℕ) (xs ys : List ℕ) → length xs ≤ n → take n (xs ++ ys) ≡ xs ++ take (n - length xs) ys
take_through n xs ys all =
    let size : n ≡ length xs + (n - length xs) = omega (arith, all) in
    ap (λ k. take k (xs ++ ys)) size ∙ take-append-add xs ys (n - length xs)

append_by : (pages : List Page) (at : ℕ) (bytes more : List ℕ) (found : Answer × ℕ) → (length bytes ≡ most_head) ⊎ ((length bytes < most_head) ⊎ (most_head < length bytes))
    → by_front pages at (take most_head bytes) ≡ Some found → by_front pages at (take most_head (bytes ++ more)) ≡ Some found
append_by pages at bytes more found (inl same) is = ap (by_front pages at) (take-append-le most_head bytes more (omega (arith, same))) ∙ is
append_by pages at bytes more found (inr (inr long)) is = ap (by_front pages at) (take-append-le most_head bytes more (omega (arith, long))) ∙ is
append_by pages at bytes more found (inr (inl few)) is =
    let whole : take most_head bytes ≡ bytes = take_all most_head bytes (omega (arith, few)) in
    ap (by_front pages at) (take_through most_head bytes more (omega (arith, few)))
    ∙ by_front-append pages at bytes (take (most_head - length bytes) more) found few (ap (by_front pages at) (sym whole) ∙ is)

pub answer_to-append : (pages : List Page) (at : ℕ) (bytes more : List ℕ) (found : Answer × ℕ) → answer_to pages at bytes ≡ Some found → answer_to pages at (bytes ++ more) ≡ Some found
unfolding answer_to
answer_to-append pages at bytes more found is = append_by pages at bytes more found (cases_order (length bytes) most_head) is

pub answer_to-take : (pages : List Page) (at : ℕ) (bytes : List ℕ) → answer_to pages at (take most_head bytes) ≡ answer_to pages at bytes
unfolding answer_to
answer_to-take pages at bytes = ap (by_front pages at) (take_all most_head (take most_head bytes) (omega (arith, length-take most_head bytes)))

abbrev Counts : List ℕ → ℕ → Type 0
Counts front n = (1 ≤ n) × (n ≤ length front)

short_count : (t : Bool) (front : List ℕ) (a : Answer) (found : Answer × ℕ) → nat_le most_head (length front) ≡ t → (if t then Some (a, most_head) else None) ≡ Some found → Counts front found.1
short_count true front a found e is =
    let n = ap (λ (x : Answer × ℕ). x.1) (same_Some (a, most_head) found is) in
    (omega (arith, n), omega (arith, n, leb-true most_head (length front) e))
short_count false front a found e is = absurd (none-some found is)

length_count : (x : Option ℕ) (pages : List Page) (at : ℕ) (front : List ℕ) (found : Answer × ℕ) → head_length front ≡ x → by_length pages at front x ≡ Some found → Counts front found.1
length_count None pages at front found e is = short_count (nat_le most_head (length front)) front (too_long at front) found refl is
length_count (Some n) pages at front found e is =
    let end = ends front [] n e in
    let same = ap (λ (x : Answer × ℕ). x.1) (same_Some (answer pages at (take n front), n) found is) in
    (omega (arith, same, end.some), omega (arith, same, end.within))

front_count : (t : Bool) (pages : List Page) (at : ℕ) (front : List ℕ) (found : Answer × ℕ) → begins_badly (from_request_line front) ≡ t
    → (if t then bad_answer at front else by_length pages at front (head_length front)) ≡ Some found → Counts front found.1
front_count true pages at front found e is =
    let n = ap (λ (x : Answer × ℕ). x.1) (same_Some (refused BadRequest false at, bad_count front) found is) in
    let some = bad_some (from_request_line front) e in
    let most = from_request_line-length front in
    (omega (arith, n), omega (arith, n, some, most))
front_count false pages at front found e is = length_count (head_length front) pages at front found refl is

pub answer_to-count : (pages : List Page) (at : ℕ) (bytes : List ℕ) (found : Answer × ℕ) → answer_to pages at bytes ≡ Some found → (1 ≤ found.1) × (found.1 ≤ length bytes)
unfolding answer_to
answer_to-count pages at bytes found is =
    let front = take most_head bytes in
    let count = front_count (begins_badly (from_request_line front)) pages at front found refl is in
    (count.0, omega (arith, count.1, length-take most_head bytes))
