-- Where a head begins and ends, a step at a time.
use Rattle.std.proofs.Common.{◌≡◌, ◌∙◌, ℕ, Bool, true, false, ◌&&◌, List, [], ◌∷◌, refl, sym, ap}
use Rattle.std.proofs.lemmas.Option.{same_Some, none-some}
use Rattle.std.specs.Prelude.{Option, Some, None, ◌==◌, if◌then◌else◌}
use Rattle.httparse.specs.Ascii.{line_feed, carriage_return}
use Rattle.http_pages.specs.Heads.{behind_empty_line, from_request_line}

skip_one : (t : Bool) (b : ℕ) (r : List ℕ) → (if t then Some [] else None) ≡ Some r → (if t then [] else b ∷ []) ≡ from_request_line r
unfolding from_request_line
skip_one true b r e = ap from_request_line (same_Some [] r e)
skip_one false b r e = absurd (none-some r e)

skip_two : (t u : Bool) (b c : ℕ) (rest r : List ℕ) → (if t then Some (c ∷ rest) else (if u then Some rest else None)) ≡ Some r
    → (if t then from_request_line (c ∷ rest) else (if u then from_request_line rest else b ∷ c ∷ rest)) ≡ from_request_line r
skip_two true u b c rest r e = ap from_request_line (same_Some (c ∷ rest) r e)
skip_two false true b c rest r e = ap from_request_line (same_Some rest r e)
skip_two false false b c rest r e = absurd (none-some r e)

pub empty_skipped : (xs r : List ℕ) → behind_empty_line xs ≡ Some r → from_request_line xs ≡ from_request_line r
unfolding from_request_line
empty_skipped [] r e = absurd (none-some r e)
empty_skipped (b ∷ []) r e = skip_one (b == line_feed) b r e
empty_skipped (b ∷ c ∷ rest) r e = skip_two (b == line_feed) ((b == carriage_return) && (c == line_feed)) b c rest r e

stay_one : (t : Bool) (b : ℕ) (x : Option (List ℕ)) → (if t then Some [] else None) ≡ x → x ≡ None → (if t then [] else b ∷ []) ≡ b ∷ []
stay_one true b x is e = absurd (none-some [] (sym (is ∙ e)))
stay_one false b x is e = refl

stay_two : (t u : Bool) (b c : ℕ) (rest : List ℕ) (x : Option (List ℕ)) → (if t then Some (c ∷ rest) else (if u then Some rest else None)) ≡ x → x ≡ None
    → (if t then from_request_line (c ∷ rest) else (if u then from_request_line rest else b ∷ c ∷ rest)) ≡ b ∷ c ∷ rest
stay_two true u b c rest x is e = absurd (none-some (c ∷ rest) (sym (is ∙ e)))
stay_two false true b c rest x is e = absurd (none-some rest (sym (is ∙ e)))
stay_two false false b c rest x is e = refl

pub full_stays : (xs : List ℕ) → behind_empty_line xs ≡ None → from_request_line xs ≡ xs
unfolding from_request_line
full_stays [] e = refl
full_stays (b ∷ []) e = stay_one (b == line_feed) b _ refl e
full_stays (b ∷ c ∷ rest) e = stay_two (b == line_feed) ((b == carriage_return) && (c == line_feed)) b c rest _ refl e
