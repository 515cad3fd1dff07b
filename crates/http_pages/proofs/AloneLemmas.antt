-- A request's answer is found again in its own bytes.
use Rattle.std.proofs.Common.{◌≡◌, ℕ, ◌+◌, ◌-◌, ◌≤◌, List, [], ◌∷◌, Option, None, Some, Bool, true, false, cond, ◌==◌, ◌&&◌, length, take, refl, sym, ap, ◌∙◌, arith, length-take}
use Rattle.std.specs.Prelude.{suc, zero, nat_le, option_map}
use Rattle.std.proofs.lemmas.Bool.{false≢true}
use Rattle.std.proofs.lemmas.List.{take-take, take_all}
use Rattle.httparse.specs.Ascii.{line_feed, carriage_return}
use Rattle.http_pages.specs.declared.answer.Answer.{Answer}
use Rattle.http_pages.specs.declared.answer.Status.TheVariants.{BadRequest}
use Rattle.http_pages.specs.Choosing.{answer, refused}
use Rattle.http_pages.specs.Heads.{behind_empty_line, begins_badly, behind_head, first_of, from_request_line, head_length}
use Rattle.http_pages.specs.Limits.{most_head}
use Rattle.http_pages.specs.Pages.{Page}
use Rattle.http_pages.specs.Reading.{answer_to, by_front, by_length, too_long}
use Rattle.http_pages.proofs.Standing.{answer_to-count, answer_to-take}

none≢some : {X : Type 0} (x : X) → None ≡ Some x → ⊥
none≢some x e = cc

inside : {X : Type 0} (x y : X) → Some x ≡ Some y → x ≡ y
inside x y e = cc

-- empty lines in front

skipped-length : (t u : Bool) (b c : ℕ) (rest xs ys : List ℕ) → length xs ≤ suc (length rest) → length ys ≤ length rest → length (cond t xs (cond u ys (b ∷ c ∷ rest))) ≤ suc (suc (length rest))
skipped-length true u b c rest xs ys f g = omega (arith, f)
skipped-length false true b c rest xs ys f g = omega (arith, g)
skipped-length false false b c rest xs ys f g = omega arith

line-length : (t : Bool) (b : ℕ) → length (cond t [] (b ∷ [])) ≤ 1
line-length true b = omega arith
line-length false b = omega arith

pub from-length : (bytes : List ℕ) → length (from_request_line bytes) ≤ length bytes
unfolding from_request_line
from-length [] = omega arith
from-length (b ∷ []) = line-length (b == line_feed) b
from-length (b ∷ c ∷ rest) =
    skipped-length (b == line_feed) ((b == carriage_return) && (c == line_feed)) b c rest (from_request_line (c ∷ rest)) (from_request_line rest) (from-length (c ∷ rest)) (from-length rest)

-- these bytes, cut so that of what stands behind the empty lines so many are left
abbrev Cut : List ℕ → Type 0
Cut bytes = (m k : ℕ) → 1 ≤ k → k ≤ length (from_request_line bytes) → m + length (from_request_line bytes) ≡ length bytes + k
    → from_request_line (take m bytes) ≡ take k (from_request_line bytes)

cut-one : (t : Bool) (b m k : ℕ) → (b == line_feed) ≡ t → 1 ≤ k → k ≤ length (cond t [] (b ∷ [])) → m + length (cond t [] (b ∷ [])) ≡ 1 + k
    → from_request_line (take m (b ∷ [])) ≡ take k (cond t [] (b ∷ []))
unfolding from_request_line
cut-one true b m k tie h w e = absurd (omega (arith, h, w))
cut-one false b m k tie h w e =
    let m1 : m ≡ 1 = omega (arith, h, w, e) in
    let k1 : k ≡ 1 = omega (arith, h, w) in
    ap (λ (n : ℕ). from_request_line (take n (b ∷ []))) m1
    ∙ (ap (λ (t : Bool). cond t [] (b ∷ [])) tie ∙ sym (ap (λ (n : ℕ). take n (b ∷ [])) k1))

cut-line : (t u : Bool) (b c : ℕ) (rest : List ℕ) → (b == line_feed) ≡ t → ((b == carriage_return) && (c == line_feed)) ≡ u → Cut (c ∷ rest) → Cut rest → (m k : ℕ) → 1 ≤ k
    → k ≤ length (cond t (from_request_line (c ∷ rest)) (cond u (from_request_line rest) (b ∷ c ∷ rest)))
    → m + length (cond t (from_request_line (c ∷ rest)) (cond u (from_request_line rest) (b ∷ c ∷ rest))) ≡ suc (suc (length rest)) + k
    → from_request_line (take m (b ∷ c ∷ rest)) ≡ take k (cond t (from_request_line (c ∷ rest)) (cond u (from_request_line rest) (b ∷ c ∷ rest)))
unfolding from_request_line
cut-line true u b c rest tie line f g zero k h w e = absurd (let l = from-length (c ∷ rest) in omega (arith, l, e, h))
cut-line true u b c rest tie line f g (suc zero) k h w e = absurd (let l = from-length (c ∷ rest) in omega (arith, l, e, h))
cut-line true u b c rest tie line f g (suc (suc m)) k h w e =
    ap (λ (t : Bool). cond t (from_request_line (c ∷ take m rest)) (cond ((b == carriage_return) && (c == line_feed)) (from_request_line (take m rest)) (b ∷ c ∷ take m rest))) tie
    ∙ f (suc m) k h w (omega (arith, e))
cut-line false true b c rest tie line f g zero k h w e = absurd (let l = from-length rest in omega (arith, l, e, h))
cut-line false true b c rest tie line f g (suc zero) k h w e = absurd (let l = from-length rest in omega (arith, l, e, h))
cut-line false true b c rest tie line f g (suc (suc m)) k h w e =
    ap (λ (t : Bool). cond t (from_request_line (c ∷ take m rest)) (cond ((b == carriage_return) && (c == line_feed)) (from_request_line (take m rest)) (b ∷ c ∷ take m rest))) tie
    ∙ (ap (λ (t : Bool). cond t (from_request_line (take m rest)) (b ∷ c ∷ take m rest)) line ∙ g m k h w (omega (arith, e)))
cut-line false false b c rest tie line f g zero k h w e = absurd (omega (arith, e, h))
cut-line false false b c rest tie line f g (suc zero) k h w e =
    let k1 : k ≡ 1 = omega (arith, e) in
    ap (λ (t : Bool). cond t [] (b ∷ [])) tie ∙ sym (ap (λ (n : ℕ). take n (b ∷ c ∷ rest)) k1)
cut-line false false b c rest tie line f g (suc (suc m)) k h w e =
    let k2 : k ≡ suc (suc m) = omega (arith, e) in
    ap (λ (t : Bool). cond t (from_request_line (c ∷ take m rest)) (cond ((b == carriage_return) && (c == line_feed)) (from_request_line (take m rest)) (b ∷ c ∷ take m rest))) tie
    ∙ (ap (λ (t : Bool). cond t (from_request_line (take m rest)) (b ∷ c ∷ take m rest)) line ∙ sym (ap (λ (n : ℕ). take n (b ∷ c ∷ rest)) k2))

pub cut : (bytes : List ℕ) → Cut bytes
unfolding from_request_line
cut [] m k h w e = absurd (omega (arith, h, w))
cut (b ∷ []) m k h w e = cut-one (b == line_feed) b m k refl h w e
cut (b ∷ c ∷ rest) m k h w e =
    cut-line (b == line_feed) ((b == carriage_return) && (c == line_feed)) b c rest refl refl (cut (c ∷ rest)) (cut rest) m k h w e

-- the empty line at the end

empty-one : (t : Bool) (b m : ℕ) (r : List ℕ) → (b == line_feed) ≡ t → cond t (Some []) None ≡ Some r → m + length r ≡ 1 → behind_empty_line (take m (b ∷ [])) ≡ Some []
empty-one true b m r tie e h =
    let l = ap length (inside [] r e) in
    let m1 : m ≡ 1 = omega (arith, l, h) in
    ap (λ (n : ℕ). behind_empty_line (take n (b ∷ []))) m1 ∙ ap (λ (t : Bool). cond t (Some []) None) tie
empty-one false b m r tie e h = absurd (none≢some r e)

empty-line : (t u : Bool) (b c m : ℕ) (rest r : List ℕ) → (b == line_feed) ≡ t → ((b == carriage_return) && (c == line_feed)) ≡ u
    → cond t (Some (c ∷ rest)) (cond u (Some rest) None) ≡ Some r → m + length r ≡ suc (suc (length rest)) → behind_empty_line (take m (b ∷ c ∷ rest)) ≡ Some []
empty-line true u b c m rest r tie line e h =
    let l = ap length (inside (c ∷ rest) r e) in
    let m1 : m ≡ 1 = omega (arith, l, h) in
    ap (λ (n : ℕ). behind_empty_line (take n (b ∷ c ∷ rest))) m1 ∙ ap (λ (t : Bool). cond t (Some []) None) tie
empty-line false true b c m rest r tie line e h =
    let l = ap length (inside rest r e) in
    let m2 : m ≡ 2 = omega (arith, l, h) in
    ap (λ (n : ℕ). behind_empty_line (take n (b ∷ c ∷ rest))) m2
    ∙ (ap (λ (t : Bool). cond t (Some (c ∷ [])) (cond ((b == carriage_return) && (c == line_feed)) (Some []) None)) tie
    ∙ ap (λ (t : Bool). cond t (Some []) None) line)
empty-line false false b c m rest r tie line e h = absurd (none≢some r e)

empty-cut : (bytes r : List ℕ) (m : ℕ) → behind_empty_line bytes ≡ Some r → m + length r ≡ length bytes → behind_empty_line (take m bytes) ≡ Some []
empty-cut [] r m e h = absurd (none≢some r e)
empty-cut (b ∷ []) r m e h = empty-one (b == line_feed) b m r refl e h
empty-cut (b ∷ c ∷ rest) r m e h = empty-line (b == line_feed) ((b == carriage_return) && (c == line_feed)) b c m rest r refl refl e h

full-two : (t u : Bool) (xs ys : List ℕ) → cond t (Some xs) (cond u (Some ys) None) ≡ None → (t ≡ false) × (u ≡ false)
full-two true u xs ys e = absurd (none≢some xs (sym e))
full-two false true xs ys e = absurd (none≢some ys (sym e))
full-two false false xs ys e = (refl, refl)

-- a line that isn't empty isn't where it is cut
full-cut : (bytes : List ℕ) (m : ℕ) → behind_empty_line bytes ≡ None → behind_empty_line (take m bytes) ≡ None
full-cut bytes zero e = refl
full-cut [] (suc m) e = refl
full-cut (b ∷ []) (suc zero) e = e
full-cut (b ∷ []) (suc (suc m)) e = e
full-cut (b ∷ c ∷ rest) (suc zero) e =
    let f = full-two (b == line_feed) ((b == carriage_return) && (c == line_feed)) (c ∷ rest) rest e in
    ap (λ (t : Bool). cond t (Some []) None) f.0
full-cut (b ∷ c ∷ rest) (suc (suc m)) e =
    let f = full-two (b == line_feed) ((b == carriage_return) && (c == line_feed)) (c ∷ rest) rest e in
    ap (λ (t : Bool). cond t (Some (c ∷ take m rest)) (cond ((b == carriage_return) && (c == line_feed)) (Some (take m rest)) None)) f.0
    ∙ ap (λ (t : Bool). cond t (Some (take m rest)) None) f.1

one-less : (t : Bool) (r : List ℕ) → cond t (Some []) None ≡ Some r → length r ≤ 0
one-less true r e = let l = ap length (inside [] r e) in omega (arith, l)
one-less false r e = absurd (none≢some r e)

two-less : (t u : Bool) (c : ℕ) (rest r : List ℕ) → cond t (Some (c ∷ rest)) (cond u (Some rest) None) ≡ Some r → length r ≤ suc (length rest)
two-less true u c rest r e = let l = ap length (inside (c ∷ rest) r e) in omega (arith, l)
two-less false true c rest r e = let l = ap length (inside rest r e) in omega (arith, l)
two-less false false c rest r e = absurd (none≢some r e)

empty-less : (bytes r : List ℕ) → behind_empty_line bytes ≡ Some r → length r ≤ length bytes
empty-less [] r e = absurd (none≢some r e)
empty-less (b ∷ []) r e = let l = one-less (b == line_feed) r e in omega (arith, l)
empty-less (b ∷ c ∷ rest) r e = let l = two-less (b == line_feed) ((b == carriage_return) && (c == line_feed)) c rest r e in omega (arith, l)

-- the end of a head

pub first-less : (o : Option (List ℕ)) (bytes r : List ℕ) → behind_empty_line bytes ≡ o → first_of o (behind_head bytes) ≡ Some r
    → ((s : List ℕ) → behind_head bytes ≡ Some s → length s ≤ length bytes) → length r ≤ length bytes
first-less None bytes r e f g = g r f
first-less (Some s) bytes r e f g = let l = empty-less bytes s e in let k = ap length (inside s r f) in omega (arith, l, k)

step-less : (t : Bool) (bytes r : List ℕ) → cond t (first_of (behind_empty_line bytes) (behind_head bytes)) (behind_head bytes) ≡ Some r
    → ((s : List ℕ) → behind_head bytes ≡ Some s → length s ≤ length bytes) → length r ≤ length bytes
step-less true bytes r e g = first-less (behind_empty_line bytes) bytes r refl e g
step-less false bytes r e g = g r e

pub head-less : (bytes r : List ℕ) → behind_head bytes ≡ Some r → suc (length r) ≤ length bytes
unfolding behind_head
head-less [] r e = absurd (none≢some r e)
head-less (b ∷ bytes) r e = let l = step-less (b == line_feed) bytes r e (λ s f. let k = head-less bytes s f in omega (arith, k)) in omega (arith, l)

abbrev pub CutHead : List ℕ → Type 0
CutHead bytes = (r : List ℕ) (m : ℕ) → behind_head bytes ≡ Some r → m + length r ≡ length bytes → behind_head (take m bytes) ≡ Some []

head-first : (o : Option (List ℕ)) (bytes r : List ℕ) (m : ℕ) → behind_empty_line bytes ≡ o → first_of o (behind_head bytes) ≡ Some r → m + length r ≡ length bytes → CutHead bytes
    → first_of (behind_empty_line (take m bytes)) (behind_head (take m bytes)) ≡ Some []
head-first None bytes r m e f h g = ap (λ (o : Option (List ℕ)). first_of o (behind_head (take m bytes))) (full-cut bytes m e) ∙ g r m f h
head-first (Some s) bytes r m e f h g =
    let k = ap length (inside s r f) in
    ap (λ (o : Option (List ℕ)). first_of o (behind_head (take m bytes))) (empty-cut bytes s m e (omega (arith, k, h)))

head-step : (t : Bool) (bytes r : List ℕ) (m : ℕ) → cond t (first_of (behind_empty_line bytes) (behind_head bytes)) (behind_head bytes) ≡ Some r → m + length r ≡ length bytes → CutHead bytes
    → cond t (first_of (behind_empty_line (take m bytes)) (behind_head (take m bytes))) (behind_head (take m bytes)) ≡ Some []
head-step true bytes r m e h g = head-first (behind_empty_line bytes) bytes r m refl e h g
head-step false bytes r m e h g = g r m e h

pub cut-head : (bytes : List ℕ) → CutHead bytes
unfolding behind_head
cut-head [] r m e h = absurd (none≢some r e)
cut-head (b ∷ bytes) r zero e h = absurd (let l = head-less (b ∷ bytes) r e in omega (arith, l, h))
cut-head (b ∷ bytes) r (suc m) e h = head-step (b == line_feed) bytes r m e (omega (arith, h)) (cut-head bytes)

-- an answer

badly-cut : (k : ℕ) (xs : List ℕ) → 1 ≤ k → begins_badly (take k xs) ≡ begins_badly xs
badly-cut zero xs h = absurd (omega (arith, h))
badly-cut (suc k) [] h = refl
badly-cut (suc k) (x ∷ xs) h = refl

badly-some : (xs : List ℕ) → begins_badly xs ≡ true → 1 ≤ length xs
badly-some [] e = absurd (false≢true e)
badly-some (x ∷ xs) e = omega arith

module _ (pages : List Page) (at : ℕ) where
  abbrev Found : List ℕ → Bool → Option (Answer × ℕ)
  Found front t = cond t (Some (refused BadRequest false at, length front - length (from_request_line front) + 1)) (by_length pages at front (head_length front))

  -- refused by its first byte
  bad-alone : (front : List ℕ) (found : Answer × ℕ) → begins_badly (from_request_line front) ≡ true → found.1 ≤ length front
      → Some (refused BadRequest false at, length front - length (from_request_line front) + 1) ≡ Some found → by_front pages at (take found.1 front) ≡ Some found
  bad-alone front found bad w e =
      let n = found.1 in
      let first = from_request_line front in
      let own = take n front in
      let some = badly-some first bad in
      let less = from-length front in
      let is = ap (λ (x : Answer × ℕ). x.1) (inside (refused BadRequest false at, length front - length first + 1) found e) in
      let kept : from_request_line own ≡ take 1 first = cut front n 1 (omega arith) some (omega (arith, is, less, some)) in
      let still : begins_badly (from_request_line own) ≡ true = ap begins_badly kept ∙ (badly-cut 1 first (omega arith) ∙ bad) in
      let size = length-take n front in
      let one = ap length kept in
      let short = length-take 1 first in
      let same : length own - length (from_request_line own) + 1 ≡ length front - length first + 1 = omega (arith, size, one, short, some, is, w) in
      ap (Found own) still ∙ (ap (λ (k : ℕ). Some (refused BadRequest false at, k)) same ∙ e)

  -- a head
  head-alone : (o : Option (List ℕ)) (front : List ℕ) (found : Answer × ℕ) → begins_badly (from_request_line front) ≡ false → behind_head (from_request_line front) ≡ o → length front ≤ most_head
      → found.1 ≤ length front → by_length pages at front (option_map (λ r. length front - length r) o) ≡ Some found → by_front pages at (take found.1 front) ≡ Some found
  head-alone (Some r) front found good h l w e =
      let n = found.1 in
      let first = from_request_line front in
      let own = take n front in
      let less = from-length front in
      let some = head-less first r h in
      let k = length first - length r in
      let is = ap (λ (x : Answer × ℕ). x.1) (inside (answer pages at (take (length front - length r) front), length front - length r) found e) in
      let kept : from_request_line own ≡ take k first = cut front n k (omega (arith, some)) (omega arith) (omega (arith, is, less, some)) in
      let still : begins_badly (from_request_line own) ≡ false = ap begins_badly kept ∙ (badly-cut k first (omega (arith, some)) ∙ good) in
      let done : behind_head (from_request_line own) ≡ Some [] = ap behind_head kept ∙ cut-head first r k h (omega (arith, some)) in
      let size = length-take n front in
      let whole : length own - 0 ≡ length front - length r = omega (arith, size, is, w) in
      let text : take (length front - length r) own ≡ take (length front - length r) front = take-take (length front - length r) n front (omega (arith, is)) in
      ap (Found own) still
      ∙ (ap (λ (o : Option (List ℕ)). by_length pages at own (option_map (λ r. length own - length r) o)) done
      ∙ (ap (λ (m : ℕ). by_length pages at own (Some m)) whole
      ∙ (ap (λ (xs : List ℕ). Some (answer pages at xs, length front - length r)) text ∙ e)))
  head-alone None front found good h l w e = by_size (nat_le most_head (length front)) e
    where
      by_size : (t : Bool) → cond t (Some (too_long at front, most_head)) None ≡ Some found → by_front pages at (take found.1 front) ≡ Some found
      by_size false f = absurd (none≢some found f)
      by_size true f =
          let is = ap (λ (x : Answer × ℕ). x.1) (inside (too_long at front, most_head) found f) in
          ap (by_front pages at) (take_all found.1 front (omega (arith, is, l)))
          ∙ (ap (Found front) good ∙ (ap (λ (o : Option (List ℕ)). by_length pages at front (option_map (λ r. length front - length r) o)) h ∙ e))

  front-alone : (t : Bool) (front : List ℕ) (found : Answer × ℕ) → begins_badly (from_request_line front) ≡ t → length front ≤ most_head → found.1 ≤ length front
      → Found front t ≡ Some found → by_front pages at (take found.1 front) ≡ Some found
  front-alone true front found b l w e = bad-alone front found b w e
  front-alone false front found b l w e = head-alone (behind_head (from_request_line front)) front found b refl l w e

  in-front : (bytes : List ℕ) (found : Answer × ℕ) → found.1 ≤ length (take most_head bytes) → answer_to pages at bytes ≡ Some found → answer_to pages at (take found.1 bytes) ≡ Some found
  unfolding answer_to
  in-front bytes found w e =
      let front = take most_head bytes in
      let l = length-take most_head bytes in
      let cut_twice : take most_head (take found.1 bytes) ≡ take found.1 front =
      take_all most_head (take found.1 bytes) (let k = length-take found.1 bytes in omega (arith, k, l, w))
      ∙ sym (take-take found.1 most_head bytes (omega (arith, l, w))) in
      ap (by_front pages at) cut_twice ∙ front-alone (begins_badly (from_request_line front)) front found refl (omega (arith, l)) w e

pub answer_to-alone : (pages : List Page) (at : ℕ) (bytes : List ℕ) (found : Answer × ℕ) → answer_to pages at bytes ≡ Some found → answer_to pages at (take found.1 bytes) ≡ Some found
answer_to-alone pages at bytes found e =
    in-front pages at bytes found (answer_to-count pages at (take most_head bytes) found (answer_to-take pages at bytes ∙ e)).1 e
