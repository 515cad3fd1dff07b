-- What a text or a part that was accepted says of what it was made from.
use Rattle.std.proofs.Common.{◌≡◌, ℕ, ◌≤◌, Bool, true, false, Option, Some, None, refl, ap, subst, ◌&&◌, if◌then◌else◌}
use Rattle.std.specs.Prelude.{option_map, option_and_then, nat_le, unwrap_or}
use Rattle.std.specs.Str.Parse.{digits_value}
use Rattle.std.proofs.lemmas.Bool.{and_parts, leb-true}
use Rattle.shell.specs.Numbers.{number_between, is_number}
use Rattle.shell.specs.Table.{Text}

pub some_is : {A : Type 0} {x y : A} → Some x ≡ Some y → x ≡ y
some_is {x = x} e = ap (λ o. unwrap_or o x) e

pub record Chained {A B : Type 0} (f : A → Option B) (o : Option A) (y : B) : Type 0 where
  pub value : A
  pub found : o ≡ Some value
  pub gives : f value ≡ Some y

pub chained : {A B : Type 0} (f : A → Option B) (o : Option A) (y : B) → option_and_then f o ≡ Some y → Chained f o y
chained f None y e = absurd (let no : ⊥ = cc in no)
chained f (Some x) y e = record { value = x; found = refl; gives = e }

pub record Mapped {A B : Type 0} (f : A → B) (o : Option A) (y : B) : Type 0 where
  pub value : A
  pub found : o ≡ Some value
  pub gives : f value ≡ y

pub mapped : {A B : Type 0} (f : A → B) (o : Option A) (y : B) → option_map f o ≡ Some y → Mapped f o y
mapped f None y e = absurd (let no : ⊥ = cc in no)
mapped f (Some x) y e = record { value = x; found = refl; gives = some_is e }

pub guarded : {A : Type 0} (b : Bool) (o : Option A) (y : A) → (if b then o else None) ≡ Some y → (b ≡ true) × (o ≡ Some y)
guarded true o y e = (refl, e)
guarded false o y e = absurd (let no : ⊥ = cc in no)

pub number_within : (least most : ℕ) (text : Text) (n : ℕ) → number_between least most text ≡ Some n → (least ≤ n) × (n ≤ most)
number_within least most text n e =
    let m = digits_value 10 text in
    let g = guarded (is_number text && (nat_le least m && nat_le m most)) (Some m) n e in
    let tests = (and_parts (is_number text) (nat_le least m && nat_le m most) g.0).1 in
    let Within : ℕ → Type 0 = λ k. (least ≤ k) × (k ≤ most) in
    subst Within (some_is g.1) (leb-true least m ((and_parts (nat_le least m) (nat_le m most) tests).0), leb-true m most ((and_parts (nat_le least m) (nat_le m most) tests).1))
