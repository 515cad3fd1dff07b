-- Words that are text look to clap as they do to their definition: what follows a single hyphen has a first character.
use Rattle.std.proofs.Common.{◌≡◌, ◌∙◌, ℕ, Bool, cond, true, false, refl, sym, ap, subst, List, [], ◌∷◌, ◌++◌, Option, Some, None, ◌==◌, length, arith}
use Rattle.std.specs.Prelude.{option_and_then, slice_get}
use Rattle.std.specs.List.{AllByRecursion, list_any, after_first}
use Rattle.std.specs.Str.{IsUtf8, chars}
use Rattle.std.proofs.lemmas.Bool.Decides.{nat_tests}
use Rattle.std.proofs.lemmas.List.{append-nil}
use Rattle.std.proofs.lemmas.Str.{chars_past_char, encode_ascii, encodes-chars}
use Rattle.std.proofs.Math.Utf8.{encode, encodes}
use Rattle.clap.specs.Lexer.{short_of, short_of_rest}
use Rattle.shell.specs.Table.{Text}
use Rattle.shell.specs.Words.{dashed, look_after_hyphen, look_of, look_of_name, name_in, named, plain, valued}
use Rattle.shell.proofs.Agree.{Bundle, Readable, Shorts}

first_char : (y : ℕ) (ys : Text) → IsUtf8 (45 ∷ y ∷ ys) → Bundle (Some (y ∷ ys))
first_char y ys text = go (chars (y ∷ ys)) refl
  where
    hyphen : encode 45 ≡ 45 ∷ []
    hyphen = encode_ascii 45 (omega arith)

    whole : chars (45 ∷ y ∷ ys) ≡ 45 ∷ chars (y ∷ ys)
    whole = chars_past_char (45 ∷ y ∷ ys) (y ∷ ys) 45 text (sym (ap (λ (e : Text). e ++ (y ∷ ys)) hyphen))

    go : (cs : Text) → chars (y ∷ ys) ≡ cs → Bundle (Some (y ∷ ys))
    go (c ∷ cs) e = (c, ap (λ (l : Text). slice_get l 0) e)
    go [] e =
        let none : chars (45 ∷ y ∷ ys) ≡ 45 ∷ [] = whole ∙ ap (λ (l : Text). 45 ∷ l) e in
        let back : encodes (45 ∷ []) ≡ 45 ∷ y ∷ ys = ap encodes (sym none) ∙ encodes-chars (45 ∷ y ∷ ys) text in
        let short : encodes (45 ∷ []) ≡ 45 ∷ [] = append-nil (encode 45) ∙ hyphen in
        let bad : 45 ∷ [] ≡ 45 ∷ y ∷ ys = sym short ∙ back in
        absurd (omega (arith, ap length bad))

named_shorts : (zs : Text) (short : Option Text) → Shorts (look_of_name zs) short
named_shorts [] short = tt
named_shorts (z ∷ zs) short = go (list_any (λ c. c == 61) (z ∷ zs))
  where
    go : (b : Bool) → Shorts (cond b (valued (name_in (z ∷ zs)) (after_first (λ c. c == 61) (z ∷ zs))) (named (name_in (z ∷ zs)))) short
    go true = tt
    go false = tt

after_shorts : (xs : Text) → IsUtf8 (45 ∷ xs) → Shorts (look_after_hyphen xs) (short_of_rest xs)
after_shorts [] text = refl
after_shorts (y ∷ ys) text = go (y == 45)
  where
    go : (b : Bool) → Shorts (cond b (look_of_name ys) dashed) (cond b None (Some (y ∷ ys)))
    go true = named_shorts ys None
    go false = first_char y ys text

shorts_of : (word : Text) → IsUtf8 word → Shorts (look_of word) (short_of word)
shorts_of [] text = refl
shorts_of (x ∷ xs) text = go (x == 45) refl
  where
    go : (b : Bool) → (x == 45) ≡ b → Shorts (cond b (look_after_hyphen xs) plain) (option_and_then short_of_rest (cond b (Some xs) None))
    go true e =
        let hyphen : x ≡ 45 = grind (arith, nat_tests) in
        after_shorts xs (subst (λ (n : ℕ). IsUtf8 (n ∷ xs)) hyphen text)
    go false e = refl

pub readable : (ws : List Text) → AllByRecursion IsUtf8 ws → Readable ws
readable [] texts = tt
readable (w ∷ ws) texts = (shorts_of w texts.0, readable ws texts.1)
