-- clap's lexer sees what the plain definition sees.
use Rattle.std.proofs.Common.{◌≡◌, Bool, cond, true, false, refl, [], ◌∷◌, Option, Some, None, ◌==◌, ◌&&◌}
use Rattle.std.specs.Prelude.{option_and_then}
use Rattle.std.specs.List.{list_any, after_first}
use Rattle.std.specs.Str.{bytes_eq}
use Rattle.clap.specs.Lexer.{long_of, long_of_rest, strip_byte}
use Rattle.shell.specs.Table.{Text}
use Rattle.shell.specs.Words.{Look, dashed, end, look_after_hyphen, look_of, look_of_name, name_in, named, plain, valued}

abbrev pub long_in : Look → Option (Text × Option Text)
long_in (valued n v) = Some (n, Some v)
long_in (named n) = Some (n, None)
long_in _ = None

name_is : (xs : Text) → long_of_rest xs ≡ long_in (look_of_name xs)
name_is [] = refl
name_is (x ∷ xs) = go (list_any (λ c. c == 61) (x ∷ xs))
  where
    go : (b : Bool) → Some (name_in (x ∷ xs), cond b (Some (after_first (λ c. c == 61) (x ∷ xs))) None)
        ≡ long_in (cond b (valued (name_in (x ∷ xs)) (after_first (λ c. c == 61) (x ∷ xs))) (named (name_in (x ∷ xs))))
    go true = refl
    go false = refl

after_is : (xs : Text) → option_and_then long_of_rest (strip_byte 45 xs) ≡ long_in (look_after_hyphen xs)
after_is [] = refl
after_is (x ∷ xs) = go (x == 45)
  where
    go : (b : Bool) → option_and_then long_of_rest (cond b (Some xs) None) ≡ long_in (cond b (look_of_name xs) dashed)
    go true = name_is xs
    go false = refl

-- `--name` and `--name=value` are the same words to both
pub long_is : (w : Text) → long_of w ≡ long_in (look_of w)
long_is [] = refl
long_is (x ∷ xs) = go (x == 45)
  where
    go : (b : Bool) → option_and_then long_of_rest (option_and_then (strip_byte 45) (cond b (Some xs) None)) ≡ long_in (cond b (look_after_hyphen xs) plain)
    go true = after_is xs
    go false = refl

abbrev pub is_end : Look → Bool
is_end end = true
is_end _ = false

end_name : (xs : Text) → bytes_eq xs [] ≡ is_end (look_of_name xs)
end_name [] = refl
end_name (x ∷ xs) = go (list_any (λ c. c == 61) (x ∷ xs))
  where
    go : (b : Bool) → false ≡ is_end (cond b (valued (name_in (x ∷ xs)) (after_first (λ c. c == 61) (x ∷ xs))) (named (name_in (x ∷ xs))))
    go true = refl
    go false = refl

end_after : (xs : Text) → bytes_eq xs (45 ∷ []) ≡ is_end (look_after_hyphen xs)
end_after [] = refl
end_after (x ∷ xs) = go (x == 45)
  where
    go : (b : Bool) → (b && bytes_eq xs []) ≡ is_end (cond b (look_of_name xs) dashed)
    go true = end_name xs
    go false = refl

-- the word `--`
pub end_is : (w : Text) → bytes_eq w (45 ∷ 45 ∷ []) ≡ is_end (look_of w)
end_is [] = refl
end_is (x ∷ xs) = go (x == 45)
  where
    go : (b : Bool) → (b && bytes_eq xs (45 ∷ [])) ≡ is_end (cond b (look_after_hyphen xs) plain)
    go true = end_after xs
    go false = refl
