-- What words spell, word by word.
use Rattle.std.proofs.Common.{◌≡◌, ℕ, ◌+◌, ◌-◌, ◌^◌, ◌/◌, ◌%◌, ◌<◌, false, List, [], ◌∷◌, ◌++◌, length, map, replicate, take, refl, ap, sym, ◌∙◌, subst, append_assoc, append-nil, slice_index_or}
use Rattle.std.specs.Fmt.{format_spec, padded_integral, radix_digits}
use Rattle.std.specs.List.{concat}
use Rattle.std.proofs.lemmas.Fmt.{hex_byte}
use Rattle.std.proofs.lemmas.Grind.{flat_map-append}
use Rattle.std.proofs.lemmas.List.{map-append, replicate_more, take_more}
use Rattle.std.proofs.lemmas.List.Folds.{concat-append}
use Rattle.case_rows.specs.Rows.{Line}
use Rattle.case_rows.specs.Spelling.{AllSpell, Spells, hex, hex_digit}

-- once more
pub once_more : (n : ℕ) (old bytes out more : List ℕ) → out ≡ old ++ concat (replicate n bytes) → more ≡ out ++ bytes → more ≡ old ++ concat (replicate (n + 1) bytes)
once_more n old bytes out more had is =
    let all : concat (replicate (n + 1) bytes) ≡ concat (replicate n bytes) ++ bytes =
    ap concat (sym (replicate_more n bytes)) ∙ (concat-append (replicate n bytes) (bytes ∷ []) ∙ ap (λ l. concat (replicate n bytes) ++ l) (append-nil bytes)) in
    is ∙ (ap (λ l. l ++ bytes) had ∙ (append_assoc old (concat (replicate n bytes)) bytes ∙ ap (λ l. old ++ l) (sym all)))

all_more : (ws : List (List ℕ)) (w bs one : List ℕ) → AllSpell ws bs → Spells w one → AllSpell (ws ++ w ∷ []) (bs ++ one)
all_more [] w bs one none s = (one, [], s, refl, ap (λ l. l ++ one) none ∙ sym (append-nil one))
all_more (u ∷ us) w bs one all s = (all.0, all.1 ++ one, all.2, all_more us w all.1 one all.3 s, ap (λ l. l ++ one) all.4 ∙ append_assoc all.0 all.1 one)

-- one word more
pub word_next : (ws : List Line) (i : ℕ) (d : Line) (bs one : List ℕ) → i < length ws → AllSpell (map (λ word. word.now) (take i ws)) bs → Spells (slice_index_or ws i d).now one
    → AllSpell (map (λ word. word.now) (take (i + 1) ws)) (bs ++ one)
word_next ws i d bs one lt all s =
    let words : map (λ (word : Line). word.now) (take (i + 1) ws) ≡ map (λ (word : Line). word.now) (take i ws) ++ (slice_index_or ws i d).now ∷ [] =
    ap (map (λ (word : Line). word.now)) (take_more ws i d lt) ∙ map-append (λ (word : Line). word.now) (take i ws) (slice_index_or ws i d ∷ []) in
    subst (λ (l : List (List ℕ)). AllSpell l (bs ++ one)) (sym words) (all_more (map (λ (word : Line). word.now) (take i ws)) (slice_index_or ws i d).now bs one all s)

-- one byte more is written
pub byte_next : (bytes : List ℕ) (i : ℕ) (d : ℕ) (old out new : List ℕ) → i < length bytes → slice_index_or bytes i d < 256 → out ≡ old ++ hex (take i bytes)
    → new ≡ out ++ padded_integral (format_spec 32 0 4 2 (2 ^ 64 - 1)) false [] (radix_digits 16 false (slice_index_or bytes i d)) → new ≡ old ++ hex (take (i + 1) bytes)
byte_next bytes i d old out new lt small had adds =
    let b : ℕ = slice_index_or bytes i d in
    let two : ℕ → List ℕ = λ n. hex_digit (n / 16) ∷ hex_digit (n % 16) ∷ [] in
    let more : hex (take (i + 1) bytes) ≡ hex (take i bytes) ++ two b =
    ap hex (take_more bytes i d lt) ∙ (flat_map-append two (take i bytes) (b ∷ []) ∙ ap (λ l. hex (take i bytes) ++ l) (append-nil (two b))) in
    adds ∙ (ap (λ l. out ++ l) (hex_byte false b small) ∙ (ap (λ l. l ++ two b) had ∙ (append_assoc old (hex (take i bytes)) (two b) ∙ ap (λ l. old ++ l) (sym more))))
