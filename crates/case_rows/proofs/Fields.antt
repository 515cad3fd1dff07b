-- The numbers and the words of a row's field.
use Rattle.std.proofs.Common.{◌≡◌, ℕ, ◌+◌, ◌<◌, ◌==◌, Bool, true, false, cond, arith, List, [], ◌∷◌, ◌++◌, length, map, take, ap, sym, ◌∙◌, subst, slice_index_or}
use Rattle.std.specs.List.{list_any}
use Rattle.std.proofs.lemmas.List.{map-append, take_more}
use Rattle.case_rows.specs.Rows.{Line, WriteAll, Writes, separator_of}

write_more : (ts : List (List ℕ)) (t : List ℕ) (ns : List ℕ) (n : ℕ) → WriteAll ts ns → Writes t n → WriteAll (ts ++ t ∷ []) (ns ++ n ∷ [])
write_more [] t [] n all w = (w, tt)
write_more [] t (m ∷ ns) n all w = absurd all
write_more (u ∷ ts) t [] n all w = absurd all
write_more (u ∷ ts) t (m ∷ ns) n all w = (all.0, write_more ts t ns n all.1 w)

-- one word more is a number
pub write_next : (ts : List Line) (i : ℕ) (d : Line) (ns news : List ℕ) (n : ℕ) → i < length ts → WriteAll (map (λ word. word.now) (take i ts)) ns → Writes (slice_index_or ts i d).now n → news ≡ ns ++ n ∷ []
    → WriteAll (map (λ word. word.now) (take (i + 1) ts)) news
write_next ts i d ns news n lt all w is =
    let words : map (λ (word : Line). word.now) (take (i + 1) ts) ≡ map (λ (word : Line). word.now) (take i ts) ++ (slice_index_or ts i d).now ∷ [] =
    ap (map (λ (word : Line). word.now)) (take_more ts i d lt) ∙ map-append (λ (word : Line). word.now) (take i ts) (slice_index_or ts i d ∷ []) in
    subst (λ (xs : List ℕ). WriteAll (map (λ (word : Line). word.now) (take (i + 1) ts)) xs) (sym is)
    (subst (λ (ws : List (List ℕ)). WriteAll ws (ns ++ n ∷ [])) (sym words) (write_more (map (λ (word : Line). word.now) (take i ts)) (slice_index_or ts i d).now ns n all w))

-- what stands between words is a character of one byte
pub separator_small : (line : List ℕ) → separator_of line < 128
separator_small line = go (list_any (λ b. b == 124) line)
  where
    go : (b : Bool) → cond b 124 32 < 128
    go true = omega arith
    go false = omega arith
