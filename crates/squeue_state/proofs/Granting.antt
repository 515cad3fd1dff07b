-- The hand that a Grant leaves: the Ask that it grants is its first entry.
use Rattle.std.proofs.Common.{◌≡◌, ◌<◌, ◌+◌, ◌-◌, ℕ, zero, suc, List, [], ◌∷◌, ◌++◌, Some, length, take, drop, get_or, ap, sym, ◌∙◌, arith}
use Rattle.std.proofs.lemmas.List.{length-drop, drop-drop, take_more}
use Rattle.perimeter_core.specs.declared.entries.Entry.{Entry}
use Rattle.perimeter_core.specs.declared.entries.Entry.TheVariants as Entry'
use Rattle.perimeter_core.specs.Perimeter.{processed, unprocessed}
use Rattle.perimeter_core.specs.Blocks.{Blocks, with_feeds, with_act}
use Rattle.perimeter_core.specs.declared.marks.SynchAct.TheVariants as Done
use Rattle.perimeter_core.proofs.FeedActs.{with_none, with_twice}
use Rattle.squeue_state.specs.Clauses.{first_entry, asker}

first_drop : (xs : List Entry) (k : ℕ) (d e : Entry) → first_entry (drop k xs) ≡ Some e → get_or xs k d ≡ e
first_drop [] zero d e h = cc h
first_drop [] (suc k) d e h = cc h
first_drop (x ∷ xs) zero d e h = cc h
first_drop (x ∷ xs) (suc k) d e h = first_drop xs k d e h

pub some_first : (xs : List Entry) (e : Entry) → first_entry xs ≡ Some e → 0 < length xs
some_first [] e h = cc h
some_first (x ∷ xs) e h = omega arith

-- whose Ask stands first
pub asker_first : (i : ℕ) (xs : List Entry) → first_entry xs ≡ Some (Entry'.Ask i) → i ≡ asker xs
asker_first i [] e = cc e
asker_first i (x ∷ xs) e = let same : x ≡ Entry'.Ask i = cc e in sym (ap (λ y. asker (y ∷ xs)) same)

pub granted_hand : (hand left : List Entry) (j : ℕ) → left ≡ unprocessed (length left) hand → first_entry left ≡ Some (Entry'.Ask j)
    → (drop 1 left ≡ unprocessed (length left - 1) hand) × (processed (length left - 1) hand ≡ processed (length left) hand ++ Entry'.Ask j ∷ [])
granted_hand hand left j is first =
    let k : ℕ = length hand - length left in
    let some = some_first left (Entry'.Ask j) first in
    let l : length left ≡ length hand - k = ap length is ∙ length-drop k hand in
    let next : length hand - (length left - 1) ≡ k + 1 = omega (arith, some, l) in
    let below : k < length hand = omega (arith, some, l) in
    let it : get_or hand k (Entry'.Ask j) ≡ Entry'.Ask j = first_drop hand k (Entry'.Ask j) (Entry'.Ask j) (ap first_entry (sym is) ∙ first) in (
      ap (drop 1) is ∙ (drop-drop 1 k hand ∙ ap (λ n. drop n hand) (sym next)),
      ap (λ n. take n hand) next ∙ (take_more hand k (Entry'.Ask j) below ∙ ap (λ e. take k hand ++ e ∷ []) it),
    )

-- an Ask that is processed changes no block
pub same_blocks : (xs ys : List Entry) (j : ℕ) (blocks : Blocks) → ys ≡ xs ++ Entry'.Ask j ∷ [] → with_act Done.None [] (with_feeds xs blocks) ≡ with_feeds ys blocks
same_blocks xs ys j blocks is = sym (with_none (with_feeds xs blocks)) ∙ (sym (with_twice xs (Entry'.Ask j ∷ []) blocks) ∙ ap (λ zs. with_feeds zs blocks) (sym is))
