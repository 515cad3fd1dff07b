-- The line of an order, entry by entry.
use Rattle.std.proofs.Common.{◌≡◌, ℕ, ◌+◌, ◌<◌, ◌≤◌, List, [], ◌∷◌, ◌++◌, length, drop, map, codes, refl, sym, ap, ◌∙◌, inl, inr, cond, arith}
use Rattle.std.specs.Fmt.{decimal}
use Rattle.std.proofs.lemmas.Bool.Decides.{eqb_tells}
use Rattle.text_digits.specs.Told.{Told, more}
use Rattle.text_digits.proofs.Joins.{more_more}
use Rattle.perimeter_core.specs.declared.entries.Act.{Act}
use Rattle.perimeter_core.specs.declared.entries.Act.TheVariants as act
use Rattle.report_lines.specs.ReportText.{Entry, feeds, call, entries_of, entry_field, line_end, order_line}

-- an entry is told, and others are to be told
entry_told : (e : Entry) (field : List ℕ) (es : List Entry) (old new : Told) → entry_field e ≡ field → new ≡ more old (32 ∷ field)
    → more new (line_end (map entry_field es)) ≡ more old (line_end (map entry_field (e ∷ es)))
entry_told e field es old new f h =
    let rest = line_end (map entry_field es) in
    ap (λ t. more t rest) h ∙ more_more old (32 ∷ field) rest ∙ ap (λ l. more old (32 ∷ (l ++ rest))) (sym f)

pub call_told : (first : Act) (j k : ℕ) (behind : List Act) (old new : Told) → first ≡ act.Call j k → new ≡ more old (32 ∷ (99 ∷ (decimal j ++ 46 ∷ decimal k)))
    → more new (line_end (map entry_field (entries_of behind))) ≡ more old (line_end (map entry_field (entries_of (first ∷ behind))))
call_told first j k behind old new is h =
    entry_told (call j k) (99 ∷ (decimal j ++ 46 ∷ decimal k)) (entries_of behind) old new refl h
    ∙ ap (λ a. more old (line_end (map entry_field (entries_of (a ∷ behind))))) (sym is)

one_feed : (n k : ℕ) → k ≤ 0 → entry_field (feeds n (n + k)) ≡ 102 ∷ decimal n
one_feed n k none =
    elim (eqb_tells n (n + k)) [
      | inl h ↦ ap (λ b. cond b (102 ∷ decimal n) (102 ∷ (decimal n ++ 45 ∷ decimal (n + k)))) h.0
      | inr h ↦ absurd (h.1 (omega (arith, none)))
    ]

many_feeds : (n k : ℕ) → 0 < k → entry_field (feeds n (n + k)) ≡ 102 ∷ (decimal n ++ 45 ∷ decimal (n + k))
many_feeds n k some =
    elim (eqb_tells n (n + k)) [
      | inl h ↦ absurd (let no : ⊥ = omega (arith, h.1, some) in no)
      | inr h ↦ ap (λ b. cond b (102 ∷ decimal n) (102 ∷ (decimal n ++ 45 ∷ decimal (n + k)))) h.0
    ]

module _ (n k : ℕ) (behind rest : List Act) (old one : Told) (run : entries_of (act.Feed n ∷ behind) ≡ feeds n (n + k) ∷ entries_of (drop k behind)) (left : rest ≡ drop k behind) (first : one ≡ more old (32 ∷ 102 ∷ decimal n)) where
  run_told : (field : List ℕ) (new : Told) → entry_field (feeds n (n + k)) ≡ field → new ≡ more old (32 ∷ field)
      → more new (line_end (map entry_field (entries_of rest))) ≡ more old (line_end (map entry_field (entries_of (act.Feed n ∷ behind))))
  run_told field new f h =
      ap (λ l. more new (line_end (map entry_field (entries_of l)))) left
      ∙ entry_told (feeds n (n + k)) field (entries_of (drop k behind)) old new f h
      ∙ ap (λ es. more old (line_end (map entry_field es))) (sym run)

  -- a run of one feed
  pub short_run : (new : Told) → k ≤ 0 → new ≡ one → more new (line_end (map entry_field (entries_of rest))) ≡ more old (line_end (map entry_field (entries_of (act.Feed n ∷ behind))))
  short_run new none h = run_told (102 ∷ decimal n) new (one_feed n k none) (h ∙ first)

  -- a run of more, by its ends
  pub long_run : (m : ℕ) (two new : Told) → 0 < k → m ≡ n + k → two ≡ more one (45 ∷ decimal m) → new ≡ two
      → more new (line_end (map entry_field (entries_of rest))) ≡ more old (line_end (map entry_field (entries_of (act.Feed n ∷ behind))))
  long_run m two new some last second h =
      run_told (102 ∷ (decimal n ++ 45 ∷ decimal (n + k))) new (many_feeds n k some)
      (h ∙ second ∙ ap (λ t. more t (45 ∷ decimal m)) first ∙ more_more old (32 ∷ 102 ∷ decimal n) (45 ∷ decimal m)
      ∙ ap (λ i. more old (32 ∷ (102 ∷ (decimal n ++ 45 ∷ decimal i)))) last)

-- no entry is left
pub order_told : (rest order : List Act) (old first last new : Told) → length rest < 1 → first ≡ more old (codes "order")
    → more last (line_end (map entry_field (entries_of rest))) ≡ more first (line_end (map entry_field (entries_of order))) → new ≡ more last (10 ∷ [])
    → new ≡ more old (order_line order)
unfolding order_line
order_told [] order old first last new few f so_far n =
    n ∙ so_far ∙ ap (λ t. more t (line_end (map entry_field (entries_of order)))) f ∙ more_more old (codes "order") (line_end (map entry_field (entries_of order)))
order_told (x ∷ rest) order old first last new few f so_far n = absurd (let no : ⊥ = omega (arith, few) in no)
