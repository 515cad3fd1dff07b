-- Settling keeps the feeds, in order.
use Rattle.std.specs.Prelude.{◌≡◌, ℕ, nat_lt, Bool, true, false, List, [], ◌∷◌, ◌++◌, map, filter, take_while, if◌then◌else◌}
use Rattle.std.proofs.Common.{refl, sym, ap, ◌∙◌, append_assoc}
use Rattle.perimeter_core.specs.declared.entries.Act.{Act}
use Rattle.perimeter_core.specs.declared.entries.Act.TheVariants as act
use Rattle.perimeter_core.specs.Deeds.{feed_numbers}
use Rattle.perimeter_core.proofs.ActLists.{feed_numbers-append}
use Rattle.conn_blocks.specs.CallLists.{CallLists}
use Rattle.conn_blocks.specs.Orders.{numbers_on, has_call, is_held, is_next, let_go, keeps, settles, settle}

pub feeds_of_calls : (j : ℕ) (ks : List ℕ) → feed_numbers (map (act.Call j) ks) ≡ []
feeds_of_calls j [] = refl
feeds_of_calls j (k ∷ ks) = feeds_of_calls j ks

-- feeds are kept where they come
feeds_kept : (calls : CallLists) (c : ℕ) (came kept : List Act) (a : Act)
    → feed_numbers (keeps calls c came kept a) ≡ feed_numbers kept ++ feed_numbers (a ∷ [])
feeds_kept calls c came kept (act.Feed n) = feed_numbers-append kept (act.Feed n ∷ [])
feeds_kept calls c came kept (act.Call j k) = by (has_call j k came) (is_next calls c kept j k)
  where
    nothing : (l : List ℕ) → l ≡ l ++ []
    nothing [] = refl
    nothing (x ∷ l) = ap (λ m. x ∷ m) (nothing l)

    by : (b d : Bool) → feed_numbers (if b then kept else if d then kept ++ let_go calls c came kept j k else kept) ≡ feed_numbers kept ++ []
    by true d = nothing (feed_numbers kept)
    by false false = nothing (feed_numbers kept)
    by false true = feed_numbers-append kept (let_go calls c came kept j k)
        ∙ ap (λ l. feed_numbers kept ++ l) (feeds_of_calls j (k ∷ take_while (is_held came kept j) (filter (λ i. nat_lt k i) (numbers_on calls c j))))

feeds_settled : (calls : CallLists) (c : ℕ) (came kept acts : List Act) → feed_numbers (settles calls c came kept acts) ≡ feed_numbers kept ++ feed_numbers acts
feeds_settled calls c came kept [] = nothing (feed_numbers kept)
  where
    nothing : (l : List ℕ) → l ≡ l ++ []
    nothing [] = refl
    nothing (x ∷ l) = ap (λ m. x ∷ m) (nothing l)
feeds_settled calls c came kept (a ∷ acts) =
    feeds_settled calls c (came ++ a ∷ []) (keeps calls c came kept a) acts
    ∙ ap (λ l. l ++ feed_numbers acts) (feeds_kept calls c came kept a)
    ∙ append_assoc (feed_numbers kept) (feed_numbers (a ∷ [])) (feed_numbers acts)
    ∙ ap (λ l. feed_numbers kept ++ l) (sym (feed_numbers-append (a ∷ []) acts))

pub feeds_settle : (calls : CallLists) (c : ℕ) (acts : List Act) → feed_numbers (settle calls c acts) ≡ feed_numbers acts
unfolding settle
feeds_settle calls c acts = feeds_settled calls c [] [] acts
