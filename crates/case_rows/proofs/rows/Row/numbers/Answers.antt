use Rattle.std.proofs.Common.{◌∙◌, List, ℕ, inr, Ok, ap, map, sym, subst, lit<}
use Rattle.std.specs.Prelude.{IfSome}
use Rattle.std.specs.declared.alloc.AllocError.{AllocError}
use Rattle.std.proofs.lemmas.Iterator.Consumers.{map_from_collect}
use Rattle.std.proofs.lemmas.Iterator.Splits.{YieldsList-from_str_split}
use Rattle.case_rows.specs.Rows.{Line, WriteAll}
use Rattle.case_rows.proofs.rows.Row.numbers.Goals as goal

pub returns-in-Some : goal.returns-in-Some
returns-in-Some c =
    let split = map_from_collect {E = AllocError} (Ok c.in_ok-words.words) c.in_ok-words.ensures.ran (YieldsList-from_str_split 32 c.in_ok-text.text.now (lit< tt) c.split.ensures.text c.split.ensures.has_more c.split.ensures.pattern) in
    let words = ap (map (λ (w : Line). w.now)) c.deref.ensures.value ∙ split in
    let are : WriteAll (map (λ (w : Line). w.now) c.deref.result.now) c.in-Some.numbers.items = subst (λ o. IfSome o (λ v. WriteAll (map (λ (w : Line). w.now) c.deref.result.now) v.items)) c.in-Some.is c.in_ok-numbers.ensures in
    (c.in_ok-text.text.now, sym c.in_ok-text.ensures, inr (subst (λ (ws : List (List ℕ)). WriteAll ws c.in-Some.numbers.items) words are))
