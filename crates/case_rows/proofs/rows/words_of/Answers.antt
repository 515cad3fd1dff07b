use Rattle.std.proofs.Common.{◌<◌, ◌∙◌, ◌==◌, ℕ, Bool, List, [], Ok, ap, cond, map, sym, subst}
use Rattle.std.specs.List.{slice_split}
use Rattle.std.specs.declared.alloc.AllocError.{AllocError}
use Rattle.std.proofs.lemmas.Result.{IfOk-weaker}
use Rattle.std.proofs.lemmas.Iterator.Consumers.{map_from_collect}
use Rattle.std.proofs.lemmas.Iterator.Splits.{YieldsList-from_str_split}
use Rattle.case_rows.specs.Rows.{Line, separator_of}
use Rattle.case_rows.proofs.Fields.{separator_small}
use Rattle.case_rows.proofs.rows.words_of.Goals as goal

pub returns : goal.returns
returns c =
    let line : List ℕ = c.args.line.now in
    let small : c.separator_of.result < 128 = subst (λ (n : ℕ). n < 128) (sym c.separator_of.ensures) (separator_small line) in
    let split = map_from_collect {E = AllocError} (Ok c.in_ok-words.words) c.in_ok-words.ensures.ran (YieldsList-from_str_split c.separator_of.result line small c.split.ensures.text c.split.ensures.has_more c.split.ensures.pattern) in
    let words = ap (map (λ (w : Line). w.now)) c.deref.ensures.value ∙ (split ∙ ap (λ (s : ℕ). slice_split (λ b. b == s) line) c.separator_of.ensures) in
    let not_none = ap (λ (b : Bool). cond b [] (slice_split (λ b. b == separator_of line) line)) (sym c.eq.ensures ∙ c.if-eq.false) in
    IfOk-weaker c.owned.result _ _ (λ v h. h ∙ (words ∙ sym not_none)) c.owned.ensures
