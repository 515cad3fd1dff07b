use Rattle.std.proofs.Common.{◌≡◌, ◌∙◌, ◌++◌, ℕ, List, Ok, ap, map, subst, lit<}
use Rattle.std.specs.Prelude.{OnOk}
use Rattle.std.specs.declared.alloc.AllocError.{AllocError}
use Rattle.std.proofs.lemmas.Iterator.Consumers.{map_from_collect}
use Rattle.std.proofs.lemmas.Iterator.Splits.{YieldsList-from_str_split}
use Rattle.case_rows.specs.Rows.{Line}
use Rattle.case_rows.specs.Spelling.{AllSpell}
use Rattle.case_rows.proofs.bytes.add_bytes.Goals as goal

pub returns : goal.returns
returns c =
    let split = map_from_collect {E = AllocError} (Ok c.in_ok-words.words) c.in_ok-words.ensures.ran (YieldsList-from_str_split 32 c.args.line.now (lit< tt) c.split.ensures.text c.split.ensures.has_more c.split.ensures.pattern) in
    let words = ap (map (λ (w : Line). w.now)) c.deref.ensures.value ∙ split in
    subst (λ (ws : List (List ℕ)). OnOk c.add_words.result ((bytes : List ℕ) × AllSpell ws bytes × (c.add_words.new.out.items ≡ c.args.out.now.items ++ bytes))) words c.add_words.ensures
