use Rattle.std.proofs.Common.{◌≡◌, ℕ, List, ◌++◌, map, take}
use Rattle.case_rows.specs.Spelling.{AllSpell}
use Rattle.case_rows.proofs.bytes.add_words.Given as goal

-- the words before this one spell what was added
abbrev pub invariant-loop-word : goal.invariant-loop-word
invariant-loop-word l = (bytes : List ℕ) × AllSpell (map (λ word. word.now) (take l.word-index l.words)) bytes × (l.out.items ≡ l.fn.out.items ++ bytes)
