use Rattle.std.proofs.Common.{◌≡◌, ◌==◌, true, take}
use Rattle.std.specs.List.{list_all, list_any}
use Rattle.case_rows.specs.Words.{letters}
use Rattle.case_rows.proofs.words.are_letters.Given as goal

abbrev pub invariant-loop-letter : goal.invariant-loop-letter
invariant-loop-letter l = list_all (λ c. list_any (λ x. x.1 == c) letters) (take l.letter-index l.word) ≡ true
