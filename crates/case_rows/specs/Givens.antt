-- What a row gives to a program.
use Rattle.std.specs.Prelude.{◌≡◌, ℕ, Some, List, codes, map}
use Rattle.std.specs.String.{string_bytes}
use Rattle.case_rows.specs.Rows.{AreNumbers, IsNumber, lines_named, only_line, words_in}
use Rattle.case_rows.specs.declared.given.Failing.{Failing}
use Rattle.case_rows.specs.declared.given.Given.{Given}
use Rattle.case_rows.specs.declared.rows.Field.{Field}

module _ (fields : List Field) where
  -- these reads, writes and writes to the error line are to fail
  pub record LetsFail (failing : Failing) : Type 0 where
    pub reads : AreNumbers (lines_named fields (codes "failing_reads")) failing.reads.items
    pub writes : AreNumbers (lines_named fields (codes "failing_writes")) failing.writes.items
    pub tellings : AreNumbers (lines_named fields (codes "failing_tellings")) failing.tellings.items

  -- the words, how many bytes a read gives and a write takes, and which calls fail
  pub record Gives (given : Given) : Type 0 where
    pub words : (line : List ℕ) × (only_line (lines_named fields (codes "words")) (codes "none") ≡ Some line) × (map (λ word. string_bytes word) given.words.items ≡ words_in line)
    pub reads : IsNumber (lines_named fields (codes "reads")) 65536 given.reads
    pub writes : IsNumber (lines_named fields (codes "writes")) 65536 given.writes
    pub failing : LetsFail given.failing
