-- The two parts of a text.
use Rattle.std.specs.Prelude.{ℕ, ◌==◌, Option, None, Some, if◌then◌else◌}
use Rattle.std.specs.List.{list_any, before_first, after_first}
use Rattle.shell.specs.Table.{Text}

-- the parts of a text before and behind the first of this byte
abbrev pub split_at : ℕ → Text → Option (Text × Text)
split_at byte text =
    if list_any (λ b. b == byte) text then Some (before_first (λ b. b == byte) text, after_first (λ b. b == byte) text) else None
