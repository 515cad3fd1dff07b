-- What the end of a text was told, and where that goes.
use Rattle.std.specs.Prelude.{ℕ, Option, List, ◌++◌}

-- the text so far; the name of the reference that it is written through, and the bytes and the faults that were there before it
pub record Told : Type 0 where
  pub place : ℕ
  pub was : Option (List ℕ)
  pub faults : ℕ
  pub text : List ℕ

-- these bytes behind the text
unfoldable pub more : Told → List ℕ → Told
more t bs = record t { text = t.text ++ bs }
