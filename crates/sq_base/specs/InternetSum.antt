-- The ones' complement sum (RFC 1071), over the words as whole numbers.
use Rattle.std.specs.Prelude.{ℕ, ◌+◌, ◌-◌, ◌*◌, ◌%◌, List, [], ◌∷◌, ◌==◌, if◌then◌else◌}

-- the sum of the big-endian words of 16 bits as a whole number; an odd last byte has a zero byte behind it
abbrev pub word_sum : List ℕ → ℕ
word_sum [] = 0
word_sum (a ∷ []) = a * 256
word_sum (a ∷ b ∷ rest) = a * 256 + b + word_sum rest

-- reduced by 2^16 - 1, and 0 only where it is 0
abbrev pub reduced : ℕ → ℕ
reduced n = if n == 0 then 0 else (n - 1) % 65535 + 1
