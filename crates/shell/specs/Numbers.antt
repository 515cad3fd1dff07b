-- The numbers that texts write.
use Rattle.std.specs.Prelude.{ℕ, ◌&&◌, ◌^◌, nat_le, nat_lt, Bool, if◌then◌else◌, length, Option, None, Some}
use Rattle.std.specs.List.{list_all}
use Rattle.std.specs.Char.{is_ascii_digit}
use Rattle.std.specs.Str.Parse.{digits_value}
use Rattle.shell.specs.Table.{Text}

-- digits and nothing else
abbrev pub is_numeral : Text → Bool
is_numeral text = nat_le 1 (length text) && list_all is_ascii_digit text

-- the number that they write, where it is below 2^32
abbrev pub numeral : Text → Option ℕ
numeral text = if is_numeral text && nat_lt (digits_value 10 text) (2 ^ 32) then Some (digits_value 10 text) else None

-- one to ten digits
abbrev pub is_number : Text → Bool
is_number text = nat_le 1 (length text) && (nat_le (length text) 10 && list_all is_ascii_digit text)

-- the number that they write, where it is in range
abbrev pub number_between : ℕ → ℕ → Text → Option ℕ
number_between least most text =
    if is_number text && (nat_le least (digits_value 10 text) && nat_le (digits_value 10 text) most) then Some (digits_value 10 text) else None
