-- The options of an interface (draft-ietf-opsawg-pcapng, section 3.5): code, length of the value, the value padded to a multiple of four bytes.
use Rattle.std.specs.Prelude.{ℕ, zero, suc, ◌+◌, ◌-◌, ◌*◌, ◌/◌, ◌^◌, min, Bool, ◌==◌, ◌&&◌, ◌||◌, nat_lt, List, length, drop, get_or, if◌then◌else◌}
use Rattle.capture_reader.specs.Limits.{latest_time}
use Rattle.pcapng_reader.specs.declared.order.Order.{Order}
use Rattle.pcapng_reader.specs.Numbers.{number, padded}
use Rattle.pcapng_reader.specs.Limits.{default_resolution}

abbrev pub code : Order → List ℕ → ℕ
code order bytes = number order 2 bytes

abbrev pub value_length : Order → List ℕ → ℕ
value_length order bytes = number order 2 (drop 2 bytes)

abbrev pub option_size : Order → List ℕ → ℕ
option_size order bytes = 4 + padded (value_length order bytes)

-- no option begins these bytes: too few for its head or for its value, or code 0, the end of the options
abbrev pub is_end : Order → List ℕ → Bool
is_end order bytes = nat_lt (length bytes) 4 || ((code order bytes == 0) || nat_lt (length bytes) (option_size order bytes))

-- the option that begins these bytes is the resolution, `if_tsresol`
abbrev pub is_resolution : Order → List ℕ → Bool
is_resolution order bytes = (code order bytes == 9) && (value_length order bytes == 1)

-- the first resolution among the first n options, and a millionth without one
unfoldable pub first_resolution : ℕ → Order → List ℕ → ℕ
first_resolution zero order bytes = default_resolution
first_resolution (suc n) order bytes =
    if is_end order bytes then default_resolution
    else if is_resolution order bytes then get_or bytes 4 0
    else first_resolution n order (drop (option_size order bytes) bytes)

-- the resolution that all options of an interface name
unfoldable pub resolution : Order → List ℕ → ℕ
resolution order options = first_resolution (length options) order options

-- how many ticks a second has: below 128 a power of ten, else a power of two
abbrev pub ticks_per_second : ℕ → ℕ
ticks_per_second v = if nat_lt v 128 then 10 ^ v else 2 ^ (v - 128)

-- the time after so many ticks, in whole microseconds, and at most the latest
unfoldable pub time_of : ℕ → ℕ → ℕ
time_of v ticks = min (ticks * 1000000 / ticks_per_second v) latest_time
