-- The frame of a block (draft-ietf-opsawg-pcapng, section 3.1): type, total length, body, total length again. What follows first counts.
use Rattle.std.specs.Prelude.{ℕ, ◌-◌, ◌%◌, Bool, ◌==◌, ◌&&◌, nat_lt, nat_le, List, length, drop, take, Option, None, Some, Result, Ok, Err, if◌then◌else◌}
use Rattle.byteorder.specs.Endian.{big_number}
use Rattle.pcapng_reader.specs.declared.order.Order.{Order}
use Rattle.pcapng_reader.specs.declared.frame.Frame.{Frame}
use Rattle.pcapng_reader.specs.declared.fault.PcapngFault.{PcapngFault}
use Rattle.pcapng_reader.specs.declared.fault.PcapngFault.TheVariants as fault
use Rattle.pcapng_reader.specs.Limits.{section_type, least}
use Rattle.pcapng_reader.specs.Numbers.{number, order_of}

abbrev pub Framed : Type 0
Framed = Result (Option Frame) PcapngFault

-- a section header begins these bytes
abbrev pub is_section : List ℕ → Bool
is_section rest = big_number 4 rest == section_type

-- the total length stands again at the block's end
abbrev pub closed : Order → ℕ → ℕ → ℕ → List ℕ → Framed
closed order index kind total rest =
    if number order 4 (drop (total - 4) rest) == total
    then Ok (Some (record { order = order; kind = kind; total = total }))
    else Err (fault.EndLength index (number order 4 (drop (total - 4) rest)))

-- the total length is a multiple of four, long enough for the type, and no longer than what is left, or the tail is cut
abbrev pub sized : Order → ℕ → ℕ → ℕ → List ℕ → Framed
sized order index kind total rest =
    if (total % 4 == 0) && nat_le (least kind) total
    then (if nat_lt (length rest) total then Ok None else closed order index kind total rest)
    else Err (fault.BlockLength index total)

-- a section header names the byte order of its section, its own numbers included
abbrev pub section_framed : ℕ → List ℕ → Option Order → Framed
section_framed index rest None = Err (fault.Magic index (take 4 (drop 8 rest)))
section_framed index rest (Some order) = sized order index section_type (number order 4 (drop 4 rest)) rest

-- the frame of the block that begins the bytes that are left, in the section's order so far; None is a cut tail
unfoldable pub framed : Order → ℕ → List ℕ → Framed
framed order index rest =
    if nat_lt (length rest) 8 then Ok None
    else if is_section rest
    then (if nat_lt (length rest) 12 then Ok None else section_framed index rest (order_of (big_number 4 (drop 8 rest))))
    else sized order index (number order 4 rest) (number order 4 (drop 4 rest)) rest
