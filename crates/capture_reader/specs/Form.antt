-- The numbers of a capture file, and what its magic number names (libpcap file format 2.4).
use Rattle.std.specs.Prelude.{ℕ, true, false, ◌==◌, List, Option, None, Some, if◌then◌else◌}
use Rattle.byteorder.specs.Endian.{big_number, little_number}
use Rattle.capture_reader.specs.declared.form.Form.{Form}

-- the number in the first n bytes, in the file's byte order
unfoldable pub number : Form → ℕ → List ℕ → ℕ
number form n bytes = if form.big_endian then big_number n bytes else little_number n bytes

-- the first four bytes, high first, name the byte order and the unit of fractions for all that follows
abbrev pub form_of : ℕ → Option Form
form_of magic =
    if magic == 0xd4c3_b2a1 then Some (record { big_endian = false; nanoseconds = false })
    else if magic == 0xa1b2_c3d4 then Some (record { big_endian = true; nanoseconds = false })
    else if magic == 0x4d3c_b2a1 then Some (record { big_endian = false; nanoseconds = true })
    else if magic == 0xa1b2_3c4d then Some (record { big_endian = true; nanoseconds = true })
    else None
