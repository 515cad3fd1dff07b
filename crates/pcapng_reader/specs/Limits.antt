-- What the format fixes: the types of blocks and the least lengths (draft-ietf-opsawg-pcapng, sections 3.1 and 4). The limits of a
-- capture are those of `capture_reader`.
use Rattle.std.specs.Prelude.{ℕ, ◌==◌, if◌then◌else◌}

-- a section header block: the same four bytes in either order
abbrev pub section_type : ℕ
section_type = 0x0a0d_0d0a

abbrev pub interface_type : ℕ
interface_type = 1

-- a simple packet block, which has no time and no interface of its own
abbrev pub simple_type : ℕ
simple_type = 3

-- an enhanced packet block
abbrev pub packet_type : ℕ
packet_type = 6

-- the least total length of a block: its fixed fields, and the twelve bytes that every block has
abbrev pub least_section : ℕ
least_section = 28

abbrev pub least_interface : ℕ
least_interface = 20

abbrev pub least_simple : ℕ
least_simple = 16

abbrev pub least_packet : ℕ
least_packet = 32

abbrev pub least_other : ℕ
least_other = 12

abbrev pub least : ℕ → ℕ
least kind =
    if kind == section_type then least_section
    else if kind == interface_type then least_interface
    else if kind == simple_type then least_simple
    else if kind == packet_type then least_packet
    else least_other

-- the resolution of an interface without the option: microseconds
abbrev pub default_resolution : ℕ
default_resolution = 6
