-- The limits of a capture, the same for every form of file, and the sizes of the headers in a capture file. Each has its constant in the code.
use Rattle.std.specs.Prelude.{ℕ, ◌+◌}

-- the most bytes of an input: 64 MiB
abbrev pub most_bytes : ℕ
most_bytes = 67108864

-- the most bytes that are taken from a source: the first one too many tells that there are too many
abbrev pub most_taken : ℕ
most_taken = most_bytes + 1

-- the most packets of a capture
abbrev pub most_records : ℕ
most_records = 1048576

-- the most captured bytes of a packet: 256 KiB
abbrev pub longest_body : ℕ
longest_body = 262144

-- the greatest time of a packet, in microseconds: 2^53, so that a time is a whole number of a double too
abbrev pub latest_time : ℕ
latest_time = 9007199254740992

-- the bytes of a capture file's header, and of the header before each packet (libpcap file format 2.4)
abbrev pub header_size : ℕ
header_size = 24

abbrev pub record_header_size : ℕ
record_header_size = 16
