-- The header of a capture file (libpcap file format 2.4): magic number, version, link type. The first refusal counts.
use Rattle.std.specs.Prelude.{ℕ, ◌==◌, ◌&&◌, nat_lt, List, length, drop, take, Option, None, Some, Result, Ok, Err, if◌then◌else◌}
use Rattle.byteorder.specs.Endian.{big_number}
use Rattle.sq_base.specs.Links.{link_of}
use Rattle.sq_base.specs.declared.kinds.Link.{Link}
use Rattle.capture_reader.specs.Form.{number, form_of}
use Rattle.capture_reader.specs.declared.form.Form.{Form}
use Rattle.capture_reader.specs.declared.fault.CaptureFault.{CaptureFault}
use Rattle.capture_reader.specs.declared.fault.CaptureFault.TheVariants as fault
use Rattle.capture_reader.specs.Limits.{header_size}

abbrev pub link_answer : Form → ℕ → Option Link → Result (Form × Link) CaptureFault
link_answer form n None = Err (fault.Link n)
link_answer form n (Some link) = Ok (form, link)

abbrev pub version_answer : Form → ℕ → ℕ → ℕ → Result (Form × Link) CaptureFault
version_answer form major minor n =
    if (major == 2) && (minor == 4) then link_answer form n (link_of n) else Err (fault.Version major minor)

-- the version is in bytes 4 to 7 and the link type in bytes 20 to 23; zone, figures and snapshot length between them aren't used
abbrev pub magic_answer : Option Form → List ℕ → Result (Form × Link) CaptureFault
magic_answer None bytes = Err (fault.Magic (take 4 bytes))
magic_answer (Some form) bytes = version_answer form (number form 2 (drop 4 bytes)) (number form 2 (drop 6 bytes)) (number form 4 (drop 20 bytes))

-- what the header says: the form and the link, or a refusal
unfoldable pub header_answer : List ℕ → Result (Form × Link) CaptureFault
header_answer bytes =
    if nat_lt (length bytes) header_size then Err (fault.ShortHeader (length bytes)) else magic_answer (form_of (big_number 4 bytes)) bytes
