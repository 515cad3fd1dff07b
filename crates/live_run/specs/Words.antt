-- The words of the command line, and what they ask for.
use Rattle.std.specs.Prelude.{ℕ, ◌*◌, ◌^◌, nat_lt, List, [], ◌∷◌, Option, Some, None, if◌then◌else◌, codes, option_map, option_and_then}
use Rattle.std.specs.Result.{result_ok}
use Rattle.std.specs.Str.{bytes_eq}
use Rattle.byteorder.specs.Endian.{big_number}
use Rattle.hex.specs.Hex.{decode_sized}
use Rattle.shell.specs.Numbers.{numeral}
use Rattle.shell.specs.Table.{Text}
use Rattle.live_server.specs.declared.initial.Secret.{Secret}
use Rattle.live_server.specs.declared.marking.Marking.{Marking}
use Rattle.live_server.specs.declared.ports.Ports.{Ports}
use Rattle.live_server.specs.declared.setting.Setting.{Setting}
use Rattle.sq_base.specs.declared.kinds.Addr.{Addr}
use Rattle.live_run.specs.MarkingWords.{marking_in}
use Rattle.live_run.specs.PortWords.{ports_in}
use Rattle.live_run.specs.declared.words.Medium.TheVariants.{Device, Frames}
use Rattle.live_run.specs.declared.words.ServerWords.{ServerWords}

-- so many bytes in hexadecimal digits
abbrev pub hex_bytes : ℕ → Text → Option (List ℕ)
hex_bytes n text = result_ok (decode_sized text n)

abbrev pub secret_of : Text → Option Secret
secret_of text = option_map (λ bytes. record { 0 = bytes }) (hex_bytes 16 text)

abbrev pub address_of : Text → Option Addr
address_of text = option_map (λ bytes. record { 0 = big_number 4 bytes }) (hex_bytes 4 text)

-- a length of text, below 2^16
abbrev pub length_of : Text → Option ℕ
length_of text = option_and_then (λ n. if nat_lt n (2 ^ 16) then Some n else None) (numeral text)

-- so many echo requests are answered from tick to tick: 1,000 without the word behind that of the ports
abbrev pub pings_in : List Text → Option ℕ
pings_in [] = Some 1000
pings_in (_ ∷ []) = Some 1000
pings_in (_ ∷ word ∷ _) = numeral word

-- the host whose orders count, where its address stands behind that word
abbrev pub host_in : List Text → Option (Option Addr)
host_in [] = Some None
host_in (_ ∷ []) = Some None
host_in (_ ∷ _ ∷ []) = Some None
host_in (_ ∷ _ ∷ word ∷ []) = option_map (λ a. Some a) (address_of word)
host_in (_ ∷ _ ∷ _ ∷ _ ∷ _) = None

-- ADDRESS BROADCAST PLACES IDLE BYTES SEGMENT [--ttl N] [--dscp N] [PORTS [PINGS [HOST]]], IDLE in seconds
abbrev pub setting_by : Marking → Option Addr → Option Addr → Option ℕ → Option ℕ → Option ℕ → Option ℕ → Option Ports → Option ℕ → Option (Option Addr) → Option Setting
setting_by marking address broadcast places idle bytes segment ports pings host =
    option_and_then (λ a. option_and_then (λ b. option_and_then (λ p. option_and_then (λ i. option_and_then (λ h. option_and_then (λ t. option_and_then (λ s. option_and_then (λ e. option_map (λ o.
    record { address = a; broadcast = b; places = p; idle = i * 1000000; bytes = h; segment = t; marking = marking; pings = e; ports = s; site = None; host = o })
    host) pings) ports) segment) bytes) idle) places) broadcast) address

abbrev pub setting_of : List Text → Option Setting
setting_of (address ∷ broadcast ∷ places ∷ idle ∷ bytes ∷ segment ∷ rest) =
    option_and_then (λ m. setting_by m.0 (address_of address) (address_of broadcast) (numeral places) (numeral idle) (numeral bytes) (length_of segment)
    (ports_in m.1) (pings_in m.1) (host_in m.1)) (marking_in rest)
setting_of [] = None
setting_of (_ ∷ []) = None
setting_of (_ ∷ _ ∷ []) = None
setting_of (_ ∷ _ ∷ _ ∷ []) = None
setting_of (_ ∷ _ ∷ _ ∷ _ ∷ []) = None
setting_of (_ ∷ _ ∷ _ ∷ _ ∷ _ ∷ []) = None

-- what the words behind the mode's ask for: SECRET and the setting's, and the setting's
abbrev pub frames_asked : List Text → Option ServerWords
frames_asked [] = None
frames_asked (secret ∷ rest) = option_and_then (λ s. option_map (λ g. record { mode = Frames s; setting = g }) (setting_of rest)) (secret_of secret)

abbrev pub device_asked : List Text → Option ServerWords
device_asked words = option_map (λ g. record { mode = Device; setting = g }) (setting_of words)

-- the file of pages, where `--pages FILE` stands first, and the words behind it
abbrev pub pages_named : List Text → Option Text × List Text
pages_named [] = (None, [])
pages_named (a ∷ []) = (None, a ∷ [])
pages_named (a ∷ name ∷ rest) = if bytes_eq a (codes "--pages") then (Some name, rest) else (None, a ∷ name ∷ rest)

-- what all words ask for, the mode's first
abbrev pub asked_in : Text → List Text → Option ServerWords
asked_in mode rest =
    if bytes_eq mode (codes "frames") then frames_asked rest
    else if bytes_eq mode (codes "device") then device_asked rest
    else None

abbrev pub asked : List Text → Option ServerWords
asked [] = None
asked (mode ∷ rest) = asked_in mode rest
