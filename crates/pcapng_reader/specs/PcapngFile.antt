-- The pcapng file (draft-ietf-opsawg-pcapng): its blocks joined, and what an interrupted capture left of the next.
use Rattle.std.specs.Prelude.{◌≡◌, ℕ, ◌<◌, ◌≤◌, ◌⊎◌, Bool, true, false, List, []}
use Rattle.std.specs.Prelude.{◌∷◌, ◌++◌, length, take, map, Option, None, Some, Result, Ok, Err}
use Rattle.std.specs.List.{concat}
use Rattle.std.specs.Option.{option_and_then, unwrap_or}
use Rattle.sq_base.specs.Links.{link_of}
use Rattle.sq_base.specs.declared.kinds.Link.{Link}
use Rattle.sq_base.specs.declared.kinds.Link.TheVariants as link
use Rattle.capture_reader.specs.Limits.{most_bytes}
use Rattle.capture_reader.specs.CaptureFile.{Contents}
use Rattle.capture_reader.specs.Outcome.{CaptureFile, contents_of, packet_at}
use Rattle.pcapng_reader.specs.declared.order.Order.TheVariants as order
use Rattle.pcapng_reader.specs.declared.fault.PcapngFault.{PcapngFault}
use Rattle.pcapng_reader.specs.declared.fault.PcapngFault.TheVariants as fault
use Rattle.pcapng_reader.specs.Frame.{Framed, framed}
use Rattle.pcapng_reader.specs.Blocks.{State, Answer, content_says, behind}
use Rattle.pcapng_reader.specs.Limits.{least_section}

-- what is left says, where a file is read so far: it ends, whole or with a cut tail; it is refused; or a block of this length stands there and leads on
pub data Says : Type 0 where
  ends : Bool → Says
  refuses : PcapngFault → Says
  leads : ℕ → State → Says

abbrev pub by_content : ℕ → Answer → Says
by_content total (Err f) = refuses f
by_content total (Ok s) = leads total (behind total s)

abbrev pub by_frame : State → List ℕ → Framed → Says
by_frame s rest (Err f) = refuses f
by_frame s rest (Ok None) = ends true
by_frame s rest (Ok (Some frame)) = by_content frame.total (content_says s frame (take frame.total rest))

abbrev pub says : State → List ℕ → Says
says s [] = ends false
says s (x ∷ xs) = by_frame s (x ∷ xs) (framed s.order s.blocks (x ∷ xs))

-- these blocks stand one behind the other before the rest, and lead from one state to another
abbrev pub Leads : State → List (List ℕ) → List ℕ → State → Type 0
Leads s [] rest to = s ≡ to
Leads s (block ∷ blocks) rest to = (next : State) × (says s (block ++ (concat blocks ++ rest)) ≡ leads (length block) next) × Leads next blocks rest to

-- the bytes are blocks joined and a rest, which says this
pub record Joined (from : State) (bytes : List ℕ) (to : State) (answer : Says) : Type 0 where
  pub blocks : List (List ℕ)
  pub rest : List ℕ
  pub whole : bytes ≡ concat blocks ++ rest
  pub steps : Leads from blocks rest to
  pub told : says to rest ≡ answer

-- before the first block; the order doesn't matter, since a file begins with a section header
abbrev pub start : State
start = record { blocks = 0; at = 0; order = order.Little; interfaces = []; link = None; records = [] }

-- the file's link: that of its first interface, or raw IP without one
abbrev pub file_link : Option ℕ → Link
file_link number = unwrap_or (option_and_then link_of number) link.RawIp

-- the bytes are a capture of these packets
pub record Captured (bytes : List ℕ) (contents : Contents) : Type 0 where
  pub long : least_section ≤ length bytes
  pub state : State
  pub joined : Joined start bytes state (ends contents.cut)
  pub link : contents.link ≡ file_link state.link
  pub packets : contents.packets ≡ map (packet_at bytes) state.records

-- the bytes are refused for this cause: too few for a section header, or where reading stops
abbrev pub Refused : List ℕ → PcapngFault → Type 0
Refused bytes f =
    ((length bytes < least_section) × (f ≡ fault.ShortSection (length bytes)))
    ⊎ ((least_section ≤ length bytes) × (state : State) × Joined start bytes state (refuses f))

-- the bytes are this capture, or are refused for this cause
abbrev pub Meets : List ℕ → Result Contents PcapngFault → Type 0
Meets bytes (Ok contents) = Captured bytes contents
Meets bytes (Err f) = Refused bytes f

-- a file begins so
abbrev pub BeginsSection : List ℕ → Type 0
BeginsSection bytes = take 4 bytes ≡ 0x0a ∷ 0x0d ∷ 0x0d ∷ 0x0a ∷ []

-- the file's bytes say this, and are at most 64 MiB
pub record IsPcapng (file : CaptureFile) : Type 0 where
  pub begins : BeginsSection file.bytes
  pub small : length file.bytes ≤ most_bytes
  pub captured : Captured file.bytes (contents_of file)

-- why bytes gave no capture
abbrev pub ParseFails : List ℕ → PcapngFault → Type 0
ParseFails bytes f = (f ≡ fault.NoMemory) ⊎ Refused bytes f
