-- What the private functions say: an answer that was followed, and where reading stops.
use Rattle.std.specs.Prelude.{◌≡◌, ℕ, ◌≤◌, ◌⊎◌, Bool, List, length, Result, Ok, Err}
use Rattle.std.specs.List.{AllByRecursion}
use Rattle.capture_reader.specs.Limits.{most_records}
use Rattle.capture_reader.specs.Outcome.{IsInside}
use Rattle.capture_reader.specs.declared.capture.Record.{Record}
use Rattle.pcapng_reader.specs.declared.fault.PcapngFault.{PcapngFault}
use Rattle.pcapng_reader.specs.declared.fault.PcapngFault.TheVariants as fault
use Rattle.pcapng_reader.specs.declared.reading.Reading.{Reading}
use Rattle.pcapng_reader.specs.Blocks.{State, Answer}
use Rattle.pcapng_reader.specs.PcapngFile.{Joined, ends, refuses, start}

-- how far a file is read, as the definitions see it
abbrev pub state_of : Reading → State
state_of r = record { blocks = r.blocks; at = r.at; order = r.order; interfaces = r.interfaces.items; link = r.link; records = r.records.items }

-- these are records of a file: few enough, and each in its place
pub record AreRecords (bytes : List ℕ) (records : List Record) : Type 0 where
  pub inside : AllByRecursion (IsInside bytes) records
  pub few : length records ≤ most_records

-- all blocks were read, and then nothing was left or the tail was cut
pub record ReadsFile (bytes : List ℕ) (state : State) (cut : Bool) : Type 0 where
  pub joined : Joined start bytes state (ends cut)
  pub records : AreRecords bytes state.records

-- why the blocks can't be read
abbrev pub Fails : List ℕ → PcapngFault → Type 0
Fails bytes f = (f ≡ fault.NoMemory) ⊎ ((state : State) × Joined start bytes state (refuses f))

-- a call left this state as the answer says, or refused as it says, or memory was missing
abbrev pub Told : {A : Type 0} → Answer → State → Result A PcapngFault → Type 0
Told answer new (Ok _) = answer ≡ Ok new
Told answer new (Err f) = (f ≡ fault.NoMemory) ⊎ (answer ≡ Err f)
