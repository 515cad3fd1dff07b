use Rattle.std.proofs.Common.{◌≤◌, ◌-◌, drop, length}
use Rattle.pcapng_reader.specs.Blocks.{State}
use Rattle.pcapng_reader.specs.PcapngFile.{Says, Joined, start}
use Rattle.pcapng_reader.specs.SoFar.{AreRecords, state_of}
use Rattle.pcapng_reader.proofs.reading.walk.Given as goal

-- what stands behind the blocks so far stands behind the start
abbrev pub invariant-loop-rest : goal.invariant-loop-rest
invariant-loop-rest l =
    record {
      within : l.reading.at ≤ length l.bytes;
      few : l.reading.blocks ≤ l.reading.at;
      records : AreRecords l.bytes l.reading.records.items;
      reaches : (to : State) (said : Says) → Joined (state_of l.reading) (drop l.reading.at l.bytes) to said → Joined start l.bytes to said;
    }

abbrev pub decreases-loop-rest : goal.decreases-loop-rest
decreases-loop-rest l = length l.bytes - l.reading.at
