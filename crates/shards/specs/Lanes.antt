-- The two ends of a lane.
use Rattle.rtrb.specs.Ring.{IsPair}
use Rattle.shards.specs.declared.lanes.RingEnd.{RingEnd}
use Rattle.shards.specs.declared.lanes.SqueueEnd.{SqueueEnd}

-- what the ring pushes comes to the squeue, and what the squeue gives back comes to the ring
abbrev pub IsLane : {T : Type 0} → RingEnd T → SqueueEnd T → Type 0
IsLane ring squeue = IsPair ring.output squeue.input × IsPair squeue.back ring.back
