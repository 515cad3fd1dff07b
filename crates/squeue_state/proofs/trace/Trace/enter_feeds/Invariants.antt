use Rattle.std.proofs.Common.{◌≡◌, ◌++◌, ◌≤◌, ◌+◌, ◌-◌, take, length}
use Rattle.perimeter_core.specs.Deeds.{entries}
use Rattle.squeue_state.specs.Told.{marks_of}
use Rattle.squeue_state.proofs.trace.Trace.enter_feeds.Given as goal

abbrev pub invariant-loop-f : goal.invariant-loop-f
invariant-loop-f l =
    record {
      entries : l.self.entries ≡ l.initial.self.entries ++ entries (take l.f-index l.es);
      room : length l.self.entries + (length l.es - l.f-index) ≤ l.self.entry_room;
      told : marks_of l.self ≡ marks_of l.initial.self;
      same : (l.self.marks ≡ l.initial.self.marks) × (l.self.mark_room ≡ l.initial.self.mark_room) × (l.self.entry_room ≡ l.initial.self.entry_room);
    }
