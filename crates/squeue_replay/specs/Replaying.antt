-- What the code that goes through the marks of a squeue stands for.
use Rattle.std.specs.Prelude.{List, map}
use Rattle.perimeter_core.specs.declared.marks.Mark.{Mark}
use Rattle.perimeter_core.specs.History.{Element, Setting}
use Rattle.ring_quotas.specs.Quotas.{setting_at}
use Rattle.squeue_replay.specs.declared.squeue.ReplayedSqueue.{ReplayedSqueue}
use Rattle.squeue_replay.specs.Histories.{noted}
use Rattle.squeue_replay.specs.Standing.{SqueueOf, guest_of}

-- the setting of a squeue, and the history that these marks make there
abbrev pub setting_of : ReplayedSqueue → Setting
setting_of s = setting_at s.run.plan.now s.run.calls.now s.run.setup.squeues s.run.setup.rings s.run.setup.spread s.number

abbrev pub history_of : ReplayedSqueue → List Mark → List Element
history_of s marks = noted s.run.setup.squeues s.run.setup.spread s.number marks

-- what it keeps in memory
abbrev pub squeue_of : ReplayedSqueue → SqueueOf
squeue_of s = record {
  own = s.own;
  wake = s.wake;
  chain = s.chain.items;
  hand = s.hand.items;
  passes = map (λ p. record { closed = p.closed; waiting = p.waiting; feeds = p.feeds; asks = p.asks }) s.passes.items;
  guests = map guest_of s.guests.items;
}
