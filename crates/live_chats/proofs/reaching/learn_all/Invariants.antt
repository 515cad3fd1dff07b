use Rattle.std.proofs.Common.{◌≡◌, length, take}
use Rattle.live_chats.specs.Seating.{all_learnt}
use Rattle.live_chats.proofs.reaching.learn_all.Given as goal

abbrev pub invariant-loop-i : goal.invariant-loop-i
invariant-loop-i l = record { learnt : l.seats.entries ≡ all_learnt (take l.i l.heard) l.fn.seats.entries; all : l.i-end ≡ length l.heard }
