use Rattle.std.proofs.Common.{◌≡◌, ℕ, List}
use Rattle.placed_parts.specs.Placing.{limits_of, origin_of}
use Rattle.squeue_state.specs.Naming.{setting_of}
use Rattle.stream_stays.specs.Places.{IsOpen, Knows, life_of}
use Rattle.squeue_arrivals.specs.Keyed.{IsFirst, Tells}
use Rattle.squeue_arrivals.specs.Keeping.{KeepsBut, Serves}
use Rattle.squeue_arrivals.proofs.line.Line+KeyParts+X+H+W.push.Given as goal

-- nothing is sent yet
abbrev pub invariant-tries : goal.invariant-tries
invariant-tries g l =
    record {
      knows : Knows IsFirst (Tells g.X.KeySteps.step) limits_of l.self.squeue.now (origin_of l.self.squeue.now.given.first) l.pass l.stays;
      is_open : IsOpen l.stays l.c;
      serves : (items : List g.row.X-Item.Denot) (times : ℕ) → Serves (setting_of limits_of l.self.squeue.now.given) l.pass l.fn.stays l.c items times
          → Serves (setting_of limits_of l.self.squeue.now.given) l.pass l.stays l.c items times;
      others : KeepsBut l.c l.fn.stays l.stays;
      item : l.item ≡ l.fn.item;
      asks : (life_of l.stays).asks ≡ (life_of l.fn.stays).asks;
    }
