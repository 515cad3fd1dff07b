-- What was popped of a ring.
use Rattle.std.proofs.Common.{Global}
use Rattle.std.specs.Prelude.{◌≡◌, Option, None, Some, ◌++◌, option_to_list}
use Rattle.rtrb.specs.declared.AnyItems.{AnyItems}
use Rattle.rtrb.specs.declared.consumer.Consumer.{Consumer}
use Rattle.rtrb.specs.Ring.{SameConsumer, received}

module _ {A : Type 0} where
  -- this was popped, if anything, where there is a ring
  abbrev pub WasPopped : Option A → Option (Consumer A Global AnyItems) → Option (Consumer A Global AnyItems) → Type 0
  WasPopped None None now = now ≡ None
  WasPopped (Some a) None now = ⊥
  WasPopped o (Some c) None = ⊥
  WasPopped o (Some c) (Some d) = SameConsumer c d × (received d ≡ received c ++ option_to_list o)
