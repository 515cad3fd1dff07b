-- Where the blocks lie that were served, and what is served so.
use Rattle.std.specs.Prelude.{◌≡◌, ℕ, ◌<◌, false, Option, Some, None, List, [], ◌∷◌, length, slice_get}
use Rattle.squeue_pool.specs.Finishing.{FinishedOf}
use Rattle.datagram_services.specs.Items.{ServedOf}
use Rattle.datagram_services.specs.Standing.{served_of}
use Rattle.datagram_services.specs.declared.block.StreamBlock.{StreamBlock}
use Rattle.datagram_services.specs.Served.{MoreServedOf}

-- a block lies at each of these places
abbrev pub AreThere : List (Option StreamBlock) → Type 0
AreThere places = (c : ℕ) → c < length places → (block : StreamBlock) × (slice_get places c ≡ Some (Some block))

-- what was served by the blocks that lie there, in the order of the places
abbrev pub streams_at : List (Option StreamBlock) → List ServedOf
streams_at [] = []
streams_at (Some block ∷ places) = served_of block ∷ streams_at places
streams_at (None ∷ places) = streams_at places

-- what is handed out is what lies there, none of it short, and the end of each squeue
pub record HandsOut (f : FinishedOf StreamBlock) (v : MoreServedOf) : Type 0 where
  pub ended : v.ended ≡ f.ended
  pub count : length v.streams ≡ length f.parts
  pub each : (c : ℕ) (block : StreamBlock) → slice_get f.parts c ≡ Some (Some block) → (slice_get v.streams c ≡ Some (served_of block)) × (block.short ≡ false)
