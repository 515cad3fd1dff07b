-- Where the blocks lie that were served.
use Rattle.std.specs.Prelude.{◌≡◌, ℕ, ◌<◌, Box, Option, Some, None, List, [], ◌∷◌, length, map, slice_get}
use Rattle.std.specs.declared.alloc.Global.{Global}
use Rattle.conn_blocks.specs.ServeOrder.{BlockOf}
use Rattle.ring_threads.specs.Served.{ServedOf}
use Rattle.ring_threads.specs.declared.kept.Kept.{Kept}
use Rattle.ring_threads.specs.declared.kept.Kept.TheVariants.{Left, Made}

-- a block lies at each of these places
abbrev pub AreThere : List (Option (Box BlockOf Global)) → Type 0
AreThere places = (c : ℕ) → c < length places → (b : Box BlockOf Global) × (slice_get places c ≡ Some (Some b))

-- the blocks that lie there, in the order of the places
abbrev pub blocks_at : List (Option (Box BlockOf Global)) → List BlockOf
blocks_at [] = []
blocks_at (Some b ∷ places) = b.value ∷ blocks_at places
blocks_at (None ∷ places) = blocks_at places

-- what squeues left, with their ends and traces, or blocks alone
abbrev pub served_in : Kept → ServedOf
served_in (Left f) = record { blocks = blocks_at f.parts; ended = f.ended; traces = f.traces }
served_in (Made blocks) = record { blocks = map (λ b. b.value) blocks.items; ended = []; traces = [] }

abbrev pub IsSound : Kept → Type 0
IsSound (Left f) = AreThere f.parts
IsSound (Made blocks) = Unit {0}
