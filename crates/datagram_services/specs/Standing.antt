-- What the resident of streams stands for.
use Rattle.std.specs.Prelude.{◌≡◌, ◌≤◌, ℕ, ◌-◌, ◌*◌, ◌^◌, Bool, true, false, Option, Some, None, List, [], length, drop, map, slice_get}
use Rattle.perimeter_core.specs.declared.entries.Act.{Act}
use Rattle.perimeter_core.specs.History.{Limits}
use Rattle.perimeter_core.specs.Deeds.{feed_numbers}
use Rattle.perimeter_core.specs.Blocks.{Blocks}
use Rattle.perimeter_core.specs.Backlog.{up}
use Rattle.placed_parts.specs.Standing as Placed
use Rattle.byte_queues.specs.ReceiveQueue.{next_of}
use Rattle.tcb_machine.specs.BlockState.{offered}
use Rattle.chargen_service.specs.Chargen.{new_generating}
use Rattle.capture_reader.specs.Limits.{latest_time}
use Rattle.capture_reader.specs.Outcome.{CaptureFile}
use Rattle.conn_classifier.specs.Plan.{Rises}
use Rattle.stream_plan.specs.Streams.{MorePlanOf, StreamOf, item_count}
use Rattle.datagram_services.specs.Items.{ServedOf, served}
use Rattle.datagram_services.specs.declared.block.StreamBlock.{StreamBlock}
use Rattle.datagram_services.specs.declared.blocks.StreamBlocks.{StreamBlocks}

abbrev pub served_of : StreamBlock → ServedOf
served_of k = record { answers = k.answers.items; generator = k.generator }

-- The block is what the first items of a stream leave, as many as it had. It takes the next one: its clock isn't past the items behind,
-- and both its streams are short
pub record HasServed (file : CaptureFile) (s : StreamOf) (k : StreamBlock) : Type 0 where
  pub same : served_of k ≡ served file s k.had
  pub next : Rises k.generator.block.clock latest_time (drop (k.had - length s.datagrams) s.items)
  pub received : next_of k.generator.block.recv ≤ k.had * 2 ^ 20
  pub offered : offered k.generator.block ≤ k.had * 2 ^ 16

-- so is the block of stream c, unless memory was missing
abbrev pub IsPartOf : MorePlanOf → ℕ → StreamBlock → Type 0
IsPartOf p c k = (s : StreamOf) → slice_get p.streams c ≡ Some s → k.short ≡ false → HasServed p.file s k

-- it has had the feeds from 0 on
abbrev pub HasHad : StreamBlock → List Act → Type 0
HasHad k had = feed_numbers had ≡ up 0 k.had

-- the block of stream c has had these acts
abbrev pub BlockAt : MorePlanOf → ℕ → StreamBlock → List Act → Type 0
BlockAt p = Placed.OwnPart (IsPartOf p) HasHad

-- what lies at the place of stream c, and the acts of its block where it is here
abbrev pub PlaceFits : MorePlanOf → ℕ → Option (Option StreamBlock) → Option (List Act) → Type 0
PlaceFits p = Placed.PlaceAt (BlockAt p)

abbrev pub PlacesStand : MorePlanOf → List (Option StreamBlock) → Blocks → Type 0
PlacesStand p = Placed.PlacesStand (BlockAt p)

abbrev pub Stands : StreamBlocks → Blocks → Type 0
Stands r blocks = PlacesStand r.plan.now r.places.items blocks

-- how many streams there are
abbrev pub size_of : StreamBlocks → ℕ
size_of r = length r.places.items

abbrev pub origin_of : StreamBlocks → MorePlanOf
origin_of r = r.plan.now

-- the calls that there may be: stream, thread and number
abbrev pub calls_of : StreamBlocks → List (ℕ × ℕ × ℕ)
calls_of r = r.calls.items

-- each stream has a feed for each of its items, no block leaves, and there are these calls
abbrev pub limits_of : StreamBlocks → Limits
limits_of r = record { feeds = map item_count r.plan.now.streams; leaves = []; calls = calls_of r }

-- nothing was served of a new block
pub record IsNew (k : StreamBlock) : Type 0 where
  pub none_had : k.had ≡ 0
  pub no_answers : k.answers.items ≡ []
  pub generator : k.generator ≡ new_generating
  pub whole : k.short ≡ false

-- at first a place has a new block where its stream is here
abbrev pub FirstFits : Option StreamBlock → Bool → Type 0
FirstFits (Some k) here = (here ≡ true) × IsNew k
FirstFits None here = here ≡ false
