-- A run written out: one squeue, one ring, and one connection with two items, whatever these are.
use Rattle.std.specs.Prelude.{Bool, true, false, List, [], ◌∷◌}
use Rattle.sq_base.specs.declared.kinds.Tuple.{Tuple}
use Rattle.capture_reader.specs.Outcome.{CaptureFile}
use Rattle.conn_classifier.specs.declared.kinds.Counts.{Counts}
use Rattle.conn_classifier.specs.declared.kinds.Item.{Item}
use Rattle.conn_classifier.specs.Plan.{PlanOf}
use Rattle.conn_classifier.specs.Rules.{usual_ports}
use Rattle.perimeter_core.specs.declared.entries.Act.{Act}
use Rattle.perimeter_core.specs.declared.entries.Act.TheVariants as Did
use Rattle.perimeter_core.specs.declared.entries.Entry.TheVariants.{Feed}
use Rattle.perimeter_core.specs.declared.marks.SynchAct.TheVariants as Done
use Rattle.perimeter_core.specs.declared.marks.Mark.TheVariants as On
use Rattle.perimeter_core.specs.History.{Element, Setting, plain}
use Rattle.histories.specs.declared.mode.Mode.TheVariants as Mode'
use Rattle.histories.specs.Endings.{Ending}
use Rattle.squeue_state.specs.Told.{Traced}
use Rattle.conn_blocks.specs.CallLists.{CallLists}
use Rattle.conn_blocks.specs.ServeOrder.{BlockOf, serve}
use Rattle.conn_blocks.specs.Services.{service_in}
use Rattle.ring_quotas.specs.declared.setup.Setup.{Setup}
use Rattle.ring_threads.specs.Served.{ServedOf}

abbrev pub plan : CaptureFile → Counts → Tuple → Item → Item → PlanOf
plan file counts t x y = record { file = file; ports = usual_ports; tuples = t ∷ []; items = (x ∷ y ∷ []) ∷ []; order = []; counts = counts }

-- whether marks are kept
abbrev pub setup_by : Bool → Setup
setup_by trace = record { squeues = 1; rings = 1; mode = Mode'.Process; budget = 64; spread = 0; trace = trace }

abbrev pub setup : Setup
setup = setup_by false

abbrev pub setting : Setting
setting = record {
  rings = 1;
  quotas = (2, 0) ∷ (0, 0) ∷ (0, 0) ∷ (0, 0) ∷ (0, 0) ∷ [];
  starts = true ∷ [];
  limits = record { feeds = 2 ∷ []; leaves = 0 ∷ []; calls = [] };
}

abbrev pub history : List Element
history =
    plain (On.Fast 0 (Feed 0 0)) ∷ plain (On.Leave 0 0 Done.None) ∷ plain (On.Fast 0 (Feed 0 1)) ∷ plain (On.Leave 0 0 Done.None)
    ∷ plain (On.Close 0) ∷ plain (On.Close 1) ∷ plain (On.Close 2) ∷ plain (On.Close 3) ∷ plain (On.Close 4) ∷ []

abbrev pub ending : Ending
ending = record { number = 0; setting = setting; history = history }

abbrev pub order : List Act
order = Did.Feed 0 ∷ Did.Feed 1 ∷ []

-- the block of the only connection, which had this order, with no room for more
abbrev pub block_of : PlanOf → CallLists → List Act → BlockOf
block_of p calls order = record {
  of = record { plan = p; calls = calls; c = 0 };
  service = service_in p 0;
  tcb = (serve p calls 0 order).block;
  order = order;
  answers = (serve p calls 0 order).answers;
  short = false;
  stages = [];
  order_room = 0;
  answers_room = 0;
}

abbrev pub block : PlanOf → BlockOf
block p = block_of p [] order

abbrev pub no_trace : Traced
no_trace = record { marks = []; entries = []; mark_room = 0; entry_room = 0 }

-- one block, and one end with its trace
abbrev pub only_block : BlockOf → Ending → Traced → ServedOf
only_block b e trace = record { blocks = b ∷ []; ended = e ∷ []; traces = trace ∷ [] }

abbrev pub served : PlanOf → ServedOf
served p = only_block (block p) ending no_trace
