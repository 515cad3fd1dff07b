-- Histories written out. Here no more than what is in them; that they are legal, and what they lead to, module worked says.
use Rattle.std.specs.Prelude.{Bool, true, false, List, [], ◌∷◌}
use Rattle.perimeter_core.specs.declared.entries.Act.{Act}
use Rattle.perimeter_core.specs.declared.entries.Act.TheVariants as Did
use Rattle.perimeter_core.specs.declared.entries.Entry.{Entry}
use Rattle.perimeter_core.specs.declared.entries.Entry.TheVariants.{Feed, Ask}
use Rattle.perimeter_core.specs.declared.marks.Own.{Own}
use Rattle.perimeter_core.specs.declared.marks.Own.TheVariants.{Free, Out, Granted}
use Rattle.perimeter_core.specs.declared.marks.SynchAct.TheVariants as Done
use Rattle.perimeter_core.specs.declared.marks.Mark.TheVariants as On
use Rattle.perimeter_core.specs.Perimeter.{State, after}
use Rattle.perimeter_core.specs.History.{Element, Setting, plain, start}

-- the state after each element of a history
abbrev pub states_from : State → List Element → List State
states_from s [] = []
states_from s (e ∷ H) = after s e.mark ∷ states_from (after s e.mark) H

abbrev pub states : Setting → List Element → List State
states S H = states_from (start S) H

-- a state that doesn't poll
abbrev pub quiet : Own → List Entry → List Entry → Bool → List Bool → List Bool → State
quiet own chain hand wake here closed =
    record { own = own; chain = chain; hand = hand; wake = wake; polling = false; here = here; closed = closed }

-- Three rings and a worker over four connections that are all here: each ring fills, each closes, the worker processes all
abbrev pub three_passes : Setting
three_passes =
    record {
      rings = 3;
      quotas = (2, 0) ∷ (2, 0) ∷ (1, 0) ∷ [];
      starts = true ∷ true ∷ true ∷ true ∷ [];
      limits = record { feeds = 2 ∷ 2 ∷ 1 ∷ 0 ∷ []; leaves = 0 ∷ 0 ∷ 0 ∷ 0 ∷ []; calls = [] };
    }

abbrev pub three_passes_one_worker : List Element
three_passes_one_worker =
    plain (On.Fill 0 (Feed 0 0 ∷ Feed 0 1 ∷ []))
    ∷ plain (On.Fill 1 (Feed 1 0 ∷ Feed 1 1 ∷ []))
    ∷ plain (On.Fill 2 (Feed 2 0 ∷ []))
    ∷ plain (On.Close 0)
    ∷ plain (On.Close 1)
    ∷ plain (On.Close 2)
    ∷ plain (On.Work 3)
    ∷ plain (On.Leave 3 0 Done.None)
    ∷ []

abbrev pub all_five : List Entry
all_five = Feed 0 0 ∷ Feed 0 1 ∷ Feed 1 0 ∷ Feed 1 1 ∷ Feed 2 0 ∷ []

abbrev pub four : List Bool
four = true ∷ true ∷ true ∷ true ∷ []

abbrev pub three_passes_states : List State
three_passes_states =
    quiet Free (Feed 0 0 ∷ Feed 0 1 ∷ []) [] true four (false ∷ false ∷ false ∷ false ∷ [])
    ∷ quiet Free (Feed 0 0 ∷ Feed 0 1 ∷ Feed 1 0 ∷ Feed 1 1 ∷ []) [] true four (false ∷ false ∷ false ∷ false ∷ [])
    ∷ quiet Free all_five [] true four (false ∷ false ∷ false ∷ false ∷ [])
    ∷ quiet Free all_five [] true four (true ∷ false ∷ false ∷ false ∷ [])
    ∷ quiet Free all_five [] true four (true ∷ true ∷ false ∷ false ∷ [])
    ∷ quiet Free all_five [] true four (true ∷ true ∷ true ∷ false ∷ [])
    ∷ quiet (Out 3) [] all_five false four (true ∷ true ∷ true ∷ false ∷ [])
    ∷ quiet Free [] [] false four (true ∷ true ∷ true ∷ false ∷ [])
    ∷ []

-- One migration. The ring fills two feeds of its connection at the one squeue, claims it with its own Ask, and takes the
-- block out; at the other it claims with its own Ask and puts the block in, which has had both feeds
abbrev pub old_home : Setting
old_home =
    record { rings = 1; quotas = (2, 1) ∷ []; starts = true ∷ []; limits = record { feeds = 2 ∷ []; leaves = 1 ∷ []; calls = [] } }

abbrev pub moved_out : List Element
moved_out =
    plain (On.Fill 0 (Feed 0 0 ∷ Feed 0 1 ∷ []))
    ∷ plain (On.Claim 0 (Ask 0 ∷ []))
    ∷ plain (On.Leave 0 0 (Done.Out 0))
    ∷ []

abbrev pub moved_out_states : List State
moved_out_states =
    quiet Free (Feed 0 0 ∷ Feed 0 1 ∷ []) [] true (true ∷ []) (false ∷ false ∷ [])
    ∷ quiet (Out 0) [] (Feed 0 0 ∷ Feed 0 1 ∷ Ask 0 ∷ []) false (true ∷ []) (false ∷ false ∷ [])
    ∷ quiet Free [] [] false (false ∷ []) (false ∷ false ∷ [])
    ∷ []

abbrev pub both_feeds : List Act
both_feeds = Did.Feed 0 ∷ Did.Feed 1 ∷ []

abbrev pub new_home : Setting
new_home =
    record { rings = 1; quotas = (0, 1) ∷ []; starts = false ∷ []; limits = record { feeds = 2 ∷ []; leaves = 0 ∷ []; calls = [] } }

abbrev pub moved_in : List Element
moved_in = plain (On.Claim 0 (Ask 0 ∷ [])) ∷ record { mark = On.Leave 0 0 (Done.In 0); note = both_feeds } ∷ []

abbrev pub moved_in_states : List State
moved_in_states =
    quiet (Out 0) [] (Ask 0 ∷ []) false (false ∷ []) (false ∷ false ∷ [])
    ∷ quiet Free [] [] false (true ∷ []) (false ∷ false ∷ [])
    ∷ []

-- Two rings, an application thread and a worker. Connection 1 may not leave, and its ring has one feed
abbrev pub two_rings : Setting
two_rings =
    record {
      rings = 2;
      quotas = (3, 1) ∷ (1, 1) ∷ (0, 1) ∷ [];
      starts = true ∷ true ∷ [];
      limits = record { feeds = 2 ∷ 2 ∷ []; leaves = 1 ∷ 0 ∷ []; calls = (0, 0, 0) ∷ [] };
    }

-- A call by grant. The thread asks while ring 0 owns the perimeter; the ring meets the Ask in its next hand and grants, and
-- the thread accepts and makes its call
abbrev pub granted_call : List Element
granted_call =
    plain (On.Claim 0 (Feed 0 0 ∷ []))
    ∷ plain (On.Ask 2)
    ∷ plain (On.Fill 1 (Feed 1 0 ∷ []))
    ∷ plain (On.Take 0)
    ∷ plain (On.Grant 0 2 1)
    ∷ plain (On.Accept 2)
    ∷ plain (On.Leave 2 0 (Done.Call 0 0 0))
    ∷ []

abbrev pub none_closed : List Bool
none_closed = false ∷ false ∷ false ∷ false ∷ []

abbrev pub granted_call_states : List State
granted_call_states =
    quiet (Out 0) [] (Feed 0 0 ∷ []) false (true ∷ true ∷ []) none_closed
    ∷ quiet (Out 0) (Ask 2 ∷ []) (Feed 0 0 ∷ []) false (true ∷ true ∷ []) none_closed
    ∷ quiet (Out 0) (Ask 2 ∷ Feed 1 0 ∷ []) (Feed 0 0 ∷ []) false (true ∷ true ∷ []) none_closed
    ∷ quiet (Out 0) [] (Ask 2 ∷ Feed 1 0 ∷ []) false (true ∷ true ∷ []) none_closed
    ∷ quiet (Granted 2) (Feed 1 0 ∷ []) [] false (true ∷ true ∷ []) none_closed
    ∷ quiet (Out 2) (Feed 1 0 ∷ []) [] false (true ∷ true ∷ []) none_closed
    ∷ quiet Free (Feed 1 0 ∷ []) [] true (true ∷ true ∷ []) none_closed
    ∷ []

abbrev pub fed_and_called : List Act
fed_and_called = Did.Feed 0 ∷ Did.Call 0 0 ∷ []
