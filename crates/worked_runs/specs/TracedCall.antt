-- A whole run written out with a call, of which the marks are kept: that of `FiveSegments`, where a thread asks for the status of the
-- connection behind its text, from the words of the command line to the report with its marks.
use Rattle.std.specs.Prelude.{ℕ, true, false, List, [], ◌∷◌, ◌++◌, codes, None, Some}
use Rattle.std.specs.List.{flat_map}
use Rattle.sq_base.specs.Ends.{End}
use Rattle.tcb_machine.specs.declared.kinds.Call.TheVariants.{Status}
use Rattle.perimeter_core.specs.declared.entries.Act.{Act}
use Rattle.perimeter_core.specs.declared.entries.Act.TheVariants as Did
use Rattle.perimeter_core.specs.declared.entries.Entry.TheVariants.{Feed, Ask}
use Rattle.perimeter_core.specs.declared.marks.SynchAct.TheVariants as Done
use Rattle.perimeter_core.specs.declared.marks.Mark.TheVariants as On
use Rattle.perimeter_core.specs.History.{Element, Setting, plain}
use Rattle.histories.specs.Endings.{Ending}
use Rattle.squeue_state.specs.Told.{Traced}
use Rattle.squeue_state.specs.declared.trace.TraceMark.TheVariants as Told
use Rattle.conn_blocks.specs.CallLists.{CallLists}
use Rattle.ring_threads.specs.Served.{ServedOf}
use Rattle.squeue_run.specs.Asked.{Asked}
use Rattle.squeue_run.specs.Words.{Text}
use Rattle.squeue_run.specs.declared.calls.CallWord.{CallWord}
use Rattle.worked_runs.specs.OneSqueue.{block_of, only_block, setup_by}
use Rattle.worked_runs.specs.FiveSegments.{file, plan}

abbrev pub words : List Text
words = codes "--trace" ∷ codes "0:0:status" ∷ []

abbrev pub word : CallWord
word = record { thread = 0; connection = 0; call = Status }

-- what they ask for
abbrev pub wanted : Asked
wanted = record { setup = setup_by true; verify = false; number = None; calls = word ∷ [] }

-- by thread
abbrev pub calls : CallLists
calls = ((0, Status) ∷ []) ∷ [] ∷ [] ∷ [] ∷ []

abbrev pub setting : Setting
setting = record {
  rings = 1;
  quotas = (6, 0) ∷ (0, 1) ∷ (0, 0) ∷ (0, 0) ∷ (0, 0) ∷ [];
  starts = true ∷ [];
  limits = record { feeds = 6 ∷ []; leaves = 0 ∷ []; calls = (0, 0, 0) ∷ [] };
}

-- the ring brings three items and processes them, and the others behind the thread's call
abbrev pub history : List Element
history =
    plain (On.Claim 0 (Feed 0 0 ∷ Feed 0 1 ∷ Feed 0 2 ∷ [])) ∷ plain (On.Leave 0 0 Done.None)
    ∷ plain (On.Claim 1 (Ask 1 ∷ [])) ∷ plain (On.Leave 1 0 (Done.Call 0 0 0))
    ∷ plain (On.Claim 0 (Feed 0 3 ∷ Feed 0 4 ∷ Feed 0 5 ∷ [])) ∷ plain (On.Leave 0 0 Done.None)
    ∷ plain (On.Close 0) ∷ plain (On.Close 1) ∷ plain (On.Close 2) ∷ plain (On.Close 3) ∷ plain (On.Close 4) ∷ []

abbrev pub ending : Ending
ending = record { number = 0; setting = setting; history = history }

-- its marks, with the places of the entries that they name
abbrev pub trace : Traced
trace = record {
  marks =
      Told.Claim 0 0 3 ∷ Told.Leave 0 0 Done.None ∷ Told.Claim 1 3 1 ∷ Told.Leave 1 0 (Done.Call 0 0 0) ∷ Told.Claim 0 4 3 ∷ Told.Leave 0 0 Done.None
      ∷ Told.Close 0 ∷ Told.Close 1 ∷ Told.Close 2 ∷ Told.Close 3 ∷ Told.Close 4 ∷ [];
  entries = Feed 0 0 ∷ Feed 0 1 ∷ Feed 0 2 ∷ Ask 1 ∷ Feed 0 3 ∷ Feed 0 4 ∷ Feed 0 5 ∷ [];
  mark_room = 11;
  entry_room = 7;
}

abbrev pub order : List Act
order = Did.Feed 0 ∷ Did.Feed 1 ∷ Did.Feed 2 ∷ Did.Call 0 0 ∷ Did.Feed 3 ∷ Did.Feed 4 ∷ Did.Feed 5 ∷ []

abbrev pub served : ServedOf
served = only_block (block_of plan calls order) ending trace

-- the report, line by line
abbrev pub text : List ℕ
text =
    flat_map (λ line. line ++ 10 ∷ []) (
    codes "report 2"
    ∷ codes "records 5 tail 0 served 5 nofit 0 server 0 other 0 fragment 0 cut 0 malformed 0 badsum 0 connections 1"
    ∷ codes "conn 0 10.0.0.1:4000 10.0.0.2:7 echo"
    ∷ codes "order f0-2 c0.0 f3-5"
    ∷ codes "reply 0 4500002c00004000400626ca0a0000020a00000100070fa0000001f4000000656012ffff72140000020405b4"
    ∷ codes "reply 2000 4500002d00004000400626c90a0000020a00000100070fa0000001f50000006a5018ffff45ed000068656c6c6f"
    ∷ codes "reply 3000 4500002800004000400626ce0a0000020a00000100070fa0000001fa0000006b5011ffff89c50000"
    ∷ codes "answer 0 0 ESTABLISHED 5 5 5"
    ∷ codes "end LISTEN"
    ∷ codes "setup squeues 1 rings 1 mode process budget 64 spread 0 verify 0"
    ∷ codes "call 0:0:status"
    ∷ codes "squeue 0 marks 11"
    ∷ codes "claim 0 0.0 0.1 0.2"
    ∷ codes "leave 0 0 none"
    ∷ codes "claim 1 ask"
    ∷ codes "leave 1 0 call 0 0 0"
    ∷ codes "claim 0 0.3 0.4 0.5"
    ∷ codes "leave 0 0 none"
    ∷ codes "close 0"
    ∷ codes "close 1"
    ∷ codes "close 2"
    ∷ codes "close 3"
    ∷ codes "close 4"
    ∷ codes "done"
    ∷ [])

-- the report was written
abbrev pub out : End
out = record { was = Some []; is = Some text; faults_were = 0; faults_are = 0 }

-- what the replay reads, and its answer
abbrev pub input : List ℕ
input = text ++ file.bytes

abbrev pub replay_source : End
replay_source = record { was = Some input; is = Some []; faults_were = 0; faults_are = 0 }

abbrev pub replay_out : End
replay_out = record { was = Some []; is = Some (codes "yes\n"); faults_were = 0; faults_are = 0 }
