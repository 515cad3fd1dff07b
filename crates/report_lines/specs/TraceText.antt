-- The report of a run that kept its marks: the report under another first line, and before its last line the setup, the calls of
-- the application threads, and the marks of each squeue.
use Rattle.std.specs.Prelude.{ℕ, if◌then◌else◌, List, [], ◌∷◌, ◌++◌, length, map, codes}
use Rattle.std.specs.List.{flat_map, enumerate_from}
use Rattle.std.specs.Fmt.{decimal}
use Rattle.perimeter_core.specs.declared.entries.Act.{Act}
use Rattle.perimeter_core.specs.declared.entries.Entry.{Entry}
use Rattle.perimeter_core.specs.declared.entries.Entry.TheVariants.{Feed, Ask}
use Rattle.perimeter_core.specs.declared.marks.Mark.{Mark}
use Rattle.perimeter_core.specs.declared.marks.Mark.TheVariants as On
use Rattle.perimeter_core.specs.declared.marks.SynchAct.{SynchAct}
use Rattle.perimeter_core.specs.declared.marks.SynchAct.TheVariants as Done
use Rattle.histories.specs.ModeWords.{mode_word}
use Rattle.conn_classifier.specs.Plan.{PlanOf}
use Rattle.conn_classifier.specs.declared.rules.Rules.{Rules}
use Rattle.tcb_machine.specs.declared.kinds.Call.{Call}
use Rattle.tcb_machine.specs.declared.kinds.Call.TheVariants.{Status, Buffer, Close}
use Rattle.conn_blocks.specs.CallLists.{CallLists}
use Rattle.ring_quotas.specs.declared.setup.Setup.{Setup}
use Rattle.report_lines.specs.ReportText.{line, body_text, done_line}

-- the setup, and whether wrong checksums drop segments: 1 or 0
unfoldable pub setup_line : Setup → Rules → List ℕ
setup_line s rules = line (
    codes "setup" ∷ codes "squeues" ∷ decimal s.squeues ∷ codes "rings" ∷ decimal s.rings ∷ codes "mode" ∷ mode_word s.mode
    ∷ codes "budget" ∷ decimal s.budget ∷ codes "spread" ∷ decimal s.spread ∷ codes "verify" ∷ decimal (if rules.verify then 1 else 0) ∷ [])

-- what is asked of a connection
abbrev pub asked_text : Call → List ℕ
asked_text Status = codes "status"
asked_text (Buffer n) = codes "buffer=" ++ decimal n
asked_text Close = codes "close"

-- a call of thread j: thread, connection, and what is asked, with colons between
unfoldable pub call_line : ℕ → ℕ × Call → List ℕ
call_line j (c, call) = line (codes "call" ∷ (decimal j ++ 58 ∷ (decimal c ++ 58 ∷ asked_text call)) ∷ [])

-- the calls of thread j, in order
abbrev pub thread_text : ℕ × List (ℕ × Call) → List ℕ
thread_text (j, calls) = flat_map (call_line j) calls

abbrev pub calls_text : CallLists → List ℕ
calls_text calls = flat_map thread_text (enumerate_from 0 calls)

-- a feed by its connection and its number, with a dot between
abbrev pub entered_field : Entry → List ℕ
entered_field (Feed c n) = decimal c ++ 46 ∷ decimal n
entered_field (Ask p) = codes "ask"

abbrev pub act_fields : SynchAct → List (List ℕ)
act_fields Done.None = codes "none" ∷ []
act_fields (Done.Call c j k) = codes "call" ∷ decimal c ∷ decimal j ∷ decimal k ∷ []
act_fields Done.Away = codes "away" ∷ []
act_fields (Done.Out c) = codes "out" ∷ decimal c ∷ []
act_fields (Done.In c) = codes "in" ∷ decimal c ∷ []

-- the pass first; the entries that come in, or how many are left in the hand
abbrev pub mark_fields : Mark → List (List ℕ)
mark_fields (On.Fill p es) = codes "fill" ∷ decimal p ∷ map entered_field es
mark_fields (On.Fast p e) = codes "fast" ∷ decimal p ∷ entered_field e ∷ []
mark_fields (On.Claim p es) = codes "claim" ∷ decimal p ∷ map entered_field es
mark_fields (On.Take p) = codes "take" ∷ decimal p ∷ []
mark_fields (On.Leave p rest did) = codes "leave" ∷ decimal p ∷ decimal rest ∷ act_fields did
mark_fields (On.Ask p) = codes "ask" ∷ decimal p ∷ []
mark_fields (On.Grant p j rest) = codes "grant" ∷ decimal p ∷ decimal j ∷ decimal rest ∷ []
mark_fields (On.Accept j) = codes "accept" ∷ decimal j ∷ []
mark_fields (On.Work p) = codes "work" ∷ decimal p ∷ []
mark_fields (On.Close p) = codes "close" ∷ decimal p ∷ []

unfoldable pub mark_line : Mark → List ℕ
mark_line m = line (mark_fields m)

-- how many marks squeue q has
unfoldable pub squeue_line : ℕ → ℕ → List ℕ
squeue_line q count = line (codes "squeue" ∷ decimal q ∷ codes "marks" ∷ decimal count ∷ [])

-- squeue q, with the marks of its history
abbrev pub squeue_text : ℕ × List Mark → List ℕ
squeue_text (q, marks) = squeue_line q (length marks) ++ flat_map mark_line marks

-- the report of these orders, and of the marks of each squeue, by number
unfoldable pub trace_text : PlanOf → CallLists → Setup → Rules → List (List Act) → List (List Mark) → List ℕ
trace_text p calls setup rules orders marks =
    line (codes "report" ∷ codes "2" ∷ [])
    ++ (body_text p calls orders ++ (setup_line setup rules ++ (calls_text calls ++ (flat_map squeue_text (enumerate_from 0 marks) ++ done_line))))
