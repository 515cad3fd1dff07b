-- Worked examples: what marks add to a report.
use Rattle.std.proofs.Common.{◌≡◌, [], ◌∷◌, true, false, codes, refl}
use Rattle.std.specs.Fmt.{digits}
use Rattle.perimeter_core.specs.declared.entries.Entry.TheVariants.{Feed, Ask}
use Rattle.perimeter_core.specs.declared.marks.Mark.TheVariants as On
use Rattle.perimeter_core.specs.declared.marks.SynchAct.TheVariants as Done
use Rattle.histories.specs.declared.mode.Mode.TheVariants as Mode'
use Rattle.histories.specs.ModeWords.{mode_word}
use Rattle.tcb_machine.specs.declared.kinds.Call.TheVariants.{Status, Buffer, Close}
use Rattle.report_lines.specs.TraceText.{setup_line, call_line, calls_text, mark_line, squeue_line, squeue_text}
use Rattle.conn_classifier.specs.Rules.{usual}

least : setup_line (record { squeues = 1; rings = 1; mode = Mode'.Process; budget = 64; spread = 0; trace = true }) (usual false) ≡ codes "setup squeues 1 rings 1 mode process budget 64 spread 0 verify 0\n"
unfolding setup_line mode_word digits
least = refl

most : setup_line (record { squeues = 16; rings = 8; mode = Mode'.NoDrain; budget = 65535; spread = 65535; trace = true }) (usual true) ≡ codes "setup squeues 16 rings 8 mode nodrain budget 65535 spread 65535 verify 1\n"
unfolding setup_line mode_word digits
most = refl

left_to_the_worker : mode_word Mode'.Fill ≡ codes "fill"
unfolding mode_word
left_to_the_worker = refl

three_calls : calls_text (((0, Status) ∷ (12, Close) ∷ []) ∷ [] ∷ ((3, Buffer 65535) ∷ []) ∷ [] ∷ []) ≡ codes "call 0:0:status\ncall 0:12:close\ncall 2:3:buffer=65535\n"
unfolding call_line digits
three_calls = refl

three_passes :
    squeue_text (0, On.Fill 0 (Feed 0 0 ∷ Feed 0 1 ∷ []) ∷ On.Fill 1 (Feed 1 0 ∷ Feed 1 1 ∷ []) ∷ On.Fill 2 (Feed 2 0 ∷ []) ∷ On.Close 0 ∷ On.Close 1 ∷ On.Close 2 ∷ On.Work 3 ∷ On.Leave 3 0 Done.None ∷ [])
    ≡ codes "squeue 0 marks 8\nfill 0 0.0 0.1\nfill 1 1.0 1.1\nfill 2 2.0\nclose 0\nclose 1\nclose 2\nwork 3\nleave 3 0 none\n"
unfolding squeue_line mark_line digits
three_passes = refl

no_mark : squeue_text (15, []) ≡ codes "squeue 15 marks 0\n"
unfolding squeue_line digits
no_mark = refl

fast : mark_line (On.Fast 0 (Feed 4 11)) ≡ codes "fast 0 4.11\n"
unfolding mark_line digits
fast = refl

claim : mark_line (On.Claim 1 (Feed 2 0 ∷ Feed 2 1 ∷ Feed 3 20 ∷ [])) ≡ codes "claim 1 2.0 2.1 3.20\n"
unfolding mark_line digits
claim = refl

claim_of_an_ask : mark_line (On.Claim 5 (Ask 5 ∷ [])) ≡ codes "claim 5 ask\n"
unfolding mark_line digits
claim_of_an_ask = refl

take : mark_line (On.Take 1) ≡ codes "take 1\n"
unfolding mark_line digits
take = refl

call : mark_line (On.Leave 5 31 (Done.Call 4095 1 1023)) ≡ codes "leave 5 31 call 4095 1 1023\n"
unfolding mark_line digits
call = refl

away : mark_line (On.Leave 8 0 Done.Away) ≡ codes "leave 8 0 away\n"
unfolding mark_line digits
away = refl

out : mark_line (On.Leave 0 2 (Done.Out 7)) ≡ codes "leave 0 2 out 7\n"
unfolding mark_line digits
out = refl

back : mark_line (On.Leave 0 0 (Done.In 7)) ≡ codes "leave 0 0 in 7\n"
unfolding mark_line digits
back = refl

ask : mark_line (On.Ask 6) ≡ codes "ask 6\n"
unfolding mark_line digits
ask = refl

grant : mark_line (On.Grant 9 6 3) ≡ codes "grant 9 6 3\n"
unfolding mark_line digits
grant = refl

accept : mark_line (On.Accept 6) ≡ codes "accept 6\n"
unfolding mark_line digits
accept = refl
