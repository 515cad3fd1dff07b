use Rattle.std.proofs.Common.{◌≡◌, Some, map, take}
use Rattle.shell.specs.Asked.{calls_of}
use Rattle.shell.proofs.words.calls_in.Given as goal

-- the CALLs so far
abbrev pub invariant-loop-word : goal.invariant-loop-word
invariant-loop-word g l = calls_of g.C.ReadsCall.call_of (map (λ w. w.now) (take l.word-index l.words)) ≡ Some l.calls.items
