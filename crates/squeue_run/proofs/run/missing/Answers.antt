use Rattle.std.proofs.Common.{◌<◌, ◌+◌, ◌∷◌, ℕ, List, length, drop, get_or, subst, refl, inl, arith}
use Rattle.std.proofs.lemmas.List.{drop_more}
use Rattle.tcb_machine.specs.declared.kinds.Call.TheVariants as call
use Rattle.squeue_run.specs.declared.calls.CallWord.{CallWord}
use Rattle.squeue_run.proofs.Missing.{Decides, goes_on}
use Rattle.squeue_run.proofs.run.missing.Goals as goal

-- what is left begins with the CALL that is looked at
here : (n : ℕ) (named : List CallWord) (i : ℕ) → i < length named → Decides n named (drop i named)
    → Decides n named (get_or named i (record { thread = 0; connection = 0; call = call.Status }) ∷ drop (i + 1) named)
here n named i inside d = subst (Decides n named) (drop_more named i _ inside) d

pub returns-then-word-conns : goal.returns-then-word-conns
returns-then-word-conns c =
    (here c.args.conns c.args.named.now c.loop-word.word-index c.loop-word-test.true c.loop-word.invariant).missing _ (inl (c.if-word-conns.true, refl))

pub loop-word-preserved : goal.loop-word-preserved
loop-word-preserved c =
    let d = here c.args.conns c.args.named.now c.loop-word.word-index c.loop-word-test.true c.loop-word.invariant in
    goes_on c.args.conns c.args.named.now (drop (c.loop-word.word-index + 1) c.args.named.now) (get_or c.args.named.now c.loop-word.word-index (record { thread = 0; connection = 0; call = call.Status })) d (omega (arith, c.if-word-conns.false))
