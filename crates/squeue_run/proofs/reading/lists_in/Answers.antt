use Rattle.std.proofs.Common.{◌++◌, ◌∷◌, [], take, get_or, set, ap, sym, ◌∙◌, arith}
use Rattle.std.proofs.lemmas.List.{take_more, length-take}
use Rattle.conn_blocks.specs.CallLists.{calls_of}
use Rattle.tcb_machine.specs.declared.kinds.Call.TheVariants as call
use Rattle.squeue_run.specs.CallWords.{lists_of}
use Rattle.squeue_run.specs.declared.calls.CallWord.{CallWord}
use Rattle.squeue_run.proofs.Threads.{lists_push, lists_count, thread_at}
use Rattle.squeue_run.proofs.reading.lists_in.Goals as goal

pub push-requires-clause-few : goal.push-requires-clause-few
push-requires-clause-few c =
    let i = c.loop-word.word-index in
    let named = c.args.named.now in
    let count = lists_count (take i named) in
    let few = length-take i named in
    rw (c.loop-word.invariant) (omega (arith, count, few, c.loop-word-test.true, c.requires.few))

pub loop-word-preserved : goal.loop-word-preserved
loop-word-preserved c =
    let i = c.loop-word.word-index in
    let named = c.args.named.now in
    let w : CallWord = get_or named i (record { thread = 0; connection = 0; call = call.Status }) in
    c.in_ok-push.ensures.ok
    ∙ ap (λ cs. set cs w.thread (calls_of cs w.thread ++ (w.connection, w.call) ∷ [])) c.loop-word.invariant
    ∙ sym (lists_push (take i named) w (thread_at named i _ c.requires.threads c.loop-word-test.true))
    ∙ ap lists_of (sym (take_more named i _ c.loop-word-test.true))
