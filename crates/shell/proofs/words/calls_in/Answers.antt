use Rattle.std.proofs.Common.{rules, arith, ◌≡◌, ◌<◌, ◌++◌, ◌∷◌, [], Some, length, sym, ◌∙◌, ap}
use Rattle.shell.proofs.Calls.{calls_spoiled, calls_step}
use Rattle.shell.proofs.words.calls_in.Goals as goal

pub returns-in_default-clause-usage : goal.returns-in_default-clause-usage
returns-in_default-clause-usage g c = λ e.
    let within : c.loop-word.word-index < length c.args.words.now = omega (arith, c.loop-word-test.true) in
    calls_spoiled g.C.ReadsCall.call_of c.args.words.now c.loop-word.word-index _ within (sym c.read_call.ensures ∙ c.in_default.is)

pub loop-word-preserved : goal.loop-word-preserved
loop-word-preserved g c =
    let within : c.loop-word.word-index < length c.args.words.now = omega (arith, c.loop-word-test.true) in
    let items : c.push.new.self.items ≡ c.loop-word.calls.items ++ c.in-Some.call ∷ [] = search rules in
    calls_step g.C.ReadsCall.call_of c.args.words.now c.loop-word.word-index _ c.loop-word.calls.items c.in-Some.call within c.loop-word.invariant (sym c.read_call.ensures ∙ c.in-Some.is)
    ∙ sym (ap (λ l. Some l) items)
