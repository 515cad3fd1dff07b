use Rattle.std.proofs.Common.{◌≡◌, ℕ, ◌+◌, List, ◌++◌, length, ap, sym, subst, ◌∙◌, append_assoc, arith}
use Rattle.std.proofs.lemmas.List.{append-nil}
use Rattle.squeue_run.specs.GeneratedCapture.{generated, file_header, round_before, rounds_before, IsAccepted, IsUnrefused}
use Rattle.squeue_run.specs.GeneratorState.{Ready}
use Rattle.squeue_run.proofs.GeneratorSteps.{no_rounds, rounds_more}
use Rattle.squeue_run.proofs.GeneratorReady.{given_back}
use Rattle.squeue_run.proofs.GeneratedAccepted.{accepted}
use Rattle.squeue_run.proofs.GeneratedRead.{unrefused}
use Rattle.squeue_run.proofs.GeneratedSize.{generated_size}
use Rattle.squeue_run.proofs.generator.generate.Goals as goal

pub loop-round-init : goal.loop-round-init
loop-round-init c = record {
  file = c.in_ok-push_header.ensures ∙ ap (λ l. l ++ file_header) c.in_ok-file.ensures.items
      ∙ sym (ap (λ l. file_header ++ l) (no_rounds c.args.number) ∙ append-nil file_header);
  ready = subst (λ n. Ready n 0 0 c.clients.new.draws.state c.in_ok-clients.clients.items) c.from.ensures c.in_ok-clients.ensures;
}

pub loop-round-preserved : goal.loop-round-preserved
loop-round-preserved c =
    let n = c.args.number in
    let round = c.loop-round.round in
    let so_far = c.loop-round.invariant in
    let lent : Ready c.args.number c.loop-round.round 0 c.loop-round.draws.state c.deref_mut.result.now =
    subst (λ l. Ready c.args.number c.loop-round.round 0 c.loop-round.draws.state l) (sym c.deref_mut.ensures.value) so_far.ready in
    let done = c.in_ok-push_round.ensures.ready n lent in
    let len : c.loop-round.clients.len ≡ 1000 = omega (arith, c.deref_mut.ensures.len, lent.count) in
    record {
      file = c.in_ok-push_round.ensures.file n lent ∙ ap (λ l. l ++ round_before n round 1000) so_far.file
          ∙ append_assoc file_header (rounds_before n round) (round_before n round 1000) ∙ ap (λ l. file_header ++ l) (sym (rounds_more n round));
      ready = subst (λ l. Ready c.args.number (c.loop-round.round + 1) 0 c.push_round.new.draws.state l)
          (sym (given_back c.loop-round.clients.len c.push_round.new.clients c.loop-round.clients.items len done.count so_far.ready.count)) done;
    }

-- the file once all rounds are made
whole : (number round : ℕ) (file : List ℕ) → file ≡ file_header ++ rounds_before number round → round ≡ 100 → file ≡ generated number
unfolding generated
whole number round file e all = e ∙ ap (λ r. file_header ++ rounds_before number r) all

is_generated : (c : goal.After-drop-clients-2) → c.wrap.result ≡ generated c.args.number
is_generated c = c.wrap.ensures ∙ whole c.args.number c.loop-round.round _ c.loop-round.invariant.file (omega arith)

pub returns-clause-bytes : goal.returns-clause-bytes
returns-clause-bytes c = is_generated c

pub returns-clause-size : goal.returns-clause-size
returns-clause-size c = ap length (is_generated c) ∙ generated_size c.args.number

pub returns-clause-accepted : goal.returns-clause-accepted
returns-clause-accepted c = subst IsAccepted (sym (is_generated c)) (accepted c.args.number)

pub returns-clause-unrefused : goal.returns-clause-unrefused
returns-clause-unrefused c =
    subst IsUnrefused (sym (is_generated c)) (unrefused (generated c.args.number) (generated_size c.args.number) (accepted c.args.number))
