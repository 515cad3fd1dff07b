use Rattle.std.proofs.Common.{◌≡◌, ◌++◌, ◌<◌, ap, sym, ◌∙◌, append_assoc, arith}
use Rattle.std.proofs.lemmas.List.{append-nil}
use Rattle.squeue_run.specs.GeneratedCapture.{round_before, record_at}
use Rattle.squeue_run.proofs.GeneratorSteps.{no_records, round_more, text_at_is}
use Rattle.squeue_run.proofs.GeneratorReady.{ready_round, ready_more, turn}
use Rattle.squeue_run.proofs.generator.push_round.Goals as goal

pub loop-c-init : goal.loop-c-init
loop-c-init c = record {
  file = λ n r. sym (append-nil c.args.file.now.items) ∙ ap (λ l. c.args.file.now.items ++ l) (sym (no_records n c.args.round));
  ready = λ n r. r;
}

pub loop-c-preserved : goal.loop-c-preserved
loop-c-preserved c =
    let lt : c.loop-c.c < 1000 = omega arith in
    record {
      file = λ n r.
          let ready = c.loop-c.invariant.ready n r in
          c.in_ok-push_segment.ensures.file n (turn n c.args.round c.loop-c.c _ _ ready _ lt) (c.in_ok-text.ensures.text n _ ready.drawn ∙ text_at_is n c.args.round c.loop-c.c)
          ∙ ap (λ l. l ++ record_at n c.args.round c.loop-c.c) (c.loop-c.invariant.file n r)
          ∙ append_assoc c.args.file.now.items (round_before n c.args.round c.loop-c.c) (record_at n c.args.round c.loop-c.c)
          ∙ ap (λ l. c.args.file.now.items ++ l) (sym (round_more n c.args.round c.loop-c.c));
      ready = λ n r.
          let ready = c.loop-c.invariant.ready n r in
          ready_more n c.args.round c.loop-c.c _ _ ready _ _ lt
          (c.in_ok-push_segment.ensures.client n (turn n c.args.round c.loop-c.c _ _ ready _ lt) (c.in_ok-text.ensures.text n _ ready.drawn ∙ text_at_is n c.args.round c.loop-c.c))
          (c.in_ok-text.ensures.drawn n _ ready.drawn);
    }

pub returns-clause-ready : goal.returns-clause-ready
returns-clause-ready c n r = ready_round n c.args.round c.loop-c.c _ _ (c.loop-c.invariant.ready n r) (let e : c.loop-c.c ≡ 1000 = omega arith in e)
