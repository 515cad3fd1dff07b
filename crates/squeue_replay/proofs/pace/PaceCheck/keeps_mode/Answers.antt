use Rattle.std.proofs.Common.{◌∙◌, ap, inl, inr, length, sym}
use Rattle.squeue_replay.proofs.Paces.{fill_fits, one_fits, same_after_all}
use Rattle.squeue_replay.proofs.pace.PaceCheck.keeps_mode.Goals as goal
use Rattle.squeue_replay.proofs.pace.PaceCheck.keeps_mode.Goals.{else-feeds-ne1, then-feeds-ne1}

pub returns-then-met : goal.returns-then-met
returns-then-met c =
    rw (c.in-NoDrain.is, c.in-Fill-kind.is)
    (c.if-met.true ∙ sym (fill_fits c.args.mark.now.p c.args.mark.now.feeds.items c.args.met.taken c.args.met.queued c.args.by_feeds
    (elim c.if-feeds-ne1.branch [ then-feeds-ne1 w ↦ inl (λ one. w.if-feeds-ne1.true (ap length c.as_slice-feeds.ensures.value ∙ one)) | else-feeds-ne1 w ↦ inr (sym w.value-is ∙ c.if-met.true) ])))

pub returns-else-met : goal.returns-else-met
returns-else-met c =
    elim c.if-feeds-ne1.branch [
      | then-feeds-ne1 w ↦ same_after_all (length c.as_slice-feeds.result.now) 1 (sym w.value-is ∙ c.if-met.false) w.if-feeds-ne1.true
      | else-feeds-ne1 w ↦ rw (c.in-NoDrain.is, c.in-Fill-kind.is)
          (sym (one_fits c.args.mark.now.p c.args.mark.now.feeds.items c.args.met.taken c.args.met.queued c.args.by_feeds (sym (ap length c.as_slice-feeds.ensures.value) ∙ w.if-feeds-ne1.false) (sym w.value-is ∙ c.if-met.false)))
    ]
