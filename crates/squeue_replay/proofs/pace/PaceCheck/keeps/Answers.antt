use Rattle.std.proofs.Common.{ℕ, ◌<◌, ◌≤◌, ◌^◌, ◌∙◌, Option, ap, arith, le-leb, sym, subst}
use Rattle.perimeter_core.specs.Kinds.{mark_by}
use Rattle.squeue_replay.specs.Pacing.{count_after}
use Rattle.squeue_replay.proofs.Paces.{goes_on_counted, others_keep, pass_by, rings_keep}
use Rattle.squeue_replay.proofs.pace.PaceCheck.keeps.Goals as goal

pub returns-then-mark-setup-clause-keeps : goal.returns-then-mark-setup-clause-keeps
returns-then-mark-setup-clause-keeps c =
    λ S past e is may has stands.
    let p = c.args.mark.now.p in
    let m = mark_by p c.args.mark.now.kind c.args.mark.now.feeds.items in
    let by = pass_by p c.args.mark.now.kind c.args.mark.now.feeds.items in
    let counted = c.count_after-self.ensures p c.args.mark.now.feeds.items ∙ ap (λ (o : Option ℕ). count_after m o) c.with-now.ensures in (
      goes_on_counted c.args.self.now.setup c.args.self.now.squeue S past e m is c.args.met c.args.self.now.processed stands may has c.count_after-self.result counted,
      others_keep c.args.self.now.setup c.args.self.now.squeue S past e m is c.args.met c.args.self.now.processed stands may has _ (le-leb c.args.self.now.setup.rings p c.if-mark-setup.true)
          (subst (λ (x : ℕ). c.args.self.now.setup.rings ≤ x) (sym by) c.if-mark-setup.true),
    )

pub returns-else-mark-setup-clause-keeps : goal.returns-else-mark-setup-clause-keeps
returns-else-mark-setup-clause-keeps c =
    λ S past e is may has stands.
    let small : c.args.self.now.setup.budget < 2 ^ 32 = omega arith in
    let p = c.args.mark.now.p in
    let m = mark_by p c.args.mark.now.kind c.args.mark.now.feeds.items in
    let by = pass_by p c.args.mark.now.kind c.args.mark.now.feeds.items in
    let counted = c.count_after-self.ensures p c.args.mark.now.feeds.items ∙ ap (λ (o : Option ℕ). count_after m o) c.with-now.ensures in (
      goes_on_counted c.args.self.now.setup c.args.self.now.squeue S past e m is c.args.met c.args.self.now.processed stands may has c.count_after-self.result counted,
      rings_keep c.args.self.now.setup c.args.self.now.squeue S past e m is c.args.met c.args.self.now.processed stands may has c.fits.result c.with-now.result c.with-now.ensures small
          (subst (λ (x : ℕ). x < c.args.self.now.setup.rings) (sym by) c.if-mark-setup.false) c.fits.ensures,
    )
