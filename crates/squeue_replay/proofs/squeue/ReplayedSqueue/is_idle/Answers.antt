use Rattle.std.proofs.Common.{◌≡◌, Some, List, map, ap, sym, ◌∙◌, rules}
use Rattle.std.specs.Prelude.{slice_get}
use Rattle.squeue_replay.specs.declared.squeue.Pass.{Pass}
use Rattle.squeue_replay.proofs.Reading.{kept, pass_at}
use Rattle.squeue_replay.proofs.squeue.ReplayedSqueue.is_idle.Goals as goal

pub returns-then-ne : goal.returns-then-ne
returns-then-ne c =
    let s = c.args.self.now in
    let at : slice_get (map kept s.passes.items) c.args.p ≡ Some (kept c.in-Some.pass.now) =
    ap (λ (xs : List Pass). slice_get (map kept xs) c.args.p) (sym c.deref.ensures.value) ∙ pass_at c.deref.result.now c.args.p c.in-Some.pass.now c.in-Some.ensures.lookup.3.0 c.in-Some.ensures.lookup.1 in (
      (λ t. record {
        pass = kept c.in-Some.pass.now;
        was = at;
        open_pass = c.if-pass.false;
        waits_not = c.if-pass-2.false;
        no_owner = search rules;
        not_granted = search rules;
      }),
      λ i. let other = i.not_granted in search rules,
    )
