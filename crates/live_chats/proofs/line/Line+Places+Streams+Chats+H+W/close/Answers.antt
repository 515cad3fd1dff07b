use Rattle.std.proofs.Common.{sym, ap, ◌∙◌}
use Rattle.placed_parts.specs.Placing.{limits_of}
use Rattle.live_chats.specs.Accounts.{pushed_in}
use Rattle.live_chats.proofs.LivedLemmas.{out_ends}
use Rattle.live_chats.proofs.PlaceLemmas.{elsewhere_kept}
use Rattle.live_chats.proofs.line.Line+Places+Streams+Chats+H+W.close.Goals as goal

pub returns-clause-others : goal.returns-clause-others
returns-clause-others g c = elsewhere_kept _ _ _ c.close_at-pass.ensures.elsewhere

pub returns-clause-ended : goal.returns-clause-ended
returns-clause-ended g c =
    let closed = c.close_at-pass.ensures.closed in
    out_ends limits_of c.args.self.now.squeue.now c.args.pass c.close_at-pass.result c.args.c _ c.close_at-pass.ensures.out (closed.5 ∙ ap pushed_in (sym closed.2))
