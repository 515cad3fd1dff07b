use Rattle.std.proofs.Common.{◌≤◌, sym, ap, subst, ◌∙◌, arith}
use Rattle.placed_parts.specs.Placing.{limits_of}
use Rattle.turn_gate.specs.Passes.{seen}
use Rattle.stream_stays.specs.Staying.{leaves_of}
use Rattle.live_chats.specs.Accounts.{leaves_in, pushed_in}
use Rattle.live_chats.proofs.LivedLemmas.{out_ends}
use Rattle.live_chats.proofs.PlaceLemmas.{chat_same, elsewhere_kept, kept_on}
use Rattle.live_chats.proofs.line.Line+Places+Streams+Chats+H+W.renew.Goals as goal

pub open_at-requires-clause-vacant : goal.open_at-requires-clause-vacant
open_at-requires-clause-vacant g c =
    let closed = c.close_at-pass.ensures.closed in
    let often : 2 ≤ leaves_of closed.0 = subst (λ o. 2 ≤ leaves_in o) closed.2 c.requires.leaves in
    (closed.1, closed.3, omega (arith, often, closed.4))

pub returns-clause-renewed : goal.returns-clause-renewed
returns-clause-renewed g c =
    let closed = c.close_at-pass.ensures.closed in
    record {
      mid = seen c.close_at-pass.result;
      ended = out_ends limits_of c.args.self.now.squeue.now c.args.pass c.close_at-pass.result c.args.c _ c.close_at-pass.ensures.out (closed.5 ∙ ap pushed_in (sym closed.2));
      goes_on = c.open_at.ensures.put.goes_on.grows;
    }

pub returns-clause-place : goal.returns-clause-place
returns-clause-place g c = let o = c.open_at.ensures.opened in (o.1, o.3)

pub returns-clause-chat : goal.returns-clause-chat
returns-clause-chat g c =
    chat_same c.close_at-pass.new.stays c.open_at.new.stays c.args.c c.open_at.ensures.sent
    ∙ chat_same c.args.stays.now c.close_at-pass.new.stays c.args.c c.close_at-pass.ensures.sent

pub returns-clause-none : goal.returns-clause-none
returns-clause-none g c = let o = c.open_at.ensures.opened in ap pushed_in o.3 ∙ o.4.none.0

pub returns-clause-others : goal.returns-clause-others
returns-clause-others g c =
    kept_on c.args.c c.args.stays.now c.close_at-pass.new.stays c.open_at.new.stays
    (elsewhere_kept c.args.c c.args.stays.now c.close_at-pass.new.stays c.close_at-pass.ensures.elsewhere)
    (elsewhere_kept c.args.c c.close_at-pass.new.stays c.open_at.new.stays c.open_at.ensures.elsewhere)
