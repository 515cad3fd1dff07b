use Rattle.std.proofs.Common.{ap, ◌∙◌}
use Rattle.live_chats.specs.Accounts.{pushed_in}
use Rattle.live_chats.proofs.LivedLemmas.{begins_itself}
use Rattle.live_chats.proofs.PlaceLemmas.{opened_so}
use Rattle.live_chats.proofs.line.Line+Places+Streams+Chats+H+W.open.Goals as goal

pub open_at-pass-requires-clause-vacant : goal.open_at-pass-requires-clause-vacant
open_at-pass-requires-clause-vacant g c = c.can_open-opens.ensures.yes c.if-not-opens.false

pub returns-clause-place : goal.returns-clause-place
returns-clause-place g c = let o = c.open_at-pass.ensures.opened in opened_so _ _ _ c.open_at-pass.ensures.elsewhere o.0 o.1 o.2 o.3

pub returns-clause-new : goal.returns-clause-new
returns-clause-new g c = let o = c.open_at-pass.ensures.opened in ap pushed_in o.3 ∙ o.4.none.0

pub returns-clause-grows : goal.returns-clause-grows
returns-clause-grows g c = c.open_at-pass.ensures.put.goes_on.grows

pub returns-in_default-clause-grows : goal.returns-in_default-clause-grows
returns-in_default-clause-grows g c = begins_itself _

pub returns-then-not-opens-clause-grows : goal.returns-then-not-opens-clause-grows
returns-then-not-opens-clause-grows g c = begins_itself _
