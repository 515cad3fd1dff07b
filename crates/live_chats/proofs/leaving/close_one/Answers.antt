use Rattle.std.proofs.Common.{◌∙◌, sym}
use Rattle.live_chats.proofs.leaving.close_one.Goals as goal

pub close-requires-clause-place : goal.close-requires-clause-place
close-requires-clause-place g c = c.requires.place (sym c.goes-leaves.ensures ∙ c.if-not-leaves.false)
