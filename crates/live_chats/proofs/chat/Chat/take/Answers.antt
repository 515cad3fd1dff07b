use Rattle.std.proofs.Common.{refl, sym, ◌∙◌}
use Rattle.live_chats.proofs.HearLemmas.{heard_so, lost_so, passed_over}
use Rattle.live_chats.proofs.chat.Chat.take.Goals as goal

pub returns-then-not-takes : goal.returns-then-not-takes
returns-then-not-takes c = passed_over _ _ _ (sym c.takes-takes.ensures ∙ c.if-not-takes.true) refl

pub returns-in-Ok : goal.returns-in-Ok
returns-in-Ok c = heard_so _ _ _ _ _ _ _ _ _ c.self.view_is c.clear.ensures.items (sym c.takes-takes.ensures ∙ c.if-not-takes.false) c.in-Ok.ensures.hears

pub returns-in-Err : goal.returns-in-Err
returns-in-Err c = lost_so _ _ _ _ _ _ _ _ _ c.self.view_is c.clear.ensures.items (sym c.takes-takes.ensures ∙ c.if-not-takes.false) _ c.in-Err.ensures.begins c.in-Err.ensures.ends c.lose.ensures
