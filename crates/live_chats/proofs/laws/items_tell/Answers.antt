use Rattle.live_chats.proofs.HearLemmas.{items_tell}
use Rattle.live_chats.proofs.laws.items_tell.Goals as goal

pub returns : goal.returns
returns c = items_tell
